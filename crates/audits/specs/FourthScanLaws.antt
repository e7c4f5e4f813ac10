-- The 24 blocks of a group from the atoms of one of them, and the table of positions. Assumes nothing.
use Rattle.std.specs.Prelude.{◌≡◌, refl, List, [], ℕ, ◌+◌, ◌*◌, ◌≤◌, ◌<◌, length, get_or}
use Rattle.std.proofs.Common.{sym, ap, ap₂, ◌∙◌, arith}
use Rattle.std.proofs.Math.Nat.{mul-le-mul}
use Rattle.lists.specs.Tab.{tab, tab_from}
use Rattle.lists.specs.Elements.{straight}
use Rattle.lists.specs.Digits.{times_power, room_pos}
use Rattle.tables.specs.Limits.{limit4}
use Rattle.tables.specs.Compact.{ShiftTables, TablesFit}
use Rattle.places.specs.Places.{in_block}
use Rattle.places.specs.Permutations.{perms4, twenty_four_group}
use Rattle.positions.specs.Positions.{permutation_at, address_table, at_entry}
use Rattle.lists.specs.Tab.{length-tab}
use Rattle.audits.specs.Blocks.{Orders}

pub in81 : in_block 3 ≡ 81
unfolding in_block times_power
in81 = refl

count : length perms4 ≡ 24
unfolding perms4
count = refl

first : get_or perms4 0 [] ≡ straight 4
unfolding perms4 straight tab tab_from
first = refl

pub orders : {t : List ℕ} → t ≡ address_table → Orders 3 perms4 t
orders {t} e = record {
  group = twenty_four_group;
  first = first;
  few = rw count (omega arith);
  more = rw count (omega arith);
  width = rw in81 (omega arith);
  count = ap length e ∙ long ∙ sym (ap₂ ◌*◌ count in81);
  entry = λ i k hi hk.
      ap (λ c. get_or t (i * c + k) 0) in81 ∙ at_entry t e i k (rw count at hi) (rw in81 at hk) ∙ (unfold permutation_at in refl);
}
  where
    long : length address_table ≡ 24 * 81
    long = unfold address_table in length-tab 1944 _

-- ---- how many blocks there are

module _ (T : ShiftTables) {c : ℕ} where
  pub blocks-few : TablesFit limit4 T → c ≡ times_power T.n_satom 3 T.n_patom → c < 4611686018427387904
  unfolding times_power
  blocks-few F e =
      let a : T.n_patom * T.n_satom ≤ 4096 = mul-le-mul F.patoms F.satoms in
      let b : T.n_patom * T.n_satom * T.n_satom ≤ 262144 = mul-le-mul a F.satoms in
      let d : T.n_patom * T.n_satom * T.n_satom * T.n_satom ≤ 16777216 = mul-le-mul b F.satoms in
      rw e (omega arith)

  -- where there is one, there are atoms
  pub blocks-some : c ≡ times_power T.n_satom 3 T.n_patom → 0 < c → 0 < T.n_satom
  blocks-some e h = room_pos T.n_satom 2 T.n_patom 0 (rw e at h)
