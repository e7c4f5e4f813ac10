-- The audit block by block: what a look at every block in turn says of the set. For every rank at once. Assumes nothing.
use Rattle.std.specs.Prelude.{None, Ok, ◌≡◌, refl, Bool, ◌||◌, ◌⊎◌, ℕ, zero, suc, ◌+◌, ◌*◌, ◌-◌, ◌/◌, ◌%◌, ◌≤◌, ◌<◌, Float}
use Rattle.std.proofs.Math.Path.{sym, ap, ap₂, subst}
use Rattle.std.proofs.Common.{◌∙◌, inl, inr, div-add-mod', mod-lt, div-lt_iff_lt-mul, arith}
use Rattle.std.proofs.Math.Bool.{false}
use mathlib.Core.List.{List, []}
use Rattle.std.proofs.Math.Nat.{mul-le-mul_right}
use Rattle.std.proofs.Math.ListN.{length, get_or, length-map}
use Rattle.std.specs.Float.{nan}
use Rattle.lists.specs.Tests.{some}
use Rattle.lists.specs.Elements.{straight, get_d_map}
use Rattle.lists.specs.Cases.{lt_or_le}
use Rattle.lists.specs.Tab.{tab, length-tab, get_or-tab}
use Rattle.lists.specs.Digits.{times_power, in_row, quotient, remainder}
use Rattle.tables.specs.Shifts.{Shifts, Laws}
use Rattle.places.specs.Places.{size, in_block}
use Rattle.places.specs.Permutations.{Permutation, Group}
use Rattle.blocks.specs.Block.{fits}
use Rattle.blocks.specs.Permuted.{permuted}
use Rattle.orbits.specs.Transposed.{counterpart, counterpart-below, permuted_is_below, in_block_pos, size_blocks}
use Rattle.orbits.specs.Groups.{group_blocks}
use Rattle.orbits.proofs.Scatter.{permuted-straight}
use Rattle.audits.specs.declared.Difference.{Difference}
use Rattle.audits.specs.Audit.{differ, reads, reads_another, unlike, audited}
use Rattle.audits.specs.Demand.{index_in, none_alike}
use Rattle.audits.specs.PlaceLaws.{reads-block, own_block}
use Rattle.audits.specs.Kernel.{there, another, position_to, BlocksFit}

-- the permutations of m + 1 legs, the first of which changes nothing, and their table of positions
pub record Orders (m : ℕ) (os : List (List ℕ)) (t : List ℕ) : Type 0 where
  pub group : Group m os
  pub first : get_or os 0 [] ≡ straight (suc m)
  pub few : length os ≤ 24
  pub more : 0 < length os
  pub width : in_block m ≤ 81
  pub count : length t ≡ length os * in_block m
  pub entry : (i k : ℕ) → i < length os → k < in_block m → get_or t (i * in_block m + k) 0 ≡ permuted m (get_or os i []) k

abbrev pub made : ℕ → Float → ℕ → Float → Difference
made q x o y = record { place = q; order = o; here = x; there = y }

-- the table that has them
unfoldable pub position_table : ℕ → List (List ℕ) → List ℕ
position_table m os = tab (length os * in_block m) (λ r. permuted m (get_or os (r / in_block m) []) (r % in_block m))

pub table-count : (m : ℕ) (os : List (List ℕ)) {t : List ℕ} → t ≡ position_table m os → length t ≡ length os * in_block m
unfolding position_table
table-count m os e = ap length e ∙ length-tab (length os * in_block m) _

pub table-entry : (m : ℕ) (os : List (List ℕ)) {t : List ℕ} → t ≡ position_table m os
    → (i k : ℕ) → i < length os → k < in_block m → get_or t (i * in_block m + k) 0 ≡ permuted m (get_or os i []) k
unfolding position_table
table-entry m os e i k hi hk =
    ap (λ t. get_or t (i * in_block m + k) 0) e
    ∙ get_or-tab (length os * in_block m) (λ r. permuted m (get_or os (r / in_block m) []) (r % in_block m)) (i * in_block m + k) 0 (in_row (length os) (in_block m) i k hi hk)
    ∙ ap₂ (λ i k. permuted m (get_or os i []) k) (quotient (in_block m) i k hk) (remainder (in_block m) i k hk)

-- all places before block b are alike
abbrev pub AlikeTo : Shifts → ℕ → List (List ℕ) → List Float → ℕ → Type 0
AlikeTo S m os set b = (q : ℕ) → q < b * in_block m → unlike S m os set q ≡ false

pub alike-none : (S : Shifts) (m : ℕ) (os : List (List ℕ)) (set : List Float) → AlikeTo S m os set 0
alike-none S m os set q h = absurd (omega arith)

-- a place before the end of block b is one of it, or one before it
pub place-split : (c b q : ℕ) → q < (b + 1) * c → (q < b * c) ⊎ ((k : ℕ) × (k < c) × (q ≡ b * c + k))
place-split c b q h = go (lt_or_le q (b * c))
  where
    go : (q < b * c) ⊎ (b * c ≤ q) → (q < b * c) ⊎ ((k : ℕ) × (k < c) × (q ≡ b * c + k))
    go (inl l) = inl l
    go (inr l) = inr (q - b * c, omega arith, omega arith)

-- one block more
pub alike-more : (S : Shifts) (m : ℕ) (os : List (List ℕ)) (set : List Float) (b : ℕ) → ((k : ℕ) → k < in_block m → unlike S m os set (b * in_block m + k) ≡ false)
    → AlikeTo S m os set b → AlikeTo S m os set (b + 1)
alike-more S m os set b f A q l = by (place-split (in_block m) b q l)
  where
    by : (q < b * in_block m) ⊎ ((k : ℕ) × (k < in_block m) × (q ≡ b * in_block m + k)) → unlike S m os set q ≡ false
    by (inl g) = A q g
    by (inr (k, hk, g)) = ap (unlike S m os set) g ∙ f k hk

pub some_same : (n : ℕ) (f g : ℕ → Bool) → ((i : ℕ) → i < n → f i ≡ g i) → some n f ≡ some n g
unfolding some
some_same zero f g h = refl
some_same (suc n) f g h = ap₂ (λ x y. x || y) (some_same n f g (λ i l. h i (omega arith))) (h n (omega arith))

module _ (S : Shifts) (L : Laws S) (m : ℕ) (os : List (List ℕ)) (t : List ℕ) (O : Orders m os t) (set : List Float) (ls : length set ≡ size S m) where
  abbrev c : ℕ
  c = in_block m

  abbrev B : ℕ
  B = times_power S.n_satom m S.n_patom

  each : (i : ℕ) → i < length os → Permutation m (get_or os i [])
  each i h = O.group.each (get_or os i []) (index_in [] os i h)

  module _ (b : ℕ) (hb : b < B) (bs : List ℕ) (eb : bs ≡ group_blocks S m os b) where
    pub count-bs : length bs ≡ length os
    count-bs = ap length eb ∙ (unfold group_blocks in length-map os (λ σ. counterpart S m σ b))

    pub at-bs : (i : ℕ) → i < length os → get_or bs i 0 ≡ counterpart S m (get_or os i []) b
    at-bs i h = ap (λ l. get_or l i 0) eb ∙ (unfold group_blocks in get_d_map (λ σ. counterpart S m σ b) os i [] 0 h)

    pub there_is : (i k : ℕ) → i < length os → k < c → there c bs t set i k ≡ reads S m os set (b * c + k) (get_or os i [])
    unfolding there
    there_is i k hi hk =
        ap₂ (λ a p. get_or set (a * c + p) nan) (at-bs i hi) (O.entry i k hi hk) ∙ sym (reads-block S L m os O.group set b k hb hk (get_or os i []) (each i hi))

    pub another_is : (i k : ℕ) → i < length os → k < c → another c bs t set b k i ≡ reads_another S m os set (b * c + k) i
    unfolding another reads_another
    another_is i k hi hk = ap (differ (get_or set (b * c + k) nan)) (there_is i k hi hk)

    pub unlike_is : (k : ℕ) → k < c → position_to c bs t set b (length bs) k ≡ unlike S m os set (b * c + k)
    unfolding unlike
    unlike_is k hk =
        ap (λ n. some n (another c bs t set b k)) count-bs
        ∙ some_same (length os) (another c bs t set b k) (reads_another S m os set (b * c + k)) (λ i hi. another_is i k hi hk)

    pub fits_group : BlocksFit (length set) c b bs t
    fits_group = record {
      width = O.width;
      few = rw count-bs O.few;
      more = rw count-bs O.more;
      table = O.count ∙ ap (λ n. n * c) (sym count-bs);
      entries = λ r h. in_row_of r (rw O.count at h);
      blocks = λ i h. let hi : i < length os = subst (λ (n : ℕ). i < n) count-bs h in inside (get_or bs i 0) (rw (at-bs i hi) (counterpart-below S L m (get_or os i []) (each i hi) b hb));
      own = inside b hb;
      first_block_lem = at-bs 0 O.more ∙ ap (λ σ. counterpart S m σ b) O.first ∙ own_block S L m os O.group set b hb;
      first-row = λ k h.
          let e : 0 * c + k ≡ k = omega arith in
          ap (λ r. get_or t r 0) (sym e) ∙ O.entry 0 k O.more h ∙ ap (λ σ. permuted m σ k) O.first ∙ permuted-straight m k h;
    }
      where
        inside : (a : ℕ) → a < B → a * c + c ≤ length set
        inside a h = rw (ls, size_blocks S m) (fits c a B h)

        in_row_of : (r : ℕ) → r < length os * c → get_or t r 0 < c
        in_row_of r h =
            let k = mod-lt r (in_block_pos m) in
            let i : r / c < length os = (div-lt_iff_lt-mul (in_block_pos m)).1 h in
            let e : get_or t r 0 ≡ permuted m (get_or os (r / c) []) (r % c) = ap (λ r. get_or t r 0) (sym (div-add-mod' r c)) ∙ O.entry (r / c) (r % c) i k in
            rw e (permuted_is_below m (get_or os (r / c) []) (r % c) (each (r / c) i) k)

  -- nothing was found in any block
  pub all-passed : (b : ℕ) → B ≤ b → AlikeTo S m os set b → Ok None ≡ audited S m os set
  all-passed b h A =
      sym (none_alike S m os set (λ q l.
      let w = mul-le-mul_right c h in
      let l' : q < B * c = rw (size_blocks S m) at l in
      A q (omega arith)))

-- ---- the same, with the width of a block as the program has it

module _ (S : Shifts) (L : Laws S) (m : ℕ) (os : List (List ℕ)) (t : List ℕ) (O : Orders m os t) (set : List Float) (ls : length set ≡ size S m) (w : ℕ) (ew : in_block m ≡ w)
    (b : ℕ) (hb : b < times_power S.n_satom m S.n_patom) (bs : List ℕ) (eb : bs ≡ group_blocks S m os b) where
  pub fits_w : BlocksFit (length set) w b bs t
  fits_w = subst (λ (c : ℕ). BlocksFit (length set) c b bs t) ew (fits_group S L m os t O set ls b hb bs eb)
