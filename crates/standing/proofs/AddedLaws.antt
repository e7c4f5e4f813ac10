-- Retirements appended one after the other: they are read after the former records, and the bytes after them stay. Assumes nothing.
use Rattle.std.specs.Prelude.{◌≡◌, true, List, [], ◌∷◌, ◌++◌, map, ℕ, suc, ◌+◌, ◌*◌, ◌≤◌, ◌<◌, length, take, drop, Ok}
use Rattle.std.proofs.Math.Path.{refl}
use Rattle.std.proofs.Common.{sym, ap, ◌∙◌, subst, append_assoc, append-nil, arith, length-append, length-drop, drop-drop, le-leb}
use Rattle.lists.specs.Elements.{All}
use Rattle.roll.specs.Format.{Entry, record_ruled, keeps_rules}
use Rattle.roll.specs.Reading.{count_of, entries_of, holds_roll}
use Rattle.roll.specs.NumberLaws.{Bytes, bytes-none}
use Rattle.roll.specs.HoldingLaws.{is_there}
use Rattle.roll.specs.AppendCalls.{judged_append, appended}
use Rattle.roll.specs.AppendingLaws.{entries-count, answer-done}
use Rattle.roll.specs.AppendLaws.{Grown}
use Rattle.roll.proofs.AppendLaws.{grown}
use Rattle.roll.proofs.Desks.{Desk, one_more as desk-more}
use Rattle.standing.specs.RetireAll.{retirement, add_all}

-- ---- one retirement more

-- a roll in the first bytes of a slice, with room for k retirements
pub record Roomy (s : List ℕ) (count k : ℕ) : Type 0 where
  pub bytes : Bytes s
  pub holds : holds_roll s count ≡ true
  pub few : count_of (take count s) + k ≤ 1000
  pub small : count + 14 * k ≤ 65536
  pub within : count + 14 * k ≤ length s

-- set numbers start at 1 and have 4 bytes
abbrev pub Named : ℕ → Type 0
Named y = (1 ≤ y) × (y < 4294967296)

module _ (s : List ℕ) (count k y : ℕ) (Y : Named y) (P : Roomy s count (suc k)) where
  abbrev e : Entry
  e = retirement y

  abbrev s₁ : List ℕ
  s₁ = (appended s count e).1

  rules : keeps_rules e ≡ true
  unfolding record_ruled
  rules = rw (le-leb 1 y Y.0) refl

  done : judged_append s count e ≡ Ok (count + 14)
  done = sym (answer-done s count e P.holds P.bytes (omega (arith, P.few)) (omega (arith, P.small)) (omega (arith, P.within)) rules)

  pub one_more : Grown s count e (count + 14)
  one_more = grown s count e P.bytes (Y.1, omega arith) (count + 14) done

  long_same : length s₁ ≡ length s
  long_same = omega (arith, is_there s₁ (count + 14) one_more.holds, ap length one_more.rest, length-drop (count + 14) s₁, length-drop (count + 14) s, P.within)

  -- a desk that appends to its roll still has bytes
  new-bytes : Bytes s₁
  new-bytes =
      let D : Desk s count (entries_of (take count s)) = record { bytes = P.bytes; holds = P.holds; reads = refl } in
      (desk-more s count (entries_of (take count s)) D e ((Y.1, omega arith), bytes-none) (count + 14) done).bytes

  count-more : count_of (take (count + 14) s₁) ≡ count_of (take count s) + 1
  count-more =
      sym (entries-count s₁ (count + 14) e one_more.holds new-bytes) ∙ ap length one_more.reads ∙ length-append (entries_of (take count s)) (e ∷ [])
      ∙ ap (λ n. n + 1) (entries-count s count e P.holds P.bytes)

  pub still-roomy : Roomy s₁ (count + 14) k
  still-roomy =
      record {
        bytes = new-bytes;
        holds = one_more.holds;
        few = omega (arith, count-more, P.few);
        small = omega (arith, P.small);
        within = omega (arith, long_same, P.within);
      }

-- ---- all of them

pub record Added (s : List ℕ) (count : ℕ) (ys : List ℕ) (m : ℕ) : Type 0 where
  pub holds : holds_roll (add_all s count ys) m ≡ true
  pub reads : entries_of (take m (add_all s count ys)) ≡ entries_of (take count s) ++ map retirement ys
  pub rest : drop m (add_all s count ys) ≡ drop m s
  pub bytes : Bytes (add_all s count ys)

drop-further : (m k : ℕ) (a b : List ℕ) → drop m a ≡ drop m b → drop (m + k) a ≡ drop (m + k) b
drop-further m k a b q = sym (drop-drop k m a) ∙ ap (drop k) q ∙ drop-drop k m b

pub added : (ys : List ℕ) (s : List ℕ) (count m : ℕ) → m ≡ count + 14 * length ys → All Named ys → Roomy s count (length ys) → Added s count ys m
unfolding add_all
added [] s count m q Y P =
    let e : count ≡ m = omega (arith, q) in
    record {
      holds = subst (λ k. holds_roll s k ≡ true) e P.holds;
      reads = ap (λ k. entries_of (take k s)) (sym e) ∙ sym (append-nil (entries_of (take count s)));
      rest = refl;
      bytes = P.bytes;
    }
added (y ∷ ys) s count m q Y P =
    let k = length ys in
    let s₁ = (appended s count (retirement y)).1 in
    let G = one_more s count k y Y.0 P in
    let A = added ys s₁ (count + 14) m (omega (arith, q)) Y.1 (still-roomy s count k y Y.0 P) in
    let f : m ≡ count + 14 + 14 * k = omega (arith, q) in
    record {
      holds = A.holds;
      reads = A.reads ∙ ap (λ (l : List Entry). l ++ map retirement ys) G.reads ∙ append_assoc (entries_of (take count s)) (retirement y ∷ []) (map retirement ys);
      rest = A.rest ∙ subst (λ n. drop n s₁ ≡ drop n s) (sym f) (drop-further (count + 14) (14 * k) s₁ s G.rest);
      bytes = A.bytes;
    }
