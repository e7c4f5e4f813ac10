-- The first number that passes a test; what is known of the numbers that were looked at gives the report. Assumes nothing.
use Rattle.std.specs.Prelude.{Err, Ok, ◌≡◌, refl, Bool, ◌&&◌, ◌||◌, ◌⊎◌, Float}
use Rattle.std.proofs.Math.Path.{sym, ap, ap₂}
use Rattle.std.proofs.Common.{◌∙◌, subst, inr, not-suc-le-zero, arith}
use Rattle.std.proofs.Math.Bool.{true, false, cond}
use Rattle.std.proofs.lemmas.Bool.{false≢true}
use Rattle.std.proofs.Math.Logic.{inl, ⊎_elim}
use Prim.Native.Nat.{ℕ, zero, suc, ◌+◌, ◌*◌, ◌<◌}
use Rattle.std.specs.Float.Ieee.{lt, eq, ne, is_nan, of_bits}
use Rattle.lists.specs.Tab.{times, times-same, times_nest}
use Rattle.lists.specs.Tests.{every, some, split, refuted, some_at, some_of, not-both, or-none, and_false}
use Rattle.lists.specs.Cases.{eq_or_ne}
use Rattle.tables.specs.Conditions.{or_false}
use Rattle.lists.specs.Floats.{plus_zero}
use Rattle.reports.specs.declared.Deviation.{Deviation}
use Rattle.reports.specs.declared.Deviation.TheVariants.{Still, Worst, NoNumber}
use Rattle.tables.specs.Answers.{Answer}
use Rattle.tables.specs.declared.Refusal.{Refusal}
use Rattle.reports.specs.declared.Report.{Report}
use Rattle.reports.specs.declared.seen.Seen.{Seen}
use Rattle.reports.specs.Report.{absolute, is_zero, first_of, worst_of, deviation_in, placed_by, report_at, report, reported_after}
use Rattle.reports.specs.Loops.{look, look_at, nothing_seen, concluded_by, concluded}
use Rattle.reports.specs.Floats.{differs, below_nan, AtMost, within-absolute, not_negative, plus-absolute, zero-absolute, above_plus, not_above_zero, above_above, above_equal, below-itself, equals_itself, nan_equals, equals_zero}

-- ---- the first that passes: it does, and none before it

pub first_passes : (n : ℕ) (f : ℕ → Bool) → some n f ≡ true → (first_of n f < n) × (f (first_of n f) ≡ true)
unfolding first_of some
first_passes zero f h = absurd (false≢true h)
first_passes (suc n) f h =
    ⊎_elim
    (λ (g : some n f ≡ true).
    let e : cond (some n f) (first_of n f) n ≡ first_of n f = ap (λ b. cond b (first_of n f) n) g in
    let (l, p) = first_passes n f g in
    subst (λ k. (k < suc n) × (f k ≡ true)) (sym e) (omega arith, p))
    (λ (g : some n f ≡ false).
    let e : cond (some n f) (first_of n f) n ≡ n = ap (λ b. cond b (first_of n f) n) g in
    subst (λ k. (k < suc n) × (f k ≡ true)) (sym e) (omega arith, sym (ap (λ b. b || f n) g) ∙ h))
    (split (some n f))

pub first-least : (n : ℕ) (f : ℕ → Bool) → some n f ≡ true → (k : ℕ) → k < first_of n f → f k ≡ false
unfolding first_of some
first-least zero f h k l = absurd (false≢true h)
first-least (suc n) f h k l =
    ⊎_elim
    (λ (g : some n f ≡ true).
    let e : cond (some n f) (first_of n f) n ≡ first_of n f = ap (λ b. cond b (first_of n f) n) g in
    first-least n f g k (subst (λ m. k < m) e l))
    (λ (g : some n f ≡ false).
    let e : cond (some n f) (first_of n f) n ≡ n = ap (λ b. cond b (first_of n f) n) g in
    refuted (f k) (λ t. not-both (some_of n f k (subst (λ m. k < m) e l) t) g))
    (split (some n f))

-- one number more that is not looked at, or that is the first to pass
pub first-kept : (n : ℕ) (f : ℕ → Bool) → some n f ≡ true → (some (suc n) f ≡ true) × (first_of n f ≡ first_of (suc n) f)
unfolding some first_of
first-kept n f h = (ap (λ b. b || f n) h, sym (ap (λ b. cond b (first_of n f) n) h))

pub first_found : (n : ℕ) (f : ℕ → Bool) → some n f ≡ false → f n ≡ true → (some (suc n) f ≡ true) × (n ≡ first_of (suc n) f)
unfolding some first_of
first_found n f h g = (ap (λ b. b || f n) h ∙ g, sym (ap (λ b. cond b (first_of n f) n) h))

-- ---- what is known of the numbers that were looked at

-- number k has the absolute value w
abbrev pub hits : (ℕ → Float) → Float → ℕ → Bool
hits S w k = eq (absolute (S k)) w

pub record State (S : ℕ → Float) (r : ℕ) (c : Seen) : Type 0 where
  pub none_is : c.none ≡ some r (λ k. is_nan (S k))
  pub first_is : some r (λ k. is_nan (S k)) ≡ true → c.first ≡ first_of r (λ k. is_nan (S k))
  pub worst_is : c.worst ≡ worst_of r S
  pub sign : not_negative c.worst ≡ true
  pub none_above : (k : ℕ) → k < r → lt c.worst (absolute (S k)) ≡ false
  pub at_is : (c.worst ≡ plus_zero) ⊎ ((some r (hits S c.worst) ≡ true) × (c.at ≡ first_of r (hits S c.worst)))

zero-plus : not_negative plus_zero ≡ true
unfolding not_negative of_bits
zero-plus = refl

module _ (S : ℕ → Float) where
  abbrev is_none : ℕ → Bool
  is_none k = is_nan (S k)

  begins : State S 0 nothing_seen
  unfolding some worst_of times
  begins =
      record {
        none_is = refl;
        first_is = λ h. absurd (false≢true h);
        worst_is = refl;
        sign = zero-plus;
        none_above = λ k h. absurd (not-suc-le-zero h);
        at_is = inl refl;
      }

  module _ (r : ℕ) (c : Seen) (s : State S r c) where
    abbrev x : Float
    x = S r

    -- the state that names r as the first NaN, and the one that names it as the worst
    abbrev named : Seen
    named = record { none = true; first = r; worst = c.worst; at = c.at }

    abbrev raised : Seen
    raised = record { none = c.none; first = c.first; worst = absolute x; at = r }

    -- the worst stays where the next number is not above it
    keeps-at : (c.worst ≡ plus_zero) ⊎ ((some (suc r) (hits S c.worst) ≡ true) × (c.at ≡ first_of (suc r) (hits S c.worst)))
    keeps-at =
        ⊎_elim (λ h. inl h)
        (λ (h : (some r (hits S c.worst) ≡ true) × (c.at ≡ first_of r (hits S c.worst))).
        let (t, e) = first-kept r (hits S c.worst) h.0 in
        inr (t, h.1 ∙ e))
        s.at_is

    keeps_above : lt c.worst (absolute x) ≡ false → (k : ℕ) → k < suc r → lt c.worst (absolute (S k)) ≡ false
    keeps_above h k l = ⊎_elim (λ (e : k ≡ r). ap (λ i. lt c.worst (absolute (S i))) e ∙ h) (λ (n : k ≡ r → ⊥). s.none_above k (omega arith)) (eq_or_ne k r)

    kept_worst : lt c.worst (absolute x) ≡ false → c.worst ≡ worst_of (suc r) S
    unfolding worst_of times
    kept_worst h = s.worst_is ∙ sym (ap (λ b. cond b (absolute x) (worst_of r S)) (ap (λ w. lt w (absolute x)) (sym s.worst_is) ∙ h))

    -- the next number is NaN, and not the first one; it is the first one; it is the worst; it is neither
    step-again : is_none r ≡ true → c.none ≡ true → State S (suc r) c
    unfolding some first_of
    step-again h g =
        let e : some r is_none ≡ true = sym s.none_is ∙ g in
        let b = below_nan c.worst x h in
        record {
          none_is = g ∙ sym (ap (λ b. b || is_none r) e);
          first_is = λ _. s.first_is e ∙ sym (ap (λ b. cond b (first_of r is_none) r) e);
          worst_is = kept_worst b;
          sign = s.sign;
          none_above = keeps_above b;
          at_is = keeps-at;
        }

    step-named : is_none r ≡ true → c.none ≡ false → State S (suc r) named
    unfolding some first_of
    step-named h g =
        let e : some r is_none ≡ false = sym s.none_is ∙ g in
        let b = below_nan c.worst x h in
        record {
          none_is = sym (ap (λ b. b || is_none r) e ∙ h);
          first_is = λ _. sym (ap (λ b. cond b (first_of r is_none) r) e);
          worst_is = kept_worst b;
          sign = s.sign;
          none_above = keeps_above b;
          at_is = keeps-at;
        }

    none_more : is_none r ≡ false → some (suc r) is_none ≡ some r is_none
    unfolding some
    none_more h = ap (λ b. some r is_none || b) h ∙ or-none (some r is_none)

    first_more : is_none r ≡ false → some (suc r) is_none ≡ true → c.first ≡ first_of (suc r) is_none
    unfolding first_of
    first_more h t =
        let e : some r is_none ≡ true = sym (none_more h) ∙ t in
        s.first_is e ∙ sym (ap (λ b. cond b (first_of r is_none) r) e)

    raised_worst : lt c.worst (absolute x) ≡ true → absolute x ≡ worst_of (suc r) S
    unfolding worst_of times
    raised_worst g = sym (ap (λ b. cond b (absolute x) (worst_of r S)) (ap (λ w. lt w (absolute x)) (sym s.worst_is) ∙ g))

    module _ (h : is_none r ≡ false) (g : lt c.worst (absolute x) ≡ true) where
      -- no earlier number is above the new worst, and none equals it
      not-over : (k : ℕ) → k < r → lt (absolute x) (absolute (S k)) ≡ false
      not-over k l =
          ⊎_elim (λ (n : is_none k ≡ true). below_nan (absolute x) (S k) n)
          (λ (n : is_none k ≡ false). refuted (lt (absolute x) (absolute (S k)))
          (λ t. not-both (above_above c.worst (absolute x) (absolute (S k)) s.sign (plus-absolute x h) (plus-absolute (S k) n) g t) (s.none_above k l)))
          (split (is_none k))

      not_equal : (k : ℕ) → k < r → hits S (absolute x) k ≡ true → ⊥
      not_equal k l t =
          ⊎_elim (λ (n : is_none k ≡ true). not-both t (nan_equals (S k) (absolute x) n))
          (λ (n : is_none k ≡ false).
          not-both (above_equal c.worst (absolute x) (absolute (S k)) s.sign (plus-absolute x h) (plus-absolute (S k) n) g t) (s.none_above k l))
          (split (is_none k))

      none_equal : some r (hits S (absolute x)) ≡ false
      none_equal = refuted (some r (hits S (absolute x))) (λ t. let (k, l, q) = some_at r (hits S (absolute x)) t in not_equal k l q)

      itself-not : lt (absolute x) (absolute x) ≡ false
      itself-not = refuted (lt (absolute x) (absolute x)) (λ t. below-itself (absolute x) t)

      step-raised : State S (suc r) raised
      step-raised =
          record {
            none_is = s.none_is ∙ sym (none_more h);
            first_is = first_more h;
            worst_is = raised_worst g;
            sign = plus-absolute x h;
            none_above = λ k l. ⊎_elim (λ (e : k ≡ r). ap (λ i. lt (absolute x) (absolute (S i))) e ∙ itself-not) (λ (n : k ≡ r → ⊥). not-over k (omega arith)) (eq_or_ne k r);
            at_is = inr (first_found r (hits S (absolute x)) none_equal (equals_itself x h));
          }

    step_kept : is_none r ≡ false → lt c.worst (absolute x) ≡ false → State S (suc r) c
    step_kept h g =
        record {
          none_is = s.none_is ∙ sym (none_more h);
          first_is = first_more h;
          worst_is = kept_worst g;
          sign = s.sign;
          none_above = keeps_above g;
          at_is = keeps-at;
        }

    step : State S (suc r) (look r x c)
    step =
        ⊎_elim
        (λ (h : is_none r ≡ true).
        let e : look r x c ≡ cond c.none c named = ap (λ b. cond b (cond c.none c named) (cond (lt c.worst (absolute x)) raised c)) (differs x ∙ h) in
        ⊎_elim
        (λ (g : c.none ≡ true). subst (State S (suc r)) (sym (e ∙ ap (λ b. cond b c named) g)) (step-again h g))
        (λ (g : c.none ≡ false). subst (State S (suc r)) (sym (e ∙ ap (λ b. cond b c named) g)) (step-named h g))
        (split c.none))
        (λ (h : is_none r ≡ false).
        let e : look r x c ≡ cond (lt c.worst (absolute x)) raised c = ap (λ b. cond b (cond c.none c named) (cond (lt c.worst (absolute x)) raised c)) (differs x ∙ h) in
        ⊎_elim
        (λ (g : lt c.worst (absolute x) ≡ true). subst (State S (suc r)) (sym (e ∙ ap (λ b. cond b raised c) g)) (step-raised h g))
        (λ (g : lt c.worst (absolute x) ≡ false). subst (State S (suc r)) (sym (e ∙ ap (λ b. cond b raised c) g)) (step_kept h g))
        (split (lt c.worst (absolute x))))
        (split (is_none r))

  pub all_seen_lem : (r : ℕ) → State S r (times r (λ k. look k (S k)) nothing_seen)
  unfolding times
  all_seen_lem zero = begins
  all_seen_lem (suc r) = step r (times r (λ k. look k (S k)) nothing_seen) (all_seen_lem r)

-- ---- where no number is NaN, the worst is zero exactly if all are

record Clean (S : ℕ → Float) (r : ℕ) : Type 0 where
  pub sign : not_negative (worst_of r S) ≡ true
  pub all-zero : is_zero (worst_of r S) ≡ every r (λ k. is_zero (S k))

sign_zero : (S : ℕ → Float) → not_negative (worst_of 0 S) ≡ true
unfolding worst_of times not_negative of_bits
sign_zero S = refl

all_none : (S : ℕ → Float) → is_zero (worst_of 0 S) ≡ every 0 (λ k. is_zero (S k))
unfolding worst_of times is_zero every of_bits
all_none S = refl

none_of_lem : (S : ℕ → Float) (r : ℕ) → some (suc r) (λ k. is_nan (S k)) ≡ false → (some r (λ k. is_nan (S k)) ≡ false) × (is_nan (S r) ≡ false)
unfolding some
none_of_lem S r h = or_false (some r (λ k. is_nan (S k))) (is_nan (S r)) h

module _ (S : ℕ → Float) where
  module _ (r : ℕ) (h : is_nan (S r) ≡ false) (c : Clean S r) where
    abbrev w : Float
    w = worst_of r S

    abbrev a : Float
    a = absolute (S r)

    clean-raised : lt w a ≡ true → Clean S (suc r)
    unfolding worst_of times every
    clean-raised g =
        let p = plus-absolute (S r) h in
        let z : is_zero a ≡ false = above_plus w a c.sign p g in
        let e : cond (lt w a) a w ≡ a = ap (λ b. cond b a w) g in
        record {
          sign = ap not_negative e ∙ p;
          all-zero = ap is_zero e ∙ z ∙ sym (ap (λ b. every r (λ k. is_zero (S k)) && b) (sym (zero-absolute (S r)) ∙ z) ∙ and_false (every r (λ k. is_zero (S k))));
        }

    clean-kept : lt w a ≡ false → Clean S (suc r)
    unfolding worst_of times every
    clean-kept g =
        let p = plus-absolute (S r) h in
        let e : cond (lt w a) a w ≡ w = ap (λ b. cond b a w) g in
        record {
          sign = ap not_negative e ∙ c.sign;
          all-zero = ap is_zero e ∙ ⊎_elim (zero-still p g) (zero-never) (split (is_zero w));
        }
      where
        both_zero : (t u v : Bool) → t ≡ u → v ≡ true → t ≡ (u && v)
        both_zero t true v e f = e ∙ sym f
        both_zero t false v e f = e

        zero-still : not_negative a ≡ true → lt w a ≡ false → is_zero w ≡ true → is_zero w ≡ (every r (λ k. is_zero (S k)) && is_zero (S r))
        zero-still p g z = both_zero (is_zero w) (every r (λ k. is_zero (S k))) (is_zero (S r)) c.all-zero (sym (zero-absolute (S r)) ∙ not_above_zero w a p z c.sign g)

        zero-never : is_zero w ≡ false → is_zero w ≡ (every r (λ k. is_zero (S k)) && is_zero (S r))
        zero-never z = z ∙ sym (ap (λ b. b && is_zero (S r)) (sym c.all-zero ∙ z))

  clean : (r : ℕ) → some r (λ k. is_nan (S k)) ≡ false → Clean S r
  clean zero h = record { sign = sign_zero S; all-zero = all_none S }
  clean (suc r) h =
      let (p, q) = none_of_lem S r h in
      let c = clean r p in
      ⊎_elim (clean-raised r q c) (clean-kept r q c) (split (lt (worst_of r S) (absolute (S r))))

-- ---- the report

zero_equals : eq plus_zero plus_zero ≡ true
unfolding eq of_bits
zero_equals = refl

module _ {R : Type 0} (stillOne : R) (at : Deviation → ℕ → R) (c : Seen) where
  -- the conclusion by two tests: one is no number, and the worst is zero
  abbrev by_tests : Bool → Bool → R
  by_tests none allZero = cond none (at NoNumber c.first) (cond allZero stillOne (at (Worst c.worst) c.at))

  pub conclude_none : c.none ≡ true → at NoNumber c.first ≡ concluded_by stillOne at c
  conclude_none h = sym (ap (λ b. by_tests b (eq c.worst plus_zero)) h)

  pub conclude_still : c.none ≡ false → eq c.worst plus_zero ≡ true → stillOne ≡ concluded_by stillOne at c
  conclude_still h g = sym (ap₂ by_tests h g)

  pub conclude_worst : c.none ≡ false → eq c.worst plus_zero ≡ false → at (Worst c.worst) c.at ≡ concluded_by stillOne at c
  conclude_worst h g = sym (ap₂ by_tests h g)

module _ (m : ℕ) (S : ℕ → Float) (c : Seen) (s : State S m c) where
  abbrev none : Bool
  none = some m (λ r. is_nan (S r))

  abbrev still : Bool
  still = every m (λ r. is_zero (S r))

  deviation-by : (a b : Bool) → none ≡ a → still ≡ b → deviation_in m S ≡ cond a NoNumber (cond b Still (Worst (worst_of m S)))
  unfolding deviation_in
  deviation-by a b h g = ap₂ (λ a b. cond a NoNumber (cond b Still (Worst (worst_of m S)))) h g

  -- 0.0 is the worst exactly if all numbers are zero
  pub tested : none ≡ false → eq c.worst plus_zero ≡ still
  tested h = equals_zero c.worst ∙ ap is_zero s.worst_is ∙ (clean S m h).all-zero

  -- where the worst is not zero a number has its absolute value, and the place is that of the first
  is_first_lem : eq c.worst plus_zero ≡ false → (some m (hits S c.worst) ≡ true) × (c.at ≡ first_of m (hits S c.worst))
  is_first_lem g =
      ⊎_elim (λ (z : c.worst ≡ plus_zero). absurd (not-both zero_equals (ap (λ w. eq w plus_zero) (sym z) ∙ g)))
      (λ (z : (some m (hits S c.worst) ≡ true) × (c.at ≡ first_of m (hits S c.worst))). z)
      s.at_is

  pub found_worst : eq c.worst plus_zero ≡ false → some m (hits S c.worst) ≡ true
  found_worst g = (is_first_lem g).0

  module _ {R : Type 0} (stillOne : R) (at : Deviation → ℕ → R) where
    reported-none : none ≡ true → concluded_by stillOne at c ≡ placed_by stillOne at m S (deviation_in m S)
    reported-none h =
        sym (conclude_none stillOne at c (s.none_is ∙ h)) ∙ ap (at NoNumber) (s.first_is h) ∙ ap (placed_by stillOne at m S) (sym (deviation-by true still h refl))

    reported-still : none ≡ false → still ≡ true → concluded_by stillOne at c ≡ placed_by stillOne at m S (deviation_in m S)
    reported-still h g = sym (conclude_still stillOne at c (s.none_is ∙ h) (tested h ∙ g)) ∙ ap (placed_by stillOne at m S) (sym (deviation-by false true h g))

    reported_worst : none ≡ false → still ≡ false → concluded_by stillOne at c ≡ placed_by stillOne at m S (deviation_in m S)
    reported_worst h g =
        let z : eq c.worst plus_zero ≡ false = tested h ∙ g in
        sym (conclude_worst stillOne at c (s.none_is ∙ h) z)
        ∙ ap (at (Worst c.worst)) (is_first_lem z).1
        ∙ ap (λ w. placed_by stillOne at m S (Worst w)) s.worst_is
        ∙ ap (placed_by stillOne at m S) (sym (deviation-by false false h g))

    pub reported : concluded_by stillOne at c ≡ placed_by stillOne at m S (deviation_in m S)
    reported = ⊎_elim reported-none (λ (h : none ≡ false). ⊎_elim (reported-still h) (reported_worst h) (split still)) (split none)

-- numbers looked at row after row: row q of m has the n numbers from number q * n on
pub rows-looked : (m n : ℕ) (S : ℕ → Float) (g : ℕ → Seen → Seen) (c : Seen) → ((q : ℕ) → q < m → (c : Seen) → g q c ≡ look_at (q * n) n (λ k. S (q * n + k)) c)
    → times m g c ≡ times (m * n) (λ r. look r (S r)) c
unfolding look_at
rows-looked m n S g c h = times-same m g (λ q. times n (λ k. look (q * n + k) (S (q * n + k)))) c h ∙ sym (times_nest m n (λ r. look r (S r)) c)

-- the same numbers
pub look-same : (first n : ℕ) (f g : ℕ → Float) (c : Seen) → ((k : ℕ) → k < n → f k ≡ g k) → look_at first n f c ≡ look_at first n g c
unfolding look_at
look-same first n f g c h = times-same n (λ k. look (first + k) (f k)) (λ k. look (first + k) (g k)) c (λ k l s. ap (λ x. look (first + k) x s) (h k l))

-- from the first on
pub from_first : (n : ℕ) (f : ℕ → Float) (c : Seen) → look_at 0 n f c ≡ times n (λ k. look k (f k)) c
unfolding look_at
from_first n f c = times-same n (λ k. look (0 + k) (f k)) (λ k. look k (f k)) c (λ k h s. let e : 0 + k ≡ k = omega arith in ap (λ r. look r (f k) s) e)

-- all numbers of a family, looked at one after another, give its report
pub report_of : (m : ℕ) (S : ℕ → Float) {c : Seen} → c ≡ times m (λ r. look r (S r)) nothing_seen → concluded c ≡ report m S
unfolding report
report_of m S {c} e = reported m S c (subst (State S m) (sym e) (all_seen_lem S m)) (report_at Still 0) report_at

-- the call, by the guard's answer
pub after-done : {a : Answer} {p q : Report} → a ≡ Ok tt → p ≡ q → Ok p ≡ reported_after a q
after-done {q = q} e f = ap Ok f ∙ sym (ap (λ a. reported_after a q) e)

pub after-refused : {a : Answer} {r : Refusal} (q : Report) → a ≡ Err r → Err r ≡ reported_after a q
after-refused q e = sym (ap (λ a. reported_after a q) e)

-- ---- one look, by its cases

module _ (r : ℕ) (v : Float) (c : Seen) where
  abbrev with_worst : Float → Seen
  with_worst w = record { none = c.none; first = c.first; worst = w; at = r }

  abbrev with_none : Seen
  with_none = record { none = true; first = r; worst = c.worst; at = c.at }

  pub look-raised : (m : Float) → m ≡ absolute v → ne v v ≡ false → lt c.worst m ≡ true → with_worst m ≡ look r v c
  look-raised m e h g =
      ap with_worst e
      ∙ sym (ap (λ b. cond b (cond c.none c with_none) (cond (lt c.worst (absolute v)) (with_worst (absolute v)) c)) h
      ∙ ap (λ b. cond b (with_worst (absolute v)) c) (ap (lt c.worst) (sym e) ∙ g))

  pub look-kept : (m : Float) → m ≡ absolute v → ne v v ≡ false → lt c.worst m ≡ false → c ≡ look r v c
  look-kept m e h g =
      sym (ap (λ b. cond b (cond c.none c with_none) (cond (lt c.worst (absolute v)) (with_worst (absolute v)) c)) h
      ∙ ap (λ b. cond b (with_worst (absolute v)) c) (ap (lt c.worst) (sym e) ∙ g))

-- ---- numbers that bring nothing new

-- steps that leave x as it is
pub still-times : {A : Type 0} (n : ℕ) (f : ℕ → A → A) (x : A) → ((k : ℕ) → k < n → f k x ≡ x) → times n f x ≡ x
unfolding times
still-times zero f x h = refl
still-times (suc n) f x h = ap (f n) (still-times n f x (λ k l. h k (omega arith))) ∙ h n (omega arith)

pub look-within : (r : ℕ) (x : Float) (c : Seen) → AtMost c.worst x → look r x c ≡ c
look-within r x c h = rw (h.2, within-absolute c.worst x h) refl
