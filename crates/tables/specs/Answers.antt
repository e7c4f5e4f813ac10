-- What a call answers (document 01, "The refusal line on a job sheet"): done, or the first refusal that applies, and what either leaves.
-- Assumes nothing.
use Rattle.std.specs.Prelude.{Result, Err, Ok, ◌≡◌, refl, Bool, true, false, cond, ℕ}
use Rattle.std.proofs.Common.{sym, ◌∙◌, true≢false}
use Rattle.std.proofs.Math.Path.{ap}
use Rattle.std.proofs.lemmas.Bool.{false≢true}
use Rattle.tables.specs.declared.Refusal.{Refusal}
use Rattle.tables.specs.declared.Refusal.TheVariants.{CountAboveLimit, WrongLength, IndexOutOfRange, BadSlab, BadRepresentative, BadShiftTables, NotARoll, NoRoom, NotLawful, OffGrid, UnknownSet}

-- what a call answers
abbrev pub Answer : Type 0
Answer = Result (Unit {0}) Refusal

-- the number of each refusal: document 01's six, then document 02's
abbrev pub refusal_number : Refusal → ℕ
refusal_number CountAboveLimit = 1
refusal_number WrongLength = 2
refusal_number IndexOutOfRange = 3
refusal_number BadSlab = 4
refusal_number BadRepresentative = 5
refusal_number BadShiftTables = 6
refusal_number NotARoll = 7
refusal_number NoRoom = 8
refusal_number NotLawful = 9
refusal_number OffGrid = 10
refusal_number UnknownSet = 11

-- the number of an answer: 0 for a call that is done
abbrev pub number_of : Answer → ℕ
number_of (Ok u) = 0
number_of (Err r) = refusal_number r

abbrev pub is_refusal : Answer → Bool
is_refusal (Ok u) = false
is_refusal (Err r) = true

-- what a call leaves of something lent to it: the new value if it is done, the old one if it is refused
unfoldable pub after : {A : Type 0} → Answer → A → A → A
after a new old = cond (is_refusal a) old new

-- the refusal r where its condition holds, otherwise what the conditions after it say
abbrev pub refuse_if : Bool → Refusal → Answer → Answer
refuse_if b r next = cond b (Err r) next

-- the first answer where it is a refusal, otherwise the next
abbrev pub and_then : Answer → Answer → Answer
and_then (Ok u) next = next
and_then (Err r) next = Err r

-- ---- laws

-- two guards, one after the other
pub first_refuses : (a next : Answer) → is_refusal a ≡ true → a ≡ and_then a next
first_refuses (Ok u) next e = absurd (false≢true e)
first_refuses (Err r) next e = refl

pub first_passes : (a next : Answer) → is_refusal a ≡ false → next ≡ and_then a next
first_passes (Ok u) next e = refl
first_passes (Err r) next e = absurd (true≢false e)

pub both-done : (a next : Answer) → and_then a next ≡ Ok tt → (a ≡ Ok tt) × (next ≡ Ok tt)
both-done (Ok u) next e = (refl, e)
both-done (Err r) next e = absurd (true≢false (ap is_refusal e))

-- an answer that is no refusal is Done
pub is_done : (a : Answer) → is_refusal a ≡ false → a ≡ Ok tt
is_done (Ok u) e = refl
is_done (Err r) e = absurd (true≢false e)

-- a refused call leaves what it was lent
pub after_refusal : {A : Type 0} (a : Answer) (new old : A) → is_refusal a ≡ true → after a new old ≡ old
unfolding after
after_refusal a new old e = rw e

pub after-done : {A : Type 0} (a : Answer) (new old : A) → is_refusal a ≡ false → after a new old ≡ new
unfolding after
after-done a new old e = rw e

-- what a refusal's condition says where the call is done
pub passed : (b : Bool) (r : Refusal) (next : Answer) → refuse_if b r next ≡ Ok tt → (b ≡ false) × (next ≡ Ok tt)
passed true r next e = absurd (true≢false (ap is_refusal e))
passed false r next e = (refl, e)

-- the answer where a condition applies, and where it does not
pub refused : (b : Bool) (r : Refusal) (next : Answer) → b ≡ true → Err r ≡ refuse_if b r next
refused b r next e = rw e

pub not-refused : (b : Bool) (r : Refusal) (next : Answer) → b ≡ false → next ≡ refuse_if b r next
not-refused b r next e = rw e

-- a call on a set and a work slice: refused, it leaves both; done, it leaves the new set and the cleared work slice
module _ {A B : Type 0} (a : Answer) (new old : A) (clear work : B) where
  pub refused_call : is_refusal a ≡ true → ◌≡◌ {A = Answer × A × B} (a, old, work) (a, after a new old, after a clear work)
  unfolding after
  refused_call e = rw e

  pub done_call : is_refusal a ≡ false → ◌≡◌ {A = Answer × A × B} (Ok tt, new, clear) (a, after a new old, after a clear work)
  unfolding after
  done_call e = ap (λ r. (r, new, clear)) (sym (is_done a e)) ∙ rw e

-- what is known after a `?`: the answer that was asked, where the code goes on and where it returns
pub passes : {a : Answer} {u : Unit {0}} → a ≡ Ok u → is_refusal a ≡ false
passes e = ap is_refusal e

pub refuses : {a : Answer} {r : Refusal} → a ≡ Err r → is_refusal a ≡ true
refuses e = ap is_refusal e
