-- The search for a chain of exchanges (document 02, A.6): what it asks and what it leaves. Position i takes a near slot; the position that it drives out
-- looks for another, one position deeper, and so on. Definitions only.
use Rattle.std.specs.Prelude.{◌≡◌, Bool, true, false, not, ◌&&◌, List, ℕ, ◌≤◌, ◌<◌, ℤ}
use Rattle.tables.specs.Conditions.{index_at}
use Rattle.matching.specs.Matching.{is_filled}
use Rattle.matching.specs.Slots.{slot_at}
use Rattle.matching.specs.Counts.{count}
use Rattle.matching.specs.Groups.{Held, Partial, marked, Marks, HeldMarked, Closed}

-- how many positions are not marked yet: the depth that is left is at least that
abbrev pub unmarked : ℕ → List ℕ → ℕ
unmarked n marks = count n (λ k. not (marked marks k))

-- position i is in no slot, and looks for one
pub record Homeless (is_near : ℕ → ℕ → Bool) (n : ℕ) (slots : List ℤ) (marks : List ℕ) (i : ℕ) : Type 0 where
  pub small : n ≤ 1024
  pub partial : Partial is_near n slots
  pub marks_are : Marks n marks
  pub inside : i < n
  pub out : Held n slots i → ⊥

-- it was not met yet, and as many positions may still be met as the depth that is left
pub record Ready (is_near : ℕ → ℕ → Bool) (n : ℕ) (slots : List ℤ) (marks : List ℕ) (i left : ℕ) : Type 0 where
  pub homeless : Homeless is_near n slots marks i
  pub fresh : marked marks i ≡ false
  pub deep : unmarked n marks ≤ left

-- slot j may be taken by position i: it is near, and free or held by a position that was not met yet
unfoldable pub is_open : (ℕ → ℕ → Bool) → List ℤ → List ℕ → ℕ → ℕ → Bool
is_open is_near slots marks i j = is_near i j && not (is_filled (slot_at slots j) && marked marks (index_at slots j))

-- it is met, and tries slot j
pub record Trying (is_near : ℕ → ℕ → Bool) (n : ℕ) (slots : List ℤ) (marks : List ℕ) (i j left : ℕ) : Type 0 where
  pub homeless : Homeless is_near n slots marks i
  pub met : marked marks i ≡ true
  pub slot : j < n
  pub deep : unmarked n marks < left

-- a chain was found: i is in a slot, and so is every position that was in one
pub record Found (is_near : ℕ → ℕ → Bool) (n i : ℕ) (slots new : List ℤ) : Type 0 where
  pub partial : Partial is_near n new
  pub placed : Held n new i
  pub kept : (p : ℕ) → Held n slots p → Held n new p

-- marks stay set
abbrev pub Grows : List ℕ → List ℕ → Type 0
Grows old new = (k : ℕ) → marked old k ≡ true → marked new k ≡ true

-- every position that was marked on the way is closed
abbrev pub Settled : (ℕ → ℕ → Bool) → ℕ → List ℤ → List ℕ → List ℕ → Type 0
Settled is_near n slots old new = (p : ℕ) → p < n → marked new p ≡ true → marked old p ≡ false → Closed is_near n slots new p

-- none was found: the slots are as they were
pub record Stuck (is_near : ℕ → ℕ → Bool) (n : ℕ) (slots new : List ℤ) (marks marks' : List ℕ) : Type 0 where
  pub same : new ≡ slots
  pub settled : Settled is_near n slots marks marks'

-- what the search from i leaves
pub record Searched (is_near : ℕ → ℕ → Bool) (n : ℕ) (slots : List ℤ) (marks : List ℕ) (i : ℕ) (r : Bool) (new : List ℤ) (marks' : List ℕ) : Type 0 where
  pub marks_are : Marks n marks'
  pub grows : Grows marks marks'
  pub met : marked marks' i ≡ true
  pub found : r ≡ true → Found is_near n i slots new
  pub stuck : r ≡ false → Stuck is_near n slots new marks marks'

-- what the try of slot j leaves
pub record Tried (is_near : ℕ → ℕ → Bool) (n : ℕ) (slots : List ℤ) (marks : List ℕ) (i j : ℕ) (r : Bool) (new : List ℤ) (marks' : List ℕ) : Type 0 where
  pub marks_are : Marks n marks'
  pub grows : Grows marks marks'
  pub found : r ≡ true → Found is_near n i slots new
  pub stuck : r ≡ false → Stuck is_near n slots new marks marks'
  pub closed : r ≡ false → is_near i j ≡ true → HeldMarked slots marks' j

-- the slots below j were tried, in vain
pub record Looked (is_near : ℕ → ℕ → Bool) (n : ℕ) (slots : List ℤ) (first now' : List ℕ) (i j : ℕ) : Type 0 where
  pub marks_are : Marks n now'
  pub grows : Grows first now'
  pub settled : Settled is_near n slots first now'
  pub closed : (k : ℕ) → k < j → is_near i k ≡ true → HeldMarked slots now' k
