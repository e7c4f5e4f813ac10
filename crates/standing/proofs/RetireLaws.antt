-- Document 02, A.12, as laws: the sets that are retired are just those linked to the given one by replacements that had no retirement, by
-- rising number; after it each linked set answers retired and every other set as before; a second retireAfter adds nothing.
-- Assumes nothing.
use Rattle.std.specs.Prelude.{◌≡◌, Bool, ◌&&◌, ◌||◌, ◌⊎◌, ◌↔◌, ℕ, ◌+◌, ◌*◌, ◌≤◌, ◌<◌, eqb, get_or, take, Result, Ok}
use Rattle.std.proofs.Math.Path.{refl, ap, ap₂, subst}
use Rattle.std.proofs.Common.{sym, ◌∙◌, true≢false, inl, inr, length-append}
use Rattle.std.proofs.Math.Bool.{true, false, not, cond}
use Rattle.std.proofs.Math.Logic.{⊎_elim}
use mathlib.Core.List.{List, [], ◌∷◌, ◌++◌, map}
use native.Mathlib.Omega.{arith}
use Rattle.std.proofs.Math.Dec.{ltb}
use Rattle.std.proofs.Math.ListN.{length}
use borrow.Author.Tests.{eq-eqb, ne_eqb, eqb-true, ltb-false, le-ltb}
use Rattle.lists.specs.Cases.{eq_or_ne}
use Rattle.lists.specs.Tests.{or_true, or-none, and_false, and_snd, both, split}
use Rattle.lists.specs.Members.{In, in_all}
use Rattle.roll.specs.Format.{Entry}
use Rattle.roll.specs.Reading.{four_at, record_start, entry_at, is_roll, entries_of, count_of, roll_bytes, holds_roll}
use Rattle.roll.specs.NumberLaws.{Bytes, four-small}
use Rattle.roll.specs.HoldingLaws.{is_there, is_roll_lem, within-limits, bytes_take, bytes-there}
use Rattle.roll.specs.AppendCalls.{passes}
use Rattle.standing.specs.Register.{Register, blank, noted, noted_all, register_of, allowed, all_allowed, lawful, rule, stands_now}
use Rattle.standing.specs.Walk.{record_of, entries_register, entries-many}
use Rattle.standing.specs.Chains.{Sound, chain_end, carried, end_same, end_stays, linked_end, delivered_end, end_plus}
use Rattle.standing.proofs.Laws.{named, lawful-to, sound-roll, keeps_rules_lem, only_these}
use Rattle.standing.specs.declared.Standing.{Standing}
use Rattle.standing.specs.declared.Standing.TheVariants.{Unknown, Retired, Current}
use Rattle.standing.specs.RetireAll.{retirement, chain_end_of, waits, inserted, numbers_passing, to_retire, add_all, judged_retire, retire_after, retire_all}
use Rattle.standing.specs.Steps.{waits_at, gathered_to, Retirable}
use Rattle.standing.proofs.StepsLaws.{to_retire_is, add_says, roll-there}
use Rattle.standing.specs.MemberLaws.{Rising, delivered-by, members, rises}
use Rattle.standing.specs.Linked.{Linked, linked_is}
use Rattle.standing.proofs.AddedLaws.{Named, Roomy, Added, added}
use Rattle.tables.specs.declared.Refusal.{Refusal}

-- ---- a register with the retirements of a list of sets

noted-append : (g : Register) (rs qs : List Entry) → noted_all g (rs ++ qs) ≡ noted_all (noted_all g rs) qs
unfolding noted_all
noted-append g [] qs = refl
noted-append g (r ∷ rs) qs = noted-append (noted r g) rs qs

and_assoc : (x y z : Bool) → (x && (y && z)) ≡ ((x && y) && z)
and_assoc true y z = refl
and_assoc false y z = refl

allowed-append : (g : Register) (rs qs : List Entry) → all_allowed g (rs ++ qs) ≡ (all_allowed g rs && all_allowed (noted_all g rs) qs)
unfolding all_allowed noted_all
allowed-append g [] qs = refl
allowed-append g (r ∷ rs) qs = ap (λ z. allowed g r && z) (allowed-append (noted r g) rs qs) ∙ and_assoc (allowed g r) (all_allowed (noted r g) rs) (all_allowed (noted_all (noted r g) rs) qs)

abbrev with_all : List ℕ → Register → Register
with_all ys g = noted_all g (map retirement ys)

by-kept : (ys : List ℕ) (g : Register) (x : ℕ) → (with_all ys g).replaced_by x ≡ g.replaced_by x
unfolding noted_all noted
by-kept [] g x = refl
by-kept (y ∷ ys) g x = by-kept ys (noted (retirement y) g) x

delivered-kept : (ys : List ℕ) (g : Register) (x : ℕ) → (with_all ys g).delivered x ≡ g.delivered x
unfolding noted_all noted
delivered-kept [] g x = refl
delivered-kept (y ∷ ys) g x = delivered-kept ys (noted (retirement y) g) x ∙ or-none (g.delivered x)

retired-kept : (ys : List ℕ) (g : Register) (x : ℕ) → g.retired x ≡ true → (with_all ys g).retired x ≡ true
unfolding noted_all noted
retired-kept [] g x e = e
retired-kept (y ∷ ys) g x e = retired-kept ys (noted (retirement y) g) x (rw e refl)

retired_in : (ys : List ℕ) (g : Register) (x : ℕ) → In x ys → (with_all ys g).retired x ≡ true
unfolding noted_all noted
retired_in [] g x h = absurd h
retired_in (y ∷ ys) g x (inl q) = retired-kept ys (noted (retirement y) g) x (rw (eq-eqb y x (sym q)) (or_true (g.retired x)))
retired_in (y ∷ ys) g x (inr h) = retired_in ys (noted (retirement y) g) x h

retired-out : (ys : List ℕ) (g : Register) (x : ℕ) → (In x ys → ⊥) → (with_all ys g).retired x ≡ g.retired x
unfolding noted_all noted
retired-out [] g x d = refl
retired-out (y ∷ ys) g x d = retired-out ys (noted (retirement y) g) x (λ i. d (inr i)) ∙ rw (ne_eqb y x (λ e. d (inl (sym e)))) (or-none (g.retired x))

delivered-still : (y z : ℕ) (g : Register) → g.delivered z ≡ true → (noted (retirement y) g).delivered z ≡ true
unfolding noted
delivered-still y z g e = rw e refl

retirements_allowed : (ys : List ℕ) (g : Register) → ((y : ℕ) → In y ys → g.delivered y ≡ true) → all_allowed g (map retirement ys) ≡ true
unfolding all_allowed allowed
retirements_allowed [] g h = refl
retirements_allowed (y ∷ ys) g h =
    both (g.delivered y) (all_allowed (noted (retirement y) g) (map retirement ys)) (h y (inl refl))
    (retirements_allowed ys (noted (retirement y) g) (λ z i. delivered-still y z g (h z (inr i))))

-- ---- the rules over it

module _ (n : ℕ) (g : Register) (p : Sound n g) (x : ℕ) (known : g.delivered x ≡ true) (ys : List ℕ)
    (members : (y : ℕ) → In y ys ↔ ((g.delivered y ≡ true) × (chain_end n g y ≡ chain_end n g x) × (g.retired y ≡ false))) where
  abbrev G : Register
  G = with_all ys g

  -- the chains from x and from y end in one set
  abbrev linked : ℕ → Bool
  linked y = eqb (chain_end n g y) (chain_end n g x)

  -- only delivered sets are linked to a delivered one
  linked-known : (y : ℕ) → chain_end n g y ≡ chain_end n g x → g.delivered y ≡ true
  linked-known y e = ⊎_elim (λ (d : g.delivered y ≡ true). d) none (split (g.delivered y))
    where
      none : g.delivered y ≡ false → g.delivered y ≡ true
      none d =
          let own : chain_end n g y ≡ y = end_stays n g y (p.known y d) in
          ap g.delivered (sym own ∙ e) ∙ delivered_end n g p n x known

  pub now-retired : (y : ℕ) → chain_end n g y ≡ chain_end n g x → G.retired y ≡ true
  now-retired y e =
      ⊎_elim (retired-kept ys g y)
      (λ (o : g.retired y ≡ false). retired_in ys g y ((members y).1 (linked-known y e, e, o)))
      (split (g.retired y))

  pub as_before : (y : ℕ) → (chain_end n g y ≡ chain_end n g x → ⊥) → G.retired y ≡ g.retired y
  as_before y d = retired-out ys g y (λ i. d ((members y).0 i).1)

  -- the answers after it keep to the rules over the new register
  module _ (before : ℕ → Result Standing Refusal) (keeps : (y : ℕ) → before y ≡ rule g before y) where
    abbrev answers_now : ℕ → Result Standing Refusal
    answers_now y = cond (linked y) (Ok Retired) (before y)

    -- what replaced a linked set is linked
    next-linked : (y : ℕ) → chain_end n g y ≡ chain_end n g x → (g.replaced_by y ≡ 0 → ⊥) → answers_now (g.replaced_by y) ≡ Ok Retired
    next-linked y e b = rw (eq-eqb (chain_end n g (g.replaced_by y)) (chain_end n g x) (sym (linked_end n g p y b) ∙ e)) refl

    yes_one : (y : ℕ) → chain_end n g y ≡ chain_end n g x → answers_now y ≡ rule G answers_now y
    unfolding rule
    yes_one y e =
        let l : linked y ≡ true = eq-eqb (chain_end n g y) (chain_end n g x) e in
        let d : G.delivered y ≡ true = delivered-kept ys g y ∙ linked-known y e in
        rw (l, d, now-retired y e, by-kept ys g y) (go (eq_or_ne (g.replaced_by y) 0))
      where
        go : (g.replaced_by y ≡ 0) ⊎ (g.replaced_by y ≡ 0 → ⊥) → Ok Retired ≡ cond (eqb (g.replaced_by y) 0) (Ok Retired) (answers_now (g.replaced_by y))
        go (inl b) = rw (eq-eqb (g.replaced_by y) 0 b) refl
        go (inr b) = rw (ne_eqb (g.replaced_by y) 0 b) (sym (next-linked y e b))

    -- what replaced a set that is not linked is not linked
    next-same : (y : ℕ) → (chain_end n g y ≡ chain_end n g x → ⊥) → (g.replaced_by y ≡ 0 → ⊥) → answers_now (g.replaced_by y) ≡ before (g.replaced_by y)
    next-same y d b = rw (ne_eqb (chain_end n g (g.replaced_by y)) (chain_end n g x) (λ e. d (linked_end n g p y b ∙ e))) refl

    no_one : (y : ℕ) → (chain_end n g y ≡ chain_end n g x → ⊥) → answers_now y ≡ rule G answers_now y
    unfolding rule
    no_one y d =
        let l : linked y ≡ false = ne_eqb (chain_end n g y) (chain_end n g x) d in
        rw (l, delivered-kept ys g y, as_before y d, by-kept ys g y) (keeps y ∙ go (eq_or_ne (g.replaced_by y) 0))
      where
        go : (g.replaced_by y ≡ 0) ⊎ (g.replaced_by y ≡ 0 → ⊥)
            → cond (not (g.delivered y)) (Ok Unknown) (cond (eqb (g.replaced_by y) 0) (cond (g.retired y) (Ok Retired) (Ok (Current y))) (before (g.replaced_by y)))
            ≡ cond (not (g.delivered y)) (Ok Unknown) (cond (eqb (g.replaced_by y) 0) (cond (g.retired y) (Ok Retired) (Ok (Current y))) (answers_now (g.replaced_by y)))
        go (inl b) = rw (eq-eqb (g.replaced_by y) 0 b) refl
        go (inr b) = ap (λ (a : Result Standing Refusal). cond (not (g.delivered y)) (Ok Unknown) (cond (eqb (g.replaced_by y) 0) (cond (g.retired y) (Ok Retired) (Ok (Current y))) a)) (sym (next-same y d b))

    pub keeps-now : (y : ℕ) → answers_now y ≡ rule G answers_now y
    keeps-now y = ⊎_elim (yes_one y) (no_one y) (eq_or_ne (chain_end n g y) (chain_end n g x))

-- ---- a call that is done

gathered_none : (w : Entry → Bool) (rs : List Entry) → ((r : Entry) → w r ≡ false) → numbers_passing w [] rs ≡ []
unfolding numbers_passing
gathered_none w [] h = refl
gathered_none w (r ∷ rs) h = ap (λ t. numbers_passing w (cond t (inserted r.number []) []) rs) (h r) ∙ gathered_none w rs h

module _ (s : List ℕ) (count x m : ℕ) (B : Bytes s) (done : judged_retire s count x ≡ Ok m) where
  abbrev b : List ℕ
  b = roll_bytes s count

  abbrev rs : List Entry
  rs = entries_of b

  abbrev ys : List ℕ
  ys = to_retire rs x

  P : Retirable s count x m
  P = add_says s count x m done

  there : (holds_roll s count ≡ true) × (b ≡ take count s)
  there = roll-there s count P.roll

  abbrev k : ℕ
  k = count_of b

  abbrev g : Register
  g = register_of rs

  is_sound : Sound k g
  is_sound = sound-roll b P.roll P.law

  -- the members are the sets linked by replacements, earlier or later, that had no retirement
  abbrev Member : ℕ → Type 0
  Member y = (g.delivered y ≡ true) × (chain_end k g y ≡ chain_end k g x) × (g.retired y ≡ false)

  is_member : (y : ℕ) → In y ys ↔ Member y
  is_member y =
      let e = entries_register b in
      let t = members (record_of b) k (named b P.roll P.law) (lawful-to b P.roll P.law) x y in
      let u = subst (λ (h : Register). In y (gathered_to (waits_at (record_of b) k (carried (record_of b) k x)) (record_of b) k) ↔ ((h.delivered y ≡ true) × (chain_end k h y ≡ chain_end k h x) × (h.retired y ≡ false))) (sym e) t in
      subst (λ (l : List ℕ). In y l ↔ Member y) (sym (to_retire_is b P.roll P.law x)) u

  pub just_linked : (y : ℕ) → In y ys ↔ ((g.delivered y ≡ true) × Linked g x y × (g.retired y ≡ false))
  just_linked y =
      let l = linked_is k g is_sound x y in
      (λ i. let (d, e, o) = (is_member y).0 i in (d, l.1 e, o), λ (d, e, o). (is_member y).1 (d, l.0 e, o))

  pub by-rising-number : Rising ys
  by-rising-number = subst Rising (sym (to_retire_is b P.roll P.law x)) (rises (record_of b) k (named b P.roll P.law) (lawful-to b P.roll P.law) x)

  known-number : (y : ℕ) → In y ys → Named y
  unfolding record_of entry_at
  known-number y i =
      let (j, l, t) = delivered-by (record_of b) k y (ap (λ (h : Register). h.delivered y) (sym (entries_register b)) ∙ ((is_member y).0 i).0) in
      let e : four_at b (record_start b j + 1) ≡ y = eqb-true (four_at b (record_start b j + 1)) y (and_snd (not (eqb (get_or b (record_start b j) 0) 3)) (eqb (four_at b (record_start b j + 1)) y) t) in
      let small = four-small b (record_start b j + 1) (subst Bytes (sym there.1) (bytes_take s count B)) in
      ⊎_elim (λ (z : y ≡ 0). absurd (named b P.roll P.law j l (e ∙ z))) (λ (z : y ≡ 0 → ⊥). (omega (arith, z), subst (λ v. v < 4294967296) e small)) (eq_or_ne y 0)

  or_false : (a c : Bool) → (a || c) ≡ false → (a ≡ false) × (c ≡ false)
  or_false true c e = absurd (true≢false e)
  or_false false c e = (refl, e)

  roomy : Roomy s count (length ys)
  unfolding passes
  roomy =
      let w = count + 14 * m in
      let a = or_false (ltb 1000 (length rs + m)) (ltb 65536 w || ltb (length s) w) P.room in
      let c = or_false (ltb 65536 w) (ltb (length s) w) a.1 in
      let l1 = ltb-false 1000 (length rs + m) a.0 in
      let l2 = ltb-false 65536 w c.0 in
      let l3 = ltb-false (length s) w c.1 in
      let q = entries-many b in
      let z : count_of (take count s) ≡ count_of b = ap count_of (sym there.1) in
      record { bytes = B; holds = there.0; few = omega (arith, l1, q, z, P.many); small = omega (arith, l2, P.many); within = omega (arith, l3, P.many) }

  abbrev new : List ℕ
  new = add_all s count ys

  abbrev c' : ℕ
  c' = count + 14 * m

  -- the retirements are read after the former records, and the bytes after them stay
  pub adds : Added s count ys c'
  adds = added ys s count c' (omega (arith, P.many)) (in_all Named ys known-number) roomy

  abbrev b' : List ℕ
  b' = take c' new

  abbrev rs' : List Entry
  rs' = entries_of b'

  is_roll' : is_roll b' ≡ true
  is_roll' = is_roll_lem new c' adds.holds

  reads' : rs' ≡ rs ++ map retirement ys
  reads' = adds.reads ∙ ap (λ (l : List ℕ). entries_of l ++ map retirement ys) (sym there.1)

  register' : register_of rs' ≡ with_all ys g
  register' = ap register_of reads' ∙ noted-append blank rs (map retirement ys)

  law' : lawful rs' ≡ true
  law' =
      ap lawful reads' ∙ allowed-append blank rs (map retirement ys)
      ∙ both (lawful rs) (all_allowed g (map retirement ys)) P.law (retirements_allowed ys g (λ y i. ((is_member y).0 i).0))

  -- after it each linked set answers retired, and every other set as before
  pub answers-after : (y : ℕ) → stands_now b' y ≡ cond (eqb (chain_end k g y) (chain_end k g x)) (Ok Retired) (stands_now b y)
  answers-after y =
      let h : ℕ → Result Standing Refusal = λ z. cond (eqb (chain_end k g z) (chain_end k g x)) (Ok Retired) (stands_now b z) in
      let kept : (z : ℕ) → h z ≡ rule (register_of rs') h z = λ z. keeps-now k g is_sound x P.known ys is_member (stands_now b) (keeps_rules_lem b P.roll P.law) z ∙ ap (λ (r : Register). rule r h z) (sym register') in
      sym (only_these b' is_roll' law' h kept y)

  -- where chains end is as before
  last' : (y : ℕ) → chain_end_of rs' y ≡ chain_end k g y
  last' y =
      ap₂ (λ j (h : Register). chain_end j h y) (ap length reads' ∙ length-append rs (map retirement ys) ∙ ap (λ j. j + length (map retirement ys)) (entries-many b)) register'
      ∙ end_same g (with_all ys g) (by-kept ys g) (k + length (map retirement ys)) y
      ∙ end_plus k g is_sound (length (map retirement ys)) y

  none-waits : (r : Entry) → waits rs' x r ≡ false
  unfolding waits
  none-waits r = go (eq_or_ne (chain_end_of rs' r.number) (chain_end_of rs' x))
    where
      go : (chain_end_of rs' r.number ≡ chain_end_of rs' x) ⊎ (chain_end_of rs' r.number ≡ chain_end_of rs' x → ⊥)
          → (not (eqb r.kind 3) && (eqb (chain_end_of rs' r.number) (chain_end_of rs' x) && not ((register_of rs').retired r.number))) ≡ false
      go (inl e) =
          let t : (register_of rs').retired r.number ≡ true = ap (λ (h : Register). h.retired r.number) register' ∙ now-retired k g is_sound x P.known ys is_member r.number (sym (last' r.number) ∙ e ∙ last' x) in
          rw (t, and_false (eqb (chain_end_of rs' r.number) (chain_end_of rs' x)), and_false (not (eqb r.kind 3))) refl
      go (inr d) = rw (ne_eqb (chain_end_of rs' r.number) (chain_end_of rs' x) d, and_false (not (eqb r.kind 3))) refl

  empty' : to_retire rs' x ≡ []
  empty' = gathered_none (waits rs' x) rs' none-waits

  there' : roll_bytes new c' ≡ b'
  there' = sym (bytes-there new c' (is_there new c' adds.holds))

  known' : (register_of rs').delivered x ≡ true
  known' = ap (λ (h : Register). h.delivered x) register' ∙ delivered-kept ys g x ∙ P.known

  judged' : judged_retire new c' x ≡ Ok 0
  unfolding judged_retire passes
  judged' =
      let L = within-limits new c' adds.holds in
      let q : length rs' ≤ 1000 = omega (arith, L.0, entries-many b') in
      rw (there', is_roll', law', known', empty', le-ltb 1000 (length rs' + 0) (omega (arith, q)), le-ltb 65536 (c' + 0) (omega (arith, L.1)), le-ltb (length new) (c' + 0) (omega (arith, is_there new c' adds.holds))) refl

  -- a second retireAfter adds nothing
  pub twice : retire_all new c' x ≡ (Ok c', new)
  unfolding retire_all add_all
  twice =
      let z : c' + 0 ≡ c' = omega arith in
      ap₂ (λ (j : Result ℕ Refusal) (l : List ℕ). retire_after j new c' l) judged' (ap (λ (l : List ℕ). to_retire (entries_of l) x) there' ∙ empty') ∙ ap (λ j. (Ok j, new)) z
