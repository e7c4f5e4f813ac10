-- One loop over the blocks for both kinds of transposes: where half shifts stay it leaves the Rust's set, else the true transpose. Over the rank and
-- the leg that trades with leg 0. And what a true call answers. Assumes nothing.
use Rattle.std.specs.Prelude.{Ok, ◌≡◌, refl, Bool, ◌&&◌, cond, ℕ, zero, suc, ◌≤◌, ◌<◌, List, pos, length, replicate, Float}
use Rattle.std.proofs.Common.{sym, ◌∙◌, arith, ne_eqb}
use Rattle.std.proofs.Math.Path.{ap, ap₂}
use Rattle.std.proofs.Math.Bool.{true, false}
use Rattle.std.specs.Float.Ieee.{nan}
use Rattle.lists.specs.Tab.{tab, tab_from, times}
use Rattle.lists.specs.Digits.{times_power}
use Rattle.tables.specs.Answers.{Answer}
use Rattle.tables.specs.Answers.{is_refusal, after, is_done, refused_call, done_call}
use Rattle.tables.specs.Shifts.{Shifts, Laws}
use Rattle.tables.specs.Limits.{limit2}
use Rattle.tables.specs.Compact.{ShiftTables, shifts_of, judged_compact}
use Rattle.tables.proofs.CompactLaws.{done_compact}
use Rattle.places.specs.Places.{size}
use Rattle.places.specs.Moves.{order, order2, order4, moved, traded}
use Rattle.blocks.specs.Block.{block, put_block}
use Rattle.blocks.specs.Permuted.{permuted_block}
use Rattle.orbits.specs.Counterparts.{Paired, visit}
use Rattle.orbits.specs.Transposed.{blocks_by, paired}
use Rattle.orbits.specs.BlockPairs.{joined_pair, joined_block}
use Rattle.orbits.specs.Trading.{the_other, never, stays_at, Trades, moves, trades, stays-both}
use Rattle.orbits.specs.Exchanging.{partner, exchanging}
use Rattle.orbits.specs.TrueTransposes.{swapped, true_transpose, legs3, legs4}
use Rattle.orbits.specs.HalfShift.{Trading, trading}

-- block b stays, where half shifts do and leg i + 1 trades with leg 0
unfoldable pub stay_if : Bool → Shifts → ℕ → ℕ → ℕ → Bool
stay_if true S m i = stays_at S m i
stay_if false S m i = never

pub stay_if_lem : (h : Bool) (S : Shifts) (m i b : ℕ) → stay_if h S m i b ≡ (h && stays_at S m i b)
unfolding stay_if
stay_if_lem true S m i b = refl
stay_if_lem false S m i b = refl

module _ (S : Shifts) (L : Laws S) (m i : ℕ) (σ : List ℕ) (X : Trades m i σ) where
  pub stay-both : (h : Bool) → Paired (blocks_by S m σ (stay_if h S m i))
  unfolding stay_if
  stay-both true = paired S L m σ X.is_order X.twice nan the_other (stays_at S m i) (stays-both S L m i σ X)
  stay-both false = paired S L m σ X.is_order X.twice nan the_other never (λ b g. refl)

  -- THE LOOP, for either kind
  pub trades_if : (h : Bool) (old : List Float) → length old ≡ size S m
      → times (times_power S.n_satom m S.n_patom) (visit nan the_other (blocks_by S m σ (stay_if h S m i))) old ≡ cond h (traded nan S m (suc i) σ old) (moved nan S m σ old)
  unfolding stay_if
  trades_if true old e = trades S L m i σ X nan old e
  trades_if false old e = moves S L m σ X.is_order X.twice nan old e

-- the same set in both cases
pub either : (h : Bool) (xs : List Float) → xs ≡ cond h xs xs
either true xs = refl
either false xs = refl

-- each of two blocks written with the other one permuted
pub exchanged : (w : ℕ) (τ : ℕ → ℕ) (a b : ℕ) (xs : List Float) {one other there here x1 x2 : List Float}
    → one ≡ block w a xs → other ≡ block w b xs → there ≡ permuted_block w τ other → here ≡ permuted_block w τ one → x1 ≡ put_block w a there xs → x2 ≡ put_block w b here x1
    → x2 ≡ joined_pair the_other w τ a b xs
unfolding joined_pair joined_block permuted_block
exchanged w τ a b xs o p t h e1 e2 = e2 ∙ ap₂ (put_block w b) (h ∙ ap (permuted_block w τ) o) (e1 ∙ ap (λ v. put_block w a v xs) (t ∙ ap (permuted_block w τ) p))

-- ---- the permutations of the types exchange two legs

pub exchanges2 : exchanging 1 0 1 ≡ order2
unfolding exchanging partner tab tab_from
exchanges2 = refl

pub exchanges3 : (exchanging 2 0 1 ≡ order 0) × (exchanging 2 0 2 ≡ order 1) × (exchanging 2 1 2 ≡ order 2)
unfolding exchanging partner tab tab_from order
exchanges3 = (refl, refl, refl)

pub exchanges4 : exchanging 3 0 1 ≡ order4 0
unfolding exchanging partner tab tab_from order4
exchanges4 = refl

-- two legs that are not equal
swapped-by : (S : Shifts) (m u v : ℕ) (σ : List ℕ) (set : List Float) → (u ≡ v → ⊥) → exchanging m u v ≡ σ → moved nan S m σ set ≡ swapped S m (u, v) set
unfolding swapped
swapped-by S m u v σ set n e = ap (λ σ. moved nan S m σ set) (sym e) ∙ sym (rw (ne_eqb u v n) refl)

pub moved_2 : (S : Shifts) (set : List Float) → moved nan S 1 order2 set ≡ swapped S 1 (0, 1) set
moved_2 S set = swapped-by S 1 0 1 order2 set (λ e. omega arith) exchanges2

pub moved_3 : (S : Shifts) (set : List Float) (t : ℕ) → t < 3 → moved nan S 2 (order t) set ≡ swapped S 2 (legs3 (pos t)) set
unfolding legs3
moved_3 S set zero h = swapped-by S 2 0 1 (order 0) set (λ e. omega arith) exchanges3.0
moved_3 S set (suc zero) h = swapped-by S 2 0 2 (order 1) set (λ e. omega arith) exchanges3.1
moved_3 S set (suc (suc zero)) h = swapped-by S 2 1 2 (order 2) set (λ e. omega arith) exchanges3.2
moved_3 S set (suc (suc (suc t))) h = absurd (omega arith)

pub moved_4 : (S : Shifts) (set : List Float) → moved nan S 3 (order4 0) set ≡ swapped S 3 (legs4 (pos 0)) set
unfolding legs4
moved_4 S set = swapped-by S 3 0 1 (order4 0) set (λ e. omega arith) exchanges4

-- ---- a call, at any rank

module _ (limit m : ℕ) (set : List Float) (T : ShiftTables) (work : List ℕ) (l : ℕ × ℕ) (a : Answer) (e : a ≡ judged_compact limit m (length set) 1 (length work) T) where
  pub true_refused : is_refusal a ≡ true → ◌≡◌ {A = Answer × List Float × List ℕ} (a, set, work) (true_transpose limit m set T work l)
  unfolding true_transpose
  true_refused r = refused_call a (swapped (shifts_of T) m l set) set (replicate (length work) 0) work r
      ∙ ap (λ a. (a, after a (swapped (shifts_of T) m l set) set, after a (replicate (length work) 0) work)) e

  pub true_ready : limit ≤ limit2 → is_refusal a ≡ false → Trading m (length set) T
  true_ready h r = trading T h (done_compact limit m (length set) 1 (length work) T (sym e ∙ is_done a r))

  pub true_done : is_refusal a ≡ false → {new : List Float} {clear : List ℕ} → new ≡ swapped (shifts_of T) m l set → clear ≡ replicate (length work) 0
      → ◌≡◌ {A = Answer × List Float × List ℕ} (Ok tt, new, clear) (true_transpose limit m set T work l)
  unfolding true_transpose
  true_done r n c =
      ap₂ (λ x y. (Ok tt, x, y)) n c
      ∙ done_call a (swapped (shifts_of T) m l set) set (replicate (length work) 0) work r
      ∙ ap (λ a. (a, after a (swapped (shifts_of T) m l set) set, after a (replicate (length work) 0) work)) e
