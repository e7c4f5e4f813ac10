use Rattle.std.proofs.Common.{◌≡◌, ℕ, ◌≤◌, ◌<◌, ◌⊎◌, inl, inr, false, refl, arith}
use borrow.Author.Tests.{le-leb, lt-leb, eq-eqb, ne_eqb}
use Rattle.roll.specs.Format.{record_ruled}
use Rattle.roll.proofs.judge.is_ruled.Goals as goal

not-ruled : (k n e : ℕ) → (k < 1) ⊎ (((1 ≤ k) × (3 < k)) ⊎ ((1 ≤ k) × (k ≤ 3) × (n < 1))) → false ≡ record_ruled k n e
unfolding record_ruled
not-ruled k n e (inl h) = rw (lt-leb 1 k h) refl
not-ruled k n e (inr (inl h)) = rw (le-leb 1 k h.0, lt-leb k 3 h.1) refl
not-ruled k n e (inr (inr h)) = rw (le-leb 1 k h.0, le-leb k 3 h.1, lt-leb 1 n h.2) refl

pub returns-then-kind-lt1 : goal.returns-then-kind-lt1
returns-then-kind-lt1 c = let a = c.args in not-ruled a.kind a.number a.earlier c.then-kind-lt1.either

pub returns-then-kind : goal.returns-then-kind
unfolding record_ruled
returns-then-kind c =
    let a = c.args in
    rw (le-leb 1 a.kind (omega arith), le-leb a.kind 3 (omega arith), le-leb 1 a.number (omega arith), eq-eqb a.kind 2 (omega arith)) refl

pub returns-else-kind : goal.returns-else-kind
unfolding record_ruled
returns-else-kind c =
    let a = c.args in
    rw (le-leb 1 a.kind (omega arith), le-leb a.kind 3 (omega arith), le-leb 1 a.number (omega arith), ne_eqb a.kind 2 c.if-kind.false) refl
