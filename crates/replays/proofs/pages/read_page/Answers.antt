use Rattle.std.proofs.Common.{◌≡◌, ℕ, ◌+◌, ◌-◌, ◌≤◌, List, ◌++◌, length, take, drop, sym, ap, ◌∙◌, subst, arith, le_refl, rules, drop_at, length-take-le}
use Rattle.std.proofs.lemmas.Slice.{take-put_mid_below}
use Rattle.std.specs.Io.KnownBytes.{Consumes}
use Rattle.std.proofs.KnownBytes.{Consumes-nil, Consumes-trans}
use borrow.Rule.Slice.PartMut.{put_mid, post_of}
use lib.Seq.{take-add, take-append-le}
use Rattle.replays.proofs.pages.read_page.Goals as goal

-- xs up to a, and then n bytes of what its part from a on holds now
filled : (a k n : ℕ) (xs ys : List ℕ) → a ≤ length xs → n ≤ length ys → take a xs ++ take n ys ≡ take (a + n) (put_mid a k xs ys)
filled a k n xs ys within fits =
    let front = take-put_mid_below a k xs ys a (le_refl a) within in
    let rest = drop_at (take a xs) (ys ++ post_of a k xs) a (length-take-le a xs within) in
    let part = ap (take n) rest ∙ take-append-le n ys (post_of a k xs) fits in
    sym (take-add a n (put_mid a k xs ys) ∙ ap (λ l. l ++ take n (drop a (put_mid a k xs ys))) front ∙ ap (λ l. take a xs ++ l) part)

pub loop-done-init : goal.loop-done-init
loop-done-init g c = (omega arith, Consumes-nil _)

pub loop-done-preserved : goal.loop-done-preserved
loop-done-preserved g c =
    let l = c.loop-done in
    let room = length l.page - l.done in
    let e = filled l.done room c.in_ok-n.n l.page c.read.new.buf l.invariant.0 c.in_ok-n.ensures.bound.0 in
    (search rules, subst (Consumes _ _) e (Consumes-trans _ _ _ _ _ l.invariant.1 c.in_ok-n.ensures.bytes.0))

pub returns-then-n-eq0-clause-bytes : goal.returns-then-n-eq0-clause-bytes
returns-then-n-eq0-clause-bytes g c =
    let l = c.loop-done in
    let room = length l.page - l.done in
    let same : l.done + c.in_ok-n.n ≡ l.done = omega arith in
    let e = filled l.done room c.in_ok-n.n l.page c.read.new.buf l.invariant.0 c.in_ok-n.ensures.bound.0 ∙ ap (λ m. take m (put_mid l.done room l.page c.read.new.buf)) same in
    subst (Consumes _ _) e (Consumes-trans _ _ _ _ _ l.invariant.1 c.in_ok-n.ensures.bytes.0)
