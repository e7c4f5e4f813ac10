use mathlib.Core.Path.{sym, ap, ◌∙◌}
use Rattle.orbits.specs.Spread.{set_all}
use Rattle.fc3.specs.Spread.{spots-at, six_stores}
use Rattle.fc3.specs.Coinciding.{flat}
use Rattle.fc3.proofs.spots.put_spots.Goals as goal

pub returns : goal.returns
returns c =
    let a = c.args in (
      c.put-6.ensures.0,
      six_stores (flat a.group.now) a.x _ _ _ _ _ _ c.put-6.ensures.1 c.put-5.ensures.1 c.put-4.ensures.1 c.put-3.ensures.1 c.put-2.ensures.1 c.put.ensures.1
          ∙ ap (λ l. set_all l a.x (flat a.group.now)) (sym (spots-at a.s0 a.s1 a.s2 a.s3 a.s4 a.s5 a.l a.m a.n c.requires.2 c.requires.3 c.requires.4)),
    )
