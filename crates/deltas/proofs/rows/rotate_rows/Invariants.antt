use mathlib.Core.Path.{◌≡◌}
use Prim.Native.Nat.{◌*◌, ◌≤◌}
use lib.ListN.{length}
use Rattle.lists.specs.Tab.{times}
use Rattle.deltas.specs.RotateDelta.{deltas_of}
use Rattle.deltas.specs.Rows.{add_pair}
use Rattle.deltas.proofs.rows.rotate_rows.Given as goal

abbrev pub invariant-loop-i : goal.invariant-loop-i
invariant-loop-i g l =
    (l.i ≤ l.num_atom) × (length l.res ≡ length l.initial.res)
    × (l.res ≡ times l.i (λ i. times (l.num_disp * l.num_site_sym) (add_pair (deltas_of l.deltas l.inv_u l.site_sym_cart l.rot_map_syms l.num_atom l.num_site_sym l.num_disp) g.S.Share.atoms i)) l.initial.res)
