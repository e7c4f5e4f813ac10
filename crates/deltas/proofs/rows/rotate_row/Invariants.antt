use mathlib.Core.Path.{◌≡◌}
use Prim.Native.Nat.{◌*◌, ◌≤◌}
use lib.ListN.{length}
use Rattle.lists.specs.Tab.{times}
use Rattle.deltas.specs.RotateDelta.{deltas_of}
use Rattle.deltas.specs.Rows.{add_pair}
use Rattle.deltas.proofs.rows.rotate_row.Given as goal

abbrev pub invariant-loop-n : goal.invariant-loop-n
invariant-loop-n g l =
    (l.n ≤ l.num_disp * l.num_site_sym) × (length l.res ≡ length l.initial.res)
    × (l.res ≡ times l.n (add_pair (deltas_of l.deltas l.inv_u l.site_sym_cart l.rot_map_syms l.num_atom l.num_site_sym l.num_disp) g.S.Share.atoms l.i) l.initial.res)
