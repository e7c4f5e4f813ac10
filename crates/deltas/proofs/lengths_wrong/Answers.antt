use mathlib.Core.Path.{refl, ap}
use mathlib.Core.Bool.{not}
use native.Mathlib.Omega.{arith}
use borrow.Author.Tests.{eq-eqb, ne_eqb}
use Rattle.deltas.specs.Guard.{sizes}
use Rattle.lists.specs.Tests.{or-here, or-next}
use Rattle.deltas.proofs.lengths_wrong.Goals as goal

pub overflow_mul-total : goal.overflow_mul-total
overflow_mul-total c = let a = c.args in let z = sizes a.b a.w a.num_atom a.num_site_sym a.num_disp c.requires in omega arith

pub overflow_mul-b : goal.overflow_mul-b
overflow_mul-b c = let a = c.args in let z = sizes a.b a.w a.num_atom a.num_site_sym a.num_disp c.requires in omega arith

pub returns-then-res-b : goal.returns-then-res-b
returns-then-res-b c =
    or-here _ _ (ap not (ne_eqb _ _ c.if-res-b.true))

pub overflow_mul-num_disp : goal.overflow_mul-num_disp
overflow_mul-num_disp c = let a = c.args in let z = sizes a.b a.w a.num_atom a.num_site_sym a.num_disp c.requires in omega arith

pub overflow_mul-num_disp-2 : goal.overflow_mul-num_disp-2
overflow_mul-num_disp-2 c = let a = c.args in let z = sizes a.b a.w a.num_atom a.num_site_sym a.num_disp c.requires in omega arith

pub returns-then-deltas-num_disp : goal.returns-then-deltas-num_disp
returns-then-deltas-num_disp c =
    or-next _ _ (ap not (eq-eqb _ _ c.if-res-b.false))
    (or-here _ _ (ap not (ne_eqb _ _ c.if-deltas-num_disp.true)))

pub overflow_mul-total-2 : goal.overflow_mul-total-2
overflow_mul-total-2 c = let a = c.args in let z = sizes a.b a.w a.num_atom a.num_site_sym a.num_disp c.requires in omega arith

pub returns-then-inv_u-total : goal.returns-then-inv_u-total
returns-then-inv_u-total c =
    or-next _ _ (ap not (eq-eqb _ _ c.if-res-b.false))
    (or-next _ _ (ap not (eq-eqb _ _ c.if-deltas-num_disp.false))
    (or-here _ _ (ap not (ne_eqb _ _ c.if-inv_u-total.true))))

pub returns-then-site_sym_cart-num_site_sym : goal.returns-then-site_sym_cart-num_site_sym
returns-then-site_sym_cart-num_site_sym c =
    or-next _ _ (ap not (eq-eqb _ _ c.if-res-b.false))
    (or-next _ _ (ap not (eq-eqb _ _ c.if-deltas-num_disp.false))
    (or-next _ _ (ap not (eq-eqb _ _ c.if-inv_u-total.false))
    (or-here _ _ (ap not (ne_eqb _ _ c.if-site_sym_cart-num_site_sym.true)))))

pub overflow_mul-num_site_sym-2 : goal.overflow_mul-num_site_sym-2
overflow_mul-num_site_sym-2 c = let a = c.args in let z = sizes a.b a.w a.num_atom a.num_site_sym a.num_disp c.requires in omega arith

pub returns-then-rot_map_syms-num_site_sym : goal.returns-then-rot_map_syms-num_site_sym
returns-then-rot_map_syms-num_site_sym c =
    or-next _ _ (ap not (eq-eqb _ _ c.if-res-b.false))
    (or-next _ _ (ap not (eq-eqb _ _ c.if-deltas-num_disp.false))
    (or-next _ _ (ap not (eq-eqb _ _ c.if-inv_u-total.false))
    (or-next _ _ (ap not (eq-eqb _ _ c.if-site_sym_cart-num_site_sym.false))
    (or-here _ _ (ap not (ne_eqb _ _ c.if-rot_map_syms-num_site_sym.true))))))

pub overflow_mul-total-3 : goal.overflow_mul-total-3
overflow_mul-total-3 c = let a = c.args in let z = sizes a.b a.w a.num_atom a.num_site_sym a.num_disp c.requires in omega arith

pub returns-then-rot_delta-total : goal.returns-then-rot_delta-total
returns-then-rot_delta-total c =
    or-next _ _ (ap not (eq-eqb _ _ c.if-res-b.false))
    (or-next _ _ (ap not (eq-eqb _ _ c.if-deltas-num_disp.false))
    (or-next _ _ (ap not (eq-eqb _ _ c.if-inv_u-total.false))
    (or-next _ _ (ap not (eq-eqb _ _ c.if-site_sym_cart-num_site_sym.false))
    (or-next _ _ (ap not (eq-eqb _ _ c.if-rot_map_syms-num_site_sym.false))
    (or-here _ _ (ap not (ne_eqb _ _ c.if-rot_delta-total.true)))))))

pub returns : goal.returns
returns c =
    or-next _ _ (ap not (eq-eqb _ _ c.if-res-b.false))
    (or-next _ _ (ap not (eq-eqb _ _ c.if-deltas-num_disp.false))
    (or-next _ _ (ap not (eq-eqb _ _ c.if-inv_u-total.false))
    (or-next _ _ (ap not (eq-eqb _ _ c.if-site_sym_cart-num_site_sym.false))
    (or-next _ _ (ap not (eq-eqb _ _ c.if-rot_map_syms-num_site_sym.false))
    (or-next _ _ (ap not (eq-eqb _ _ c.if-rot_delta-total.false))
    refl)))))
