-- The images of the representatives, placed one after another.
-- Assumes nothing.
use mathlib.Core.Path.{◌≡◌, refl, sym, ap, ◌∙◌}
use mathlib.Core.List.{List}
use mathlib.Core.Logic.{◌⊎◌, inl, inr}
use Prim.Native.Nat.{ℕ, ◌+◌, ◌<◌}
use native.Mathlib.Omega.{arith}
use lib.IntN.{ℤ}
use lib.ListN.{length, get_or, set, replicate, length-set, length-replicate}
use lib.Seq.{get_or-set_other, get_or-set_same}
use borrow.Author.Count.{below_more}
use Rattle.lists.specs.Cases.{eq_or_ne}
use Rattle.tables.specs.Conditions.{index_at}
use Rattle.shifts.specs.Rows.{image}
use Rattle.shifts.proofs.Generators.{get_or-zeros}
use Rattle.shifts.specs.Placing.{Placing, Placed, Fresh, Spread}

pub none-placing : (n a p : ℕ) (perms s2pp : List ℤ) (old : List ℕ) → length old ≡ 1024 → Placing n 0 a p perms s2pp old old
none-placing n a p perms s2pp old e =
    record { size = e; kept = λ t h. absurd (omega arith); names = λ t h. absurd (omega arith); named = λ x. inl refl }

module _ (n k a p : ℕ) (perms s2pp : List ℤ) (old new : List ℕ) (L : Placing n k a p perms s2pp old new) where
  pub placing-more : image perms n k a < 1024 → index_at s2pp (image perms n k a) ≡ p → get_or new (image perms n k a) 0 ≡ 0
      → Placing n (k + 1) a p perms s2pp old (set new (image perms n k a) (k + 1))
  placing-more h q z =
      record {
        size = length-set new (image perms n k a) (k + 1) ∙ L.size;
        kept = below_more (λ t. index_at s2pp (image perms n t a) ≡ p) k L.kept q;
        names =
            below_more (λ t. get_or (set new (image perms n k a) (k + 1)) (image perms n t a) 0 ≡ t + 1) k
            (λ t b. get_or-set_other new (image perms n k a) (image perms n t a) (k + 1) 0
            (λ e. let f : get_or new (image perms n t a) 0 ≡ get_or new (image perms n k a) 0 = ap (λ x. get_or new x 0) e in omega (arith, L.names t b))
            ∙ L.names t b)
            (get_or-set_same new (image perms n k a) (k + 1) 0 (rw L.size h));
        named = λ x. at x (eq_or_ne x (image perms n k a)) (L.named x);
      }
    where
      at : (x : ℕ) → (x ≡ image perms n k a) ⊎ (x ≡ image perms n k a → ⊥)
          → (get_or new x 0 ≡ get_or old x 0) ⊎ ((t : ℕ) × (t < k) × (image perms n t a ≡ x))
          → (get_or (set new (image perms n k a) (k + 1)) x 0 ≡ get_or old x 0) ⊎ ((t : ℕ) × (t < k + 1) × (image perms n t a ≡ x))
      at x (inl e) d = inr (k, omega arith, sym e)
      at x (inr e) (inl d) = inl (get_or-set_other new (image perms n k a) x (k + 1) 0 e ∙ d)
      at x (inr e) (inr (t, ht, d)) = inr (t, omega arith, d)

  -- a second entry at one place
  pub placing-twice : (m : ℕ) → k < m → Fresh p s2pp old → Spread n m perms s2pp a p → (get_or new (image perms n k a) 0 ≡ 0 → ⊥) → ⊥
  placing-twice m hk F O z = at (L.named (image perms n k a))
    where
      at : (get_or new (image perms n k a) 0 ≡ get_or old (image perms n k a) 0) ⊎ ((t : ℕ) × (t < k) × (image perms n t a ≡ image perms n k a)) → ⊥
      at (inl e) = z (e ∙ F (image perms n k a) (O.0 k hk))
      at (inr (t, ht, e)) = let same : t ≡ k = O.1 t k (omega arith) hk e in omega arith

pub none-placed : (n m : ℕ) (perms p2s s2pp : List ℤ) → Placed n m 0 perms p2s s2pp (replicate 1024 0)
none-placed n m perms p2s s2pp =
    record { size = length-replicate {A = ℕ} 1024 0; kept = λ p t h. absurd (omega arith); names = λ p t h. absurd (omega arith); named = λ x h. absurd (h (get_or-zeros 1024 x)) }

module _ (n m k : ℕ) (perms p2s s2pp : List ℤ) (sent : List ℕ) (L : Placed n m k perms p2s s2pp sent) where
  pub placed-fresh : Fresh k s2pp sent
  placed-fresh x e = at (eq_or_ne (get_or sent x 0) 0)
    where
      at : (get_or sent x 0 ≡ 0) ⊎ (get_or sent x 0 ≡ 0 → ⊥) → get_or sent x 0 ≡ 0
      at (inl z) = z
      at (inr d) =
          let (p, hp, t, ht, q) = L.named x d in
          let o : p ≡ k = sym (L.kept p t hp ht) ∙ ap (index_at s2pp) q ∙ e in
          absurd (omega arith)

  placed-next : (new : List ℕ) → Placing n m (index_at p2s k) k perms s2pp sent new → Placed n m (k + 1) perms p2s s2pp new
  placed-next new N =
      record {
        size = N.size;
        kept = λ p t hp ht. below_more (λ p. index_at s2pp (image perms n t (index_at p2s p)) ≡ p) k (λ p hp. L.kept p t hp ht) (N.kept t ht) p hp;
        names = λ p t hp ht. below_more (λ p. get_or new (image perms n t (index_at p2s p)) 0 ≡ t + 1) k (λ p hp. old p t hp ht (N.named (image perms n t (index_at p2s p)))) (N.names t ht) p hp;
        named = λ x z. at x z (N.named x);
      }
    where
      old : (p t : ℕ) → p < k → t < m
          → (get_or new (image perms n t (index_at p2s p)) 0 ≡ get_or sent (image perms n t (index_at p2s p)) 0)
          ⊎ ((u : ℕ) × (u < m) × (image perms n u (index_at p2s k) ≡ image perms n t (index_at p2s p)))
          → get_or new (image perms n t (index_at p2s p)) 0 ≡ t + 1
      old p t hp ht (inl e) = e ∙ L.names p t hp ht
      old p t hp ht (inr (u, hu, e)) =
          let o : k ≡ p = sym (N.kept u hu) ∙ ap (index_at s2pp) e ∙ L.kept p t hp ht in
          absurd (omega arith)

      at : (x : ℕ) → (get_or new x 0 ≡ 0 → ⊥) → (get_or new x 0 ≡ get_or sent x 0) ⊎ ((u : ℕ) × (u < m) × (image perms n u (index_at p2s k) ≡ x))
          → (p : ℕ) × (p < k + 1) × (t : ℕ) × (t < m) × (image perms n t (index_at p2s p) ≡ x)
      at x z (inl e) = let (p, hp, t, ht, q) = L.named x (λ y. z (e ∙ y)) in (p, omega arith, t, ht, q)
      at x z (inr (u, hu, e)) = (k, omega arith, u, hu, e)

  pub placed-more : (new : List ℕ) (a : ℕ) → a ≡ index_at p2s k → Placing n m a k perms s2pp sent new → Placed n m (k + 1) perms p2s s2pp new
  placed-more new a e N = placed-next new (rw e at N)
