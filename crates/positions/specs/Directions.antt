-- What the table says (document 02, A.5): for a permutation and a position, where the four directions of the position stand after they are
-- permuted so. The entry lies in the block, and no two positions have the same. Assumes nothing.
use Rattle.std.specs.Prelude.{◌≡◌, refl, ℕ, ◌+◌, ◌*◌, ◌<◌, List, [], ◌∷◌, length, get_or}
use Rattle.std.proofs.Common.{sym, ap, ◌∙◌, suc-ne-zero, arith}
use Rattle.std.proofs.Math.Nat.{suc_inj}
use Rattle.lists.specs.Elements.{pick}
use Rattle.lists.specs.Digits.{horner, digits, digits-horner}
use Rattle.blocks.specs.Permuted.{permuted}
use Rattle.positions.specs.Positions.{permutation_at, address_table, is_permutation_lem, permuted_in, at_entry}
use Rattle.positions.specs.Inverses.{inverse_of, inverse-below, there, back}

-- the entry of permutation s and position k
abbrev pub address_at : ℕ → ℕ → ℕ
address_at s k = get_or address_table (s * 81 + k) 0

-- the address of four directions
abbrev pub address4 : ℕ → ℕ → ℕ → ℕ → ℕ
address4 a b c d = 27 * a + 9 * b + 3 * c + d

-- of the directions ds the one that stands at place i in permutation s
abbrev pub directions_at : ℕ → List ℕ → ℕ → ℕ
directions_at s ds i = get_or ds (get_or (permutation_at s) i 0) 0

-- four elements picked, one by one
pick-four : (σ ds : List ℕ) → length σ ≡ 4
    → pick 0 σ ds ≡ get_or ds (get_or σ 0 0) 0 ∷ get_or ds (get_or σ 1 0) 0 ∷ get_or ds (get_or σ 2 0) 0 ∷ get_or ds (get_or σ 3 0) 0 ∷ []
unfolding pick
pick-four [] ds e = absurd (suc-ne-zero _ (sym e))
pick-four (i ∷ []) ds e = absurd (suc-ne-zero _ (sym (suc_inj e)))
pick-four (i ∷ j ∷ []) ds e = absurd (suc-ne-zero _ (sym (suc_inj (suc_inj e))))
pick-four (i ∷ j ∷ k ∷ []) ds e = absurd (suc-ne-zero _ (sym (suc_inj (suc_inj (suc_inj e)))))
pick-four (i ∷ j ∷ k ∷ l ∷ []) ds e = refl
pick-four (i ∷ j ∷ k ∷ l ∷ m ∷ σ) ds e = absurd (suc-ne-zero _ (suc_inj (suc_inj (suc_inj (suc_inj e)))))

horner-four : (a b c d : ℕ) → horner 3 0 (a ∷ b ∷ c ∷ d ∷ []) ≡ address4 a b c d
unfolding horner
horner-four a b c d = omega arith

-- THE RULE, at every entry
pub entry_is_address : (s a b c d : ℕ) → s < 24 → a < 3 → b < 3 → c < 3 → d < 3
    → let ds = a ∷ b ∷ c ∷ d ∷ [] in
    address_at s (address4 a b c d) ≡ address4 (directions_at s ds 0) (directions_at s ds 1) (directions_at s ds 2) (directions_at s ds 3)
unfolding permuted
entry_is_address s a b c d hs ha hb hc hd =
    let ds = a ∷ b ∷ c ∷ d ∷ [] in
    let σ = permutation_at s in
    let f : digits 3 4 (address4 a b c d) ≡ ds = ap (digits 3 4) (sym (horner-four a b c d)) ∙ digits-horner 3 0 ds (ha, (hb, (hc, (hd, tt)))) in
    at_entry address_table refl s (address4 a b c d) hs (omega arith)
    ∙ ap (λ l. horner 3 0 (pick 0 σ l)) f
    ∙ ap (horner 3 0) (pick-four σ ds (is_permutation_lem s hs).0)
    ∙ horner-four (directions_at s ds 0) (directions_at s ds 1) (directions_at s ds 2) (directions_at s ds 3)

-- every entry is a position of the block
pub entry-below : (s k : ℕ) → s < 24 → k < 81 → address_at s k < 81
entry-below s k hs hk = rw (at_entry address_table refl s k hs hk) (permuted_in s k hs hk)

-- the entries of a permutation are undone by those of its inverse, and the other way round: every position is an entry
pub entry-undone : (s k : ℕ) → s < 24 → k < 81 → address_at (inverse_of s) (address_at s k) ≡ k
entry-undone s k hs hk =
    let e : address_at s k ≡ permuted 3 (permutation_at s) k = at_entry address_table refl s k hs hk in
    ap (address_at (inverse_of s)) e
    ∙ at_entry address_table refl (inverse_of s) (permuted 3 (permutation_at s) k) (inverse-below s hs) (permuted_in s k hs hk) ∙ back s k hs hk

pub entry-undoes : (s k : ℕ) → s < 24 → k < 81 → address_at s (address_at (inverse_of s) k) ≡ k
entry-undoes s k hs hk =
    let i = inverse-below s hs in
    let e : address_at (inverse_of s) k ≡ permuted 3 (permutation_at (inverse_of s)) k = at_entry address_table refl (inverse_of s) k i hk in
    ap (address_at s) e
    ∙ at_entry address_table refl s (permuted 3 (permutation_at (inverse_of s)) k) hs (permuted_in (inverse_of s) k i hk) ∙ there s k hs hk

-- no position comes twice: with entry-below, the 81 entries of a permutation are the 81 positions in another order
pub entry-once : (s k l : ℕ) → s < 24 → k < 81 → l < 81 → address_at s k ≡ address_at s l → k ≡ l
entry-once s k l hs hk hl e = sym (entry-undone s k hs hk) ∙ ap (address_at (inverse_of s)) e ∙ entry-undone s l hs hl
