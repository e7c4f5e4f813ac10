-- The symmetrizer's loop, as the program runs it: over blocks from first to last, with a table of blocks that are done; a group is worked out at its first block
-- and written to all its places, direction by direction. The invariant says in closed form what the set and the table hold after n blocks.
-- It is all about addresses: `imgs q` are the addresses of the legs at q in every permutation. Assumes nothing.
use Rattle.std.specs.Prelude.{◌≡◌, Bool, ◌||◌, length, set, eqb}
use Rattle.std.proofs.Math.Path.{refl}
use Rattle.std.proofs.Common.{◌∙◌, get_or-set_same, get_or-set_other, eqb-true, eq-eqb, ne_eqb}
use Rattle.std.proofs.Math.Bool.{true, false, cond}
use Prim.Native.Nat.{ℕ, zero, suc, ◌+◌, ◌*◌, ◌/◌, ◌<◌}
use Rattle.std.proofs.Math.Decide.{ℕ_discrete}
use mathlib.Core.List.{List, [], ◌∷◌, map}
use Rattle.std.proofs.Math.ListN.{get_or, length-set}
use Rattle.std.proofs.Math.Dec.{ltb}
use Rattle.lists.specs.Members.{In, Sub, one_of, one_of_lem, one_of_in}
use Rattle.orbits.specs.Symmetric.{first_block, leader}

-- a byte of the done table
abbrev pub flag : Bool → ℕ
flag true = 1
flag false = 0

-- ---- the program

-- v stored at each of the places, in turn
unfoldable pub set_all : {A : Type 0} → List ℕ → A → List A → List A
set_all [] v l = l
set_all (r ∷ rs) v l = set_all rs v (set l r v)

module _ {A : Type 0} (z : A) (mean : List A → A) (c : ℕ) (imgs : ℕ → List ℕ) where
  -- the mean worked out at q
  unfoldable pub mean_of : List A → ℕ → A
  mean_of l q = mean (map (λ r. get_or l r z) (imgs q))

  -- the first k directions of block n written, with the means of the set l
  unfoldable pub spread : List A → ℕ → ℕ → List A
  spread l n zero = l
  spread l n (suc k) = set_all (imgs (n * c + k)) (mean_of l (n * c + k)) (spread l n k)

-- ---- stores to several places

unfoldable pub has : ℕ → List ℕ → Bool
has q rs = one_of (eqb q) rs

pub has_in : (q : ℕ) (rs : List ℕ) → has q rs ≡ true → In q rs
unfolding has
has_in q rs e = let (r, i, h) = one_of_lem (eqb q) rs e in rw (eqb-true q r h) i

pub in_has : (q : ℕ) (rs : List ℕ) → In q rs → has q rs ≡ true
unfolding has
in_has q rs i = one_of_in (eqb q) rs q i (eq-eqb q q refl)

module _ {A : Type 0} where
  pub length-set_all : (rs : List ℕ) (v : A) (l : List A) → length (set_all rs v l) ≡ length l
  unfolding set_all
  length-set_all [] v l = refl
  length-set_all (r ∷ rs) v l = length-set_all rs v (set l r v) ∙ length-set l r v

  pub get_or-set_all : (rs : List ℕ) (v : A) (l : List A) (q : ℕ) (d : A) → q < length l → get_or (set_all rs v l) q d ≡ cond (has q rs) v (get_or l q d)
  unfolding set_all has one_of
  get_or-set_all [] v l q d h = refl
  get_or-set_all (r ∷ rs) v l q d h = get_or-set_all rs v (set l r v) q d (rw (length-set l r v) h) ∙ go (ℕ_discrete q r) (one_of (eqb q) rs)
    where
      go : Dec (q ≡ r) → (b : Bool) → cond b v (get_or (set l r v) q d) ≡ cond (eqb q r || b) v (get_or l q d)
      go (yes e) true = rw (eq-eqb q r e)
      go (yes e) false = rw (eq-eqb q r e, ← e) (get_or-set_same l q v d h)
      go (no e) true = rw (ne_eqb q r e)
      go (no e) false = rw (ne_eqb q r e) (get_or-set_other l r q v d e)

-- ---- the groups: N addresses in B blocks of c; imgs q are the addresses of the legs at q in every permutation

pub record Groups : Type 0 where
  pub N : ℕ
  pub B : ℕ
  pub c : ℕ
  pub imgs : ℕ → List ℕ

pub record Orbits (G : Groups) : Type 0 where
  pub pos : 0 < G.c
  pub whole : G.N ≡ G.B * G.c
  pub own : (q : ℕ) → q < G.N → In q (G.imgs q)
  pub inside : (q r : ℕ) → q < G.N → In r (G.imgs q) → r < G.N
  -- the images of an image are the images
  pub there : (q r : ℕ) → q < G.N → In r (G.imgs q) → Sub (G.imgs r) (G.imgs q)
  pub back : (q r : ℕ) → q < G.N → In r (G.imgs q) → Sub (G.imgs q) (G.imgs r)
  -- which blocks are met does not depend on the place within the block
  pub blocks : (q r : ℕ) → q < G.N → r < G.N → q / G.c ≡ r / G.c → Sub (map (λ a. a / G.c) (G.imgs q)) (map (λ a. a / G.c) (G.imgs r))

-- the first block, and the leader, of the group of q; the blocks of the group of block n
abbrev pub fb_of : Groups → ℕ → ℕ
fb_of G q = first_block G.c (G.imgs q)

abbrev pub lead_of : Groups → ℕ → ℕ
lead_of G q = leader G.c (G.imgs q)

abbrev pub blocks_of : Groups → ℕ → List ℕ
blocks_of G n = map (λ r. r / G.c) (G.imgs (n * G.c))

-- what the place q holds at the end
abbrev pub new_of : {A : Type 0} → Groups → A → (List A → A) → List A → ℕ → A
new_of G z mean old q = mean_of z mean G.c G.imgs old (lead_of G q)

-- THE INVARIANT: after n blocks the groups whose first block is below n are written, and nothing else is
pub record Written {A : Type 0} (G : Groups) (z : A) (mean : List A → A) (old : List A) (n : ℕ) (l : List A) : Type 0 where
  pub size_set : length l ≡ G.N
  pub numbers : (q : ℕ) → q < G.N → get_or l q z ≡ cond (ltb (fb_of G q) n) (new_of G z mean old q) (get_or old q z)

-- and their blocks are marked in the done table, where there is one
pub record Marked (G : Groups) (n : ℕ) (done : List ℕ) : Type 0 where
  pub size_done : length done ≡ G.B
  pub marks : (b : ℕ) → b < G.B → get_or done b 0 ≡ flag (ltb (fb_of G (b * G.c)) n)
