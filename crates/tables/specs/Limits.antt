-- The limits of document 01 ("Limits"), in one table; src/limits.rt has the same numbers for the code.
-- Assumes nothing.
use Rattle.std.specs.Prelude.{ℕ}

-- atoms, n_patom, num_first and num_trans at second order, and num_pos in matching
abbrev pub limit2 : ℕ
limit2 = 1024

-- the same counts at third order
abbrev pub limit3 : ℕ
limit3 = 256

-- the same counts at fourth order
abbrev pub limit4 : ℕ
limit4 = 64

-- the level of a second-order symmetrizer
abbrev pub limit_level : ℕ
limit_level = 1000

-- list length, num_rot, num_disp, num_site_sym
abbrev pub limit_list : ℕ
limit_list = 1024
