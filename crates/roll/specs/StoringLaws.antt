-- What the appender's stores make, one after the other. Assumes nothing.
use Rattle.std.specs.Prelude.{◌≡◌, List, [], ◌∷◌, ◌++◌, ℕ, ◌+◌, ◌*◌, ◌/◌, ◌%◌, ◌≤◌, ◌<◌, length, take, drop}
use Rattle.std.proofs.Common.{sym, ◌∙◌, append_assoc, add-zero, arith, take-append-drop, length-append}
use Rattle.std.proofs.Math.Path.{ap}
use Rattle.std.proofs.Math.ListN.{get_or}
use Rattle.lists.specs.Tab.{tab, tab_from}
use Rattle.roll.specs.Format.{entry, bytes_of, in_four, in_fours}
use Rattle.roll.specs.Reading.{record_start, size_at}
use Rattle.roll.specs.Laid.{laid, laid-laid, get_or-laid}
use Rattle.roll.specs.NumberLaws.{fours_tab, length_fours_tab}
use Rattle.roll.specs.StartLaws.{head-before}

-- a number, byte by byte
pub four-laid : (s z : List ℕ) (at n a b c d : ℕ) → a ≡ n % 256 → b ≡ n / 256 % 256 → c ≡ n / 65536 % 256 → d ≡ n / 16777216 % 256
    → z ≡ laid s at (a ∷ b ∷ c ∷ d ∷ []) → z ≡ laid s at (in_four n)
four-laid s z at n a b c d e f g h p = rw (← e, ← f, ← g, ← h) p

-- a record: its head of ten bytes, and its label
pub record_stored : (s y z : List ℕ) (at kind set earlier : ℕ) (label : List ℕ) (a b c d e f g h l : ℕ)
    → a ≡ set % 256 → b ≡ set / 256 % 256 → c ≡ set / 65536 % 256 → d ≡ set / 16777216 % 256
    → e ≡ earlier % 256 → f ≡ earlier / 256 % 256 → g ≡ earlier / 65536 % 256 → h ≡ earlier / 16777216 % 256 → l ≡ length label % 256
    → length label ≤ 255 → at + 10 ≤ length s
    → y ≡ laid s at (kind ∷ a ∷ b ∷ c ∷ d ∷ e ∷ f ∷ g ∷ h ∷ l ∷ []) → z ≡ laid y (at + 10) label → z ≡ laid s at (bytes_of (entry kind set earlier label))
record_stored s y z at kind set earlier label a b c d e f g h l pa pb pc pd pe pf pg ph pl small fits py pz =
    let n : l ≡ length label = omega arith in
    let head : y ≡ laid s at (kind ∷ (in_four set ++ (in_four earlier ++ (length label ∷ [])))) = rw (← pa, ← pb, ← pc, ← pd, ← pe, ← pf, ← pg, ← ph, ← n) py in
    pz ∙ ap (λ x. laid x (at + 10) label) head
    ∙ laid-laid s at (kind ∷ (in_four set ++ (in_four earlier ++ (length label ∷ [])))) fits label

-- the starts, one after the other
pub no-starts : (s : List ℕ) (t : ℕ) → s ≡ laid s t (in_fours (tab 0 (record_start s)))
unfolding laid in_fours tab tab_from
no-starts s t = sym (ap (λ n. take t s ++ drop n s) (add-zero t) ∙ take-append-drop t s)

module _ (s : List ℕ) (n t : ℕ) (ends : record_start s n ≡ t) (room : t + 4 * n ≤ length s) where
  pub more-starts : (y z : List ℕ) (i at p : ℕ) → i < n → at ≡ record_start s i → p ≡ t + 4 * i → y ≡ laid s t (in_fours (tab i (record_start s))) → z ≡ laid y p (in_four at)
      → z ≡ laid s t (in_fours (tab (i + 1) (record_start s)))
  more-starts y z i at p h e g f q =
      let X = in_fours (tab i (record_start s)) in
      let l : length X ≡ 4 * i = length_fours_tab i (record_start s) in
      let m : p ≡ t + length X = omega arith in
      q ∙ ap (λ x. laid x p (in_four at)) f ∙ ap (λ k. laid (laid s t X) k (in_four at)) m
      ∙ laid-laid s t X (omega arith) (in_four at) ∙ ap (λ k. laid s t (X ++ in_four k)) e ∙ ap (laid s t) (fours_tab i (record_start s))

  -- the records before the trailer are as they were
  pub still : (z : List ℕ) (i at : ℕ) → i < n → at ≡ record_start s i → z ≡ laid s t (in_fours (tab (i + 1) (record_start s))) → at + size_at z at ≡ at + size_at s at
  unfolding size_at
  still z i at h e q =
      let l = length_fours_tab (i + 1) (record_start s) in
      ap (λ x. at + (10 + get_or x (at + 9) 0)) q ∙ ap (λ w. at + (10 + w)) (get_or-laid s t (in_fours (tab (i + 1) (record_start s))) (omega arith) (at + 9) (omega (arith, head-before s i n h)))

-- the starts, the count and the trailer's place
pub trailer_stored : (s w y z : List ℕ) (n t p : ℕ) → t + 4 * n + 8 ≤ length s → p ≡ t + 4 * n → w ≡ laid s t (in_fours (tab n (record_start s))) → y ≡ laid w p (in_four n)
    → z ≡ laid y (p + 4) (in_four t) → z ≡ laid s t (in_fours (tab n (record_start s)) ++ (in_four n ++ in_four t))
trailer_stored s w y z n t p room at f q r =
    let X = in_fours (tab n (record_start s)) in
    let l : length X ≡ 4 * n = length_fours_tab n (record_start s) in
    let m : p ≡ t + length X = omega arith in
    let k : p + 4 ≡ t + length (X ++ in_four n) = omega (arith, length-append X (in_four n)) in
    let e : y ≡ laid s t (X ++ in_four n) =
    q ∙ ap (λ x. laid x p (in_four n)) f ∙ ap (λ k. laid (laid s t X) k (in_four n)) m ∙ laid-laid s t X (omega arith) (in_four n) in
    r ∙ ap (λ x. laid x (p + 4) (in_four t)) e ∙ ap (λ k. laid (laid s t (X ++ in_four n)) k (in_four t)) k
    ∙ laid-laid s t (X ++ in_four n) (omega (arith, length-append X (in_four n))) (in_four t) ∙ ap (laid s t) (append_assoc X (in_four n) (in_four t))
