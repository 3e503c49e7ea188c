-- "A flat frame comes out unchanged."
-- Where the weights of a window add up to K, and 2 M times the distance of K from 2^P is under 2^P, a frame that holds one value v up to M everywhere gives v there.
-- M is the largest sample: for 16-bit samples 2 M is 131070, for 8-bit ones 510. The premise is the customer's. Statements only. Assumes nothing.
use Rattle.std.specs.Prelude.{◌≡◌, true, false, List, ℕ, ◌*◌, ◌^◌, ◌≤◌, ◌<◌, ltb, ℤ, pos, nat_abs, length, get_or, Result, ⊤}
use Rattle.lists.specs.Tab.{tab}
use Rattle.integers.specs.Sums.{sum, distance, value}
use Rattle.windows.specs.declared.Store.{Store}
use Rattle.windows.specs.Set.{Stored, windows}
use Rattle.windows.specs.Fit.{bad_stored}
use Rattle.vertical.specs.Frame.{row_of}
use Rattle.refusal.specs.declared.Refusal.{Refusal}
use Rattle.vertical.specs.Passed.{number_of}
use Rattle.vertical.specs.U16.{keeps_flat, passed_u16, written_u16}
use Rattle.vertical_u8.specs.U8.{passed_u8, written_u8}

-- at one window: w are the weights of its n lines, K is their sum
abbrev pub FlatUnchanged : Type 0
FlatUnchanged =
    (w : ℕ → ℤ) (n M P v : ℕ) → 1 ≤ P → 2 * M * distance (sum w n) (pos (2 ^ P)) < 2 ^ P → v ≤ M → value M P w (λ k. v) n ≡ v

-- the premise for 16-bit samples, of window i of a set; and for 8-bit ones
abbrev pub NearOne : Stored → ℕ → Type 0
NearOne s i = keeps_flat 65535 s i ≡ true

abbrev pub NearOneU8 : Stored → ℕ → Type 0
NearOneU8 s i = keeps_flat 255 s i ≡ true

-- the premise can be read off a set whose excesses are right: the excess beside window i is K less 2^P
abbrev pub PremiseOffExcess : Type 0
PremiseOffExcess =
    (M : ℕ) (store : Store) (s : Stored) → bad_stored s store ≡ false → (i : ℕ) → i < windows s.set.layout
    → keeps_flat M s i ≡ ltb (2 * M * nat_abs (get_or s.excesses i (pos 0))) (2 ^ s.precision)

-- every sample of the frame is v
abbrev pub Flat : ℕ → List ℕ → Type 0
Flat v src = (x : ℕ) → x < length src → get_or src x 0 ≡ v

-- of a pass over integers with samples up to M, and the premise of a window
module _ (M : ℕ) (Near : Stored → ℕ → Type 0) (passed : Stored → ℕ → ℕ → ℕ → ℕ → ℕ → Result ⊤ Refusal) (written : Stored → List ℕ → ℕ → ℕ → ℕ → List ℕ → List ℕ) where
  -- row i of what it writes, wherever it does not refuse: v in every place where window i meets the premise, whatever the other windows do
  abbrev pub FlatRowOf : Type 0
  FlatRowOf =
      (s : Stored) (src : List ℕ) (row first count : ℕ) (old : List ℕ) (v : ℕ)
      → number_of (passed s (length src) row first count (length old)) ≡ 0 → v ≤ M → Flat v src
      → (i : ℕ) → i < windows s.set.layout → Near s i → row_of count i (written s src row first count old) ≡ tab 0 count (λ j. v)

  -- the whole frame, where every window meets it
  abbrev pub FlatFrameOf : Type 0
  FlatFrameOf =
      (s : Stored) (src : List ℕ) (row first count : ℕ) (old : List ℕ) (v : ℕ)
      → number_of (passed s (length src) row first count (length old)) ≡ 0 → v ≤ M → Flat v src → ((i : ℕ) → i < windows s.set.layout → Near s i)
      → written s src row first count old ≡ tab 0 (windows s.set.layout * count) (λ k. v)

abbrev pub FlatRow : Type 0
FlatRow = FlatRowOf 65535 NearOne passed_u16 written_u16

abbrev pub FlatFrame : Type 0
FlatFrame = FlatFrameOf 65535 NearOne passed_u16 written_u16

-- with 510 in the place of 131070
abbrev pub FlatRowU8 : Type 0
FlatRowU8 = FlatRowOf 255 NearOneU8 passed_u8 written_u8

abbrev pub FlatFrameU8 : Type 0
FlatFrameU8 = FlatFrameOf 255 NearOneU8 passed_u8 written_u8
