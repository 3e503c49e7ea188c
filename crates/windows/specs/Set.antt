-- Windows over camera lines, the weights that stand in their slots, and a set that was stored as integers, with how their lists are read. Cited by the contracts
-- of the normalisers, the passes and the sheet writer, and by the promises. Definitions only. Assumes nothing.
use Rattle.std.specs.Prelude.{Bool, cond, List, ℕ, ◌+◌, ◌*◌, ◌/◌, ◌%◌, ◌^◌, ltb, ℤ, pos, ◌-ℤ◌, length, get_or}
use Rattle.integers.specs.Sums.{sum, distance}

-- windows over `lines` camera lines, one for each display line: its first camera line in `starts`, its count of lines in `sizes`; each has `window_size_value` slots
pub record Layout : Type 0 where
  pub lines : ℕ
  pub window_size_value : ℕ
  pub starts : List ℕ
  pub sizes : List ℕ

abbrev pub layout_of : ℕ → ℕ → List ℕ → List ℕ → Layout
layout_of lines window_size_value starts sizes = record {
  lines = lines;
  window_size_value = window_size_value;
  starts = starts;
  sizes = sizes;
}

-- slot k is in use: its place in its window is below the window's size
abbrev pub in_use_value : ℕ → List ℕ → ℕ → Bool
in_use_value window_size_value sizes k = ltb (k % window_size_value) (get_or sizes (k / window_size_value) 0)

module _ (l : Layout) where
  -- how many windows, which is how many display lines
  abbrev pub windows : ℕ
  windows = length l.starts

  -- the first camera line of window i, and how many it has
  abbrev pub start : ℕ → ℕ
  start i = get_or l.starts i 0

  abbrev pub size : ℕ → ℕ
  size i = get_or l.sizes i 0

  -- the sample of line k of window i at column j, of a frame given by camera line and column
  abbrev pub sample : {A : Type 0} → (ℕ → ℕ → A) → ℕ → ℕ → ℕ → A
  sample frame i j k = frame (start i + k) j

-- a layout with weights in its slots, window after window
pub record Set (W : Type 0) : Type 0 where
  pub layout : Layout
  pub weights : List W

abbrev pub set_of : {W : Type 0} → Layout → List W → Set W
set_of layout weights = record { layout = layout; weights = weights }

-- the weight of line k of window i; d stands for a slot that is not there
abbrev pub weight : {W : Type 0} → Set W → W → ℕ → ℕ → W
weight s d i k = get_or s.weights (i * s.layout.window_size_value + k) d

-- the list that a set's weights are lent in: of the 32-bit store where `wide`, else of the 16-bit one
abbrev pub lent : Bool → List ℤ → List ℤ → List ℤ
lent wide short long = cond wide long short

-- the excess of n weights at a precision p: their total less 2^p, which stands for 1
unfoldable pub excess : ℕ → (ℕ → ℤ) → ℕ → ℤ
excess p w n = sum w n -ℤ pos (2 ^ p)

-- a set as a store holds it: integer weights, the precision that they all have, and an excess for each window
pub record Stored : Type 0 where
  pub set : Set ℤ
  pub precision : ℕ
  pub excesses : List ℤ

abbrev pub stored_of : Set ℤ → ℕ → List ℤ → Stored
stored_of set precision excesses = record { set = set; precision = precision; excesses = excesses }

-- the total of window i's weights in use, how far it is from 2^precision, and by how much it is above
abbrev pub total_of : Stored → ℕ → ℤ
total_of s i = sum (weight s.set (pos 0) i) (size s.set.layout i)

abbrev pub distance_of : Stored → ℕ → ℕ
distance_of s i = distance (total_of s i) (pos (2 ^ s.precision))

abbrev pub excess_of : Stored → ℕ → ℤ
excess_of s i = excess s.precision (weight s.set (pos 0) i) (size s.set.layout i)
