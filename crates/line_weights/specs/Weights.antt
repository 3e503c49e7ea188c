-- The weights of one window, before and after the division. c is the window's centre less 0.5, recip one over the filter scale, and a camera line's
-- weight the filter's value at (line - c) x recip. Cited by specs/Lines.antt of `plan_windows`. Definitions only. Assumes nothing.
use Rattle.std.specs.Prelude.{Bool, not, cond, List, ℕ, zero, suc, ◌+◌, ◌-◌, ltb, Float, get_or}
use Rattle.std.specs.Float.{nan}
use Rattle.std.specs.Float.Ieee.{eq}
use Rattle.lists.specs.Tab.{first, turns}
use Rattle.filters.specs.declared.Filter.{Filter}
use Rattle.filters.specs.Filters.{value_of}
use Rattle.floats.specs.Doubles.{zero64, double, ◌plus◌, ◌minus◌, ◌times◌, ◌over◌}

-- the weight of the camera line x
unfoldable pub line_weight_value : Filter → Float → Float → ℕ → Float
line_weight_value f c recip x = value_of f ((double x minus c) times recip)

-- a weight other than 0 (minus zero is 0)
abbrev pub weighs : Filter → Float → Float → ℕ → Bool
weighs f c recip x = not (eq (line_weight_value f c recip x) zero64)

-- leading zeros dropped: the first line of the range that weighs; the range's end if none does
unfoldable pub lead_of : Filter → Float → Float → ℕ → ℕ → ℕ
lead_of f c recip start stop = first (weighs f c recip) start (stop - start)

-- the weights from the line a on
abbrev pub weight_from : Filter → Float → Float → ℕ → ℕ → Float
weight_from f c recip a k = line_weight_value f c recip (a + k)

-- the first of n weights from the line a on; +0 where there are none
unfoldable pub first_weight : Filter → Float → Float → ℕ → ℕ → Float
first_weight f c recip a n = cond (ltb 0 n) (line_weight_value f c recip a) zero64

-- one more weight added, in line order
abbrev pub add_to : Filter → Float → Float → ℕ → Float → ℕ → Float
add_to f c recip a t k = t plus weight_from f c recip a k

-- the running total of n weights in line order, from +0
unfoldable pub total_of : Filter → Float → Float → ℕ → ℕ → Float
total_of f c recip a n = turns (add_to f c recip a) zero64 n

-- how many of 0, .., n - 1 are left once those at the end that fail the test are dropped
abbrev pub up_to : (ℕ → Bool) → ℕ → ℕ
up_to t zero = 0
up_to t (suc n) = cond (t n) (suc n) (up_to t n)

-- whether the k-th line from a on weighs
abbrev pub weighs_from : Filter → Float → Float → ℕ → ℕ → Bool
weighs_from f c recip a k = weighs f c recip (a + k)

-- trailing zeros dropped from the size
unfoldable pub size_of : Filter → Float → Float → ℕ → ℕ → ℕ
size_of f c recip a n = up_to (weighs_from f c recip a) n

-- the slot k at the end: its weight's share of the total, or +0 past the n weights. A dropped zero at the end is divided too
abbrev pub share_of : ℕ → Float → ℕ → Float → Float
share_of n total k w = cond (ltb k n) (w over total) zero64

-- ---- what the workers `trim` and `finish` read in a row of slots
-- whether a slot of a row holds a weight other than 0
abbrev pub weighty : List Float → ℕ → Bool
weighty row k = not (eq (get_or row k nan) zero64)

-- the slot k of a row, shared out
abbrev pub share_at : ℕ → Float → List Float → ℕ → Float
share_at n total row k = share_of n total k (get_or row k nan)
