-- Pixels of several rows side by side: where their samples stand, what becomes of their sums, and a list with values put in their places. Cited by the contracts of inner
-- functions and of the worker over all rows; the pass's own contract cites `sideways`. Definitions only. Assumes nothing.
use Rattle.std.specs.Prelude.{◌≡◌, cond, ◌||◌, List, ℕ, ◌+◌, ◌*◌, ◌/◌, ◌%◌, ◌<◌, ltb, Float, ℤ, pos, length, get_or}
use Rattle.std.specs.Float.{binary64, nan}
use Rattle.std.specs.Float.Ieee.{add, mul, of_int}
use Rattle.lists.specs.Tab.{grid}
use Rattle.vertical.specs.Column.{column_value, window_value}

-- sample t of pixels that stand below each other, rows of `row` samples apart: component t % components of the pixel that is t / components rows down
abbrev pub place_at : ℕ → ℕ → ℕ → ℕ → ℕ
place_at at components row t = at + t / components * row + t % components

-- sum t with one weight's part added
abbrev pub added_at : List Float → Float → List ℕ → ℕ → ℕ → ℕ → ℕ → Float
added_at ss w src at components row t = add binary64 (get_or ss t nan) (mul binary64 (of_int binary64 (pos (get_or src (place_at at components row t) 0))) w)

-- the value of sample t: a sum along its row, pixel by pixel
abbrev pub value_of : ℕ → List ℤ → List ℕ → ℕ → ℕ → ℕ → ℕ → ℕ
value_of p ws src at components row t = column_value 65535 p ws src (place_at at components row t) components (length ws)

-- how many rows go side by side; and how many of `left` rows are next, for windows of up to so many lines
abbrev pub side_by_side : ℕ → ℕ
side_by_side components = cond (ltb components 3) 8 4

unfoldable pub at_once_value : ℕ → ℕ → ℕ → ℕ
at_once_value components window left = cond (ltb 32 window || ltb left (side_by_side components)) 1 (side_by_side components)

-- the samples of the rows from `at` on, all windows' pixels one after the other
abbrev pub row_values : List ℕ → ℕ → ℕ → ℕ → List ℕ → List ℕ → ℕ → List ℤ → ℕ → ℕ → ℕ
row_values src at components row starts sizes window weights p =
    grid (length starts * components) (λ y. grid components (window_value 65535 src components (at + y * row) starts sizes window weights p))

-- the place that is t behind b
abbrev pub behind : ℕ → ℕ → ℕ
behind b t = b + t

-- sample t of a list, and the one that is k behind t
abbrev pub sample_of : List ℕ → ℕ → ℕ
sample_of samples t = get_or samples t 0

abbrev pub sample_from : List ℕ → ℕ → ℕ → ℕ
sample_from samples t k = get_or samples (t + k) 0

-- `new` is `old` with n values put in their places. Said for any f that a list is to become: where the values are f's, their places hold f's values after it, and a place that
-- held f's value before holds it still; so that no two places need to be told apart
pub record Put (value place : ℕ → ℕ) (n : ℕ) (old new : List ℕ) : Type 0 where
  pub to :
      (f : ℕ → ℕ) → ((t : ℕ) → t < n → value t ≡ f (place t))
      → ((x : ℕ) → get_or old x 0 ≡ f x → get_or new x 0 ≡ f x) × ((t : ℕ) → t < n → get_or new (place t) 0 ≡ f (place t))
