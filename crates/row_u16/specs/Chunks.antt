-- Sums side by side and what becomes of each: in integers, and in doubles operation by operation. Cited by the contracts of inner functions only; the pass's own
-- contract cites `vertical`. Definitions only. Assumes nothing.
use Rattle.std.specs.Prelude.{cond, List, ℕ, ◌+◌, ◌*◌, ◌%◌, ◌^◌, ℤ, pos, ◌+ℤ◌, ◌*ℤ◌, Float, get_or}
use Rattle.std.specs.Float.{binary64, nan}
use Rattle.std.specs.Float.Ieee.{add, lt, of_bits, to_bits}
use Rattle.floats.specs.Doubles.{half64}
use Rattle.floats.specs.Halves.{halves}
use Rattle.vertical.specs.Column.{column_sum}

-- sum t with a line's part added: weight w, samples from `at` on; and with n lines'
abbrev pub step_at : List ℤ → ℤ → List ℕ → ℕ → ℕ → ℤ
step_at ss w src at t = get_or ss t (pos 0) +ℤ w *ℤ pos (get_or src (at + t) 0)

abbrev pub summed_at : List ℤ → List ℤ → List ℕ → ℕ → ℕ → ℕ → ℕ → ℤ
summed_at ss ws src at row n t = get_or ss t (pos 0) +ℤ column_sum ws src (at + t) row n

-- the double nearest to z + 1/2
abbrev pub half_more : ℤ → Float
half_more z = halves (z +ℤ z +ℤ pos 1)

-- the larger of 0.5 and v, and the smaller of x and y
abbrev pub at_least : Float → Float
at_least v = cond (lt half64 v) v half64

abbrev pub at_most : Float → Float → Float
at_most x y = cond (lt x y) x y

-- v cut to 0.5 .. top, and `big` added
unfoldable pub placed : Float → Float → Float → Float
placed v top big = add binary64 (at_most (at_least v) top) big

-- 65535 x 2^p
abbrev pub top_of : ℕ → Float
top_of p = of_bits binary64 (0x40ef_ffe0_0000_0000 + p * 2 ^ 52)

-- sum t of doubles made a sample: the last digits of its pattern
abbrev pub cut_at : List Float → Float → Float → ℕ → ℕ
cut_at ss top big t = to_bits binary64 (placed (get_or ss t nan) top big) % 65536
