-- One column of one window, as the workers of a pass over integers see it: the weights in a list, the samples of the frame a stride apart. The value is over the
-- largest sample M. Cited by the workers' contracts; the passes' own cite `Set`s. Definitions only. Assumes nothing.
use Rattle.std.specs.Prelude.{List, ℕ, ◌+◌, ◌*◌, ◌^◌, ℤ, pos, get_or, take, drop}
use Rattle.std.specs.Int.Signed.{shr_z}
use Rattle.integers.specs.Sums.{total, value, clipped}

-- the weight of line k, and its sample: at `at`, `at + stride`, `at + 2 stride`, ..
abbrev pub weight_at : List ℤ → ℕ → ℤ
weight_at ws k = get_or ws k (pos 0)

abbrev pub sample_at : List ℕ → ℕ → ℕ → ℕ → ℕ
sample_at src at stride k = get_or src (at + k * stride) 0

-- weight times sample, over n lines
unfoldable pub column_sum : List ℤ → List ℕ → ℕ → ℕ → ℕ → ℤ
column_sum ws src at stride n = total (weight_at ws) (sample_at src at stride) n

-- the value of n lines, and of the column that is j behind
abbrev pub column_value : ℕ → ℕ → List ℤ → List ℕ → ℕ → ℕ → ℕ → ℕ
column_value M p ws src at stride n = value M p (weight_at ws) (sample_at src at stride) n

abbrev pub row_value : ℕ → ℕ → List ℤ → List ℕ → ℕ → ℕ → ℕ → ℕ → ℕ
row_value M p ws src at stride n j = column_value M p ws src (at + j) stride n

-- window i at column j of the range, its weights taken from the set's slots: what a worker over all windows writes
abbrev pub window_value : ℕ → List ℕ → ℕ → ℕ → List ℕ → List ℕ → ℕ → List ℤ → ℕ → ℕ → ℕ → ℕ
window_value M src row first starts sizes window weights p i =
    row_value M p (take (get_or sizes i 0) (drop (i * window) weights)) src (get_or starts i 0 * row + first) row (get_or sizes i 0)

-- sum t of sums side by side, which has the half of 2^p in it, made a sample
abbrev pub clipped_at : ℕ → List ℤ → ℕ → ℕ → ℕ
clipped_at M ss p t = clipped M (shr_z (get_or ss t (pos 0)) (2 ^ p))
