-- What the scans for No. 12 look for. A zero times a finite sample is a zero, times another a NaN, and a NaN stays: so a lane that starts at zero is a `flag`
-- (zero or NaN), and is a zero at the end exactly when every sample was finite. Cited by the contracts of the scans. Definitions only. Assumes nothing.
use Rattle.std.specs.Prelude.{Bool, true, false, ◌≡◌, List, ℕ, ◌+◌, ◌*◌, ◌^◌, ◌<◌, ◌≤◌, T, eqb, length, get_or, Float}
use Rattle.std.specs.Float.{binary32, nan, inf, fin}
use Rattle.std.specs.Float.Ieee.{mul, fits}
use Rattle.std.specs.Float.Ieee.Scale.{finite}
use Rattle.floats.specs.Within.{AtMost}

abbrev pub is_zero_value : Float → Bool
is_zero_value nan = false
is_zero_value (inf s) = false
is_zero_value (fin s m e) = eqb m 0

abbrev pub flag : Float → Bool
flag nan = true
flag (inf s) = false
flag (fin s m e) = eqb m 0

-- n lanes of them
abbrev pub Zeros : ℕ → List Float → Type 0
Zeros n zz = (t : ℕ) → t < n → T (is_zero_value (get_or zz t nan))

abbrev pub Flags : ℕ → List Float → Type 0
Flags n zz = (t : ℕ) → t < n → T (flag (get_or zz t nan))

-- r are the lanes zz with a sample more each, those at `at`, `at + 1`, ..
abbrev pub Made : ℕ → List Float → List Float → List Float → ℕ → Type 0
Made n zz r src at = (t : ℕ) → t < n → (get_or r t nan ≡ mul binary32 (get_or zz t nan) (get_or src (at + t) nan)) × T (fits binary32 (get_or src (at + t) nan))

-- the samples at `at`, `at + 1`, .. from a on below e are at most 2^128 in size, and are finite
abbrev pub Small : List Float → ℕ → ℕ → ℕ → Type 0
Small src at a e = (t : ℕ) → a ≤ t → t < e → AtMost (get_or src (at + t) nan) (2 ^ 128)

abbrev pub Finite : List Float → ℕ → ℕ → ℕ → Type 0
Finite src at a e = (t : ℕ) → a ≤ t → t < e → T (finite (get_or src (at + t) nan))

-- every sample in use is finite; as the sums need them, at most 2^128 in size
abbrev pub FiniteSamples : List Float → ℕ → ℕ → ℕ → List ℕ → List ℕ → Type 0
FiniteSamples src row first count starts sizes = (i : ℕ) → i < length starts → (k : ℕ) → k < get_or sizes i 0 → (j : ℕ) → j < count → T (finite (get_or src ((get_or starts i 0 + k) * row + first + j) nan))

abbrev pub SmallSamples : List Float → ℕ → ℕ → ℕ → List ℕ → List ℕ → Type 0
SmallSamples src row first count starts sizes = (i : ℕ) → i < length starts → (k : ℕ) → k < get_or sizes i 0 → (j : ℕ) → j < count → AtMost (get_or src ((get_or starts i 0 + k) * row + first + j) nan) (2 ^ 128)

-- every weight in use is at most 2^64 in size
abbrev pub SmallWeights : List ℕ → List ℕ → ℕ → List Float → Type 0
SmallWeights starts sizes window weights = (i : ℕ) → i < length starts → (k : ℕ) → k < get_or sizes i 0 → AtMost (get_or weights (i * window + k) nan) (2 ^ 64)
