-- Document 01's "Table to be proved", row by row, over the definitions that the contracts cite. A statement only. Assumes nothing.
use Rattle.std.specs.Prelude.{◌≡◌, Bool, true, false, [], ◌∷◌, ℕ, ◌+◌, ◌^◌, pos, negsuc, Float}
use Rattle.std.specs.Float.{fin, binary64}
use Rattle.floats.specs.Doubles.{double, ◌over◌}
use Rattle.integers.specs.Sums.{sum}
use Rattle.numbers.specs.Whole.{round_away, narrow}
use Rattle.colours.specs.Alpha.{multiplied, divided}
use Rattle.windows.specs.Store.{store16, store32}
use Rattle.weight_precision.specs.Precision.{precision, integer}
use Rattle.vertical.specs.Example.{pass4, sharp, even}

-- m / 2^(e + 1), with its sign
abbrev pub binary : Bool → ℕ → ℕ → Float
binary sign m e = fin sign m (negsuc e)

-- a whole number, with its sign
abbrev pub whole : Bool → ℕ → Float
whole sign n = fin sign n (pos 0)

abbrev pub third : Float
third = double 1 over double 3

abbrev pub TableOfFourteen : Type 0
TableOfFourteen =
    -- 1. multiply 128 by 128; 2. multiply 193 by 253; 3. divide 191 by 253; 4. multiply 192 by 253
    (multiplied 128 128 ≡ 64)
    × (multiplied 193 253 ≡ 191)
    × (divided 191 253 ≡ 192)
    × (multiplied 192 253 ≡ 190)
    -- 5. divide 200 by 0; 6. divide 200 by 100, and 50 by 100
    × (divided 200 0 ≡ 0)
    × ((divided 200 100 ≡ 255) × (divided 50 100 ≡ 128))
    -- 7. 16-bit, one weight 1.0; 8. three weights of 1/3, with their total; 9. 32-bit, one weight 1.0
    × ((precision store16 (double 1 ∷ []) ≡ 14) × (integer store16 14 (double 1) ≡ pos 16384))
    × ((precision store16 (third ∷ third ∷ third ∷ []) ≡ 16) × (integer store16 16 third ≡ pos 21845) × (sum (λ k. integer store16 16 third) 3 ≡ pos 65535))
    × ((precision store32 (double 1 ∷ []) ≡ 30) × (integer store32 30 (double 1) ≡ pos 1073741824))
    -- 10. samples 100, 200, 100; 11. the same weights at the ends of the range; 12. weights 8, 8
    × (pass4 sharp (100 ∷ 200 ∷ 100 ∷ []) ≡ 250)
    × ((pass4 sharp (65535 ∷ 0 ∷ 65535 ∷ []) ≡ 0) × (pass4 sharp (0 ∷ 65535 ∷ 0 ∷ []) ≡ 65535))
    × ((pass4 even (1 ∷ 0 ∷ []) ≡ 1) × (pass4 even (0 ∷ 1 ∷ []) ≡ 1) × (pass4 even (1 ∷ 1 ∷ []) ≡ 1))
    -- 13. rounding 2.5, -2.5, -0.5; 14. narrowing 1 + 2^-24 and 1 + 3 x 2^-24
    × ((round_away binary64 (binary false 5 0) ≡ whole false 3) × (round_away binary64 (binary true 5 0) ≡ whole true 3) × (round_away binary64 (binary true 1 0) ≡ whole true 1))
    × ((narrow (binary false (2 ^ 24 + 1) 23) ≡ whole false 1) × (narrow (binary false (2 ^ 24 + 3) 23) ≡ binary false (2 ^ 22 + 1) 21))
