-- Doubles as the definitions of filters, crop and weights write them. Cited by the definitions that the contracts of those crates cite.
-- A number is written by its binary64 pattern, since that is what the code's literal is (proofs/Doubles.antt says which number it is).
-- Definitions only. Assumes nothing.
use Rattle.std.specs.Prelude.{Bool, true, false, ℕ, pos, Float}
use Rattle.std.specs.Float.{nan, inf, fin, binary64}
use Rattle.std.specs.Float.Ieee.{add, sub, mul, div, of_int, of_bits}

-- neither NaN nor infinite
abbrev pub is_finite : Float → Bool
is_finite nan = false
is_finite (inf s) = false
is_finite (fin s m e) = true

-- 0, with the sign clear
abbrev pub zero64 : Float
zero64 = of_bits binary64 0

-- 0.5
abbrev pub half64 : Float
half64 = of_bits binary64 0x3fe0_0000_0000_0000

-- 1
abbrev pub one64 : Float
one64 = of_bits binary64 0x3ff0_0000_0000_0000

-- a side or a line number as a double
abbrev pub double : ℕ → Float
double n = of_int binary64 (pos n)

-- each rounds once; times and over bind first, and all are read from the left, as in the Rust
infixl 20 ◌plus◌
infixl 20 ◌minus◌
infixl 21 ◌times◌
infixl 21 ◌over◌
abbrev pub ◌plus◌ : Float → Float → Float
x plus y = add binary64 x y

abbrev pub ◌minus◌ : Float → Float → Float
x minus y = sub binary64 x y

abbrev pub ◌times◌ : Float → Float → Float
x times y = mul binary64 x y

abbrev pub ◌over◌ : Float → Float → Float
x over y = div binary64 x y
