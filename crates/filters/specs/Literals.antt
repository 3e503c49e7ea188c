-- The literals of filters.rs by their binary64 patterns, since that is what a literal of the code is; proofs/Literals.antt says that each is
-- the number it is named for. Cited by Filters.antt. Definitions only. Assumes nothing.
use Rattle.std.specs.Prelude.{Float}
use Rattle.std.specs.Float.{binary64}
use Rattle.std.specs.Float.Ieee.{of_bits, neg}
use Rattle.floats.specs.Doubles.{half64}

abbrev pub two : Float
two = of_bits binary64 0x4000_0000_0000_0000

abbrev pub three : Float
three = of_bits binary64 0x4008_0000_0000_0000

abbrev pub four : Float
four = of_bits binary64 0x4010_0000_0000_0000

abbrev pub five : Float
five = of_bits binary64 0x4014_0000_0000_0000

abbrev pub eight : Float
eight = of_bits binary64 0x4020_0000_0000_0000

abbrev pub minus_half : Float
minus_half = neg half64
