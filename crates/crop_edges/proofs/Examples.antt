-- Texts and their edges, by computation on the definition. Cited by nobody: they show what it says. Assumes nothing.
use Rattle.std.proofs.Common.{◌≡◌, false, [], ◌∷◌, refl}
use lib.Ieee.{binary64, of_bits, round, inf}
use Rattle.std.specs.Prelude.{Some, None}
use Rattle.numerals.specs.Digits.{digit_of, digits, figure, numeral}
use Rattle.crop_edges.specs.Edge.{is_pattern_value, pattern_of, minus, whole_at, point_at_value, fraction_at_value, before_of_value, places_of_value, is_decimal_value, whole_of_value, edge_of}

-- 0.1 is the double nearest to a tenth, 3fb999999999999a
pub tenth : edge_of (48 ∷ 46 ∷ 49 ∷ []) ≡ Some (of_bits binary64 0x3fb9_9999_9999_999a)
unfolding edge_of is_pattern_value minus whole_at point_at_value fraction_at_value before_of_value places_of_value is_decimal_value whole_of_value digits digit_of figure numeral round of_bits
tenth = refl

-- -.5 is minus one half
pub minus_half : edge_of (45 ∷ 46 ∷ 53 ∷ []) ≡ Some (of_bits binary64 0xbfe0_0000_0000_0000)
unfolding edge_of is_pattern_value minus whole_at point_at_value fraction_at_value before_of_value places_of_value is_decimal_value whole_of_value digits digit_of figure numeral round of_bits
minus_half = refl

-- 0x7ff0000000000000 is infinity, which the builder refuses as No. 2
pub infinity : edge_of (48 ∷ 120 ∷ 55 ∷ 102 ∷ 102 ∷ 48 ∷ 48 ∷ 48 ∷ 48 ∷ 48 ∷ 48 ∷ 48 ∷ 48 ∷ 48 ∷ 48 ∷ 48 ∷ 48 ∷ 48 ∷ []) ≡ Some (inf false)
unfolding edge_of is_pattern_value pattern_of digits digit_of figure numeral of_bits
infinity = refl

-- two points, 1e3, a lone minus sign, and nothing at all: no edges
pub none : (edge_of (49 ∷ 46 ∷ 46 ∷ []) ≡ None) × (edge_of (49 ∷ 101 ∷ 51 ∷ []) ≡ None) × (edge_of (45 ∷ []) ≡ None) × (edge_of [] ≡ None)
unfolding edge_of is_pattern_value minus whole_at point_at_value fraction_at_value before_of_value places_of_value is_decimal_value digits digit_of
none = (refl, refl, refl, refl)
