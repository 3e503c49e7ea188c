-- The edge that a text stands for. Cited by `read_edge`'s contract. Bytes: 45 is a minus sign, 46 a point, 48 the digit 0, 120 an x.
-- Definitions only. Assumes nothing.
use Rattle.std.specs.Prelude.{ℕ, ◌+◌, ◌-◌, ◌^◌, Bool, cond, ◌&&◌, List, length, ◌==◌, Float, from_bits, nat_le, nat_lt, slice_index, Option, Some, None}
use Rattle.std.specs.Float.{binary64}
use Rattle.std.specs.Float.Ieee.{round}
use Rattle.lists.specs.Tab.{first}
use Rattle.numerals.specs.Digits.{digits, numeral}

-- `0x` and 16 hexadecimal digits
unfoldable pub is_pattern_value : List ℕ → Bool
is_pattern_value text = length text == 18 && (slice_index text 0 == 48 && slice_index text 1 == 120 && digits 16 text 2 16)

unfoldable pub pattern_of : List ℕ → ℕ
pattern_of text = numeral 16 text 2 0 16

unfoldable pub minus : List ℕ → Bool
minus text = slice_index text 0 == 45

-- where the digits before the point begin
unfoldable pub whole_at : List ℕ → ℕ
whole_at text = cond (minus text) 1 0

abbrev pub is_point : List ℕ → ℕ → Bool
is_point text k = slice_index text k == 46

-- the place of the first point, the end where there is none
unfoldable pub point_at_value : List ℕ → ℕ
point_at_value text = first (is_point text) (whole_at text) (length text - whole_at text)

-- where the digits after the point begin, the end where there is no point
unfoldable pub fraction_at_value : List ℕ → ℕ
fraction_at_value text = cond (nat_lt (point_at_value text) (length text)) (point_at_value text + 1) (point_at_value text)

-- how many places there are before the point
unfoldable pub before_of_value : List ℕ → ℕ
before_of_value text = point_at_value text - whole_at text

-- how many places there are after it
unfoldable pub places_of_value : List ℕ → ℕ
places_of_value text = length text - fraction_at_value text

-- 1 to 15 digits, and nothing else but a minus sign in front and one point
unfoldable pub is_decimal_value : List ℕ → Bool
is_decimal_value text =
    nat_le 1 (before_of_value text + places_of_value text)
    && nat_le (before_of_value text + places_of_value text) 15
    && digits 10 text (whole_at text) (before_of_value text)
    && digits 10 text (fraction_at_value text) (places_of_value text)

-- the whole number that all the digits write, the point left out
unfoldable pub whole_of_value : List ℕ → ℕ
whole_of_value text = numeral 10 text (fraction_at_value text) (numeral 10 text (whole_at text) 0 (before_of_value text)) (places_of_value text)

-- a pattern's double; else the double nearest to the whole number over the power of ten; else none
unfoldable pub edge_of : List ℕ → Option Float
edge_of text =
    cond (is_pattern_value text) (Some (from_bits binary64 (pattern_of text)))
    (cond (is_decimal_value text) (Some (round binary64 (minus text) (whole_of_value text) (10 ^ places_of_value text)))
    None)
