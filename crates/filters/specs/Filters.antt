-- The three filters that a set is built with, operation by operation as in the Rust: each operation is rounded once, in the order written. Cited by the contracts of
-- `filters` and by the weights of the builder. Definitions only. Assumes nothing.
use Rattle.std.specs.Prelude.{◌&&◌, cond, Float}
use Rattle.std.specs.Float.Ieee.{lt, le}
use Rattle.floats.specs.Doubles.{zero64, half64, one64, ◌plus◌, ◌minus◌, ◌times◌}
use Rattle.numbers.specs.Whole.{abs}
use Rattle.filters.specs.Literals.{two, three, four, five, eight, minus_half}
use Rattle.filters.specs.declared.Filter.{Filter}
use Rattle.filters.specs.declared.Filter.TheVariants.{Box, Bilinear, CatmullRom}

-- how far from its centre a filter reaches: 0.5, 1 and 2
unfoldable pub support_of : Filter → Float
support_of Box = half64
support_of Bilinear = one64
support_of CatmullRom = two

-- 1 above -0.5 up to and including 0.5, else 0
unfoldable pub box_of : Float → Float
box_of x = cond (lt minus_half x && le x half64) one64 zero64

-- of a distance with its sign cleared, here and below
unfoldable pub bilinear_of : Float → Float
bilinear_of y = cond (lt y one64) (one64 minus y) zero64

unfoldable pub catmull_rom_of : Float → Float
catmull_rom_of y =
    cond (lt y one64) (((minus_half plus two) times y minus (minus_half plus three)) times y times y plus one64)
    (cond (lt y two) ((((y minus five) times y plus eight) times y minus four) times minus_half)
    zero64)

-- the filter's weight at the distance x
unfoldable pub value_of : Filter → Float → Float
value_of Box x = box_of x
value_of Bilinear x = bilinear_of (abs x)
value_of CatmullRom x = catmull_rom_of (abs x)
