-- What the fast narrowing computes, operation by operation. Cited by the contract of `larger` and by the laws of the narrowing; the pass's own contract
-- cites `narrow` of `numbers`. Definitions only. Assumes nothing.
use Rattle.std.specs.Prelude.{cond, Float}
use Rattle.std.specs.Float.{binary64}
use Rattle.std.specs.Float.Ieee.{add, sub, mul, lt, of_bits}

-- the larger of e and 1.5 x 2^-97, whose last place is that of the smallest f32
abbrev pub larger_of : Float → Float
larger_of e = cond (lt (of_bits binary64 0x39e8000000000000) e) e (of_bits binary64 0x39e8000000000000)

-- c added to x and taken away; then times 2^896 and back, so that what is 2^128 or more goes to the infinity
abbrev pub rounded_by : Float → Float → Float
rounded_by x c = mul binary64 (mul binary64 (sub binary64 (add binary64 x c) c) (of_bits binary64 0x77f0000000000000)) (of_bits binary64 0x07f0000000000000)
