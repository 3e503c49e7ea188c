-- `widen_bits`: a pattern above the infinity's is a NaN; of any other the value is read, widened and written. Assumes nothing.
use Rattle.std.proofs.Common.{◌≡◌, ℕ, ◌%◌, ◌^◌, ◌<◌, ◌≤◌, Bool, not, T, sym, refl, ap, ◌∙◌, subst, arith, rules}
use lib.Ieee.{nan, binary32, binary64, of_bits, to_bits, is_nan, fits}
use lib.Ieee.Bits.{nan_bits_is, of_bits-fits}
use lib.Ieee.Fits.{fits_widens, and_i}
use Rattle.floats.proofs.Codes.{nan_code, no_nan_code}
use Rattle.numbers.proofs.bits.widen_bits.Goals as goal

nan-wide : (b : ℕ) → 0x7f80_0000 < b % 2 ^ 31 → 0x7ff8_0000_0000_0000 ≡ to_bits binary64 (of_bits binary32 b)
nan-wide b h = code ∙ ap (to_bits binary64) (sym (nan_code binary32 b h))
  where
    code : 0x7ff8_0000_0000_0000 ≡ to_bits binary64 nan
    code = unfold to_bits in refl

number : (b : ℕ) → b % 2 ^ 31 ≤ 0x7f80_0000 → T (not (is_nan (of_bits binary32 b)))
number b h = subst (λ (z : Bool). T (not z)) (nan_bits_is binary32 b) (no_nan_code binary32 b h)

pub returns-then-b-gt2139095040 : goal.returns-then-b-gt2139095040
returns-then-b-gt2139095040 c = record { answer = nan-wide c.args.b c.if-b-gt2139095040.true }

pub float_from_bits-result : goal.float_from_bits-result
float_from_bits-result c = no_nan_code binary32 c.args.b (omega arith)

pub float_to_float-result : goal.float_to_float-result
float_to_float-result c =
    let b = c.args.b in
    and_i (fits binary64 (of_bits binary32 b)) (not (is_nan (of_bits binary32 b))) (fits_widens (of_bits binary32 b) (of_bits-fits binary32 b)) (number b (omega arith))

pub float_to_bits-result : goal.float_to_bits-result
float_to_bits-result c = number c.args.b (omega arith)
