-- `narrow_right` of `Fast` says that what is computed is the narrowed number; the rest is that no NaN comes up, which bits and casts ask. Assumes nothing.
use native.Mathlib.Omega.{arith}
use mathlib.Core.Path.{◌≡◌, sym, ap, subst, ◌∙◌}
use mathlib.Core.Bool.{Bool, not, ◌&&◌}
use Prim.Native.Nat.{ℕ, ◌*◌, ◌/◌, ◌%◌, ◌^◌, ◌<◌, ◌≤◌}
use lib.Dec.{T}
use lib.Bits.{bit_or}
use lib.Ieee.{Float, binary32, binary64, to_bits, is_nan, fits}
use lib.Ieee.Fits.{and_i}
use lib.Ieee.Bits.{nan_bits_is, to_bits-lt}
use Rattle.floats.proofs.Codes.{no_nan_code}
use Rattle.floats.specs.Within.{AtMost}
use Rattle.numbers.proofs.Codes.{narrow_number, narrow_fits}
use Rattle.numbers.specs.Whole.{narrow}
use Rattle.row_f32.specs.Narrowing.{larger_of, rounded_by}
use Rattle.row_f32.proofs.Fast.{bounded_number, Right, scaled, narrow_right}
use Rattle.row_f32.proofs.narrowing.narrow.Goals as goal

right : (x y : Float) → T (fits binary64 x) → AtMost x (2 ^ 205) → y ≡ larger_of (scaled (to_bits binary64 x % 2 ^ 63 / 2 ^ 52)) → Right x y (to_bits binary64 x)
right x y F a e = subst (λ (c : Float). Right x c (to_bits binary64 x)) (sym e) (narrow_right x F a)

pub float_to_bits-b : goal.float_to_bits-b
float_to_bits-b c = bounded_number c.args.x (2 ^ 205) c.requires

pub float_from_bits-b : goal.float_from_bits-b
float_from_bits-b c =
    no_nan_code binary64 (to_bits binary64 c.args.x % 2 ^ 63 / 2 ^ 52 * 2 ^ 52) (go (to_bits binary64 c.args.x))
  where
    go : (b : ℕ) → b % 2 ^ 63 / 2 ^ 52 * 2 ^ 52 % 2 ^ 63 ≤ 2047 * 2 ^ 52
    go b = omega arith

pub float_to_bits-result : goal.float_to_bits-result
float_to_bits-result c =
    let held : T (fits binary64 c.args.x) = subst T (sym c.well_formed.0.1) tt in
    (right c.args.x c.larger-c.result held c.requires c.larger-c.ensures).0

pub overflow_mul-result : goal.overflow_mul-result
overflow_mul-result c =
    let held : T (fits binary64 c.args.x) = subst T (sym c.well_formed.0.1) tt in
    record { fits = go (to_bits binary64 c.args.x) (to_bits-lt binary64 c.args.x held) }
  where
    go : (b : ℕ) → b < 2 ^ 64 → b / 2 ^ 63 * 2 ^ 63 < 2 ^ 64
    go b h = omega arith

pub float_from_bits-result : goal.float_from_bits-result
float_from_bits-result c =
    let held : T (fits binary64 c.args.x) = subst T (sym c.well_formed.0.1) tt in
    let x = c.args.x in
    let r = right x c.larger-c.result held c.requires c.larger-c.ensures in
    subst (λ (z : Bool). T (not z)) (sym (nan_bits_is binary64 (bit_or (to_bits binary64 (rounded_by x c.larger-c.result)) (to_bits binary64 x / 2 ^ 63 * 2 ^ 63)) ∙ ap is_nan r.1))
    (narrow_number x (bounded_number x (2 ^ 205) c.requires))

pub float_to_float-result : goal.float_to_float-result
float_to_float-result c =
    let held : T (fits binary64 c.args.x) = subst T (sym c.well_formed.0.1) tt in
    let x = c.args.x in
    let r = right x c.larger-c.result held c.requires c.larger-c.ensures in
    subst (λ (z : Float). T (fits binary32 z && not (is_nan z))) (sym r.1) (and_i (fits binary32 (narrow x)) (not (is_nan (narrow x))) (narrow_fits x) (narrow_number x (bounded_number x (2 ^ 205) c.requires)))

pub returns : goal.returns
returns c =
    let held : T (fits binary64 c.args.x) = subst T (sym c.well_formed.0.1) tt in
    (right c.args.x c.larger-c.result held c.requires c.larger-c.ensures).1
