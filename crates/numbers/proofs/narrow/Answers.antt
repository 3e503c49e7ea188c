-- `narrow`: a NaN is told by x != x; of any other x the pattern is narrowed, and reading the result back gives the narrowed value, since it fits
-- binary32. Assumes nothing.
use Rattle.std.proofs.Common.{◌≡◌, Bool, false, not, T, sym, refl, ap, ◌∙◌, subst, rules}
use lib.Ieee.{Float, nan, binary32, binary64, div, of_bits, to_bits, is_nan, fits}
use lib.Ieee.Compare.{differs_from_itself}
use lib.Ieee.Bits.{of_bits-to_bits, nan_bits_is}
use Rattle.numbers.specs.declared.NarrowedBits.{NarrowedBits}
use Rattle.numbers.specs.Whole.{narrow, is_infinite}
use Rattle.numbers.specs.Narrowed.{narrowed_of, narrowed_bits}
use Rattle.floats.proofs.Codes.{equal_number}
use Rattle.numbers.proofs.Codes.{narrow_number, narrow_fits}
use Rattle.numbers.proofs.narrow.Goals as goal

nan-narrow : (x : Float) → x ≡ nan → record { value = nan; infinite = false } ≡ narrowed_of x
unfolding narrow
nan-narrow x e = sym (ap narrowed_of e)

-- what the narrowed pattern of x's pattern says of x
module _ (x : Float) (n : NarrowedBits) (t : T (fits binary64 x)) (e : n ≡ narrowed_bits (to_bits binary64 x)) where
  same : of_bits binary64 (to_bits binary64 x) ≡ x
  same = of_bits-to_bits binary64 x t

  back : of_bits binary32 n.value ≡ narrow x
  back =
      ap (λ (z : NarrowedBits). of_bits binary32 z.value) e ∙ ap (λ (z : Float). of_bits binary32 (to_bits binary32 (narrow z))) same
      ∙ of_bits-to_bits binary32 (narrow x) (narrow_fits x)

  told : n.infinite ≡ is_infinite (narrow x)
  told = ap (λ (z : NarrowedBits). z.infinite) e ∙ ap (λ (z : Float). is_infinite (narrow z)) same

  both : record { value = of_bits binary32 n.value; infinite = n.infinite } ≡ narrowed_of x
  both = rw (back, told) refl

pub returns-then-x : goal.returns-then-x
unfolding div of_bits
returns-then-x c = record { answer = nan-narrow c.args.x (differs_from_itself c.args.x (subst T (sym c.if-x.true) tt)) }

pub float_to_bits-x : goal.float_to_bits-x
float_to_bits-x c = equal_number c.args.x c.if-x.false

pub float_from_bits-result : goal.float_from_bits-result
float_from_bits-result c =
    let held : T (fits binary64 c.args.x) = subst T (sym c.well_formed.0.1) tt in
    let n = c.narrow_bits-n in
    subst (λ (z : Bool). T (not z)) (sym (nan_bits_is binary32 n.result.value ∙ ap is_nan (back c.args.x n.result held n.ensures.answer)))
    (narrow_number c.args.x (equal_number c.args.x c.if-x.false))

pub returns : goal.returns
returns c =
    let held : T (fits binary64 c.args.x) = subst T (sym c.well_formed.0.1) tt in
    let n = c.narrow_bits-n in
    record { answer = both c.args.x n.result held n.ensures.answer }
