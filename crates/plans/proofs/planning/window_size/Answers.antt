-- `window_size` meets its contract: a radius of at most 2^14 has a ceiling of at most 2^14, so the cast and the sum are in range. Assumes nothing.
use Rattle.numbers.proofs.Ranges.{ceil_in}
use Rattle.numbers.specs.Window.{window}
use Rattle.numbers.specs.Whole.{ceil}
use lib.Ieee.{Float, binary64, in_unsigned, to_unsigned}
use lib.Dec.{T, lit<}
use native.Mathlib.Omega.{arith}
use Prim.Native.Nat.{ℕ, ◌≤◌, ◌^◌, ◌*◌, ◌+◌}
use mathlib.Core.Path.{◌≡◌, sym, ap, subst}
use Rattle.plans.proofs.PlanLaws.{ceil_small}
use Rattle.plans.proofs.planning.window_size.Goals as goal

sizes : (z y : ℕ) → z ≡ y → z * 2 + 1 ≡ 2 * y + 1
sizes z y e = omega arith

pub float_to_int-result : goal.float_to_int-result
float_to_int-result c = subst (λ (z : Float). T (in_unsigned binary64 32 z)) (sym c.ceil.ensures.answer) (ceil_in c.args.radius (2 ^ 14) (lit< tt) c.requires)

pub overflow_mul-result : goal.overflow_mul-result
overflow_mul-result c = omega (arith, ceil_small c.args.radius c.ceil.result c.requires c.ceil.ensures.answer)

pub overflow_add-result : goal.overflow_add-result
overflow_add-result c = omega (arith, ceil_small c.args.radius c.ceil.result c.requires c.ceil.ensures.answer)

pub returns : goal.returns
unfolding window
returns c =
    let r = c.args.radius in
    let z = to_unsigned 32 c.ceil.result in
    let l : z ≤ 2 ^ 14 = ceil_small r c.ceil.result c.requires c.ceil.ensures.answer in
    let e : z ≡ to_unsigned 32 (ceil binary64 r) = ap (to_unsigned 32) c.ceil.ensures.answer in
    record { answer = (sizes z (to_unsigned 32 (ceil binary64 r)) e, omega arith) }
