-- `common::div_and_clip16` meets its contract: a colour held to its alpha divides as itself (`held`), and its product stays below 2^50 (`held_fits`). Assumes nothing.
use mathlib.Core.Path.{◌≡◌}
use Prim.Native.Nat.{ℕ, ◌+◌, ◌*◌, ◌/◌, ◌^◌, ◌<◌, ◌≤◌, min}
use native.Mathlib.Omega.{arith}
use Rattle.colours_u16.specs.Alpha.{reciprocal, divided}
use Rattle.colours_u16.proofs.Colours.{held, held_fits}
use borrow.Author.Rules.{rules}
use Rattle.colours_u16.proofs.common.div_and_clip16.Goals as goal

-- the product and the half, of the colour that is held to its alpha
fits : (h c a r : ℕ) → h ≡ min c a → r ≡ reciprocal a → a ≤ 65535 → h * r + 2 ^ 32 < 2 ^ 50
fits h c a r e is k = rw (e, is) (held_fits (min c a) a k (omega arith))

quotient : (h c a r : ℕ) → h ≡ min c a → r ≡ reciprocal a → a ≤ 65535 → (h * r + 2 ^ 32) / 2 ^ 33 ≡ divided c a
quotient h c a r e is k = rw (e, is) (held c a k)

pub overflow_mul-result : goal.overflow_mul-result
overflow_mul-result c = omega (arith, fits c.held.result c.args.colour c.args.alpha c.args.recip c.held.ensures.answer c.requires (omega arith))

pub overflow_add-result : goal.overflow_add-result
overflow_add-result c = omega (arith, fits c.held.result c.args.colour c.args.alpha c.args.recip c.held.ensures.answer c.requires (omega arith))

pub overflow_cast-result-2 : goal.overflow_cast-result-2
overflow_cast-result-2 c = omega (arith, quotient c.held.result c.args.colour c.args.alpha c.args.recip c.held.ensures.answer c.requires (omega arith))

pub returns : goal.returns
returns c = record { answer = quotient c.held.result c.args.colour c.args.alpha c.args.recip c.held.ensures.answer c.requires (omega arith) }
