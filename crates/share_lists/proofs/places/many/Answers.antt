-- `places::many` meets its contract: two numbers of 32 bits. Assumes nothing.
use mathlib.Core.Path.{refl}
use native.Mathlib.Omega.{arith}
use Rattle.share_lists.proofs.Facts.{product}
use Rattle.share_lists.proofs.places.many.Goals as goal

pub overflow_mul-result : goal.overflow_mul-result
overflow_mul-result c = record { fits = omega (arith, product c.args.held c.args.window (omega arith) (omega arith)) }

pub returns : goal.returns
returns c = record { answer = (refl, product c.args.held c.args.window (omega arith) (omega arith)) }
