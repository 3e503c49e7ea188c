-- `common::reciprocal` meets its contract: the number is twice 65535 x 2^33, as `nearest` has it; at 0 and at 65535 the answer is computed. Assumes nothing.
use mathlib.Core.Path.{sym}
use native.Mathlib.Omega.{arith}
use Prim.Native.Nat.{◌^◌}
use borrow.Author.Rules.{rules}
use Rattle.colours.proofs.Colours.{reciprocal_is}
use Rattle.colours_u16.proofs.common.reciprocal.Goals as goal

pub returns-then-alpha-eq0 : goal.returns-then-alpha-eq0
returns-then-alpha-eq0 c = record { answer = rw c.if-alpha-eq0.true }

pub returns-then-alpha-eq65535 : goal.returns-then-alpha-eq65535
returns-then-alpha-eq65535 c = record { answer = rw c.if-alpha-eq65535.true }

pub returns : goal.returns
returns c = record { answer = sym (reciprocal_is 65535 (2 ^ 33) c.args.alpha (omega arith)) }
