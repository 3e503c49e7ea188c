-- `steps::in_type` meets its contract: of v and -1 - v the one that is not negative is below 2^limit. Assumes nothing.
use mathlib.Core.Path.{refl}
use Prim.Native.Nat.{◌^◌}
use native.Mathlib.Omega.{arith}
use lib.IntN.{negsuc}
use mir.Facts.{to_z-of_z}
use Rattle.excesses.proofs.SumLaws.{back, sub_fits, sub_is}
use Rattle.offers.proofs.StepLaws.{inside_is}
use Rattle.offers.proofs.steps.in_type.Goals as goal

pub overflow_sub-result : goal.overflow_sub-result
overflow_sub-result c = sub_fits {a = negsuc 0} refl (to_z-of_z c.ranges.v) (omega arith) c.requires.1

pub returns : goal.returns
returns c = record { answer = rw (sub_is {a = negsuc 0} refl (to_z-of_z c.ranges.v) (omega arith) c.requires.1, to_z-of_z c.ranges.v, back c.power-end.type_inv, c.power-end.ensures.answer) (inside_is (2 ^ c.args.limit) c.args.v) }
