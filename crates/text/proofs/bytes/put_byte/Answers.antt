-- `bytes::put_byte` meets its contract: past the end a store changes nothing (`set_out`), which is what is not written. Assumes nothing.
use mathlib.Core.Path.{refl, sym}
use native.Mathlib.Omega.{arith}
use lib.Seq.{set_out}
use Rattle.text.specs.Text.{reached}
use Rattle.text.proofs.bytes.put_byte.Goals as goal

pub returns-then-out-at : goal.returns-then-out-at
returns-then-out-at c = record { answer = c.next.ensures.answer; written = sym (set_out _ _ _ c.if-out-at.true) }

pub returns : goal.returns
unfolding reached
returns c = record { answer = omega arith; written = refl }
