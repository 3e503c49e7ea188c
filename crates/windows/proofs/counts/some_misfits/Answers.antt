-- `counts::some_misfits`: the goals that the check leaves; the argument stands in Invariants.antt. Assumes nothing.
use mathlib.Core.Path.{◌≡◌, refl}
use lib.ListN.{length}
use native.Mathlib.Numerals.{add-one}
use native.Mathlib.Omega.{arith}
use Rattle.windows.proofs.counts.some_misfits.Goals as goal

-- src/lib.rt:59:5
pub loop-i-init : goal.loop-i-init
loop-i-init c = (omega arith, refl)

-- src/lib.rt:60:56
-- src/lib.rt:60:56
-- src/lib.rt:60:74
-- src/lib.rt:60:74
-- src/lib.rt:60:21
-- src/lib.rt:61:9
-- src/lib.rt:59:5
-- src/lib.rt:59:5
pub loop-i-preserved : goal.loop-i-preserved
loop-i-preserved c = (omega arith, rw (add-one, c.loop-i.invariant.1, c.misfits-bad.ensures.answer))

-- src/lib.rt:53:1
pub returns : goal.returns
returns c =
    let all : c.loop-i.i ≡ length c.args.starts.now = omega arith in
    record { answer = rw (← all) c.loop-i.invariant.1 }
