-- `sums::add_line`: the goals that the check leaves; the argument stands in Invariants.antt. Assumes nothing.
use mathlib.Core.Path.{◌≡◌, refl, ap, ◌∙◌}
use Prim.Native.Nat.{ℕ}
use native.Mathlib.Omega.{arith}
use lib.IntN.{pos}
use lib.ListN.{length}
use mir.Facts.{to_z-of_z}
use mir.Syntax.{w32}
use mir.Val.{to_z, of_z}
use Rattle.lists.specs.Tab.{front}
use Rattle.lists.proofs.TabLaws.{written_none, written_more, front_whole}
use Rattle.row_u16.specs.Chunks.{step_at}
use Rattle.vertical.proofs.ReadBack.{back64 as back}
use Rattle.row_u16.proofs.Parts.{not_yet}
use Rattle.row_u16.proofs.sums.add_line.Goals as goal

pub loop-t-init : goal.loop-t-init
loop-t-init c = written_none

pub step-requires : goal.step-requires
step-requires c =
    rw (back c.step-arg-1.given, not_yet (pos 0) c.loop-t.invariant) (c.requires.by_index c.loop-t.t (omega (arith, c.loop-t.invariant.long)))

pub loop-t-preserved : goal.loop-t-preserved
loop-t-preserved c = written_more c.loop-t.invariant (omega (arith, c.loop-t.invariant.long)) (back c.step.type_inv ∙ (c.step.ensures.answer ∙ rw (back c.step-arg-1.given, not_yet (pos 0) c.loop-t.invariant) refl))

pub returns : goal.returns
returns c =
    let f = step_at c.args.ss.now (to_z w32 (of_z w32 c.args.w)) c.args.src.now c.args.at in
    let all : c.loop-t.t ≡ length c.args.ss.now = omega (arith, c.loop-t.invariant.long) in
    rw (← to_z-of_z c.ranges.w) (c.loop-t.invariant.is ∙ ap (λ (n : ℕ). front n f c.args.ss.now) all ∙ front_whole f c.args.ss.now)
