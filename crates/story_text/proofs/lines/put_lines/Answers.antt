-- `lines::put_lines`: the goals that the check leaves; the argument stands in Invariants.antt. Assumes nothing.
use mathlib.Core.Path.{◌≡◌, ◌∙◌}
use Prim.Native.Nat.{◌<◌, ◌^◌}
use native.Mathlib.Omega.{arith}
use lib.Signed.{mag}
use mir.Facts.{to_z-of_z}
use mir.Syntax.{w32}
use mir.Val.{to_z, of_z}
use borrow.Author.Rules.{rules}
use Rattle.text.proofs.TextLaws.{laid_none, laid_piece, laid_long}
use Rattle.excesses.specs.Slots.{slot_from}
use Rattle.story_text.specs.There.{sample_from}
use Rattle.story_text.specs.Text.{camera_at, lines_text}
use Rattle.story_text.proofs.lines.put_lines.Goals as goal

pub loop-k-init : goal.loop-k-init
loop-k-init c = (search rules, laid_none _ _ (search rules) (search rules))

pub overflow_add-line : goal.overflow_add-line
overflow_add-line c = let there = c.requires.few in search rules

pub sample_at-sample-requires : goal.sample_at-sample-requires
sample_at-sample-requires c =
    omega (arith, c.requires.inside c.loop-k.k c.loop-k-test.true)

pub overflow_add-from : goal.overflow_add-from
overflow_add-from c = let there = c.requires.weights in search rules

pub offset_bounds-weights-from : goal.offset_bounds-weights-from
offset_bounds-weights-from c = let there = c.requires.weights in search rules

pub bounds-weights-from : goal.bounds-weights-from
bounds-weights-from c = omega (arith, c.requires.weights, c.loop-k-test.true)

pub loop-k-preserved : goal.loop-k-preserved
loop-k-preserved c =
    let a = c.args in
    let w = slot_from a.weights.now a.from in
    let narrow : mag (w c.loop-k.k) < 2 ^ 31 = c.put_camera-arg-1.given in
    let weight : to_z w32 (of_z w32 (w c.loop-k.k)) ≡ w c.loop-k.k = to_z-of_z {w = w32} (record { sfits = narrow }) in
    (search rules, laid_piece (camera_at a.start.0 w (sample_from a.src.now a.row a.column a.start.0)) c.loop-k.k c.loop-k.invariant.1 (c.put_camera-p.ensures.answer ∙ rw (weight, c.sample_at-sample.ensures.answer)) (c.put_camera-p.ensures.written ∙ rw (weight, c.sample_at-sample.ensures.answer)))

pub shape_of-out : goal.shape_of-out
shape_of-out c = laid_long c.loop-k.invariant.1

pub returns : goal.returns
unfolding lines_text
returns c =
    let all : c.loop-k.k ≡ c.args.size = omega arith in
    rw (← all) (record { answer = c.loop-k.invariant.1.place; written = c.loop-k.invariant.1.is })
