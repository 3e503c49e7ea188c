-- `sums::add_pixels`: the goals that the check leaves; the argument stands in Invariants.antt. Assumes nothing.
use mathlib.Core.Path.{◌≡◌, refl, ap, ◌∙◌}
use Prim.Native.Nat.{ℕ}
use native.Mathlib.Omega.{arith}
use lib.Ieee.{nan}
use lib.ListN.{length}
use Rattle.lists.specs.Tab.{front}
use Rattle.lists.proofs.TabLaws.{written_none, written_more, front_whole}
use Rattle.row_u16.proofs.Parts.{not_yet}
use Rattle.pixels_u16.specs.Places.{added_at}
use Rattle.pixels_u16.proofs.sums.add_pixels.Goals as goal

pub loop-t-init : goal.loop-t-init
loop-t-init c = written_none

pub nonzero_div-t : goal.nonzero_div-t
nonzero_div-t c = omega (arith, c.requires.le_components)

pub overflow_mul-t : goal.overflow_mul-t
overflow_mul-t c = omega (arith, c.requires.by_index c.loop-t.t (omega (arith, c.loop-t.invariant.long)))

pub overflow_add-at : goal.overflow_add-at
overflow_add-at c = omega (arith, c.requires.by_index c.loop-t.t (omega (arith, c.loop-t.invariant.long)))

pub nonzero_rem-t : goal.nonzero_rem-t
nonzero_rem-t c = omega (arith, c.requires.le_components)

pub overflow_add-at-in-loop-t : goal.overflow_add-at-in-loop-t
overflow_add-at-in-loop-t c = omega (arith, c.requires.by_index c.loop-t.t (omega (arith, c.loop-t.invariant.long)))

pub offset_bounds-src-at : goal.offset_bounds-src-at
offset_bounds-src-at c = omega (arith, c.requires.by_index c.loop-t.t (omega (arith, c.loop-t.invariant.long)))

pub bounds-src-at : goal.bounds-src-at
bounds-src-at c = c.requires.by_index c.loop-t.t (omega (arith, c.loop-t.invariant.long))

pub loop-t-preserved : goal.loop-t-preserved
loop-t-preserved c =
    written_more c.loop-t.invariant (omega (arith, c.loop-t.invariant.long)) (c.added.ensures.answer ∙ rw (not_yet nan c.loop-t.invariant) refl)

pub returns : goal.returns
returns c =
    let a = c.args in
    let f = added_at a.ss.now a.w a.src.now a.at a.components a.row in
    let all : c.loop-t.t ≡ length a.ss.now = omega (arith, c.loop-t.invariant.long) in
    c.loop-t.invariant.is ∙ ap (λ (n : ℕ). front n f a.ss.now) all ∙ front_whole f a.ss.now
