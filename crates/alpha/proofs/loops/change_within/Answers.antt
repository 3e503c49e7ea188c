-- `loops::change_within`: the goals that the check leaves; the argument stands in Invariants.antt. Assumes nothing.
use mathlib.Core.Path.{◌∙◌, refl}
use Prim.Native.Nat.{ℕ, ◌+◌, ◌*◌, ◌<◌}
use native.Mathlib.Omega.{arith}
use lib.ListN.{length, get_or}
use Rattle.lists.proofs.TabLaws.{written_none}
use Rattle.pixel_lists.proofs.PixelLaws.{pixels_all, still}
use Rattle.alpha.proofs.WordLaws.{changed_word, word_more, still_word}
use Rattle.alpha.proofs.loops.change_within.Goals as goal

pub loop-q-init : goal.loop-q-init
loop-q-init g c = λ op h. written_none

pub loop-q-preserved : goal.loop-q-preserved
loop-q-preserved g c =
    let old = c.args.pixels.now in
    let q = c.loop-q.q in
    let small : (k : ℕ) → get_or old k 0 < 256 = λ k. (c.slice_known-1.given k).fits in
    λ op h.
    let w = c.loop-q.invariant op h in
    let e = changed_word old small q op h (c.load4.ensures.answer ∙ still_word q w) (rw (still q (q * 4 + 3) w (omega arith)) at c.change-x.ensures) in
    rw c.store4.ensures.written (word_more old small q op h.byte c.change-x.result e w (omega arith))

pub returns : goal.returns
returns g c = record { written = λ op h. pixels_all c.loop-q.q (length c.args.pixels.now) (c.loop-q.invariant op h) (omega arith) (omega arith) refl }
