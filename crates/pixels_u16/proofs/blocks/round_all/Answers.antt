-- `blocks::round_all`: the goals that the check leaves; the argument stands in Invariants.antt. Assumes nothing.
use mathlib.Core.Path.{◌≡◌, ap, ◌∙◌}
use Prim.Native.Nat.{ℕ}
use native.Mathlib.Omega.{arith}
use lib.ListN.{length}
use Rattle.lists.specs.Tab.{tab, front}
use Rattle.lists.proofs.TabLaws.{written_none, written_more, front_whole}
use Rattle.row_u16.specs.Chunks.{cut_at}
use Rattle.pixels_u16.proofs.blocks.round_all.Goals as goal

pub loop-t-init : goal.loop-t-init
loop-t-init c = written_none

pub bounds-ss-t : goal.bounds-ss-t
bounds-ss-t c =
    omega (arith, c.loop-t.invariant.long, c.requires.samples_len)

pub cut-requires : goal.cut-requires
cut-requires c =
    c.requires.by_index c.loop-t.t (omega (arith, c.loop-t.invariant.long, c.requires.samples_len))

pub loop-t-preserved : goal.loop-t-preserved
loop-t-preserved c =
    written_more c.loop-t.invariant (omega (arith, c.loop-t.invariant.long)) c.cut.ensures.answer

pub returns : goal.returns
returns c =
    let a = c.args in
    let f = cut_at a.ss.now a.top a.big in
    let all : c.loop-t.t ≡ length a.samples.now = omega (arith, c.loop-t.invariant.long) in
    c.loop-t.invariant.is ∙ ap (λ (n : ℕ). front n f a.samples.now) all ∙ front_whole f a.samples.now ∙ ap (λ (n : ℕ). tab 0 n f) c.requires.samples_len
