-- `weights::finish`: the goals that the check leaves; the argument stands in Invariants.antt. Assumes nothing.
use native.Mathlib.Nat.{le_refl}
use mathlib.Core.List.{List}
use mathlib.Core.Path.{◌≡◌, ◌∙◌, ap}
use lib.ListN.{length, get_or}
use lib.Ieee.{Float, nan}
use Rattle.lists.proofs.TabLaws.{written_none, written_more, front_whole, front_past}
use Rattle.line_weights.specs.Weights.{share_of}
use Rattle.line_weights.specs.Weights.{share_at}
use borrow.Author.Rules.{rules}
use native.Mathlib.Omega.{arith}
use Rattle.line_weights.proofs.weights.finish.Goals as goal

pub loop-k-init : goal.loop-k-init
loop-k-init c = (omega arith, written_none)

pub loop-k-preserved : goal.loop-k-preserved
loop-k-preserved c =
    let args = c.args in
    let old = args.row.now in
    let here : get_or c.loop-k.row c.loop-k.k nan ≡ get_or old c.loop-k.k nan =
    ap (λ (l : List Float). get_or l c.loop-k.k nan) c.loop-k.invariant.1.is
    ∙ front_past c.loop-k.k (share_at args.n args.total old) old c.loop-k.k nan (le_refl c.loop-k.k) in (
      search rules,
      written_more c.loop-k.invariant.1 (search rules) (c.share.ensures.answer ∙ ap (share_of args.n args.total c.loop-k.k) here),
    )

pub returns : goal.returns
returns c =
    let args = c.args in
    let old = args.row.now in
    let all : c.loop-k.k ≡ length old = omega arith in
    record { written = c.loop-k.invariant.1.is ∙ rw all (front_whole (share_at args.n args.total old) old) }
