-- `lines::put_weights`: the goals that the check leaves; the argument stands in Invariants.antt. Assumes nothing.
use mathlib.Core.Path.{◌≡◌, sym, ap, ◌∙◌}
use Prim.Native.Nat.{◌+◌}
use lib.IntN.{pos}
use lib.ListN.{get_or}
use native.Mathlib.Omega.{arith}
use mir.Facts.{to_z-of_z}
use mir.Syntax.{w64}
use mir.Val.{to_z, of_z}
use borrow.Author.Rules.{rules}
use Rattle.text.proofs.TextLaws.{laid_none, laid_piece}
use Rattle.windows.proofs.WeightLaws.{value_at}
use Rattle.sheet.specs.Text.{item_at, list_text}
use Rattle.sheet_text.proofs.lines.put_weights.Goals as goal

pub loop-j-init : goal.loop-j-init
loop-j-init g c = (search rules, laid_none _ _ (search rules) (search rules))

pub loop-j-preserved : goal.loop-j-preserved
loop-j-preserved g c =
    let a = c.args in
    let weight = g.W.Weight in
    let k = a.from + c.loop-j.j in
    let item = c.index-weights-from in
    let numbers = weight.values a.weights.now in
    let read : to_z w64 (of_z w64 c.number.result) ≡ get_or numbers k (pos 0) =
    to_z-of_z {w = w64} (record { sfits = c.number.type_inv }) ∙ c.number.ensures.answer ∙ ap weight.value item.is ∙ sym (value_at g.met.W.Weight.each a.weights.now k item.result (pos 0) (omega (arith, c.requires))) in
    (search rules, laid_piece (item_at numbers a.from) c.loop-j.j c.loop-j.invariant.1 (c.put_item-p.ensures.answer ∙ rw read) (c.put_item-p.ensures.written ∙ rw read))

pub returns : goal.returns
unfolding list_text
returns g c =
    let all : c.loop-j.j ≡ c.args.size = omega arith in
    rw (← all) (record { answer = c.loop-j.invariant.1.place; written = c.loop-j.invariant.1.is })
