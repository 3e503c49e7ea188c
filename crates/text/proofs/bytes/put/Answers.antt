-- `bytes::put`: the goals that the check leaves; the argument stands in Invariants.antt. Assumes nothing.
use mathlib.Core.Path.{◌≡◌, ap, ◌∙◌}
use mathlib.Core.List.{List}
use Prim.Native.Nat.{ℕ}
use native.Mathlib.Omega.{arith}
use lib.ListN.{length, get_or}
use borrow.Author.Rules.{rules}
use Rattle.lists.specs.Tab.{tab}
use Rattle.lists.proofs.TabLaws.{tab_get_d}
use Rattle.text.specs.Text.{laid, reached}
use Rattle.text.proofs.TextLaws.{laid_none, laid_slot, laid_long}
use Rattle.text.proofs.bytes.put.Goals as goal

pub loop-b-init : goal.loop-b-init
loop-b-init c = (search rules, laid_none _ _ (search rules) (search rules))

pub loop-b-preserved : goal.loop-b-preserved
loop-b-preserved c =
    let put = c.put_byte-p in
    let s = c.args.s.now in
    (search rules, laid_slot (λ k. get_or s k 0) c.loop-b.b-index c.loop-b.invariant.1 put.ensures.answer put.ensures.written)

pub shape_of-out : goal.shape_of-out
shape_of-out c = laid_long c.loop-b.invariant.1

pub returns : goal.returns
returns c =
    let args = c.args in
    let all : c.loop-b.b-index ≡ length args.s.now = omega arith in
    let whole : tab 0 c.loop-b.b-index (λ k. get_or args.s.now k 0) ≡ args.s.now = rw all (tab_get_d args.s.now 0) in
    record { answer = c.loop-b.invariant.1.place ∙ ap (λ (t : List ℕ). reached args.at (length t)) whole; written = c.loop-b.invariant.1.is ∙ ap (laid args.out.now args.at) whole }
