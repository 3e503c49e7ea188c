-- `decimal::put_number`: the goals that the check leaves; the argument stands in Invariants.antt. Assumes nothing.
use mathlib.Core.Path.{◌≡◌, ap, ◌∙◌}
use Prim.Native.Nat.{ℕ}
use native.Mathlib.Omega.{arith}
use lib.ListN.{set}
use borrow.Author.Rules.{rules}
use Rattle.lists.specs.Tab.{tab}
use Rattle.text.specs.Text.{digit_at_value, decimal}
use Rattle.text.proofs.TextLaws.{laid_none, laid_slot, laid_long}
use Rattle.text.proofs.decimal.put_number.Goals as goal

pub loop-i-init : goal.loop-i-init
loop-i-init c = (search rules, laid_none _ _ (search rules) (search rules))

pub loop-i-preserved : goal.loop-i-preserved
loop-i-preserved c =
    let put = c.put_byte-p in (
      search rules,
      laid_slot (digit_at_value c.args.n c.digit_count-k.result) c.loop-i.i c.loop-i.invariant.1 put.ensures.answer
          (put.ensures.written ∙ ap (λ (b : ℕ). set c.loop-i.out c.loop-i.p b) c.digit_at.ensures.answer),
    )

pub shape_of-out : goal.shape_of-out
shape_of-out c = laid_long c.loop-i.invariant.1

pub returns : goal.returns
unfolding decimal
returns c =
    let args = c.args in
    let all : c.loop-i.i ≡ c.digit_count-k.result = omega arith in
    let whole : tab 0 c.loop-i.i (digit_at_value args.n c.digit_count-k.result) ≡ decimal args.n = rw (all, c.digit_count-k.ensures.answer) in
    record { answer = c.loop-i.invariant.1.place ∙ rw whole; written = c.loop-i.invariant.1.is ∙ rw whole }
