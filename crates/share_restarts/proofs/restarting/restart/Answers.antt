-- `restarting::restart` meets its contract: each refusal is a rung of `restarted_of`; else the numbers are all made 0 and the shares written (`new_numbers`). Assumes nothing.
use mathlib.Core.Path.{◌∙◌, sym, refl}
use native.Mathlib.Omega.{arith}
use lib.ListN.{length, length-set}
use Rattle.shares.specs.Machine.{restarted_of, numbers_by, next}
use Rattle.shares.proofs.Opened.{lengths}
use Rattle.share_restarts.proofs.Emptied.{new_numbers}
use Rattle.share_restarts.proofs.restarting.restart.Goals as goal

pub returns-then-lists_misfit : goal.returns-then-lists_misfit
unfolding restarted_of numbers_by next
returns-then-lists_misfit c = rw (sym c.lists_misfit.ensures.answer ∙ c.if-lists_misfit.true) (record { answer = refl; written = refl })

pub returns-then-too_few : goal.returns-then-too_few
unfolding restarted_of numbers_by next
returns-then-too_few c = rw (sym c.lists_misfit.ensures.answer ∙ c.if-lists_misfit.false, sym c.too_few.ensures.answer ∙ c.if-too_few.true) (record { answer = refl; written = refl })

pub bounds-numbers-0 : goal.bounds-numbers-0
bounds-numbers-0 c =
    let a = c.args in
    let l = lengths (length a.numbers.now) (length a.starts.now) (length a.sizes.now) (length a.excesses.now) (sym c.lists_misfit.ensures.answer ∙ c.if-lists_misfit.false) in
    omega (arith, l.numbers, c.clear.auto.numbers)

pub bounds-numbers-5 : goal.bounds-numbers-5
bounds-numbers-5 c =
    let a = c.args in
    let l = lengths (length a.numbers.now) (length a.starts.now) (length a.sizes.now) (length a.excesses.now) (sym c.lists_misfit.ensures.answer ∙ c.if-lists_misfit.false) in
    omega (arith, l.numbers, c.clear.auto.numbers, length-set c.clear.new.numbers 0 a.first)

pub returns : goal.returns
unfolding restarted_of numbers_by next
returns c =
    let a = c.args in
    let good = sym c.lists_misfit.ensures.answer ∙ c.if-lists_misfit.false in
    let l = lengths (length a.numbers.now) (length a.starts.now) (length a.sizes.now) (length a.excesses.now) good in
    rw (good, sym c.too_few.ensures.answer ∙ c.if-too_few.false) (record { answer = refl; written = new_numbers a.numbers.now c.clear.new.numbers a.first a.second l.numbers c.clear.ensures.written })
