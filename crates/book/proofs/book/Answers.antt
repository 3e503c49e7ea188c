-- `book`: the goals that the check leaves; the argument stands in Invariants.antt. Assumes nothing.
use Prim.Native.Nat.{◌<◌, ◌^◌}
use native.Mathlib.Omega.{arith}
use lib.ListN.{length}
use borrow.Author.Rules.{rules}
use Rattle.book.proofs.BookLaws.{read_none, read_within, read_all, turn_ends, turn_goes}
use Rattle.book.proofs.book.Goals as goal

pub loop-at-init : goal.loop-at-init
loop-at-init c = read_none _

pub first_sheet-one-requires : goal.first_sheet-one-requires
first_sheet-one-requires c = read_within _ c.loop-at.invariant

pub returns-then-one-ne0 : goal.returns-then-one-ne0
returns-then-one-ne0 c = record { answer = turn_ends _ c.loop-at.invariant (search rules) c.loop-at-test.true c.first_sheet-one.ensures.answer c.join-r.ensures.answer (omega arith) }

pub overflow_add-at : goal.overflow_add-at
overflow_add-at c =
    let inside = (turn_goes _ c.loop-at.invariant (search rules) c.loop-at-test.true c.first_sheet-one.ensures.answer c.join-r.ensures.answer (omega arith)).1 in
    let small : length c.args.text.now < 2 ^ 64 = search rules in
    record { fits = omega arith }

pub loop-at-smaller : goal.loop-at-smaller
loop-at-smaller c =
    let go = turn_goes _ c.loop-at.invariant (search rules) c.loop-at-test.true c.first_sheet-one.ensures.answer c.join-r.ensures.answer (omega arith) in
    let inside = go.1 in
    let some = go.2 in
    omega arith

pub loop-at-preserved : goal.loop-at-preserved
loop-at-preserved c = (turn_goes _ c.loop-at.invariant (search rules) c.loop-at-test.true c.first_sheet-one.ensures.answer c.join-r.ensures.answer (omega arith)).0

pub returns : goal.returns
returns c = record { answer = read_all _ c.loop-at.invariant (search rules) }
