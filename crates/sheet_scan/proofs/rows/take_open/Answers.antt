-- `take_open`: the window's own number, a start below the lines, and a size that ends within them; each can be completed by the next. Assumes nothing.
use borrow.Author.Rules.{rules}
use Prim.Native.Nat.{◌<◌, ◌^◌}
use Rattle.scan.proofs.FieldLaws.{found_within}
use Rattle.scan.proofs.Handed.{handed}
use Rattle.sheet_scan.proofs.OpenLaws.{plain_comma, plain_colon, open_no_number, open_no_start, open_no_size, open_found}
use native.Mathlib.Omega.{arith}
use Rattle.sheet_scan.proofs.rows.take_open.Goals as goal

pub returns-in_err-p : goal.returns-in_err-p
returns-in_err-p c = record { answer = rw (handed c.from_residual.result _ c.from_residual.ensures.1) (open_no_number c.args.lines c.args.window c.args.i c.requires.0 c.requires.1 c.in_err-p.ensures.answer) }

pub take_number-requires : goal.take_number-requires
take_number-requires c =
    let f = rw c.in_ok-p.was at c.take_field.ensures.answer in
    (omega arith, search rules, plain_comma, found_within _ c.requires.2 f)

pub returns-in_err-start : goal.returns-in_err-start
returns-in_err-start c =
    let f = rw c.in_ok-p.was at c.take_field.ensures.answer in
    record { answer = rw (handed c.from_residual-in_err-start.result _ c.from_residual-in_err-start.ensures.1) (open_no_start c.args.lines c.args.window c.args.i c.requires.0 c.requires.1 f c.in_err-start.ensures.answer) }

pub overflow_sub-lines-2 : goal.overflow_sub-lines-2
overflow_sub-lines-2 c =
    let g = rw c.in_ok-start.was at c.take_number.ensures.answer in
    let high = g.good.1 in
    omega arith

pub take_number-requires-2 : goal.take_number-requires-2
take_number-requires-2 c =
    let f = rw c.in_ok-p.was at c.take_field.ensures.answer in
    let g = rw c.in_ok-start.was at c.take_number.ensures.answer in
    let high = g.good.1 in
    let some = c.requires.0 in
    let slot = c.requires.1 in
    let start = c.in_ok-start.start in
    let w : c.args.window < 2 ^ 32 = search rules in
    (rw c.min-most.ensures (omega arith), rw c.min-most.ensures (omega arith), plain_colon, found_within _ (found_within _ c.requires.2 f) g)

pub returns-in_err-size : goal.returns-in_err-size
returns-in_err-size c =
    let f = rw c.in_ok-p.was at c.take_field.ensures.answer in
    let g = rw c.in_ok-start.was at c.take_number.ensures.answer in
    let s = rw c.min-most.ensures at c.in_err-size.ensures.answer in
    record { answer = rw (handed c.from_residual-in_err-size.result _ c.from_residual-in_err-size.ensures.1) (open_no_size c.args.lines c.args.window c.args.i c.requires.0 c.requires.1 f (search rules) g s) }

pub overflow_cast-result : goal.overflow_cast-result
overflow_cast-result c =
    let g = rw c.in_ok-start.was at c.take_number.ensures.answer in
    let high = g.good.1 in
    search rules

pub overflow_cast-result-2 : goal.overflow_cast-result-2
overflow_cast-result-2 c =
    let h = rw (c.min-most.ensures, c.in_ok-size.was) at c.take_number-2.ensures.answer in
    let high = h.good.1 in
    search rules

pub returns : goal.returns
returns c =
    let f = rw c.in_ok-p.was at c.take_field.ensures.answer in
    let g = rw c.in_ok-start.was at c.take_number.ensures.answer in
    let h = rw (c.min-most.ensures, c.in_ok-size.was) at c.take_number-2.ensures.answer in
    record { answer = open_found c.args.lines c.args.window c.args.i c.requires.0 c.requires.1 f (search rules) g h }
