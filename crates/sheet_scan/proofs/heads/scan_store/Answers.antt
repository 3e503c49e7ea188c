-- `scan_store`: the store's line, and then a precision in that store's range. The casts fit, since both numbers are small. Assumes nothing.
use Rattle.scan.proofs.FieldLaws.{found_within}
use Rattle.scan.proofs.Handed.{handed}
use Rattle.sheet_scan.proofs.HeadLaws.{no_digit}
use Rattle.sheet_scan.proofs.StoreLaws.{most_least, most_most, store_small, lines_no_store, lines_no_precision, lines_found}
use native.Mathlib.Omega.{arith}
use Rattle.sheet_scan.proofs.heads.scan_store.Goals as goal

pub returns-in_err-bits : goal.returns-in_err-bits
returns-in_err-bits c = record { answer = rw (handed c.from_residual.result _ c.from_residual.ensures.1) (lines_no_store _ c.in_err-bits.ensures.answer) }

pub take_field-requires : goal.take_field-requires
take_field-requires c =
    let f = rw c.in_ok-bits.was at c.take_store.ensures.answer in
    let bits = c.in_ok-bits.bits in
    let least = most_least bits in
    let most = most_most bits in
    (rw c.most_of.ensures.answer least, rw c.most_of.ensures.answer (omega arith), no_digit, found_within _ c.requires f)

pub returns-in_err-precision : goal.returns-in_err-precision
returns-in_err-precision c =
    let f = rw c.in_ok-bits.was at c.take_store.ensures.answer in
    let s = rw c.most_of.ensures.answer at c.in_err-precision.ensures.answer in
    record { answer = rw (handed c.from_residual-in_err-precision.result _ c.from_residual-in_err-precision.ensures.1) (lines_no_precision _ f s) }

pub overflow_cast-lines : goal.overflow_cast-lines
overflow_cast-lines c =
    let f = rw c.in_ok-bits.was at c.take_store.ensures.answer in
    let l = store_small _ _ f.good in
    record { fits = omega arith }

pub overflow_cast-lines-2 : goal.overflow_cast-lines-2
overflow_cast-lines-2 c =
    let g = rw (c.most_of.ensures.answer, c.in_ok-precision.was) at c.take_field.ensures.answer in
    let high = g.good.1 in
    let most = most_most c.in_ok-bits.bits in
    record { fits = omega arith }

pub returns : goal.returns
returns c =
    let f = rw c.in_ok-bits.was at c.take_store.ensures.answer in
    let g = rw (c.most_of.ensures.answer, c.in_ok-precision.was) at c.take_field.ensures.answer in
    record { answer = lines_found _ f g }
