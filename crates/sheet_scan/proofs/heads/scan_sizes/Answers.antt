-- `scan_sizes`: four lines one after the other; each that is not there ends the scan, and what came before it can always be completed. Assumes nothing.
use lib.Dec.{lit≤, lit<}
use Rattle.scan.proofs.FieldLaws.{found_within}
use Rattle.scan.proofs.Handed.{handed}
use Rattle.sheet_scan.proofs.HeadLaws.{no_digit, sizes_no_kind, sizes_no_in, sizes_no_out, sizes_no_window, sizes_found}
use native.Mathlib.Omega.{arith}
use Rattle.sheet_scan.proofs.heads.scan_sizes.Goals as goal

pub returns-in_err-kind : goal.returns-in_err-kind
returns-in_err-kind c = record { answer = rw (handed c.from_residual.result _ c.from_residual.ensures.1) (sizes_no_kind c.in_err-kind.ensures.answer) }

pub take_field-requires : goal.take_field-requires
take_field-requires c =
    let f = rw c.in_ok-kind.was at c.take_kind.ensures.answer in
    (lit≤ tt, lit< tt, no_digit, found_within _ c.requires f)

pub returns-in_err-lines : goal.returns-in_err-lines
returns-in_err-lines c =
    let f = rw c.in_ok-kind.was at c.take_kind.ensures.answer in
    record { answer = rw (handed c.from_residual-in_err-lines.result _ c.from_residual-in_err-lines.ensures.1) (sizes_no_in f c.in_err-lines.ensures.answer) }

pub take_field-requires-2 : goal.take_field-requires-2
take_field-requires-2 c =
    let f = rw c.in_ok-kind.was at c.take_kind.ensures.answer in
    let g = rw c.in_ok-lines.was at c.take_field.ensures.answer in
    (lit≤ tt, lit< tt, no_digit, found_within _ (found_within _ c.requires f) g)

pub returns-in_err-outs : goal.returns-in_err-outs
returns-in_err-outs c =
    let f = rw c.in_ok-kind.was at c.take_kind.ensures.answer in
    let g = rw c.in_ok-lines.was at c.take_field.ensures.answer in
    record { answer = rw (handed c.from_residual-in_err-outs.result _ c.from_residual-in_err-outs.ensures.1) (sizes_no_out f g c.in_err-outs.ensures.answer) }

pub take_field-requires-3 : goal.take_field-requires-3
take_field-requires-3 c =
    let f = rw c.in_ok-kind.was at c.take_kind.ensures.answer in
    let g = rw c.in_ok-lines.was at c.take_field.ensures.answer in
    let h = rw c.in_ok-outs.was at c.take_field-2.ensures.answer in
    (lit≤ tt, lit< tt, no_digit, found_within _ (found_within _ (found_within _ c.requires f) g) h)

pub returns-in_err-window : goal.returns-in_err-window
returns-in_err-window c =
    let f = rw c.in_ok-kind.was at c.take_kind.ensures.answer in
    let g = rw c.in_ok-lines.was at c.take_field.ensures.answer in
    let h = rw c.in_ok-outs.was at c.take_field-2.ensures.answer in
    record { answer = rw (handed c.from_residual-in_err-window.result _ c.from_residual-in_err-window.ensures.1) (sizes_no_window f g h c.in_err-window.ensures.answer) }

pub overflow_cast-sizes : goal.overflow_cast-sizes
overflow_cast-sizes c =
    let g = rw c.in_ok-lines.was at c.take_field.ensures.answer in
    let high = g.good.1 in
    record { fits = omega arith }

pub overflow_cast-sizes-2 : goal.overflow_cast-sizes-2
overflow_cast-sizes-2 c =
    let h = rw c.in_ok-outs.was at c.take_field-2.ensures.answer in
    let high = h.good.1 in
    record { fits = omega arith }

pub overflow_cast-sizes-3 : goal.overflow_cast-sizes-3
overflow_cast-sizes-3 c =
    let i = rw c.in_ok-window.was at c.take_field-3.ensures.answer in
    let high = i.good.1 in
    record { fits = omega arith }

pub returns : goal.returns
returns c =
    let f = rw c.in_ok-kind.was at c.take_kind.ensures.answer in
    let g = rw c.in_ok-lines.was at c.take_field.ensures.answer in
    let h = rw c.in_ok-outs.was at c.take_field-2.ensures.answer in
    let i = rw c.in_ok-window.was at c.take_field-3.ensures.answer in
    record { answer = sizes_found f g h i }
