-- `scan_rest`: the store's lines, and then the windows' lines with the limits of that store. Assumes nothing.
use Rattle.scan.proofs.FieldLaws.{found_within}
use Rattle.scan.proofs.Handed.{handed}
use Rattle.sheet_scan.proofs.WholeLaws.{limit_least, limit_most, rest_no_store, rest_no_window}
use Rattle.sheet_scan.proofs.rest.scan_rest.Goals as goal

pub returns-in_err-store : goal.returns-in_err-store
returns-in_err-store c = record { answer = rw (handed c.from_residual.result _ c.from_residual.ensures.1) (rest_no_store _ c.args.v c.requires.0 c.in_err-store.ensures.answer) }

pub scan_windows-requires : goal.scan_windows-requires
scan_windows-requires c =
    let f = rw c.in_ok-store.was at c.scan_store.ensures.answer in
    (c.requires.0.0.0, c.requires.0.2.0, rw c.limit_of-limit.ensures.answer (limit_least c.in_ok-store.store.bits), rw c.limit_of-limit.ensures.answer (limit_most c.in_ok-store.store.bits), found_within _ c.requires.1 f)

pub returns-in_err-next : goal.returns-in_err-next
returns-in_err-next c =
    let f = rw c.in_ok-store.was at c.scan_store.ensures.answer in
    let s = rw c.limit_of-limit.ensures.answer at c.in_err-next.ensures.answer in
    record { answer = rw (handed c.from_residual-in_err-next.result _ c.from_residual-in_err-next.ensures.1) (rest_no_window _ c.args.v f s) }

pub returns : goal.returns
returns c =
    let f = rw c.in_ok-store.was at c.scan_store.ensures.answer in
    let g = rw (c.limit_of-limit.ensures.answer, c.in_ok-next.was) at c.scan_windows.ensures.answer in
    record { answer = (f, g) }
