-- `take_kind` meets its contract: the key and then a name. Assumes nothing.
use Rattle.scan.proofs.FieldLaws.{found_within}
use Rattle.scan.proofs.Handed.{handed}
use Rattle.sheet_scan.proofs.NameLaws.{kind_no_key, kind_scans}
use Rattle.sheet_scan.proofs.names.take_kind.Goals as goal

pub take_name-requires : goal.take_name-requires
take_name-requires c =
    let f = rw c.in_ok-next.was at c.take_key.ensures.answer in
    found_within _ c.requires f.1

pub returns-in_err-next : goal.returns-in_err-next
returns-in_err-next c = record { answer = rw (handed c.from_residual.result _ c.from_residual.ensures.1) (kind_no_key c.in_err-next.ensures.answer) }

pub returns : goal.returns
returns c =
    let f = rw c.in_ok-next.was at c.take_key.ensures.answer in
    record { answer = kind_scans c.take_name.result f.1 c.take_name.ensures.answer }
