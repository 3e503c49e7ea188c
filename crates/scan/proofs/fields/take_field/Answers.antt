-- `take_field` meets its contract: a key and then a number, by the laws of one piece after another. Assumes nothing.
use Rattle.scan.proofs.FieldLaws.{field_no_key, field_scans, found_within}
use Rattle.scan.proofs.Handed.{handed}
use Rattle.scan.proofs.fields.take_field.Goals as goal

pub take_number-requires : goal.take_number-requires
take_number-requires c =
    let f = rw c.in_ok-next.was at c.take_key.ensures.answer in
    (c.requires.0, c.requires.1, c.requires.2, found_within _ c.requires.3 f.1)

pub returns-in_err-next : goal.returns-in_err-next
returns-in_err-next c =
    record { answer = rw (handed c.from_residual.result _ c.from_residual.ensures.1) (field_no_key _ _ _ _ c.requires.0 c.in_err-next.ensures.answer) }

pub returns : goal.returns
returns c =
    let f = rw c.in_ok-next.was at c.take_key.ensures.answer in
    record { answer = field_scans _ _ _ _ c.take_number.result f.1 c.take_number.ensures.answer }
