-- `take_store` meets its contract: the key and then the bits. Assumes nothing.
use Rattle.scan.proofs.FieldLaws.{found_within}
use Rattle.scan.proofs.Handed.{handed}
use Rattle.sheet_scan.proofs.StoreLaws.{store_no_key, store_scans}
use Rattle.sheet_scan.proofs.heads.take_store.Goals as goal

pub take_bits-requires : goal.take_bits-requires
take_bits-requires c =
    let f = rw c.in_ok-next.was at c.take_key.ensures.answer in
    found_within _ c.requires f.1

pub returns-in_err-next : goal.returns-in_err-next
returns-in_err-next c = record { answer = rw (handed c.from_residual.result _ c.from_residual.ensures.1) (store_no_key _ c.in_err-next.ensures.answer) }

pub returns : goal.returns
returns c =
    let f = rw c.in_ok-next.was at c.take_key.ensures.answer in
    record { answer = store_scans _ c.take_bits.result f.1 c.take_bits.ensures.answer }
