-- `most_of` meets its contract: a store's bits are above 0, so one less is there. Assumes nothing.
use Rattle.sheet_scan.proofs.StoreLaws.{named_some}
use Rattle.sheet_scan.proofs.heads.most_of.Goals as goal

pub overflow_sub-result : goal.overflow_sub-result
overflow_sub-result c = rw c.store_named-store.ensures.answer (named_some c.args.bits)

pub returns : goal.returns
returns c = record { answer = rw c.store_named-store.ensures.answer }
