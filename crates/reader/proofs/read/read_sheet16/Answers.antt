-- `read_sheet16`: only the 16-bit store is taken, whose weights a list of 16-bit weights holds. Assumes nothing.
use Rattle.reader.proofs.ReadLaws.{limit_15}
use Rattle.reader.proofs.read.read_sheet16.Goals as goal

pub read-requires : goal.read-requires
read-requires c = record { held = limit_15 }
