-- `read_sheet`: a list of 32-bit weights holds those of either store. Assumes nothing.
use Rattle.reader.proofs.ReadLaws.{limit_31}
use Rattle.reader.proofs.read.read_sheet.Goals as goal

pub read-requires : goal.read-requires
read-requires c = record { held = λ bits taken. limit_31 bits }
