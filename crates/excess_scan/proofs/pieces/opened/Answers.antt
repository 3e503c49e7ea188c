-- `opened`: the line's beginning is there, so a scan finds it. Assumes nothing.
use Rattle.excess_scan.proofs.SureLaws.{sure_open}
use Rattle.excess_scan.proofs.pieces.opened.Goals as goal

pub unwrap-requires : goal.unwrap-requires
unwrap-requires c = sure_open _ c.take_open.result c.requires.there c.take_open.ensures.answer

pub returns : goal.returns
returns c = record { answer = rw c.unwrap.ensures at c.take_open.ensures.answer }
