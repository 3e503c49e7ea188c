-- `first_sheet`: a scan finds a sheet, or stops where none is. Assumes nothing.
use mathlib.Core.Bool.{true}
use Rattle.sheet_scan.specs.Language.{sheets}
use Rattle.book.proofs.SheetLaws.{first_none, first_some}
use Rattle.book.proofs.RestLaws.{stop_past}
use Rattle.book.proofs.first.first_sheet.Goals as goal

pub no_sheet-requires : goal.no_sheet-requires
no_sheet-requires c = stop_past (sheets true) c.in-Err.ensures.answer

pub returns-in-Ok : goal.returns-in-Ok
returns-in-Ok c = record { answer = first_some c.in-Ok.ensures.answer }

pub returns-in-Err : goal.returns-in-Err
returns-in-Err c = record { answer = first_none c.in-Err.ensures.answer c.no_sheet.ensures.answer }
