-- `mirror_book_lines`: an arm for each case of the writer's answer; number, list and length are that case's. The two excesses go into the report as their bits and are
-- read back as they were (`to_z-of_z`). Assumes nothing.
use mathlib.Core.Path.{◌∙◌, sym, ap}
use mir.Syntax.{w64}
use mir.Facts.{to_z-of_z}
use Rattle.sheet.specs.Answer.{number_of, length_of}
use Rattle.mirror_book.proofs.lines.mirror_book_lines.Goals as goal

pub returns-in-Ok : goal.returns-in-Ok
returns-in-Ok c =
    let told = rw (to_z-of_z {w = w64} c.ranges.least, to_z-of_z {w = w64} c.ranges.most) at c.write_report.ensures.answer in
    let left = rw (to_z-of_z {w = w64} c.ranges.least, to_z-of_z {w = w64} c.ranges.most) at c.write_report.ensures.written in
    let is = sym c.in-Ok.is ∙ told in
    record { answer = ap number_of is; written = left; written2 = ap length_of is }

pub returns-in-Err : goal.returns-in-Err
returns-in-Err c =
    let told = rw (to_z-of_z {w = w64} c.ranges.least, to_z-of_z {w = w64} c.ranges.most) at c.write_report.ensures.answer in
    let left = rw (to_z-of_z {w = w64} c.ranges.least, to_z-of_z {w = w64} c.ranges.most) at c.write_report.ensures.written in
    let is = sym c.in-Err.is ∙ told in
    record { answer = c.number.ensures.answer ∙ ap number_of is; written = left; written2 = ap length_of is }
