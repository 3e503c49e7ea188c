-- `write_report` meets its contract: the run over one byte counts the whole text, and the text is written where there is room for it. Assumes nothing.
use mathlib.Core.Path.{◌∙◌}
use native.Mathlib.Omega.{arith}
use Rattle.book_text.proofs.TextLaws.{counted, room_refused, all_written}
use Rattle.book_text.proofs.write_report.Goals as goal

pub returns-then-out-n : goal.returns-then-out-n
returns-then-out-n c =
    let both = room_refused c.args.r c.args.out.now (omega (arith, c.if-out-n.true, c.put_report-n.ensures.answer, counted c.args.r)) in
    record { answer = both.0; written = both.1 }

pub returns : goal.returns
returns c =
    let long = c.put_report-n.ensures.answer ∙ counted c.args.r in
    let both = all_written c.args.r c.args.out.now (omega (arith, c.if-out-n.false, long)) long c.put_report.ensures.written in
    record { answer = both.0; written = both.1 }
