-- `writer::put_sheet` meets its contract: the head, then the windows' lines, then the excesses, are the sheet (`whole`). Assumes nothing.
use lib.ListN.{length}
use borrow.Author.Rules.{rules}
use Rattle.windows.specs.Set.{layout_of, set_of, stored_of}
use Rattle.windows.proofs.Fits.{fits_most}
use Rattle.sheet.proofs.SheetLaws.{whole}
use Rattle.write_sheets.proofs.writer.put_sheet.Goals as goal

pub put_windows-q-requires : goal.put_windows-q-requires
put_windows-q-requires g c =
    let a = c.args in
    fits_most (layout_of a.lines a.window_size a.starts.now a.sizes.now) (length a.weights.now) c.requires

pub returns : goal.returns
returns g c =
    let a = c.args in
    let head-place = rw c.STORE.ensures at c.put_head-p.ensures.answer in
    let head-written = rw c.STORE.ensures at c.put_head-p.ensures.written in
    let both = whole a.kind g.W.Weight.STORE (stored_of (set_of (layout_of a.lines a.window_size a.starts.now a.sizes.now) (g.W.Weight.values a.weights.now)) a.precision a.excesses.now) a.out.now (search rules) head-place head-written c.put_windows-q.ensures.answer c.put_windows-q.ensures.written c.put_excesses.ensures.answer c.put_excesses.ensures.written in
    record { answer = both.0; written = both.1 }
