-- `mirror_book`: the numbers in their places and the answer are, together, the report that `book` gave; the two excesses are stored as their bits and read back as they
-- were (`to_z-of_z`). Assumes nothing.
use mathlib.Core.Path.{◌≡◌}
use mathlib.Core.List.{List}
use Prim.Native.Nat.{ℕ}
use lib.IntN.{ℤ}
use mir.Syntax.{w64}
use mir.Val.{to_z, of_z}
use mir.Facts.{to_z-of_z}
use borrow.Author.Rules.{rules}
use Rattle.book_numbers.specs.declared.Report.{Report}
use Rattle.book.specs.Book.{BookOf}
use Rattle.mirror_book.specs.Told.{reported}
use Rattle.mirror_book.proofs.report.mirror_book.Goals as goal

-- a report told number by number is that report
told : (text : List ℕ) (r : Report) (l m : ℤ) → l ≡ r.least → m ≡ r.most → BookOf text r → BookOf text (reported r.sheets r.windows l m r.notflat r.negative r.stopped r.byte)
told text r l m least most b = rw (least, most) b

pub returns : goal.returns
returns c =
    let called = c.book-r in
    let least : to_z w64 (of_z w64 called.result.least) ≡ called.result.least = to_z-of_z {w = w64} (search rules) in
    let most : to_z w64 (of_z w64 called.result.most) ≡ called.result.most = to_z-of_z {w = w64} (search rules) in
    record { answer = told _ called.result _ _ least most called.ensures.answer }
