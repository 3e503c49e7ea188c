-- `mirror_sheet16`: a code above 3 takes the first arm; else the filter is named, and number, list and length are the library's. Assumes nothing.
use mathlib.Core.Path.{◌∙◌, ap, refl}
use borrow.Author.Tests.{lt-ltb, le-ltb}
use Rattle.sheet.specs.Answer.{number_of, length_of}
use Rattle.mirror_sheets.proofs.narrow.mirror_sheet16.Goals as goal

pub returns-then-filter-gt3 : goal.returns-then-filter-gt3
returns-then-filter-gt3 c = simp (lt-ltb _ _ c.if-filter-gt3.true) (record { answer = refl; written = refl; written2 = refl })

pub returns : goal.returns
returns c =
    let told = rw c.filter_named-kind.ensures.answer at c.write_sheet16-answer.ensures.answer in
    let left = rw c.filter_named-kind.ensures.answer at c.write_sheet16-answer.ensures.written in
    rw (le-ltb _ _ c.if-filter-gt3.false)
    (record { answer = c.number.ensures.answer ∙ ap number_of told; written = left; written2 = c.unwrap_or.ensures ∙ ap length_of told })
