-- `scan_sheet` by its scans: the size lines, the rest, the line of the excesses. Each way out is a law over the text. Assumes nothing.
use mathlib.Core.Path.{ap, ◌∙◌}
use mathlib.Core.Bool.{true}
use mathlib.Core.List.{[]}
use Prim.Native.Nat.{◌-◌}
use native.Mathlib.Nat.{le_trans}
use Rattle.scan.proofs.Handed.{handed}
use Rattle.scan.proofs.FieldLaws.{found_within, found_on}
use Rattle.sheet_scan.specs.Language.{sheets}
use Rattle.sheet_scan.proofs.StoreLaws.{most_most}
use Rattle.sheet_scan.proofs.WholeLaws.{limit_least, sheet_no_sizes, rest_no_excess, sheet_no_rest, sheet_found}
use Rattle.reader.proofs.ReadLaws.{limit_31}
use Rattle.book_numbers.specs.declared.Report.{Report}
use Rattle.book_numbers.specs.Marks.{numbers_of}
use Rattle.book_numbers.specs.Joins.{join_of}
use Rattle.book.proofs.SheetLaws.{first_found}
use borrow.Author.Rules.{rules}
use Rattle.book.proofs.first.scan_sheet.Goals as goal

pub returns-in_err-v : goal.returns-in_err-v
returns-in_err-v c = record { answer = rw (handed c.from_residual.result _ c.from_residual.ensures.1) (sheet_no_sizes true c.in_err-v.ensures.answer) }

pub scan_rest-requires : goal.scan_rest-requires
scan_rest-requires c =
    let f = rw c.in_ok-v.was at c.scan_sizes.ensures.answer in
    (f.good, found_within _ c.requires f)

pub returns-in_err-store : goal.returns-in_err-store
returns-in_err-store c =
    let f = rw c.in_ok-v.was at c.scan_sizes.ensures.answer in
    record { answer = rw (handed c.from_residual-in_err-store.result _ c.from_residual-in_err-store.ensures.1) (sheet_no_rest true f c.in_err-store.ensures.answer) }

pub scan_excesses-requires : goal.scan_excesses-requires
scan_excesses-requires c =
    let f = rw c.in_ok-v.was at c.scan_sizes.ensures.answer in
    let g = rw c.in_ok-store.was at c.scan_rest.ensures.answer in
    let bits = c.in_ok-store.store.bits in
    let stored = found_within _ (found_within _ c.requires f) g.0 in
    record { le_lines = (f.good.0.0, f.good.0.1, f.good.1.0, f.good.2.0, rw c.limit_of-limit.ensures.answer (limit_least bits), rw c.limit_of-limit.ensures.answer (limit_31 bits), le_trans g.0.good.1.1 (most_most bits)); mid_in_bounds = (stored, found_within _ stored g.1.1); there = (g.1.0, c.in_ok-store.tail, rw c.limit_of-limit.ensures.answer g.1.1) }

pub returns-in_err-end : goal.returns-in_err-end
returns-in_err-end c =
    let f = rw c.in_ok-v.was at c.scan_sizes.ensures.answer in
    let g = rw c.in_ok-store.was at c.scan_rest.ensures.answer in
    let told = rw c.limit_of-limit.ensures.answer at c.in_err-end.ensures.answer in
    record { answer = rw (handed c.from_residual-in_err-end.result _ c.from_residual-in_err-end.ensures.1) (sheet_no_rest true f (rest_no_excess true c.in_ok-v.v g.0 f.good.0.1 g.1.1 (told g.1.0 _ g.1.1))) }

pub one_sheet-requires : goal.one_sheet-requires
one_sheet-requires c =
    let f = rw c.in_ok-v.was at c.scan_sizes.ensures.answer in
    let g = rw c.in_ok-store.was at c.scan_rest.ensures.answer in
    let told = rw (c.limit_of-limit.ensures.answer, c.in_ok-end.was) at c.scan_excesses.ensures.answer in
    found_on (sheets true) (sheet_found true f g.0 g.1.1 (told g.1.0 _ g.1.1).1)

pub count_windows-windows-requires : goal.count_windows-windows-requires
count_windows-windows-requires c =
    let f = rw c.in_ok-v.was at c.scan_sizes.ensures.answer in
    let g = rw c.in_ok-store.was at c.scan_rest.ensures.answer in
    let bits = c.in_ok-store.store.bits in
    let stored = found_within _ (found_within _ c.requires f) g.0 in
    record { le_lines = (f.good.0.0, f.good.0.1, f.good.1.1, f.good.2.0, rw c.limit_of-limit.ensures.answer (limit_least bits), rw c.limit_of-limit.ensures.answer (limit_31 bits), le_trans g.0.good.1.1 (most_most bits)); mid_in_bounds = (stored, (g.1.0, c.in_ok-store.tail, rw c.limit_of-limit.ensures.answer g.1.1)) }

pub returns : goal.returns
returns c =
    let f = rw c.in_ok-v.was at c.scan_sizes.ensures.answer in
    let g = rw c.in_ok-store.was at c.scan_rest.ensures.answer in
    let told = rw (c.limit_of-limit.ensures.answer, c.in_ok-end.was) at c.scan_excesses.ensures.answer in
    let x = told g.1.0 _ g.1.1 in
    let all = rw c.limit_of-limit.ensures.answer at c.count_windows-windows.ensures.answer in
    let marks = all g.1.0 _ g.1.1 in
    record { answer = first_found f g.0 g.1.1 x.1 (search rules) (c.join.ensures.answer ∙ ap (λ (r : Report). join_of r c.count_windows-windows.result) c.one_sheet.ensures.answer ∙ ap (join_of (numbers_of 1 [] 0 (c.in_ok-end.end - c.args.at))) marks) }
