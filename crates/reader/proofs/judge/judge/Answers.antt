-- `judge` by its tests: the size lines, what is lent, the rest, the line of the excesses, and the text's end. Each way out is a law over the text (`judged-..`). Assumes nothing.
use Prim.Native.Nat.{zero-le}
use native.Mathlib.Nat.{le_trans}
use Rattle.scan.proofs.Handed.{handed}
use Rattle.scan.proofs.FieldLaws.{found_within}
use Rattle.sheet_scan.proofs.StoreLaws.{most_most}
use Rattle.sheet_scan.proofs.WholeLaws.{limit_least}
use Rattle.reader.proofs.MapLaws.{found_before, stopped_before}
use Rattle.reader.proofs.ReadLaws.{limit_31, judged_no_sizes, judged_short, judged_no_rest, judged_no_excess, judged_more, judged_right}
use borrow.Author.Rules.{rules}
use Rattle.reader.proofs.judge.judge.Goals as goal

pub returns-in_err-v : goal.returns-in_err-v
returns-in_err-v c =
    let m = stopped_before c.scan_sizes.result c.in_err-v.field-0.0 c.in_err-v.ensures.cases in
    let s = rw m.1 at c.scan_sizes.ensures.answer in
    record { answer = rw (handed c.from_residual.result _ c.from_residual.ensures.1, m.2) (judged_no_sizes _ _ _ _ s) }

pub returns-then-too_few : goal.returns-then-too_few
returns-then-too_few c =
    let f = rw (found_before c.scan_sizes.result _ c.in_ok-v.ensures.cases) at c.scan_sizes.ensures.answer in
    record { answer = judged_short c.args.wide _ _ f (search rules) }

pub scan_rest-requires : goal.scan_rest-requires
scan_rest-requires c =
    let f = rw (found_before c.scan_sizes.result _ c.in_ok-v.ensures.cases) at c.scan_sizes.ensures.answer in
    (f.good, found_within _ zero-le f)

pub returns-in_err-store : goal.returns-in_err-store
returns-in_err-store c =
    let f = rw (found_before c.scan_sizes.result _ c.in_ok-v.ensures.cases) at c.scan_sizes.ensures.answer in
    let m = stopped_before c.scan_rest.result c.in_err-store.field-0.0 c.in_err-store.ensures.cases in
    let s = rw m.1 at c.scan_rest.ensures.answer in
    record { answer = rw (handed c.from_residual-in_err-store.result _ c.from_residual-in_err-store.ensures.1, m.2) (judged_no_rest _ _ _ f (search rules) _ s) }

pub scan_excesses-requires : goal.scan_excesses-requires
scan_excesses-requires c =
    let f = rw (found_before c.scan_sizes.result _ c.in_ok-v.ensures.cases) at c.scan_sizes.ensures.answer in
    let g = rw (found_before c.scan_rest.result _ c.in_ok-store.ensures.cases) at c.scan_rest.ensures.answer in
    let bits = c.in_ok-store.store.bits in
    let stored = found_within _ (found_within _ zero-le f) g.0 in
    record { le_lines = (f.good.0.0, f.good.0.1, f.good.1.0, f.good.2.0, rw c.limit_of-limit.ensures.answer (limit_least bits), rw c.limit_of-limit.ensures.answer (limit_31 bits), le_trans g.0.good.1.1 (most_most bits)); mid_in_bounds = (stored, found_within _ stored g.1.1); there = (g.1.0, c.in_ok-store.tail, rw c.limit_of-limit.ensures.answer g.1.1) }

pub returns-in_err-end : goal.returns-in_err-end
returns-in_err-end c =
    let f = rw (found_before c.scan_sizes.result _ c.in_ok-v.ensures.cases) at c.scan_sizes.ensures.answer in
    let g = rw (found_before c.scan_rest.result _ c.in_ok-store.ensures.cases) at c.scan_rest.ensures.answer in
    let m = stopped_before c.scan_excesses.result c.in_err-end.field-0.0 c.in_err-end.ensures.cases in
    let told = rw (c.limit_of-limit.ensures.answer, m.1) at c.scan_excesses.ensures.answer in
    record {
      answer = rw (handed c.from_residual-in_err-end.result _ c.from_residual-in_err-end.ensures.1, m.2)
          (judged_no_excess _ _ _ f (search rules) g.0 g.1.1 _ (told g.1.0 _ g.1.1));
    }

pub returns-then-end-text : goal.returns-then-end-text
returns-then-end-text c =
    let f = rw (found_before c.scan_sizes.result _ c.in_ok-v.ensures.cases) at c.scan_sizes.ensures.answer in
    let g = rw (found_before c.scan_rest.result _ c.in_ok-store.ensures.cases) at c.scan_rest.ensures.answer in
    let told = rw (c.limit_of-limit.ensures.answer, found_before c.scan_excesses.result _ c.in_ok-end.ensures.cases) at c.scan_excesses.ensures.answer in
    let x = told g.1.0 _ g.1.1 in
    record { answer = rw c.not_a_sheet.ensures.answer (judged_more _ _ _ f (search rules) g.0 g.1.1 x.1 (search rules)) }

pub returns : goal.returns
returns c =
    let f = rw (found_before c.scan_sizes.result _ c.in_ok-v.ensures.cases) at c.scan_sizes.ensures.answer in
    let g = rw (found_before c.scan_rest.result _ c.in_ok-store.ensures.cases) at c.scan_rest.ensures.answer in
    let told = rw (c.limit_of-limit.ensures.answer, found_before c.scan_excesses.result _ c.in_ok-end.ensures.cases) at c.scan_excesses.ensures.answer in
    let x = told g.1.0 _ g.1.1 in
    let inside = found_within _ (found_within _ (found_within _ (found_within _ zero-le f) g.0) g.1.1) x.1 in
    record { answer = judged_right _ _ _ f (search rules) g.0 g.1.1 x.1 (search rules) }
