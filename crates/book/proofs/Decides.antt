-- The relation `BookOf` decides the report, and the empty text's report is all zeros. Cited by `Sure`. Assumes nothing.
use mathlib.Core.Path.{◌≡◌, refl, sym, ap, ◌∙◌, subst}
use mathlib.Core.Bool.{true}
use mathlib.Core.List.{List, []}
use Prim.Native.Nat.{ℕ, ◌+◌}
use lib.ListN.{length}
use Rattle.sheet_scan.specs.Language.{Whole, Longest}
use Rattle.sheet_scan.proofs.LanguageLaws.{one_byte}
use Rattle.book_numbers.specs.declared.Report.{Report}
use Rattle.book_numbers.specs.Marks.{numbers_of}
use Rattle.book.specs.Book.{texts_of, all_marks, stopped_at, BookOf}
use Rattle.book.proofs.RunLaws.{run_unique}
use Rattle.book.proofs.RestLaws.{end_longest, end_ends}

pub one_report : (text : List ℕ) (r q : Report) → BookOf text r → BookOf text q → r ≡ q
one_report text r q a b =
    let same = run_unique a.run b.run text a.rest b.rest a.split b.split in
    let right : a.right ≡ b.right = one_byte true b.rest a.right b.right (subst (λ (t : List ℕ). Longest true t a.right) same.1 a.longest) b.longest in
    a.is ∙ ap (λ (l : List Whole). numbers_of (length l) (all_marks l) (stopped_at a.rest) (length (texts_of l) + a.right)) same.0
    ∙ ap (λ (t : List ℕ). numbers_of (length b.run) (all_marks b.run) (stopped_at t) (length (texts_of b.run) + a.right)) same.1
    ∙ ap (λ (n : ℕ). numbers_of (length b.run) (all_marks b.run) (stopped_at b.rest) (length (texts_of b.run) + n)) right ∙ sym b.is

-- AN EMPTY TEXT REPORTS ZEROS THROUGHOUT
pub empty_book : BookOf [] (numbers_of 0 [] 0 0)
empty_book = record { run = []; rest = []; split = record { good = tt; is = refl; ends = end_ends }; right = 0; longest = end_longest; is = refl }
