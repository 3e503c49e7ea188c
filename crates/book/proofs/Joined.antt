-- Two texts end to end, and no number that wraps. Cited by nothing here; whoever reads a book in parts rests on it. Assumes nothing.
use mathlib.Core.Path.{◌≡◌, sym, ap, ◌∙◌, subst}
use mathlib.Core.Bool.{true}
use mathlib.Core.List.{List, [], ◌++◌, append_assoc, append-nil}
use Prim.Native.Nat.{ℕ, ◌+◌, ◌^◌, ◌≤◌, ◌<◌}
use native.Mathlib.Nat.{add-zero, add_assoc}
use native.Mathlib.Omega.{arith}
use lib.ListN.{length, length-append}
use Rattle.sheet_scan.specs.Language.{Longest}
use Rattle.book_numbers.specs.declared.Report.{Report}
use Rattle.book_numbers.specs.Marks.{numbers_of}
use Rattle.book_numbers.specs.Joins.{join_of}
use Rattle.book_numbers.proofs.NumberLaws.{many_le}
use Rattle.book.specs.Book.{texts_of, all_marks, stopped_at, BookOf}
use Rattle.book.proofs.RunLaws.{texts_append, good_append}
use Rattle.book.proofs.RestLaws.{not_stopped, end_right}
use Rattle.book.proofs.BookLaws.{few_windows, few_sheets, runs_join}

-- a text that was not stopped is its sheets, and the byte is its length
module _ {text : List ℕ} {r : Report} (b : BookOf text r) (whole : r.stopped ≡ 0) where
  nothing : b.rest ≡ []
  nothing = not_stopped b.rest (sym (ap {B = ℕ} (λ (x : Report). x.stopped) b.is) ∙ whole)

  all_sheets : text ≡ texts_of b.run
  all_sheets = b.split.is ∙ ap (λ (t : List ℕ). texts_of b.run ++ t) nothing ∙ append-nil (texts_of b.run)

  right_none : b.right ≡ 0
  right_none = end_right b.right (subst (λ (t : List ℕ). Longest true t b.right) nothing b.longest)

  whole_is : r ≡ numbers_of (length b.run) (all_marks b.run) 0 (length (texts_of b.run))
  whole_is =
      b.is ∙ ap (λ (t : List ℕ). numbers_of (length b.run) (all_marks b.run) (stopped_at t) (length (texts_of b.run) + b.right)) nothing
      ∙ ap (λ (n : ℕ). numbers_of (length b.run) (all_marks b.run) 0 (length (texts_of b.run) + n)) right_none
      ∙ ap (λ (n : ℕ). numbers_of (length b.run) (all_marks b.run) 0 n) (add-zero (length (texts_of b.run)))

-- THE REPORT OF TWO TEXTS END TO END is the join of their reports, where the first is not stopped
pub joined : (s t : List ℕ) (a b : Report) → BookOf s a → BookOf t b → a.stopped ≡ 0 → length s + length t < 2 ^ 64 → BookOf (s ++ t) (join_of a b)
joined s t a b p q whole small =
    let l = p.run in
    let m = q.run in
    let first = all_sheets p whole in
    let long = ap length first in
    let second = ap length q.split.is in
    let parts = length-append (texts_of m) q.rest in
    let within = q.longest.within in
    let both = ap length (texts_append l m) ∙ length-append (texts_of l) (texts_of m) in
    record {
      run = l ++ m;
      rest = q.rest;
      split = record {
        good = good_append l m p.split.good q.split.good;
        is = ap (λ (x : List ℕ). x ++ t) first ∙ ap (λ (x : List ℕ). texts_of l ++ x) q.split.is ∙ sym (append_assoc (texts_of l) (texts_of m) q.rest) ∙ ap (λ (x : List ℕ). x ++ q.rest) (sym (texts_append l m));
        ends = q.split.ends;
      };
      right = q.right;
      longest = q.longest;
      is =
          ap (λ (x : Report). join_of x b) (whole_is p whole) ∙ ap (join_of (numbers_of (length l) (all_marks l) 0 (length (texts_of l)))) q.is
          ∙ runs_join l m (stopped_at q.rest) (length (texts_of m) + q.right) p.split.good q.split.good (omega arith) (omega arith)
          ∙ ap (λ (n : ℕ). numbers_of (length (l ++ m)) (all_marks (l ++ m)) (stopped_at q.rest) n) (sym (add_assoc (length (texts_of l)) (length (texts_of m)) q.right) ∙ ap (λ (n : ℕ). n + q.right) (sym both));
    }

-- NO NUMBER WRAPS: each count of a report, and its byte, is at most the text's length
pub no_wrap : (text : List ℕ) (r : Report) → BookOf text r → (r.sheets ≤ r.windows) × (r.windows ≤ length text) × (r.notflat ≤ r.windows) × (r.negative ≤ r.windows) × (r.byte ≤ length text)
no_wrap text r b =
    subst (λ (x : Report). (x.sheets ≤ x.windows) × (x.windows ≤ length text) × (x.notflat ≤ x.windows) × (x.negative ≤ x.windows) × (x.byte ≤ length text)) (sym b.is) (
      few_sheets b.run b.split.good,
      omega (arith, few_windows b.run b.split.good, ap length b.split.is, length-append (texts_of b.run) b.rest),
      many_le (λ m. m.not_flat) (all_marks b.run),
      many_le (λ m. m.negative) (all_marks b.run),
      omega (arith, b.longest.within, ap length b.split.is, length-append (texts_of b.run) b.rest),
    )
