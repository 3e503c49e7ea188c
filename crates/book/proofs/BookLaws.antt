-- The report of a text, a sheet a turn: what holds after some sheets, and both ends. Cited by `book` and by the theorems. Assumes nothing.
use mathlib.Core.Path.{◌≡◌, refl, sym, ap, ◌∙◌, subst}
use mathlib.Core.Bool.{true}
use mathlib.Core.List.{List, [], ◌∷◌, ◌++◌, append_assoc, append-nil}
use mathlib.Core.Logic.{inl, inr}
use Prim.Native.Nat.{ℕ, ◌+◌, ◌-◌, ◌^◌, ◌≤◌, ◌<◌}
use native.Mathlib.Nat.{add-zero}
use native.Mathlib.Omega.{arith}
use lib.ListN.{length, drop, length-append, length-drop, drop_of_length-le}
use Rattle.refusal.specs.declared.Refusal.TheVariants.{NotASheet}
use Rattle.refusal.specs.Refusal.{number_of}
use Rattle.scan.specs.Form.{Found, Stopped}
use Rattle.scan.proofs.FieldLaws.{found_within}
use Rattle.sheet_scan.specs.Language.{Whole, sheets}
use Rattle.book_numbers.specs.declared.Report.{Report}
use Rattle.book_numbers.specs.Marks.{Mark, marks_of, numbers_of}
use Rattle.book_numbers.specs.Joins.{join_of}
use Rattle.book_numbers.proofs.JoinLaws.{join_numbers}
use Rattle.book.specs.Book.{texts_of, AllGood, all_marks, BookOf, FirstOf}
use Rattle.book.proofs.RunLaws.{texts_append, good_append, marks_append}
use Rattle.book.proofs.SheetLaws.{sheet_windows, sheet_some}
use Rattle.book.proofs.RestLaws.{stop_past, rest_longest, rest_ends, end_longest, end_ends, stopped_more}

-- NO NUMBER WRAPS: every window, and so every sheet, has bytes of its own
pub few_windows : (run : List Whole) → AllGood run → length (all_marks run) ≤ length (texts_of run)
few_windows [] good = omega arith
few_windows (x ∷ run) good =
    omega (arith, sheet_windows x good.0, few_windows run good.1, length-append (marks_of x.set) (all_marks run), length-append ((sheets true).text x) (texts_of run))

pub few_sheets : (run : List Whole) → AllGood run → length run ≤ length (all_marks run)
few_sheets [] good = omega arith
few_sheets (x ∷ run) good = omega (arith, sheet_some x good.0, few_sheets run good.1, length-append (marks_of x.set) (all_marks run))

-- a run after another: their reports joined, where the texts together fit in memory
pub runs_join : (l m : List Whole) (s b : ℕ) → AllGood l → AllGood m → length (texts_of l) + length (texts_of m) < 2 ^ 64 → length (texts_of l) + b < 2 ^ 64 → join_of (numbers_of (length l) (all_marks l) 0 (length (texts_of l))) (numbers_of (length m) (all_marks m) s b) ≡ numbers_of (length (l ++ m)) (all_marks (l ++ m)) s (length (texts_of l) + b)
runs_join l m s b good-l good-m small short =
    let wl = few_windows l good-l in
    let wm = few_windows m good-m in
    let sl = few_sheets l good-l in
    let sm = few_sheets m good-m in
    join_numbers (length l) (length m) (all_marks l) (all_marks m) s (length (texts_of l)) b (omega arith) (omega arith) short
    ∙ ap (λ (n : ℕ). numbers_of n (all_marks l ++ all_marks m) s (length (texts_of l) + b)) (sym (length-append l m))
    ∙ ap (λ (k : List Mark). numbers_of (length (l ++ m)) k s (length (texts_of l) + b)) (sym (marks_append l m))

module _ (text : List ℕ) where
  -- some sheets are read, up to a place
  pub record Read (r : Report) (at : ℕ) : Type 0 where
    pub run : List Whole
    pub good : AllGood run
    pub is : text ≡ texts_of run ++ drop at text
    pub place : at ≡ length (texts_of run)
    pub report : r ≡ numbers_of (length run) (all_marks run) 0 at

  pub read_none : Read (numbers_of 0 [] 0 0) 0
  read_none = record { run = []; good = tt; is = refl; place = refl; report = refl }

  module _ {r : Report} {at : ℕ} (g : Read r at) where
    pub read_within : at ≤ length text
    read_within = let e = ap length g.is in let p = g.place in omega (arith, length-append (texts_of g.run) (drop at text))

    -- a sheet more
    pub read_more : length text < 2 ^ 64 → {x : Whole} {next : ℕ} {one now : Report} → Found (sheets true) text at x next → one ≡ numbers_of 1 (marks_of x.set) 0 (next - at) → now ≡ join_of r one → Read now next
    read_more small {x} {next} {one} {now} f e-one e-now =
        let run = g.run in
        let own = (sheets true).text x in
        let both : texts_of (run ++ x ∷ []) ≡ texts_of run ++ own = texts_append run (x ∷ []) ∙ ap (λ (t : List ℕ). texts_of run ++ t) (append-nil own) in
        let p = g.place in
        let q = f.place in
        let inside = found_within (sheets true) read_within f in
        let single = ap length (append-nil own) in
        let to : length (texts_of run) + (next - at) ≡ next = omega arith in
        record {
          run = run ++ x ∷ [];
          good = good_append run (x ∷ []) g.good (f.good, tt);
          is = g.is ∙ ap (λ (t : List ℕ). texts_of run ++ t) f.begins ∙ sym (append_assoc (texts_of run) own (drop next text)) ∙ ap (λ (t : List ℕ). t ++ drop next text) (sym both);
          place = let e = ap length both in let k = length-append (texts_of run) own in omega arith;
          report =
              e-now ∙ ap (λ (y : Report). join_of y one) (g.report ∙ ap (λ (n : ℕ). numbers_of (length run) (all_marks run) 0 n) p)
              ∙ ap (λ (y : Report). join_of (numbers_of (length run) (all_marks run) 0 (length (texts_of run))) y) (e-one ∙ ap (λ (k : List Mark). numbers_of 1 k 0 (next - at)) (sym (append-nil (marks_of x.set))))
              ∙ runs_join run (x ∷ []) 0 (next - at) g.good (f.good, tt) (omega arith) (omega arith) ∙ ap (λ (n : ℕ). numbers_of (length (run ++ x ∷ [])) (all_marks (run ++ x ∷ [])) 0 n) to;
        }

    -- the first bad sheet
    pub read_stopped : length text < 2 ^ 64 → {stop : ℕ} {one now : Report} → at < length text → Stopped (sheets true) text at stop → one ≡ numbers_of 0 [] (number_of NotASheet) (stop - at) → now ≡ join_of r one → BookOf text now
    read_stopped small {stop} {one} {now} l s e-one e-now =
        let run = g.run in
        let p = g.place in
        let past = stop_past (sheets true) s in
        let left = length-drop at text in
        let inside = (rest_longest s).within in
        record {
          run = run;
          rest = drop at text;
          split = record { good = g.good; is = g.is; ends = rest_ends s };
          right = stop - at;
          longest = rest_longest s;
          is =
              e-now ∙ ap (λ (y : Report). join_of y one) (g.report ∙ ap (λ (n : ℕ). numbers_of (length run) (all_marks run) 0 n) p)
              ∙ ap (λ (y : Report). join_of (numbers_of (length run) (all_marks run) 0 (length (texts_of run))) y) e-one
              ∙ runs_join run [] (number_of NotASheet) (stop - at) g.good tt (omega arith) (omega arith)
              ∙ ap (λ (k : List Whole). numbers_of (length k) (all_marks k) (number_of NotASheet) (length (texts_of run) + (stop - at))) (append-nil run)
              ∙ ap (λ (n : ℕ). numbers_of (length run) (all_marks run) n (length (texts_of run) + (stop - at))) (sym (stopped_more (drop at text) (omega arith)));
        }

    -- no text is left
    pub read_all : length text ≤ at → BookOf text r
    read_all l =
        let nothing : drop at text ≡ [] = drop_of_length-le text l in
        record {
          run = g.run;
          rest = [];
          split = record { good = g.good; is = g.is ∙ ap (λ (t : List ℕ). texts_of g.run ++ t) nothing; ends = end_ends };
          right = 0;
          longest = end_longest;
          is = g.report ∙ ap (λ (n : ℕ). numbers_of (length g.run) (all_marks g.run) 0 n) (g.place ∙ sym (add-zero (length (texts_of g.run))));
        }

    -- a turn that ends the loop, and one that does not
    module _ (small : length text < 2 ^ 64) (l : at < length text) {one now : Report} (first : FirstOf text at one) (is : now ≡ join_of r one) where
      pub turn_ends : (one.stopped ≡ 0 → ⊥) → BookOf text now
      turn_ends not = by_case first
        where
          by_case : FirstOf text at one → BookOf text now
          by_case (inl f) = absurd (not (ap {B = ℕ} (λ (y : Report). y.stopped) f.3))
          by_case (inr s) = read_stopped small l s.1 s.2 is

      pub turn_goes : one.stopped ≡ 0 → Read now (at + one.byte) × (at + one.byte ≤ length text) × (1 ≤ one.byte)
      turn_goes zero = by_case first
        where
          by_case : FirstOf text at one → Read now (at + one.byte) × (at + one.byte ≤ length text) × (1 ≤ one.byte)
          by_case (inl f) =
              let x = f.0 in
              let next = f.1 in
              let found = f.2 in
              let place = found.place in
              let bytes : one.byte ≡ next - at = ap {B = ℕ} (λ (y : Report). y.byte) f.3 in
              let to : next ≡ at + one.byte = omega arith in
              let inside = found_within (sheets true) read_within found in
              (subst (λ (n : ℕ). Read now n) to (read_more small found f.3 is), omega arith, omega (arith, sheet_windows x found.good, sheet_some x found.good))
          by_case (inr s) = let e = ap {B = ℕ} (λ (y : Report). y.stopped) s.2 in absurd (omega arith)
