-- Runs of sheets, end to end: two runs one after the other, and that a text has one longest run. Cited by the loop over sheets and by the theorems. Assumes nothing.
use mathlib.Core.Path.{◌≡◌, refl, sym, ap, ◌∙◌, subst}
use mathlib.Core.Bool.{true}
use mathlib.Core.List.{List, [], ◌∷◌, ◌++◌, append_assoc}
use Prim.Native.Nat.{ℕ}
use lib.ListN.{length, drop}
use lib.Seq.{drop-append_seam}
use Rattle.sheet_scan.specs.Language.{Whole, sheets}
use Rattle.sheet_scan.proofs.WholeLaws.{apart_sheets}
use Rattle.book_numbers.specs.Marks.{Mark, marks_of}
use Rattle.book.specs.Book.{texts_of, AllGood, Split, all_marks}

abbrev text_of : Whole → List ℕ
text_of x = (sheets true).text x

pub texts_append : (l m : List Whole) → texts_of (l ++ m) ≡ texts_of l ++ texts_of m
texts_append [] m = refl
texts_append (x ∷ l) m = ap (λ (t : List ℕ). text_of x ++ t) (texts_append l m) ∙ sym (append_assoc (text_of x) (texts_of l) (texts_of m))

pub good_append : (l m : List Whole) → AllGood l → AllGood m → AllGood (l ++ m)
good_append [] m g h = h
good_append (x ∷ l) m g h = (g.0, good_append l m g.1 h)

pub marks_append : (l m : List Whole) → all_marks (l ++ m) ≡ all_marks l ++ all_marks m
marks_append [] m = refl
marks_append (x ∷ l) m = ap (λ (t : List Mark). marks_of x.set ++ t) (marks_append l m) ∙ sym (append_assoc (marks_of x.set) (all_marks l) (all_marks m))

-- two sheets that a text begins with are the same, and so is what comes after them
module _ (x y : Whole) (t u : List ℕ) (good_x : (sheets true).Good x) (good-y : (sheets true).Good y) (e : text_of x ++ t ≡ text_of y ++ u) where
  same_sheet : x ≡ y
  same_sheet = apart_sheets true x y good_x good-y t u e

  same_rest : t ≡ u
  same_rest =
      let e2 : text_of y ++ t ≡ text_of y ++ u = subst (λ (z : Whole). text_of z ++ t ≡ text_of y ++ u) same_sheet e in
      sym (drop-append_seam (text_of y) t) ∙ ap (λ (l : List ℕ). drop (length (text_of y)) l) e2 ∙ drop-append_seam (text_of y) u

tail_of : (x : Whole) (l : List Whole) (rest text : List ℕ) → text ≡ texts_of (x ∷ l) ++ rest → text ≡ text_of x ++ (texts_of l ++ rest)
tail_of x l rest text e = e ∙ append_assoc (text_of x) (texts_of l) rest

-- THE RUN IS LONGEST: other sheets that the text begins with, end to end, are the first ones of its run
pub run_longest : (l : List Whole) (text t : List ℕ) (run : List Whole) (rest : List ℕ) → AllGood l → text ≡ texts_of l ++ t → Split text run rest → (more : List Whole) × (run ≡ l ++ more) × (t ≡ texts_of more ++ rest)
run_longest [] text t run rest g e s = (run, refl, sym e ∙ s.is)
run_longest (x ∷ l) text t [] rest g e s = absurd (s.ends x (texts_of l ++ t) g.0 (sym s.is ∙ tail_of x l t text e))
run_longest (x ∷ l) text t (y ∷ run) rest g e s =
    let both : text_of x ++ (texts_of l ++ t) ≡ text_of y ++ (texts_of run ++ rest) = sym (tail_of x l t text e) ∙ tail_of y run rest text s.is in
    let on = run_longest l (texts_of l ++ t) t run rest g.1 refl (record { good = s.good.1; is = same_rest x y (texts_of l ++ t) (texts_of run ++ rest) g.0 s.good.0 both; ends = s.ends }) in
    (on.0, ap {B = List Whole} (λ (z : Whole). z ∷ run) (sym (same_sheet x y (texts_of l ++ t) (texts_of run ++ rest) g.0 s.good.0 both)) ∙ ap (λ (r : List Whole). x ∷ r) on.1, on.2)

-- THE RUN IS UNIQUE, and so is the rest
pub run_unique : (l m : List Whole) (text t u : List ℕ) → Split text l t → Split text m u → (l ≡ m) × (t ≡ u)
run_unique [] [] text t u p q = (refl, sym p.is ∙ q.is)
run_unique [] (y ∷ m) text t u p q = absurd (p.ends y (texts_of m ++ u) q.good.0 (sym p.is ∙ tail_of y m u text q.is))
run_unique (x ∷ l) [] text t u p q = absurd (q.ends x (texts_of l ++ t) p.good.0 (sym q.is ∙ tail_of x l t text p.is))
run_unique (x ∷ l) (y ∷ m) text t u p q =
    let both : text_of x ++ (texts_of l ++ t) ≡ text_of y ++ (texts_of m ++ u) = sym (tail_of x l t text p.is) ∙ tail_of y m u text q.is in
    let on = run_unique l m (texts_of l ++ t) t u (record { good = p.good.1; is = refl; ends = p.ends }) (record { good = q.good.1; is = same_rest x y (texts_of l ++ t) (texts_of m ++ u) p.good.0 q.good.0 both; ends = q.ends }) in
    (ap {B = List Whole} (λ (z : Whole). z ∷ l) (same_sheet x y (texts_of l ++ t) (texts_of m ++ u) p.good.0 q.good.0 both) ∙ ap (λ (r : List Whole). y ∷ r) on.0, on.1)
