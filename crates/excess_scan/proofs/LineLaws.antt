-- Windows' lines that were scanned before, a line a turn: each is there, and what it says is what any reading of the lines says. Cited by the laws of the
-- functions that read them into the lent lists. Assumes nothing.
use mathlib.Core.Path.{◌≡◌, sym, ap, ◌∙◌, subst}
use mathlib.Core.List.{List}
use Prim.Native.Nat.{ℕ, suc, ◌+◌, ◌^◌, ◌<◌}
use native.Mathlib.Numerals.{add-one}
use native.Mathlib.Omega.{arith}
use lib.ListN.{get_or}
use Rattle.scan.specs.Form.{Form, Found}
use Rattle.scan.specs.Forms.{run}
use Rattle.scan.proofs.FormLaws.{one_value}
use Rattle.scan.proofs.SplitLaws.{found_split}
use Rattle.scan.proofs.PieceLaws.{place_at, piece_found}
use Rattle.scan.proofs.FieldLaws.{found_within}
use Rattle.sheet_scan.specs.Lines.{Row, weight_item, open_line, window_line}
use Rattle.sheet_scan.specs.Rows.{no_row, start_at, size_at}
use Rattle.sheet_scan.specs.Whole.{There, Whatever}
use Rattle.sheet_scan.proofs.OpenLaws.{apart_open}
use Rattle.excess_scan.proofs.AlongLaws.{Along}

module _ (lines window limit outs : ℕ) (text : List ℕ) (at : ℕ) where
  abbrev F : ℕ → Form Row
  F = window_line lines window limit

  -- i lines are read; the next is at p
  abbrev pub Lined : ℕ → ℕ → Type 0
  Lined p i = Along F text outs at p i

  -- the two parts of the line of window i
  record Line (rows : List Row) (p i : ℕ) : Type 0 where
    pub mid : ℕ
    pub opening : Found (open_line lines window i) text p (start_at rows i, size_at rows i) mid
    pub items : Found (run (weight_item limit (size_at rows i)) 0 (size_at rows i)) text mid (get_or rows i no_row).weights (place_at F at rows (suc i))

  line_of : (rows : List Row) (next p i : ℕ) → Found (run F 0 outs) text at rows next → i < outs → p ≡ place_at F at rows i → Line rows p i
  line_of rows next p i f l e =
      let r = get_or rows i no_row in
      let piece = subst (λ (k : ℕ). Found (F i) text k r (place_at F at rows (suc i))) (sym e) (piece_found F outs f no_row i l) in
      let both = found_split (open_line lines window i) (λ (q : ℕ × ℕ). run (weight_item limit q.1) 0 q.1) {a = (r.start, r.size)} {b = r.weights}
      (record { good = ((piece.good.0, piece.good.1, piece.good.2), piece.good.3); place = piece.place; begins = piece.begins }) in
      record { mid = _; opening = both.0; items = both.1 }

  pub lined_there : {p i : ℕ} → There (run F 0 outs) text at → Lined p i → i < outs → There (open_line lines window i) text p
  lined_there {p} {i} there g l =
      let line = line_of there.0 there.1 p i there.2 l (g.place there.0 there.1 there.2) in
      ((start_at there.0 i, size_at there.0 i), line.mid, line.opening)

  module _ (lines_small : lines < 2 ^ 32) {p i start size mid : ℕ} (g : Lined p i) (l : i < outs) (opened : Found (open_line lines window i) text p (start, size) mid) where
    abbrev pub Own : List Row → Type 0
    Own rows = (start_at rows i ≡ start) × (size_at rows i ≡ size) × Found (run (weight_item limit size) 0 size) text mid (get_or rows i no_row).weights (place_at F at rows (suc i))

    pub own : (rows : List Row) (next : ℕ) → Found (run F 0 outs) text at rows next → Own rows
    own rows next f =
        let line = line_of rows next p i f l (g.place rows next f) in
        let same = one_value (open_line lines window i) (apart_open lines window i lines_small) line.opening opened in
        let e-start : start_at rows i ≡ start = ap {B = ℕ} (λ (q : ℕ × ℕ). q.0) same.0 in
        let e-size : size_at rows i ≡ size = ap {B = ℕ} (λ (q : ℕ × ℕ). q.1) same.0 in (
          e-start,
          e-size,
          subst (λ (m : ℕ). Found (run (weight_item limit size) 0 size) text m (get_or rows i no_row).weights (place_at F at rows (suc i))) same.1
              (subst (λ (n : ℕ). Found (run (weight_item limit n) 0 n) text line.mid (get_or rows i no_row).weights (place_at F at rows (suc i))) e-size line.items),
        )

    pub lined_items : There (run F 0 outs) text at → There (run (weight_item limit size) 0 size) text mid
    lined_items there = let o = own there.0 there.1 there.2 in ((get_or there.0 i no_row).weights, place_at F at there.0 (suc i), o.2)

    pub lined_more : {q : ℕ} → There (run F 0 outs) text at → Whatever (run (weight_item limit size) 0 size) text mid (λ vs next. q ≡ next) → Lined q (i + 1)
    lined_more {q} there place =
        let some = own there.0 there.1 there.2 in
        record {
          within = rw (place (get_or there.0 i no_row).weights (place_at F at there.0 (suc i)) some.2) (found_within (run (weight_item limit size) 0 size) (found_within (open_line lines window i) g.within opened) some.2);
          few = omega arith;
          place = λ rows next f. place (get_or rows i no_row).weights (place_at F at rows (suc i)) (own rows next f).2 ∙ ap (λ (n : ℕ). place_at F at rows n) (sym (add-one i));
        }
