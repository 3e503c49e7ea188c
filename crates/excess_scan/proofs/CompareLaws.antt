-- The excesses of windows beside their lines, one a turn: what is compared with the text is the window's own excess. Cited by `scan_list`. Assumes nothing.
use mathlib.Core.Path.{◌≡◌, sym, ap, ◌∙◌, subst}
use mathlib.Core.Bool.{cond}
use mathlib.Core.List.{List, [], ◌∷◌, ◌++◌}
use Prim.Native.Nat.{ℕ, suc, ◌+◌, ◌^◌, ◌≤◌, ◌<◌}
use lib.Dec.{eqb}
use lib.IntN.{ℤ}
use lib.ListN.{length, get_or}
use Rattle.text.specs.Text.{joined, signed}
use Rattle.windows.specs.Set.{excess}
use Rattle.scan.specs.Form.{Found, Stopped}
use Rattle.scan.specs.Forms.{fixed, run}
use Rattle.scan.proofs.FieldLaws.{found_within, apart_key}
use Rattle.scan.proofs.PieceLaws.{place_at}
use Rattle.scan.proofs.RunLaws.{Run, run_none, run_more, run_stopped, run_found}
use Rattle.sheet_scan.specs.Lines.{Row, weight_item, open_line, window_line, window_lines}
use Rattle.sheet_scan.specs.Rows.{no_row, slot_at, excess_at}
use Rattle.sheet_scan.specs.Whole.{There, Whatever, slot_of}
use Rattle.excess_scan.specs.Known.{known_text}
use Rattle.excess_scan.proofs.AlongLaws.{along_none}
use Rattle.excess_scan.proofs.LineLaws.{Lined, own, lined_more}
use Rattle.excess_scan.proofs.KnownLaws.{pieces, pieces_found, pieces_stopped}

module _ (lines window limit outs precision : ℕ) (text : List ℕ) (mid at : ℕ) where
  -- the pieces that the rows call for
  abbrev right : List Row → ℕ → List ℕ
  right rows = known_text (excess_at precision rows) outs

  -- i excesses are compared, up to q; the next line is at p
  pub record Compared (p q i : ℕ) : Type 0 where
    pub lined : Lined lines window limit outs text mid p i
    pub within : q ≤ length text
    pub each : (rows : List Row) (next : ℕ) → Found (window_lines lines window limit outs) text mid rows next → Run (pieces (right rows) outs) text outs at q i

  pub compared_none : mid ≤ length text → at ≤ length text → Compared mid at 0
  compared_none l m = record {
    lined = along_none (window_line lines window limit) text outs mid l;
    within = m;
    each = λ rows next f. run_none (pieces (right rows) outs) text outs at m;
  }

  module _ (small : lines < 2 ^ 32) {p q i start size from : ℕ} {v : ℤ} {b : ℕ} (there : There (window_lines lines window limit outs) text mid) (g : Compared p q i) (l : i < outs) (opened : Found (open_line lines window i) text p (start, size) from) {after : ℕ} (worked : Whatever (run (weight_item limit size) 0 size) text from (λ vs next. (v ≡ excess precision (slot_of vs) size) × (after ≡ next))) (end : b ≡ cond (eqb (suc i) outs) 10 44) where
    value_is : (rows : List Row) (next : ℕ) → Found (window_lines lines window limit outs) text mid rows next → signed v ++ (b ∷ []) ≡ right rows i
    value_is rows next f =
        let o = own lines window limit outs text mid small g.lined l opened rows next f in
        let e : v ≡ excess_at precision rows i = (worked (get_or rows i no_row).weights (place_at (window_line lines window limit) mid rows (suc i)) o.2).0 ∙ ap (excess precision (slot_at rows i)) (sym o.1) in
        ap (λ (x : ℤ). signed x ++ (b ∷ [])) e ∙ ap (λ (c : ℕ). signed (excess_at precision rows i) ++ (c ∷ [])) end

    pub compared_more : {next : ℕ} → Found (fixed (signed v ++ (b ∷ []))) text q tt next → Compared after next (i + 1)
    compared_more {next} found = record {
      lined = lined_more lines window limit outs text mid small g.lined l opened there (λ vs n f. (worked vs n f).1);
      within = found_within (fixed (signed v ++ (b ∷ []))) g.within found;
      each = λ rows n f. run_more (pieces (right rows) outs) text outs at (g.each rows n f) l (subst (λ (t : List ℕ). Found (fixed t) text q tt next) (value_is rows n f) found);
    }

    pub compared_stopped : {stop : ℕ} → Stopped (fixed (signed v ++ (b ∷ []))) text q stop → (rows : List Row) (next : ℕ) → Found (window_lines lines window limit outs) text mid rows next → Stopped (fixed (joined (right rows) outs)) text at stop
    compared_stopped {stop} s rows next f =
        pieces_stopped (right rows) outs
        (run_stopped (pieces (right rows) outs) text outs at (λ k. apart_key (right rows k)) (λ k. (tt, tt)) (g.each rows next f) l (subst (λ (t : List ℕ). Stopped (fixed t) text q stop) (value_is rows next f) s))

  pub compared_all : {p q i : ℕ} → Compared p q i → outs ≤ i → (rows : List Row) (next : ℕ) → Found (window_lines lines window limit outs) text mid rows next → Found (fixed (joined (right rows) outs)) text at tt q
  compared_all g h rows next f = pieces_found (right rows) outs (run_found (pieces (right rows) outs) text outs at (g.each rows next f) h)
