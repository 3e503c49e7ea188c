-- The writer's text of a set is the text of its rows. Cited by the laws that take a set to its lines and back. Assumes nothing.
use mathlib.Core.Path.{◌≡◌, refl, sym, ap, ◌∙◌, subst}
use mathlib.Core.Bool.{cond}
use mathlib.Core.List.{List, [], ◌∷◌, ◌++◌, append_assoc}
use Prim.Native.Nat.{ℕ, zero, suc, ◌+◌, ◌*◌, ◌≤◌, ◌<◌}
use native.Mathlib.Omega.{arith}
use lib.Dec.{eqb, eqb-suc-zero}
use lib.IntN.{ℤ, pos}
use lib.ListN.{length, get_or, take}
use lib.Seq.{take-length}
use borrow.Author.Tests.{eq-eqb, ne_eqb}
use Rattle.text.specs.Text.{joined, signed}
use Rattle.windows.specs.Set.{Stored, windows}
use Rattle.sheet.specs.Keys.{comma, newline}
use Rattle.sheet.specs.Text.{item_text, item_at, list_text, open_text, window_at, windows_text}
use Rattle.scan.specs.Form.{Form}
use Rattle.scan.specs.Forms.{run_text}
use Rattle.scan.proofs.RunText.{run_take, joined_run}
use Rattle.sheet_scan.specs.Lines.{Row, weight_item, window_line}
use Rattle.sheet_scan.specs.Rows.{no_row, start_at, size_at, slot_at}

regroup : (j c s e : List ℕ) → j ++ (c ++ s) ++ e ≡ j ++ c ++ (s ++ e)
regroup j c s e = simp append_assoc

module _ (limit : ℕ) (ws : List ℤ) (from : ℕ) (l : List ℤ) (same : (j : ℕ) → j < length l → get_or ws (from + j) (pos 0) ≡ get_or l j (pos 0)) where
  abbrev F : ℕ → Form ℤ
  F = weight_item limit (length l)

  -- the byte after the first n weights
  abbrev end : ℕ → ℕ
  end n = cond (eqb n (length l)) 10 44

  later : (m : ℕ) → suc m < length l → item_text (suc m) (get_or ws (from + suc m) (pos 0)) ≡ comma ++ signed (get_or l (suc m) (pos 0))
  unfolding item_text
  later m h = rw (eqb-suc-zero m, same (suc m) h)

  first : 0 < length l → item_text 0 (get_or ws (from + 0) (pos 0)) ≡ signed (get_or l 0 (pos 0))
  unfolding item_text
  first h = rw (same 0 h)

  so_far : (m : ℕ) → m < length l → joined (item_at ws from) (suc m) ++ (end (suc m) ∷ []) ≡ run_text F 0 (take (suc m) l)
  so_far zero h = ap (λ (t : List ℕ). t ++ (end 1 ∷ [])) (first h) ∙ sym (run_take F l (pos 0) 0 h)
  so_far (suc m) h =
      let before = so_far m (omega arith) in
      let mid : end (suc m) ≡ 44 = rw (ne_eqb (suc m) (length l) (λ e. omega arith)) in
      ap (λ (t : List ℕ). joined (item_at ws from) (suc m) ++ t ++ (end (suc (suc m)) ∷ [])) (later m h)
      ∙ regroup (joined (item_at ws from) (suc m)) comma (signed (get_or l (suc m) (pos 0))) (end (suc (suc m)) ∷ [])
      ∙ ap (λ (b : ℕ). joined (item_at ws from) (suc m) ++ (b ∷ []) ++ (signed (get_or l (suc m) (pos 0)) ++ (end (suc (suc m)) ∷ []))) (sym mid)
      ∙ ap (λ (t : List ℕ). t ++ (signed (get_or l (suc m) (pos 0)) ++ (end (suc (suc m)) ∷ []))) before
      ∙ sym (run_take F l (pos 0) (suc m) h)

  all_of : (n : ℕ) → n ≡ length l → 1 ≤ n → joined (item_at ws from) n ++ newline ≡ run_text F 0 l
  all_of zero e some = absurd (omega arith)
  all_of (suc m) e some =
      let last : end (suc m) ≡ 10 = rw (eq-eqb (suc m) (length l) e) in
      ap (λ (b : ℕ). joined (item_at ws from) (suc m) ++ (b ∷ [])) (sym last) ∙ so_far m (omega arith) ∙ ap (λ (n : ℕ). run_text F 0 (take n l)) e ∙ ap (run_text F 0) (take-length l)

  pub weights_text : 1 ≤ length l → list_text ws from (length l) ++ newline ≡ run_text (weight_item limit (length l)) 0 l
  unfolding list_text
  weights_text some = all_of (length l) refl some

-- the rows say what the set holds
pub record Says (s : Stored) (rows : List Row) : Type 0 where
  pub count : length rows ≡ windows s.set.layout
  pub starts : (i : ℕ) → i < length rows → get_or s.set.layout.starts i 0 ≡ start_at rows i
  pub sizes : (i : ℕ) → i < length rows → get_or s.set.layout.sizes i 0 ≡ size_at rows i
  pub weights : (i k : ℕ) → i < length rows → k < size_at rows i → get_or s.set.weights (i * s.set.layout.window_size_value + k) (pos 0) ≡ slot_at rows i k
  pub long : (i : ℕ) → i < length rows → length (get_or rows i no_row).weights ≡ size_at rows i
  pub some : (i : ℕ) → i < length rows → 1 ≤ size_at rows i

module _ (lines limit : ℕ) (s : Stored) (rows : List Row) (h : Says s rows) where
  line : (i : ℕ) → i < length rows → window_at s.set.layout.starts s.set.layout.sizes s.set.layout.window_size_value s.set.weights i ≡ (window_line lines s.set.layout.window_size_value limit i).text (get_or rows i no_row)
  unfolding window_at
  line i l =
      let r = get_or rows i no_row in
      let long : length r.weights ≡ r.size = h.long i l in
      let some = h.some i l in
      let text : list_text s.set.weights (i * s.set.layout.window_size_value) r.size ++ newline ≡ run_text (weight_item limit r.size) 0 r.weights =
      subst (λ (n : ℕ). list_text s.set.weights (i * s.set.layout.window_size_value) n ++ newline ≡ run_text (weight_item limit n) 0 r.weights) long
      (weights_text limit s.set.weights (i * s.set.layout.window_size_value) r.weights (λ k m. h.weights i k l (omega arith)) (omega arith)) in
      rw (h.starts i l, h.sizes i l) (append_assoc (open_text i r.start r.size) (list_text s.set.weights (i * s.set.layout.window_size_value) r.size) newline ∙ ap (λ (t : List ℕ). open_text i r.start r.size ++ t) text)

  pub windows_text_fact : windows_text s.set.layout.starts s.set.layout.sizes s.set.layout.window_size_value s.set.weights ≡ run_text (window_line lines s.set.layout.window_size_value limit) 0 rows
  unfolding windows_text
  windows_text_fact =
      ap (λ (n : ℕ). joined (window_at s.set.layout.starts s.set.layout.sizes s.set.layout.window_size_value s.set.weights) n) (sym h.count)
      ∙ joined_run (window_line lines s.set.layout.window_size_value limit) (window_at s.set.layout.starts s.set.layout.sizes s.set.layout.window_size_value s.set.weights) rows no_row line
