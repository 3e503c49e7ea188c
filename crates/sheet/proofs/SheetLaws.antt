-- A sheet's length: far below 2^64, and each part of it within the whole. Cited by the writers of both stores.
-- Assumes nothing.
use mathlib.Core.Path.{◌≡◌, ◌∙◌}
use mathlib.Core.Bool.{Bool, true, false, cond}
use mathlib.Core.List.{List, [], ◌++◌}
use Prim.Native.Nat.{ℕ, ◌+◌, ◌*◌, ◌^◌, ◌≤◌, ◌<◌}
use native.Mathlib.Nat.{le_trans, mul-le-mul_right}
use native.Mathlib.Omega.{arith}
use lib.Dec.{eqb, lit<}
use lib.IntN.{ℤ, pos}
use lib.ListN.{length, get_or, set, length-append}
use Rattle.text.specs.Text.{laid, reached, joined, signed}
use Rattle.text.proofs.TextLaws.{reached_whole, Laid, laid_none, laid_here, laid_then, laid_byte, laid_piece, signed_small, joined_small, field_small, line_small}
use Rattle.filters.specs.declared.FilterType.{FilterType}
use Rattle.filters.specs.declared.FilterType.TheVariants.{Box, Bilinear, CatmullRom, Mitchell}
use Rattle.windows.specs.declared.Store.{Store}
use Rattle.windows.specs.Set.{Stored, windows}
use Rattle.windows.specs.Store.{weight_bits}
use Rattle.windows.specs.Fit.{Fits}
use Rattle.sheet.specs.Keys.{key_in, key_out, key_window, key_store, key_precision, key_line, equals, comma, kind_name}
use Rattle.sheet.specs.Text.{kind_text, sides_text, store_text, head_text, item_text, item_at, list_text, open_text, window_at, windows_text, excess_text, sheet_text_value}

name_small : (kind : FilterType) → length (kind_name kind) ≤ 10
unfolding kind_name
name_small Box = omega arith
name_small Bilinear = omega arith
name_small CatmullRom = omega arith
name_small Mitchell = omega arith

head_small : (kind : FilterType) (lines outs window store precision : ℕ) → length (head_text kind lines outs window store precision) ≤ 200
unfolding head_text kind_text sides_text store_text
head_small kind lines outs window store precision =
    simp length-append
    (omega (arith, name_small kind, line_small key_in lines, line_small key_out outs, line_small key_window window, line_small key_store store, line_small key_precision precision))

sep_small : (b : Bool) → length (cond b [] comma) ≤ 1
sep_small true = omega arith
sep_small false = omega arith

item_small : (j : ℕ) (v : ℤ) → length (item_text j v) ≤ 22
unfolding item_text
item_small j v = omega (arith, length-append (cond (eqb j 0) [] comma) (signed v), sep_small (eqb j 0), signed_small v)

list_small : (ws : List ℤ) (from n : ℕ) → length (list_text ws from n) ≤ n * 22
unfolding list_text
list_small ws from n = joined_small (item_at ws from) 22 n (λ k l. item_small k (get_or ws (from + k) (pos 0)))

open_small : (i start size : ℕ) → length (open_text i start size) ≤ 64
unfolding open_text
open_small i start size = simp length-append (omega (arith, field_small key_line i, field_small equals start, field_small comma size))

window_small : (starts sizes : List ℕ) (window : ℕ) (ws : List ℤ) (i : ℕ) → get_or sizes i 0 ≤ 8192 → length (window_at starts sizes window ws i) ≤ 200000
unfolding window_at
window_small starts sizes window ws i h =
    simp length-append
    (omega (arith, open_small i (get_or starts i 0) (get_or sizes i 0), list_small ws (i * window) (get_or sizes i 0), h))

windows_small : (s : Stored) → Fits s.set.layout (length s.set.weights) → length (windows_text s.set.layout.starts s.set.layout.sizes s.set.layout.window_size_value s.set.weights) ≤ 8192 * 200000
unfolding windows_text
windows_small s p =
    le_trans (joined_small (window_at s.set.layout.starts s.set.layout.sizes s.set.layout.window_size_value s.set.weights) 200000 (windows s.set.layout) (λ k l. window_small s.set.layout.starts s.set.layout.sizes s.set.layout.window_size_value s.set.weights k (omega (arith, p.ends k l, p.few_lines))))
    (mul-le-mul_right 200000 p.few_windows)

-- as many excesses as windows
excess_small : (es : List ℤ) (n : ℕ) → length es ≡ n → n ≤ 8192 → length (excess_text es) ≤ 200000
unfolding excess_text
excess_small es n e h = simp length-append (omega (arith, list_small es 0 (length es), e, h))

sheet_small : (kind : FilterType) (store : Store) (s : Stored) → Fits s.set.layout (length s.set.weights) → length s.excesses ≡ windows s.set.layout → length (sheet_text_value kind store s) < 2 ^ 64
unfolding sheet_text_value
sheet_small kind store s p e =
    let head = head_text kind s.set.layout.lines (windows s.set.layout) s.set.layout.window_size_value (weight_bits store) s.precision in
    let rest = windows_text s.set.layout.starts s.set.layout.sizes s.set.layout.window_size_value s.set.weights in
    omega (arith, length-append (head ++ rest) (excess_text s.excesses), length-append head rest, head_small kind s.set.layout.lines (windows s.set.layout) s.set.layout.window_size_value (weight_bits store) s.precision, windows_small s p, excess_small s.excesses (windows s.set.layout) e p.few_windows)

-- so a run over any list counts it whole
pub sheet_counted : (kind : FilterType) (store : Store) (s : Stored) → Fits s.set.layout (length s.set.weights) → length s.excesses ≡ windows s.set.layout → reached 0 (length (sheet_text_value kind store s)) ≡ length (sheet_text_value kind store s)
sheet_counted kind store s p e = reached_whole (length (sheet_text_value kind store s)) (sheet_small kind store s p e)

-- a window's line more: its beginning, its weights and a newline, one after the other
pub line_more : (starts sizes : List ℕ) (window : ℕ) (ws : List ℤ) (i from : ℕ) {at p a b q : ℕ} {old now o1 o2 new : List ℕ} → from ≡ i * window → Laid at (joined (window_at starts sizes window ws) i) old p now → a ≡ reached p (length (open_text i (get_or starts i 0) (get_or sizes i 0))) → o1 ≡ laid now p (open_text i (get_or starts i 0) (get_or sizes i 0)) → b ≡ reached a (length (list_text ws from (get_or sizes i 0))) → o2 ≡ laid o1 a (list_text ws from (get_or sizes i 0)) → q ≡ reached b 1 → new ≡ set o2 b 10 → Laid at (joined (window_at starts sizes window ws) (i + 1)) old q new
unfolding window_at
line_more starts sizes window ws i from {p = p} {now = now} first before e-a e_1 e-b e_2 e-q e =
    let size = get_or sizes i 0 in
    let l1 = laid_then (open_text i (get_or starts i 0) size) (laid_here before) e-a e_1 in
    let l2 = laid_then (list_text ws (i * window) size) l1 (e-b ∙ rw first) (e_2 ∙ rw first) in
    let l3 = laid_byte 10 l2 e-q e in
    laid_piece (window_at starts sizes window ws) i before l3.place l3.is

-- the head, the windows' lines and the line of the excesses are the whole sheet
module _ (kind : FilterType) (store : Store) (s : Stored) where
  abbrev head : List ℕ
  head = head_text kind s.set.layout.lines (windows s.set.layout) s.set.layout.window_size_value (weight_bits store) s.precision

  abbrev body : List ℕ
  body = windows_text s.set.layout.starts s.set.layout.sizes s.set.layout.window_size_value s.set.weights

  pub whole : (old : List ℕ) {p q r : ℕ} {now mid new : List ℕ} → length old < 2 ^ 64 → p ≡ reached 0 (length head) → now ≡ laid old 0 head → q ≡ reached p (length body) → mid ≡ laid now p body → r ≡ reached q (length (excess_text s.excesses)) → new ≡ laid mid q (excess_text s.excesses) → (r ≡ reached 0 (length (sheet_text_value kind store s))) × (new ≡ laid old 0 (sheet_text_value kind store s))
  unfolding sheet_text_value
  whole old short e-p e_1 e-q e_2 e-r e =
      let l1 = laid_then head (laid_none 0 old (lit< tt) short) e-p e_1 in
      let l2 = laid_then body l1 e-q e_2 in
      let l3 = laid_then (excess_text s.excesses) l2 e-r e in
      (l3.place, l3.is)
