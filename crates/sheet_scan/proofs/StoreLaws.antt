-- The store's line and the precision's. Cited by `take_bits`, `take_store` and `scan_store`. Assumes nothing.
use mathlib.Core.Path.{◌≡◌, refl, sym, ap, ◌∙◌}
use mathlib.Core.Bool.{Bool, true, false, cond}
use mathlib.Core.List.{List, [], ◌∷◌, ◌++◌}
use mathlib.Core.Logic.{inl, inr}
use Prim.Native.Nat.{ℕ, ◌+◌, ◌≤◌, ◌<◌, max}
use native.Mathlib.Nat.{le_refl}
use native.Mathlib.Omega.{arith}
use lib.Dec.{eqb, ltb, lit≤, lit<}
use lib.ListN.{length, drop}
use lib.Seq.{drop-drop}
use borrow.Author.Tests.{ltb-true, ltb-false}
use Rattle.text.specs.Text.{decimal, digit_count_value, line_text}
use Rattle.windows.specs.Store.{store16, store32, largest_precision}
use Rattle.sheet.specs.Keys.{key_store, key_precision, newline}
use Rattle.sheet.specs.Text.{store_text}
use Rattle.std.specs.Prelude.{Result, Ok, Err}
use Rattle.text.specs.Words.{common}
use Rattle.scan.specs.Form.{Form, Found, Stopped, Apart}
use Rattle.scan.specs.Forms.{fixed, and_then}
use Rattle.scan.specs.Answer.{Scans}
use Rattle.lists.proofs.BoolLaws.{never}
use Rattle.scan.proofs.CommonLaws.{common_whole}
use Rattle.scan.proofs.FormLaws.{found_then, stopped_first, stopped_then, stopped_same, apart_then}
use Rattle.scan.proofs.FieldLaws.{apart_key}
use Rattle.scan.proofs.ApartLaws.{apart_fields}
use Rattle.sheet_scan.specs.declared.StoreLines.{StoreLines}
use Rattle.sheet_scan.specs.Language.{Taken, store_named_value}
use Rattle.sheet_scan.specs.Lines.{bits_line, store_line, store_lines}
use Rattle.sheet_scan.proofs.HeadLaws.{line_is, line, no_digit}

-- all of a value's text is shared: it is there
pub value_found : {A : Type 0} (F : Form A) (a : A) (text : List ℕ) (at n : ℕ) → F.Good a → n ≡ common (drop at text) (F.text a) → n ≡ length (F.text a) → Found F text at a (at + n)
value_found F a text at n good e long = record {
  good = good;
  place = ap (λ (k : ℕ). at + k) long;
  begins = common_whole (drop at text) (F.text a) (sym e ∙ long) ∙ ap (λ (t : List ℕ). F.text a ++ t) (drop-drop (length (F.text a)) at text ∙ ap (λ (k : ℕ). drop (at + k) text) (sym long));
}

pub sixteen : decimal 16 ++ newline ≡ 49 ∷ 54 ∷ 10 ∷ []
unfolding decimal digit_count_value
sixteen = refl

pub thirty_two : decimal 32 ++ newline ≡ 51 ∷ 50 ∷ 10 ∷ []
unfolding decimal digit_count_value
thirty_two = refl

-- neither 16 nor 32
pub bits_stopped : (text : List ℕ) (at a b : ℕ) → a ≡ common (drop at text) (49 ∷ 54 ∷ 10 ∷ []) → b ≡ common (drop at text) (51 ∷ 50 ∷ 10 ∷ []) → a < 3 → b < 3 → Stopped (bits_line true) text at (at + max a b)
bits_stopped text at a b e-a e-b l-a l-b = record { most = bound; some = by_order (ltb a b) refl }
  where
    bound : (n : ℕ) → Taken true n → (at + common (drop at text) (decimal n ++ newline) ≤ at + max a b) × (common (drop at text) (decimal n ++ newline) < length (decimal n ++ newline))
    bound n (inl e) = rw (e, sixteen, ← e-a) (omega arith, l-a)
    bound n (inr t) = rw (t.1, thirty_two, ← e-b) (omega arith, l-b)

    by_order : (t : Bool) → ltb a b ≡ t → (n : ℕ) × Taken true n × (at + common (drop at text) (decimal n ++ newline) ≡ at + max a b)
    by_order true h = let l = ltb-true a b h in (32, inr (refl, refl), rw (thirty_two, ← e-b) (omega arith))
    by_order false h = let l = ltb-false a b h in (16, inl refl, rw (sixteen, ← e-a) (omega arith))

-- not 16, where 32 is not taken
pub sixteen_stopped : (text : List ℕ) (at a : ℕ) → a ≡ common (drop at text) (49 ∷ 54 ∷ 10 ∷ []) → a < 3 → Stopped (bits_line false) text at (at + a)
sixteen_stopped text at a e-a l-a = record { most = bound; some = (16, inl refl, rw (sixteen, ← e-a)) }
  where
    bound : (n : ℕ) → Taken false n → (at + common (drop at text) (decimal n ++ newline) ≤ at + a) × (common (drop at text) (decimal n ++ newline) < length (decimal n ++ newline))
    bound n (inl e) = rw (e, sixteen, ← e-a) (omega arith, l-a)
    bound n (inr t) = never (sym t.0)

module _ (wide : Bool) where
  there : (p : Unit {0} × ℕ) → Unit {0} × Taken wide p.1 → (n : ℕ) × Taken wide n × (line_text key_store n ≡ key_store ++ (decimal p.1 ++ newline))
  there p good = (p.1, good.1, line_is key_store p.1)

  back : (n : ℕ) → Taken wide n → (p : Unit {0} × ℕ) × (Unit {0} × Taken wide p.1) × (key_store ++ (decimal p.1 ++ newline) ≡ line_text key_store n)
  back n good = ((tt, n), (tt, good), sym (line_is key_store n))

  pub store_no_key : {text : List ℕ} {at stop : ℕ} → Stopped (fixed key_store) text at stop → Stopped (store_line wide) text at stop
  store_no_key s =
      stopped_same (and_then (fixed key_store) (λ (u : Unit {0}). bits_line wide)) (store_line wide) there back
      (stopped_first (fixed key_store) (λ (u : Unit {0}). bits_line wide) (λ a good. (16, inl refl)) s)

  pub store_scans : {text : List ℕ} {at mid : ℕ} (r : Result (ℕ × ℕ) ℕ) → Found (fixed key_store) text at tt mid → Scans (bits_line wide) text mid r → Scans (store_line wide) text at r
  store_scans {text} {at} (Ok (n, next)) f g =
      let both = found_then (fixed key_store) (λ (u : Unit {0}). bits_line wide) f g in
      let same : key_store ++ (decimal n ++ newline) ≡ line_text key_store n = sym (line_is key_store n) in
      record {
        good = g.good;
        place = both.place ∙ ap (λ (t : List ℕ). at + length t) same;
        begins = both.begins ∙ ap (λ (t : List ℕ). t ++ drop next text) same;
      }
  store_scans (Err stop) f g =
      stopped_same (and_then (fixed key_store) (λ (u : Unit {0}). bits_line wide)) (store_line wide) there back
      (stopped_then (fixed key_store) (λ (u : Unit {0}). bits_line wide) (apart_key key_store) f g)

  pub store_small : (n : ℕ) → Taken wide n → n ≤ 32
  store_small n (inl e) = omega arith
  store_small n (inr t) = let e = t.1 in omega arith

  pub apart_store : Apart (store_line wide)
  apart_store a b good-a good-b t u e =
      let l-a = store_small a good-a in
      let l-b = store_small b good-b in
      apart_fields key_store 0 100 10 (lit< tt) no_digit a b (omega arith, omega arith) (omega arith, omega arith) t u (ap (λ (s : List ℕ). s ++ t) (sym (line_is key_store a)) ∙ e ∙ ap (λ (s : List ℕ). s ++ u) (line_is key_store b))

-- the largest precision of the store that the bits name
abbrev pub most_of : ℕ → ℕ
most_of bits = largest_precision (store_named_value bits)

some_bits : (b : Bool) → 1 ≤ (cond b store16 store32).bits
some_bits true = lit≤ tt
some_bits false = lit≤ tt

pub named_some : (bits : ℕ) → 1 ≤ (store_named_value bits).bits
named_some bits = some_bits (eqb bits 16)

most_range : (b : Bool) → (4 ≤ largest_precision (cond b store16 store32)) × (largest_precision (cond b store16 store32) ≤ 45)
most_range true = (lit≤ tt, lit≤ tt)
most_range false = (lit≤ tt, lit≤ tt)

pub most_least : (bits : ℕ) → 4 ≤ most_of bits
most_least bits = (most_range (eqb bits 16)).0

pub most_most : (bits : ℕ) → most_of bits ≤ 45
most_most bits = (most_range (eqb bits 16)).1

abbrev store : ℕ → ℕ → StoreLines
store bits precision = record { bits = bits; precision = precision }

texts : (bits precision : ℕ) → store_text bits precision ≡ line_text key_store bits ++ (key_precision ++ (decimal precision ++ newline))
unfolding store_text
texts bits precision = ap (λ (t : List ℕ). line_text key_store bits ++ t) (line_is key_precision precision)

module _ (wide : Bool) where
  abbrev both : Form (ℕ × ℕ)
  both = and_then (store_line wide) (λ (bits : ℕ). line key_precision 4 (most_of bits))

  to : (p : ℕ × ℕ) → both.Good p → (v : StoreLines) × (store_lines wide).Good v × ((store_lines wide).text v ≡ both.text p)
  to p good = (store p.0 p.1, good, texts p.0 p.1)

  from : (v : StoreLines) → (store_lines wide).Good v → (p : ℕ × ℕ) × both.Good p × (both.text p ≡ (store_lines wide).text v)
  from v good = ((v.bits, v.precision), good, sym (texts v.bits v.precision))

  pub lines_no_store : {text : List ℕ} {at stop : ℕ} → Stopped (store_line wide) text at stop → Stopped (store_lines wide) text at stop
  lines_no_store s =
      stopped_same both (store_lines wide) to from
      (stopped_first (store_line wide) (λ (bits : ℕ). line key_precision 4 (most_of bits)) (λ bits good. (4, (le_refl 4, most_least bits))) s)

  pub lines_no_precision : {text : List ℕ} {at mid stop bits : ℕ} → Found (store_line wide) text at bits mid → Stopped (line key_precision 4 (most_of bits)) text mid stop → Stopped (store_lines wide) text at stop
  lines_no_precision f s =
      stopped_same both (store_lines wide) to from (stopped_then (store_line wide) (λ (bits : ℕ). line key_precision 4 (most_of bits)) (apart_store wide) f s)

  pub lines_found : {text : List ℕ} {at mid next bits precision : ℕ} → Found (store_line wide) text at bits mid → Found (line key_precision 4 (most_of bits)) text mid precision next → Found (store_lines wide) text at (store bits precision) next
  lines_found {text} {at} {mid} {next} {bits} {precision} f g =
      let all = found_then (store_line wide) (λ (bits : ℕ). line key_precision 4 (most_of bits)) f g in
      let same = sym (texts bits precision) in
      record {
        good = (f.good, g.good);
        place = all.place ∙ ap (λ (t : List ℕ). at + length t) same;
        begins = all.begins ∙ ap (λ (t : List ℕ). t ++ drop next text) same;
      }

  pub apart_lines : Apart (store_lines wide)
  unfolding from
  apart_lines v w good-v good-w t u e =
      let p = from v good-v in
      let q = from w good-w in
      let same = apart_then (store_line wide) (λ (bits : ℕ). line key_precision 4 (most_of bits)) (apart_store wide) (λ bits good-bits. apart_fields key_precision 4 (most_of bits) 10 (let m = most_most bits in omega arith) no_digit)
      p.0 q.0 p.1 q.1 t u (ap (λ (s : List ℕ). s ++ t) p.2 ∙ e ∙ ap (λ (s : List ℕ). s ++ u) (sym q.2)) in
      ap {B = StoreLines} (λ (x : ℕ × ℕ). store x.0 x.1) same
