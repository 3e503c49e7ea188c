-- The filters' names: none begins another, and where a text parts from all four. Cited by the scanners of the filter's line. Assumes nothing.
use mathlib.Core.Path.{◌≡◌, refl, sym, ap, ◌∙◌}
use mathlib.Core.Bool.{Bool, true, false}
use mathlib.Core.List.{List, [], ◌∷◌, ◌++◌, append_assoc}
use mathlib.Core.Logic.{◌⊎◌, inl, inr}
use Prim.Native.Nat.{ℕ, suc, ◌+◌, ◌≤◌, ◌<◌, max}
use native.Mathlib.Omega.{arith}
use lib.Dec.{ltb}
use lib.ListN.{length, get_or, drop, drop_of_length-le}
use lib.Seq.{drop-drop, drop-cons}
use borrow.Author.Tests.{ltb-true, ltb-false}
use Rattle.filters.specs.declared.FilterType.{FilterType}
use Rattle.filters.specs.declared.FilterType.TheVariants.{Box, Bilinear, CatmullRom, Mitchell}
use Rattle.sheet.specs.Keys.{key_kind, kind_name, newline}
use Rattle.sheet.specs.Text.{kind_text}
use Rattle.text.specs.Words.{common}
use Rattle.scan.specs.Form.{Found, Stopped, Apart}
use Rattle.scan.specs.Forms.{fixed, and_then}
use Rattle.text.proofs.WordLaws.{common_same, common_other}
use Rattle.scan.proofs.CommonLaws.{common_append, common_right, common_whole}
use Rattle.scan.proofs.FormLaws.{found_then, stopped_first, stopped_then, stopped_same}
use Rattle.scan.proofs.FieldLaws.{apart_key}
use Rattle.std.specs.Prelude.{Result, Ok, Err}
use Rattle.scan.specs.Answer.{Scans}
use Rattle.sheet_scan.specs.Lines.{name_line, kind_line}

-- all of a name and its newline is shared: it is there
pub name_found : (kind : FilterType) (text : List ℕ) (at n : ℕ) → n ≡ common (drop at text) (kind_name kind ++ newline) → n ≡ length (kind_name kind ++ newline) → Found name_line text at kind (at + n)
name_found kind text at n e long = record {
  good = tt;
  place = ap (λ (k : ℕ). at + k) long;
  begins =
      common_whole (drop at text) (kind_name kind ++ newline) (sym e ∙ long)
      ∙ ap (λ (t : List ℕ). (kind_name kind ++ newline) ++ t) (drop-drop (length (kind_name kind ++ newline)) at text ∙ ap (λ (k : ℕ). drop (at + k) text) (sym long));
}

-- a name and what comes after it: what is shared of both, where all of the name is
pub shared_on : (text name w : List ℕ) (at n : ℕ) → n ≡ common (drop at text) name → length name ≤ n → common (drop at text) (name ++ w) ≡ n + common (drop (at + n) text) w
shared_on text name w at n e l =
    let most = common_right (drop at text) name in
    let full : n ≡ length name = omega arith in
    ap (λ (t : List ℕ). common t (name ++ w)) (common_whole (drop at text) name (sym e ∙ full)) ∙ common_append name (drop (length name) (drop at text)) w
    ∙ ap (λ (t : List ℕ). length name + common t w) (drop-drop (length name) at text) ∙ ap (λ (k : ℕ). k + common (drop (at + k) text) w) (sym full)

module _ (text : List ℕ) (end : ℕ) where
  -- a newline there, something else, or nothing
  pub newline_there : end < length text → get_or text end 0 ≡ 10 → common (drop end text) newline ≡ 1
  newline_there l e = rw (drop-cons text end 0 l) (common_same (get_or text end 0) 10 (drop (suc end) text) [] e ∙ ap suc (none (drop (suc end) text)))
    where
      none : (t : List ℕ) → common t [] ≡ 0
      none [] = refl
      none (a ∷ t) = refl

  pub newline_not : end < length text → (get_or text end 0 ≡ 10 → ⊥) → common (drop end text) newline ≡ 0
  newline_not l other = rw (drop-cons text end 0 l) (common_other (get_or text end 0) 10 (drop (suc end) text) [] other)

  pub newline_past : length text ≤ end → common (drop end text) newline ≡ 0
  newline_past l = rw (drop_of_length-le text l)

either : (a b : ℕ) → (max a b ≡ a) ⊎ (max a b ≡ b)
either a b = by_order (ltb a b) refl
  where
    by_order : (t : Bool) → ltb a b ≡ t → (max a b ≡ a) ⊎ (max a b ≡ b)
    by_order true h = let l = ltb-true a b h in inr (omega arith)
    by_order false h = let l = ltb-false a b h in inl (omega arith)

module _ (text : List ℕ) (at a b c d : ℕ) (e-a : a ≡ common (drop at text) (kind_name Box ++ newline)) (e-b : b ≡ common (drop at text) (kind_name Bilinear ++ newline)) (e-c : c ≡ common (drop at text) (kind_name CatmullRom ++ newline)) (e-d : d ≡ common (drop at text) (kind_name Mitchell ++ newline)) where
  abbrev some_name : Type 0
  some_name = (kind : FilterType) × Unit {0} × (at + common (drop at text) (kind_name kind ++ newline) ≡ at + max (max a b) (max c d))

  pick : (max (max a b) (max c d) ≡ max a b) ⊎ (max (max a b) (max c d) ≡ max c d) → (max a b ≡ a) ⊎ (max a b ≡ b) → (max c d ≡ c) ⊎ (max c d ≡ d) → some_name
  pick (inl h) (inl g) k = (Box, tt, ap (λ (n : ℕ). at + n) (sym e-a ∙ sym g ∙ sym h))
  pick (inl h) (inr g) k = (Bilinear, tt, ap (λ (n : ℕ). at + n) (sym e-b ∙ sym g ∙ sym h))
  pick (inr h) g (inl k) = (CatmullRom, tt, ap (λ (n : ℕ). at + n) (sym e-c ∙ sym k ∙ sym h))
  pick (inr h) g (inr k) = (Mitchell, tt, ap (λ (n : ℕ). at + n) (sym e-d ∙ sym k ∙ sym h))

  bound : (a < length (kind_name Box ++ newline)) × (b < length (kind_name Bilinear ++ newline)) × (c < length (kind_name CatmullRom ++ newline)) × (d < length (kind_name Mitchell ++ newline)) → (kind : FilterType) → (at + common (drop at text) (kind_name kind ++ newline) ≤ at + max (max a b) (max c d)) × (common (drop at text) (kind_name kind ++ newline) < length (kind_name kind ++ newline))
  bound l Box = (omega (arith, e-a), rw (← e-a) l.0)
  bound l Bilinear = (omega (arith, e-b), rw (← e-b) l.1)
  bound l CatmullRom = (omega (arith, e-c), rw (← e-c) l.2)
  bound l Mitchell = (omega (arith, e-d), rw (← e-d) l.3)

  -- none of the four is there: the one that shares most
  pub names_stopped : (a < length (kind_name Box ++ newline)) × (b < length (kind_name Bilinear ++ newline)) × (c < length (kind_name CatmullRom ++ newline)) × (d < length (kind_name Mitchell ++ newline)) → Stopped name_line text at (at + max (max a b) (max c d))
  names_stopped l = record { most = λ kind good. bound l kind; some = pick (either (max a b) (max c d)) (either a b) (either c d) }

there : (p : Unit {0} × FilterType) → Unit {0} × Unit {0} → (k : FilterType) × Unit {0} × (kind_text k ≡ key_kind ++ (kind_name p.1 ++ newline))
unfolding kind_text
there p good = (p.1, tt, append_assoc key_kind (kind_name p.1) newline)

back : (k : FilterType) → Unit {0} → (p : Unit {0} × FilterType) × (Unit {0} × Unit {0}) × (key_kind ++ (kind_name p.1 ++ newline) ≡ kind_text k)
unfolding kind_text
back k good = ((tt, k), (tt, tt), sym (append_assoc key_kind (kind_name k) newline))

pub kind_no_key : {text : List ℕ} {at stop : ℕ} → Stopped (fixed key_kind) text at stop → Stopped kind_line text at stop
kind_no_key s =
    stopped_same (and_then (fixed key_kind) (λ (u : Unit {0}). name_line)) kind_line there back
    (stopped_first (fixed key_kind) (λ (u : Unit {0}). name_line) (λ a good. (Box, tt)) s)

pub kind_scans : {text : List ℕ} {at mid : ℕ} (r : Result (FilterType × ℕ) ℕ) → Found (fixed key_kind) text at tt mid → Scans name_line text mid r → Scans kind_line text at r
unfolding kind_text
kind_scans {text} {at} (Ok (k, next)) f g =
    let both = found_then (fixed key_kind) (λ (u : Unit {0}). name_line) f g in
    let same : key_kind ++ (kind_name k ++ newline) ≡ kind_text k = sym (append_assoc key_kind (kind_name k) newline) in
    record {
      good = tt;
      place = both.place ∙ ap (λ (t : List ℕ). at + length t) same;
      begins = both.begins ∙ ap (λ (t : List ℕ). t ++ drop next text) same;
    }
kind_scans (Err stop) f g =
    stopped_same (and_then (fixed key_kind) (λ (u : Unit {0}). name_line)) kind_line there back
    (stopped_then (fixed key_kind) (λ (u : Unit {0}). name_line) (apart_key key_kind) f g)

-- the sixth and seventh bytes of the lines tell the kinds apart
differ : (k : ℕ) (s t : List ℕ) → s ≡ t → (get_or s k 0 ≡ get_or t k 0 → ⊥) → ⊥
differ k s t e other = other (ap (λ (l : List ℕ). get_or l k 0) e)

pub apart_kind : Apart kind_line
unfolding kind_text kind_name
apart_kind Box Box good-a good-b t u e = refl
apart_kind Bilinear Bilinear good-a good-b t u e = refl
apart_kind CatmullRom CatmullRom good-a good-b t u e = refl
apart_kind Mitchell Mitchell good-a good-b t u e = refl
apart_kind Box Bilinear good-a good-b t u e = absurd (differ 6 _ _ e (λ (h : 111 ≡ 105). omega arith))
apart_kind Box CatmullRom good-a good-b t u e = absurd (differ 6 _ _ e (λ (h : 111 ≡ 97). omega arith))
apart_kind Box Mitchell good-a good-b t u e = absurd (differ 6 _ _ e (λ (h : 111 ≡ 105). omega arith))
apart_kind Bilinear Box good-a good-b t u e = absurd (differ 6 _ _ e (λ (h : 105 ≡ 111). omega arith))
apart_kind Bilinear CatmullRom good-a good-b t u e = absurd (differ 6 _ _ e (λ (h : 105 ≡ 97). omega arith))
apart_kind Bilinear Mitchell good-a good-b t u e = absurd (differ 5 _ _ e (λ (h : 98 ≡ 109). omega arith))
apart_kind CatmullRom Box good-a good-b t u e = absurd (differ 6 _ _ e (λ (h : 97 ≡ 111). omega arith))
apart_kind CatmullRom Bilinear good-a good-b t u e = absurd (differ 6 _ _ e (λ (h : 97 ≡ 105). omega arith))
apart_kind CatmullRom Mitchell good-a good-b t u e = absurd (differ 6 _ _ e (λ (h : 97 ≡ 105). omega arith))
apart_kind Mitchell Box good-a good-b t u e = absurd (differ 6 _ _ e (λ (h : 105 ≡ 111). omega arith))
apart_kind Mitchell Bilinear good-a good-b t u e = absurd (differ 5 _ _ e (λ (h : 109 ≡ 98). omega arith))
apart_kind Mitchell CatmullRom good-a good-b t u e = absurd (differ 6 _ _ e (λ (h : 105 ≡ 97). omega arith))
