-- `take_name`: one of four names is there, or the text stops where it leaves the one that it shares most with. Assumes nothing.
use borrow.Author.Rules.{rules}
use mathlib.Core.Path.{◌≡◌, refl}
use mathlib.Core.List.{List, [], ◌∷◌, ◌++◌}
use Prim.Native.Nat.{ℕ, ◌≤◌, ◌<◌, max}
use lib.ListN.{length, drop}
use Rattle.filters.specs.declared.FilterType.{FilterType}
use Rattle.text.specs.Words.{common}
use Rattle.filters.specs.declared.FilterType.TheVariants.{Box, Bilinear, CatmullRom, Mitchell}
use Rattle.sheet.specs.Keys.{kind_name, newline}
use Rattle.scan.proofs.CommonLaws.{common_right}
use Rattle.sheet_scan.proofs.NameLaws.{name_found, names_stopped}
use native.Mathlib.Omega.{arith}
use Rattle.sheet_scan.proofs.names.take_name.Goals as goal

largest : (a b c d e f m : ℕ) → a ≤ 4 → b ≤ 9 → c ≤ 11 → d ≤ 9 → e ≡ max a b → f ≡ max c d → m ≡ max e f → m ≤ 11
largest a b c d e f m l-a l-b l-c l-d h-e h-f h-m = omega arith

below : (kind : FilterType) (t : List ℕ) (at n long : ℕ) → n ≡ common (drop at t) (kind_name kind ++ newline) → long ≡ length (kind_name kind ++ newline) → (n ≡ long → ⊥) → n < length (kind_name kind ++ newline)
below kind t at n long e e-l other = let m = common_right (drop at t) (kind_name kind ++ newline) in omega arith

pub returns-then-a-eq4 : goal.returns-then-a-eq4
unfolding kind_name
returns-then-a-eq4 c = record { answer = name_found Box _ _ _ c.shared_line-a.ensures.answer c.if-a-eq4.true }

pub returns-then-b-eq9 : goal.returns-then-b-eq9
unfolding kind_name
returns-then-b-eq9 c = record { answer = name_found Bilinear _ _ _ c.shared_line-b.ensures.answer c.if-b-eq9.true }

pub returns-then-c-eq11 : goal.returns-then-c-eq11
unfolding kind_name
returns-then-c-eq11 c = record { answer = name_found CatmullRom _ _ _ c.shared_line-c.ensures.answer c.if-c-eq11.true }

pub returns-then-d-eq9 : goal.returns-then-d-eq9
unfolding kind_name
returns-then-d-eq9 c = record { answer = name_found Mitchell _ _ _ c.shared_line-d.ensures.answer c.if-d-eq9.true }

pub overflow_add-result-2 : goal.overflow_add-result-2
overflow_add-result-2 c =
    let t = c.args.text.now in
    let at = c.args.at in
    let l-a : _ ≤ 4 = rw (← c.shared_line-a.ensures.answer) at (common_right (drop at t) (98 ∷ 111 ∷ 120 ∷ 10 ∷ [])) in
    let l-b : _ ≤ 9 = rw (← c.shared_line-b.ensures.answer) at (common_right (drop at t) (98 ∷ 105 ∷ 108 ∷ 105 ∷ 110 ∷ 101 ∷ 97 ∷ 114 ∷ 10 ∷ [])) in
    let l-c : _ ≤ 11 = rw (← c.shared_line-c.ensures.answer) at (common_right (drop at t) (99 ∷ 97 ∷ 116 ∷ 109 ∷ 117 ∷ 108 ∷ 108 ∷ 114 ∷ 111 ∷ 109 ∷ 10 ∷ [])) in
    let l-d : _ ≤ 9 = rw (← c.shared_line-d.ensures.answer) at (common_right (drop at t) (109 ∷ 105 ∷ 116 ∷ 99 ∷ 104 ∷ 101 ∷ 108 ∷ 108 ∷ 10 ∷ [])) in
    let m : c.max-3.result ≤ 11 = largest _ _ _ _ _ _ _ l-a l-b l-c l-d c.max.ensures c.max-2.ensures c.max-3.ensures in
    search rules

pub returns : goal.returns
unfolding kind_name
returns c =
    let t = c.args.text.now in
    let at = c.args.at in
    let n-a = c.if-a-eq4.false in
    let n-b = c.if-b-eq9.false in
    let n-c = c.if-c-eq11.false in
    let n-d = c.if-d-eq9.false in
    record {
      answer = rw (c.max-3.ensures, c.max.ensures, c.max-2.ensures)
          (names_stopped t at _ _ _ _ c.shared_line-a.ensures.answer c.shared_line-b.ensures.answer c.shared_line-c.ensures.answer c.shared_line-d.ensures.answer (
            below Box t at _ 4 c.shared_line-a.ensures.answer refl n-a,
            below Bilinear t at _ 9 c.shared_line-b.ensures.answer refl n-b,
            below CatmullRom t at _ 11 c.shared_line-c.ensures.answer refl n-c,
            below Mitchell t at _ 9 c.shared_line-d.ensures.answer refl n-d,
          ));
    }
