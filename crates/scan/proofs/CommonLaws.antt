-- The laws of `common`: a beginning in both counts whole, and what two texts share they begin with. Cited by the scanners and by the laws of forms.
-- Assumes nothing.
use mathlib.Core.Path.{◌≡◌, refl, sym, ap, ◌∙◌}
use mathlib.Core.Bool.{Bool, true, false, cond}
use mathlib.Core.List.{List, [], ◌∷◌, ◌++◌}
use Prim.Native.Nat.{ℕ, suc, ◌+◌, ◌≤◌, ◌<◌, zero-le}
use native.Mathlib.Nat.{zero-add, suc-add, not-suc-le-zero, le_of_suc-le-suc}
use native.Mathlib.Omega.{arith}
use lib.Dec.{eqb}
use lib.ListN.{length, take, drop}
use borrow.Author.Tests.{eqb-true}
use Rattle.text.specs.Words.{common}
use Rattle.text.proofs.WordLaws.{common_same}

pub common_append : (s t u : List ℕ) → common (s ++ t) (s ++ u) ≡ length s + common t u
common_append [] t u = sym (zero-add (common t u))
common_append (a ∷ s) t u = common_same a a (s ++ t) (s ++ u) refl ∙ ap suc (common_append s t u) ∙ sym (suc-add (length s) (common t u))

pick_le : (b : Bool) (n m : ℕ) → n ≤ m → cond b (suc n) 0 ≤ suc m
pick_le true n m h = omega arith
pick_le false n m h = omega arith

pub common_right : (t u : List ℕ) → common t u ≤ length u
common_right [] u = zero-le
common_right (a ∷ t) [] = zero-le
common_right (a ∷ t) (b ∷ u) = pick_le (eqb a b) (common t u) (length u) (common_right t u)

pub common_left : (t u : List ℕ) → common t u ≤ length t
common_left [] u = zero-le
common_left (a ∷ t) [] = zero-le
common_left (a ∷ t) (b ∷ u) = pick_le (eqb a b) (common t u) (length t) (common_left t u)

-- a text all of which is shared: the other begins with it
whole_step : (a b : ℕ) (t u : List ℕ) (s : Bool) → eqb a b ≡ s → (common t u ≡ length u → t ≡ u ++ drop (length u) t) → cond s (suc (common t u)) 0 ≡ suc (length u) → a ∷ t ≡ b ∷ u ++ drop (length u) t
whole_step a b t u true e rec h =
    let same : common t u ≡ length u = omega arith in
    ap (λ (x : ℕ). x ∷ t) (eqb-true a b e) ∙ ap (λ (l : List ℕ). b ∷ l) (rec same)
whole_step a b t u false e rec h = absurd (omega arith)

pub common_whole : (t u : List ℕ) → common t u ≡ length u → t ≡ u ++ drop (length u) t
common_whole t [] h = refl
common_whole [] (b ∷ u) h = absurd (omega arith)
common_whole (a ∷ t) (b ∷ u) h = whole_step a b t u (eqb a b) refl (common_whole t u) h

-- a text that is not shared whole shares no more when it goes on
short_step : (a b : ℕ) (t u w : List ℕ) (s : Bool) → (common t u < length u → common t (u ++ w) ≡ common t u) → cond s (suc (common t u)) 0 < suc (length u) → cond s (suc (common t (u ++ w))) 0 ≡ cond s (suc (common t u)) 0
short_step a b t u w true rec h = ap suc (rec (le_of_suc-le-suc h))
short_step a b t u w false rec h = refl

pub common_short : (t u w : List ℕ) → common t u < length u → common t (u ++ w) ≡ common t u
common_short t [] w h = absurd (not-suc-le-zero h)
common_short [] (b ∷ u) w h = refl
common_short (a ∷ t) (b ∷ u) w h = short_step a b t u w (eqb a b) (common_short t u w) h

-- what is shared stands in both
take_step : (a b : ℕ) (t u : List ℕ) (s : Bool) → eqb a b ≡ s → take (common t u) t ≡ take (common t u) u → take (cond s (suc (common t u)) 0) (a ∷ t) ≡ take (cond s (suc (common t u)) 0) (b ∷ u)
take_step a b t u true e rec = ap (λ (x : ℕ). x ∷ take (common t u) t) (eqb-true a b e) ∙ ap (λ (l : List ℕ). b ∷ l) rec
take_step a b t u false e rec = refl

pub common_take : (t u : List ℕ) → take (common t u) t ≡ take (common t u) u
common_take [] u = refl
common_take (a ∷ t) [] = refl
common_take (a ∷ t) (b ∷ u) = take_step a b t u (eqb a b) refl (common_take t u)

-- with itself a text shares all
pub common_self : (u w : List ℕ) → common (u ++ w) u ≡ length u
common_self [] w = none w
  where
    none : (w : List ℕ) → common w [] ≡ 0
    none [] = refl
    none (a ∷ w) = refl
common_self (a ∷ u) w = common_same a a (u ++ w) u refl ∙ ap suc (common_self u w)

-- what shares a whole beginning begins with it
head_step : (a b : ℕ) (u t w : List ℕ) (s : Bool) → eqb a b ≡ s → (length u ≤ common (u ++ t) w → w ≡ u ++ drop (length u) w) → suc (length u) ≤ cond s (suc (common (u ++ t) w)) 0 → b ∷ w ≡ a ∷ u ++ drop (length u) w
head_step a b u t w true e rec h = ap (λ (x : ℕ). x ∷ w) (sym (eqb-true a b e)) ∙ ap (λ (l : List ℕ). a ∷ l) (rec (le_of_suc-le-suc h))
head_step a b u t w false e rec h = absurd (not-suc-le-zero h)

pub common_head : (u t w : List ℕ) → length u ≤ common (u ++ t) w → w ≡ u ++ drop (length u) w
common_head [] t w h = refl
common_head (a ∷ u) t [] h = absurd (not-suc-le-zero h)
common_head (a ∷ u) t (b ∷ w) h = head_step a b u t w (eqb a b) refl (common_head u t w) h
