-- The loop that counts what a word and a text share, turn by turn. Cited by `shared`. Assumes nothing.
use mathlib.Core.Path.{◌≡◌, refl, sym, ap, ◌∙◌}
use mathlib.Core.List.{List, [], ◌∷◌}
use Prim.Native.Nat.{ℕ, suc, ◌+◌, ◌≤◌, ◌<◌}
use native.Mathlib.Nat.{add-zero}
use native.Mathlib.Numerals.{add-one}
use native.Mathlib.Omega.{arith}
use lib.ListN.{length, get_or, drop, drop_of_length-le}
use lib.Seq.{drop-cons}
use borrow.Author.Tests.{eq-eqb, ne_eqb}
use Rattle.text.specs.Words.{common}

-- equal first bytes are shared, and others end it
pub common_same : (a b : ℕ) (t u : List ℕ) → a ≡ b → common (a ∷ t) (b ∷ u) ≡ suc (common t u)
common_same a b t u e = rw (eq-eqb a b e)

pub common_other : (a b : ℕ) (t u : List ℕ) → (a ≡ b → ⊥) → common (a ∷ t) (b ∷ u) ≡ 0
common_other a b t u e = rw (ne_eqb a b e)

-- k bytes are shared so far
abbrev pub Shared : List ℕ → List ℕ → ℕ → ℕ → Type 0
Shared word text at k = (at + k ≤ length text) × (k ≤ length word) × (common (drop at text) word ≡ k + common (drop (at + k) text) (drop k word))

none : (t : List ℕ) → common t [] ≡ 0
none [] = refl
none (a ∷ t) = refl

pub ended : (word text : List ℕ) (at k : ℕ) → Shared word text at k → length text ≤ at + k → k ≡ common (drop at text) word
ended word text at k s h = sym (s.2 ∙ rw (drop_of_length-le text h) (add-zero k))

pub all : (word text : List ℕ) (at k : ℕ) → Shared word text at k → length word ≤ k → k ≡ common (drop at text) word
all word text at k s h = sym (s.2 ∙ rw (drop_of_length-le word h) (ap (λ (n : ℕ). k + n) (none (drop (at + k) text)) ∙ add-zero k))

pub differs : (word text : List ℕ) (at k : ℕ) → Shared word text at k → at + k < length text → k < length word → (get_or text (at + k) 0 ≡ get_or word k 0 → ⊥) → k ≡ common (drop at text) word
differs word text at k s l m other =
    sym (s.2 ∙ rw (drop-cons text (at + k) 0 l, drop-cons word k 0 m, common_other (get_or text (at + k) 0) (get_or word k 0) (drop (suc (at + k)) text) (drop (suc k) word) other) (add-zero k))

pub agrees : (word text : List ℕ) (at k : ℕ) → Shared word text at k → at + k < length text → k < length word → get_or text (at + k) 0 ≡ get_or word k 0 → Shared word text at (k + 1)
agrees word text at k s l m same =
    let one : at + (k + 1) ≡ suc (at + k) = omega arith in
    let c = common (drop (suc (at + k)) text) (drop (suc k) word) in
    let next : k + suc c ≡ k + 1 + c = omega arith in
    let here : common (drop (at + k) text) (drop k word) ≡ suc c = rw (drop-cons text (at + k) 0 l, drop-cons word k 0 m) (common_same (get_or text (at + k) 0) (get_or word k 0) (drop (suc (at + k)) text) (drop (suc k) word) same) in
    (omega arith, omega arith, s.2 ∙ ap (λ (n : ℕ). k + n) here ∙ next ∙ rw (one, add-one k))
