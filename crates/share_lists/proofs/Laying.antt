-- Numbers and lists laid into a list one by one. Cited by the proofs of `keeping`. Assumes nothing.
use mathlib.Core.Path.{◌≡◌, refl, sym, ap, ◌∙◌}
use mathlib.Core.List.{List, [], ◌∷◌, ◌++◌}
use Prim.Native.Nat.{ℕ, suc, ◌+◌, ◌<◌}
use native.Mathlib.Numerals.{add-one}
use native.Mathlib.Omega.{arith}
use lib.ListN.{length, get_or, take, set, length-set}
use lib.Seq.{take-suc, length-take-le}
use Rattle.text.specs.Text.{laid}
use Rattle.text.proofs.TextLaws.{laid_more}

-- one more element of another list
pub laid_next : {A : Type 0} (src old now : List A) (at k : ℕ) (d : A) → k < length src → now ≡ laid old at (take k src) → set now (at + k) (get_or src k d) ≡ laid old at (take (k + 1) src)
unfolding laid
laid_next {A = A} src old now at k d h is =
    let more : take k src ++ (get_or src k d ∷ []) ≡ take (k + 1) src = sym (ap (λ (n : ℕ). take n src) (add-one k) ∙ take-suc src k d h) in
    let long : length (take k src) ≡ k = length-take-le k src (omega arith) in
    ap (λ (l : List A). set l (at + k) (get_or src k d)) is
    ∙ ap (λ (n : ℕ). laid (laid old at (take k src)) (at + n) (get_or src k d ∷ [])) (sym long)
    ∙ laid_more old at (take k src) (get_or src k d ∷ []) ∙ ap (laid old at) more

pub laid_nothing : {A : Type 0} (old src : List A) (at : ℕ) → old ≡ laid old at (take 0 src)
unfolding laid
laid_nothing old src at = refl

-- four stores in a row
pub laid_four : (l : List ℕ) (a x y z w : ℕ) → set (set (set (set l a x) (a + 1) y) (a + 2) z) (a + 3) w ≡ laid l a (x ∷ y ∷ z ∷ w ∷ [])
unfolding laid
laid_four l a x y z w =
    let e1 : a + 1 ≡ suc a = omega arith in
    let e2 : a + 2 ≡ suc (suc a) = omega arith in
    let e3 : a + 3 ≡ suc (suc (suc a)) = omega arith in
    rw (e1, e2, e3)

pub length_three : (l : List ℕ) (a b d x y z : ℕ) → length (set (set (set l a x) b y) d z) ≡ length l
length_three l a b d x y z = length-set (set (set l a x) b y) d z ∙ length-set (set l a x) b y ∙ length-set l a x

-- a beginning of one list, laid into another, by what its length and the place are
pub laid_at : (old src : List ℕ) {a a1 n n1 : ℕ} → a ≡ a1 → n ≡ n1 → laid old a (take n src) ≡ laid old a1 (take n1 src)
laid_at old src e1 e2 = rw (e1, e2)
