-- Decimals digit by digit: a number's digits, how many there are, and what the first k of them read. Cited by the scanners of numbers. Assumes nothing.
use mathlib.Core.Path.{◌≡◌, refl, sym, ap, ◌∙◌}
use mathlib.Core.Bool.{Bool, true, false, cond}
use mathlib.Core.List.{List, [], ◌∷◌}
use Prim.Native.Nat.{ℕ, zero, suc, ◌+◌, ◌-◌, ◌*◌, ◌/◌, ◌%◌, ◌^◌, ◌≤◌, ◌<◌}
use native.Mathlib.Nat.{zero-add, add-zero, add-suc, pow-suc, pow-zero, div-one, div-div-eq-div-mul, div-eq_of_lt, le_refl}
use native.Mathlib.Omega.{arith}
use lib.Dec.{eqb}
use lib.ListN.{length}
use borrow.Author.Tests.{eq-eqb, ne_eqb, eqb-true, eqb-false}
use Rattle.lists.specs.Tab.{tab, first}
use Rattle.text.specs.Text.{digit_count_value, digit_at_value, decimal}
use Rattle.lists.proofs.FirstLaws.{first_ge, first_le, first_passes}
use Rattle.lists.proofs.BoolLaws.{never}
use Rattle.scan.specs.Number.{Opens}

-- the last j digits of n
abbrev pub lower : ℕ → ℕ → List ℕ
lower zero n = []
lower (suc j) n = (48 + n / 10 ^ j % 10) ∷ lower j n

tab_lower : (n i m : ℕ) → tab i m (digit_at_value n (i + m)) ≡ lower m n
tab_lower n i zero = refl
tab_lower n i (suc m) =
    let place : i + suc m - 1 - i ≡ m = omega arith in
    let head : 48 + n / 10 ^ (i + suc m - 1 - i) % 10 ≡ 48 + n / 10 ^ m % 10 = ap (λ (k : ℕ). 48 + n / 10 ^ k % 10) place in
    let all : i + suc m ≡ suc i + m = omega arith in
    ap (λ (d : ℕ). d ∷ tab (suc i) m (digit_at_value n (i + suc m))) head
    ∙ ap (λ (l : List ℕ). (48 + n / 10 ^ m % 10) ∷ l) (ap (λ (k : ℕ). tab (suc i) m (digit_at_value n k)) all ∙ tab_lower n (suc i) m)

pub decimal_lower : (n : ℕ) → decimal n ≡ lower (digit_count_value n) n
unfolding decimal
decimal_lower n = ap (λ (k : ℕ). tab 0 (digit_count_value n) (digit_at_value n k)) (sym (zero-add (digit_count_value n))) ∙ tab_lower n 0 (digit_count_value n)

pub length_lower : (j n : ℕ) → length (lower j n) ≡ j
length_lower zero n = refl
length_lower (suc j) n = ap suc (length_lower j n)

-- nothing is left above the last k digits
gone : ℕ → ℕ → Bool
gone n k = eqb (n / 10 ^ k) 0

count_first : (n : ℕ) → digit_count_value n ≡ first (gone n) 1 19
unfolding digit_count_value gone
count_first n = refl

pub count_least : (n : ℕ) → 1 ≤ digit_count_value n
count_least n = rw (count_first n) (first_ge (gone n) 1 19)

pub count_most : (n : ℕ) → digit_count_value n ≤ 20
count_most n = rw (count_first n) (first_le (gone n) 1 19)

-- the search stops at the first that passes
pick_is : (t : ℕ → Bool) (p n k r : ℕ) (b : Bool) → t p ≡ b → p ≤ k → k ≤ p + suc n → ((i : ℕ) → p ≤ i → i < k → t i ≡ false) → (k < p + suc n → t k ≡ true) → (suc p ≤ k → r ≡ k) → cond b p r ≡ k
pick_is t p n k r true e l u before at rec = same (eqb p k) refl
  where
    same : (s : Bool) → eqb p k ≡ s → p ≡ k
    same true h = eqb-true p k h
    same false h = let other = eqb-false p k h in never (sym e ∙ before p (le_refl p) (omega arith))
pick_is t p n k r false e l u before at rec = same (eqb p k) refl
  where
    same : (s : Bool) → eqb p k ≡ s → r ≡ k
    same true h =
        let is = eqb-true p k h in
        never (sym (at (omega arith)) ∙ ap t (sym is) ∙ e)
    same false h = let other = eqb-false p k h in rec (omega arith)

pub first_is : (t : ℕ → Bool) (p n k : ℕ) → p ≤ k → k ≤ p + n → ((i : ℕ) → p ≤ i → i < k → t i ≡ false) → (k < p + n → t k ≡ true) → first t p n ≡ k
first_is t p zero k l u before at = omega arith
first_is t p (suc n) k l u before at =
    pick_is t p n k (first t (suc p) n) (t p) refl l u before at
    (λ l2. first_is t (suc p) n k l2 (omega arith) (λ i l3 l4. before i (omega arith) l4) (λ l3. at (omega arith)))

pick_before : (t : ℕ → Bool) (p k r : ℕ) (b : Bool) → t p ≡ b → p ≤ k → k < cond b p r → (suc p ≤ k → k < r → t k ≡ false) → t k ≡ false
pick_before t p k r true e l u rec = absurd (omega arith)
pick_before t p k r false e l u rec = same (eqb p k) refl
  where
    same : (s : Bool) → eqb p k ≡ s → t k ≡ false
    same true h = ap t (sym (eqb-true p k h)) ∙ e
    same false h = let other = eqb-false p k h in rec (omega arith) u

pub first_before : (t : ℕ → Bool) (p n k : ℕ) → p ≤ k → k < first t p n → t k ≡ false
first_before t p zero k l u = absurd (omega arith)
first_before t p (suc n) k l u = pick_before t p k (first t (suc p) n) (t p) refl l u (first_before t (suc p) n k)

-- k digits: something is left above fewer, and nothing above all
pub count_below : (n k : ℕ) → 1 ≤ k → k < digit_count_value n → n / 10 ^ k ≡ 0 → ⊥
unfolding gone
count_below n k l u = eqb-false (n / 10 ^ k) 0 (first_before (gone n) 1 19 k l (rw (count_first n) at u))

top_step : (n c : ℕ) (b : Bool) → c ≤ 20 → eqb c 20 ≡ b → n < 10 ^ 20 → (c < 20 → n / 10 ^ c ≡ 0) → n / 10 ^ c ≡ 0
top_step n c true m e small found = ap (λ (k : ℕ). n / 10 ^ k) (eqb-true c 20 e) ∙ div-eq_of_lt small
top_step n c false m e small found = let other = eqb-false c 20 e in found (omega arith)

pub count_top : (n : ℕ) → n < 10 ^ 20 → n / 10 ^ digit_count_value n ≡ 0
unfolding gone
count_top n small =
    top_step n (digit_count_value n) (eqb (digit_count_value n) 20) (count_most n) refl small
    (λ l. eqb-true (n / 10 ^ digit_count_value n) 0 (rw (← count_first n) at (first_passes (gone n) 1 19 (rw (count_first n) at l))))

pub count_is : (n k : ℕ) → 1 ≤ k → k ≤ 20 → n / 10 ^ k ≡ 0 → ((i : ℕ) → 1 ≤ i → i < k → n / 10 ^ i ≡ 0 → ⊥) → digit_count_value n ≡ k
unfolding gone
count_is n k l u top below =
    count_first n ∙ first_is (gone n) 1 19 k l u (λ i l1 l2. ne_eqb (n / 10 ^ i) 0 (below i l1 l2)) (λ _. eq-eqb (n / 10 ^ k) 0 top)

pub div_pow_add : (n j k : ℕ) → n / 10 ^ j / 10 ^ k ≡ n / 10 ^ (j + k)
div_pow_add n j zero = rw (pow-zero, div-one, add-zero)
div_pow_add n j (suc k) =
    rw (add-suc, pow-suc, pow-suc, ← div-div-eq-div-mul, ← div-div-eq-div-mul) (ap (λ (m : ℕ). m / 10) (div_pow_add n j k))

-- one digit more
pub digit_more : (n j v : ℕ) → n / 10 ^ suc j ≡ v → n / 10 ^ j ≡ v * 10 + n / 10 ^ j % 10
digit_more n j v e =
    let up : n / 10 ^ j / 10 ≡ v = rw (div-div-eq-div-mul, ← pow-suc) e in
    let m = n / 10 ^ j in
    omega arith

-- the first k digits are those of their own number
pub opens_count : (k v n : ℕ) → 1 ≤ k → n < 10 ^ 20 → Opens k v n → digit_count_value v ≡ k
opens_count k v n l small o =
    let most = count_most n in
    let digits = o.digits in
    let j = o.more in
    let is : (i : ℕ) → v / 10 ^ i ≡ n / 10 ^ (j + i) = λ i. ap (λ (m : ℕ). m / 10 ^ i) (sym o.opening) ∙ div_pow_add n j i in
    let all : j + k ≡ digit_count_value n = omega arith in
    count_is v k l (omega arith) (is k ∙ ap (λ (m : ℕ). n / 10 ^ m) all ∙ count_top n small)
    (λ i l1 l2 z. count_below n (j + i) (omega arith) (omega arith) (sym (is i) ∙ z))
