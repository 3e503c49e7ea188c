-- One digit more: what it does to the count of digits, and which digit may come. Cited by `digit_goes_on`. Assumes nothing.
use mathlib.Core.Path.{◌≡◌, sym, ap, ◌∙◌, subst}
use mathlib.Core.Bool.{Bool, true, false}
use Prim.Native.Nat.{ℕ, zero, suc, ◌+◌, ◌*◌, ◌/◌, ◌^◌, ◌≤◌, ◌<◌}
use native.Mathlib.Nat.{zero-add, pow-zero, div-one, div-eq_of_lt, zero-div}
use native.Mathlib.Omega.{arith}
use lib.Dec.{eqb}
use lib.Arith.{digits_div}
use borrow.Author.Tests.{eqb-true, eqb-false}
use Rattle.text.specs.Text.{digit_count_value}
use Rattle.scan.specs.Number.{Opens, GoesOn, NextDigit}
use Rattle.scan.specs.Answer.{Tells}
use Rattle.scan.proofs.DecimalLaws.{count_below, count_top, count_is, opens_count}
use Rattle.scan.proofs.NumberLaws.{count_with}

-- what is told of one digit is told of the byte
pub tells_digit : (low high k v d b : ℕ) (r : Bool) → b ≡ 48 + d → d < 10 → Tells (GoesOn low high (k + 1) (v * 10 + d)) r → Tells (NextDigit low high k v b) r
tells_digit low high k v d b true e l h = record { d = d; small = l; is = e; goes = h }
tells_digit low high k v d b false e l h =
    λ next.
    let e2 = next.is in
    let same : next.d ≡ d = omega arith in
    h (subst (λ (x : ℕ). GoesOn low high (k + 1) (v * 10 + x)) same next.goes)

pub no_digit_low : (low high k v b : ℕ) → b < 48 → NextDigit low high k v b → ⊥
no_digit_low low high k v b l next = let e = next.is in omega arith

pub no_digit_high : (low high k v b : ℕ) → 57 < b → NextDigit low high k v b → ⊥
no_digit_high low high k v b l next = let e = next.is in let s = next.small in omega arith

pub count_one : (d : ℕ) → d < 10 → digit_count_value d ≡ 1
count_one d l = count_is d 1 (omega arith) (omega arith) (div-eq_of_lt l) (λ i l1 l2. absurd (omega arith))

-- no digits read 0
opens_none : (v n : ℕ) → n < 10 ^ 20 → Opens 0 v n → v ≡ 0
opens_none v n small o = sym o.opening ∙ ap (λ (x : ℕ). n / 10 ^ x) (sym (zero-add o.more) ∙ sym o.digits) ∙ count_top n small

-- digits that read 1 or more are those of the number that they read
pub goes_count : (low high k v : ℕ) → high < 10 ^ 20 → 1 ≤ v → GoesOn low high k v → digit_count_value v ≡ k
goes_count low high zero v small l on = let to = on.to in let none = opens_none v on.n (omega arith) on.opens in absurd (omega arith)
goes_count low high (suc k) v small l on = let to = on.to in opens_count (suc k) v on.n (omega arith) (omega arith) on.opens

pub count_next : (v d : ℕ) → 1 ≤ v → d < 10 → v * 10 + d < 10 ^ 20 → digit_count_value (v * 10 + d) ≡ digit_count_value v + 1
count_next v d l l-d small = count_with (v * 10 + d) v 1 l small (digits_div v l-d)

-- a digit after digits that read 1 or more
pub after_some : (low high k v d b : ℕ) (r : Bool) → high < 10 ^ 18 → 1 ≤ v → GoesOn low high k v → v ≤ high → b ≡ 48 + d → d < 10 → Tells (GoesOn low high (digit_count_value (v * 10 + d)) (v * 10 + d)) r → Tells (NextDigit low high k v b) r
after_some low high k v d b r small l on h e l-d told =
    let count : digit_count_value (v * 10 + d) ≡ k + 1 = count_next v d l l-d (omega arith) ∙ ap (λ (x : ℕ). x + 1) (goes_count low high k v (omega arith) l on) in
    tells_digit low high k v d b r e l-d (subst (λ (x : ℕ). Tells (GoesOn low high x (v * 10 + d)) r) count told)

-- none comes after a 0
pub after_zero : (low high k v b : ℕ) → high < 10 ^ 20 → v ≡ 0 → 0 < k → NextDigit low high k v b → ⊥
after_zero low high k v b small z l next =
    let to = next.goes.to in
    let l-d = next.small in
    let is : v * 10 + next.d ≡ next.d = omega arith in
    let count : digit_count_value (v * 10 + next.d) ≡ k + 1 = opens_count (k + 1) (v * 10 + next.d) next.goes.n (omega arith) (omega arith) next.goes.opens in
    let one : digit_count_value (v * 10 + next.d) ≡ 1 = ap digit_count_value is ∙ count_one next.d l-d in
    omega arith

-- a 0 first is the number 0
zero_more : (n m : ℕ) → digit_count_value n ≡ 1 + m → n / 10 ^ m ≡ 0 → n ≡ 0
zero_more n zero e-n e-v = sym (div-one n) ∙ ap (λ (x : ℕ). n / x) (sym (pow-zero 10)) ∙ e-v
zero_more n (suc m) e-n e-v = absurd (count_below n (suc m) (omega arith) (omega arith) e-v)

zero_tells : (low high : ℕ) (r : Bool) → eqb low 0 ≡ r → Tells (GoesOn low high 1 0) r
zero_tells low high true e =
    let none = eqb-true low 0 e in
    record {
      n = 0;
      from = omega arith;
      to = omega arith;
      opens = record { more = 0; digits = count_one 0 (omega arith); opening = zero-div (10 ^ 0) };
    }
zero_tells low high false e =
    λ on. eqb-false low 0 e (let is = zero_more on.n on.opens.more on.opens.digits on.opens.opening in let from = on.from in omega arith)

pub first_zero : (low high k v d b : ℕ) (r : Bool) → eqb low 0 ≡ r → v ≡ 0 → k ≡ 0 → d ≡ 0 → b ≡ 48 + d → Tells (NextDigit low high k v b) r
first_zero low high k v d b r e e-v e-k e-d e-b =
    let one : 1 ≡ k + 1 = omega arith in
    let none : 0 ≡ v * 10 + d = omega arith in
    tells_digit low high k v d b r e-b (omega arith)
    (subst (λ (x : ℕ). Tells (GoesOn low high x (v * 10 + d)) r) one (subst (λ (x : ℕ). Tells (GoesOn low high 1 x) r) none (zero_tells low high r e)))

pub first_other : (low high k v d b : ℕ) (r : Bool) → v ≡ 0 → k ≡ 0 → d < 10 → b ≡ 48 + d → Tells (GoesOn low high (digit_count_value d) d) r → Tells (NextDigit low high k v b) r
first_other low high k v d b r e-v e-k l-d e-b told =
    let count : digit_count_value d ≡ k + 1 = count_one d l-d ∙ (omega arith) in
    let same : d ≡ v * 10 + d = omega arith in
    tells_digit low high k v d b r e-b l-d
    (subst (λ (x : ℕ). Tells (GoesOn low high (k + 1) x) r) same (subst (λ (x : ℕ). Tells (GoesOn low high x d) r) count told))
