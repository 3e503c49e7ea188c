-- What stands before the first number that passes a test fails it, and tests that agree find the same. Cited by the offerer and by the theorems on its line. Assumes nothing.
use mathlib.Core.Path.{◌≡◌, refl, ap, ◌∙◌}
use mathlib.Core.Bool.{Bool, true, false, cond}
use Prim.Native.Nat.{ℕ, zero, suc, ◌+◌, ◌≤◌, ◌<◌}
use native.Mathlib.Omega.{arith}
use lib.Dec.{eqb}
use borrow.Author.Tests.{eqb-true, eqb-false}
use Rattle.lists.specs.Tab.{first}

later : (p k : ℕ) → p ≤ k → (k ≡ p → ⊥) → suc p ≤ k
later p k l other = omega arith

step_before : (b c : Bool) (t : ℕ → Bool) (p k r : ℕ) → t p ≡ b → eqb k p ≡ c → p ≤ k → k < cond b p r → (suc p ≤ k → k < r → t k ≡ false) → t k ≡ false
step_before true c t p k r eb ec l u rest = absurd (omega arith)
step_before false true t p k r eb ec l u rest = ap t (eqb-true k p ec) ∙ eb
step_before false false t p k r eb ec l u rest = rest (later p k l (eqb-false k p ec)) u

pub first_before : (t : ℕ → Bool) (p n k : ℕ) → p ≤ k → k < first t p n → t k ≡ false
first_before t p zero k l u = absurd (omega arith)
first_before t p (suc n) k l u = step_before (t p) (eqb k p) t p k (first t (suc p) n) refl refl l u (first_before t (suc p) n k)

-- two tests that agree on what is tried find the same
pub first_ext : (t u : ℕ → Bool) (p n : ℕ) → ((k : ℕ) → p ≤ k → k < p + n → t k ≡ u k) → first t p n ≡ first u p n
first_ext t u p zero h = refl
first_ext t u p (suc n) h = rw (h p (omega arith) (omega arith), first_ext t u (suc p) n (λ k l m. h k (omega arith) (omega arith)))
