-- The laws of `up_to`, which the loop that drops trailing zeros asks for, and of `first_weight`. Cited by the proofs of `trim`, `lead` and `weigh`, by
-- LineLaws and by the Box promise. Assumes nothing.
use mathlib.Core.Path.{◌≡◌, refl, sym, ap, ◌∙◌}
use mathlib.Core.Bool.{Bool, true, false, cond}
use Prim.Native.Nat.{ℕ, zero, suc, ◌-◌, ◌≤◌, ◌<◌}
use native.Mathlib.Nat.{not-suc-le-zero, le_refl, add-zero}
use native.Mathlib.Omega.{arith}
use lib.Dec.{eqb}
use lib.Ieee.{Float}
use borrow.Author.Tests.{eqb-true, eqb-false, lt-ltb}
use Rattle.filters.specs.declared.Filter.{Filter}
use Rattle.line_weights.specs.Weights.{up_to, weight_from, first_weight}

-- where there are weights, the first is the first line's
pub first_weight_fact : (f : Filter) (c recip : Float) (a n : ℕ) → 0 < n → first_weight f c recip a n ≡ weight_from f c recip a 0
unfolding first_weight
first_weight_fact f c recip a n h = rw (lt-ltb 0 n h, add-zero)

-- the last one passes: all are left
pub up_stop : (t : ℕ → Bool) (k : ℕ) → 0 < k → t (k - 1) ≡ true → up_to t k ≡ k
up_stop t zero l h = absurd (not-suc-le-zero l)
up_stop t (suc k) l h =
    let e : suc k - 1 ≡ k = omega arith in
    rw (sym (ap t e) ∙ h)

-- the last one fails: it is dropped
pub up_on : (t : ℕ → Bool) (k : ℕ) → 0 < k → t (k - 1) ≡ false → up_to t k ≡ up_to t (k - 1)
up_on t zero l h = absurd (not-suc-le-zero l)
up_on t (suc k) l h =
    let e : suc k - 1 ≡ k = omega arith in
    rw (sym (ap t e) ∙ h, e)

-- only what the test says below n matters
pub up_ext : (s t : ℕ → Bool) (n : ℕ) → ((k : ℕ) → k < n → s k ≡ t k) → up_to s n ≡ up_to t n
up_ext s t zero h = refl
up_ext s t (suc n) h =
    let rest : (k : ℕ) → k < n → s k ≡ t k = λ k l. h k (omega arith) in
    rw (h n (le_refl (suc n)), up_ext s t n rest)

pick_le : (b : Bool) (n r : ℕ) → r ≤ n → cond b (suc n) r ≤ suc n
pick_le true n r h = le_refl (suc n)
pick_le false n r h = omega arith

pub up_le : (t : ℕ → Bool) (n : ℕ) → up_to t n ≤ n
up_le t zero = le_refl 0
up_le t (suc n) = pick_le (t n) n (up_to t n) (up_le t n)

last_step : (t : ℕ → Bool) (n r : ℕ) (b : Bool) → t n ≡ b → (0 < r → t (r - 1) ≡ true) → 0 < cond b (suc n) r → t (cond b (suc n) r - 1) ≡ true
last_step t n r true e next h = let z : suc n - 1 ≡ n = omega arith in ap t z ∙ e
last_step t n r false e next h = next h

-- the last one left passes
pub up_last : (t : ℕ → Bool) (m : ℕ) → 0 < up_to t m → t (up_to t m - 1) ≡ true
up_last t zero h = absurd (not-suc-le-zero h)
up_last t (suc m) h = last_step t m (up_to t m) (t m) refl (up_last t m) h

past_step : (t : ℕ → Bool) (m k r : ℕ) (b : Bool) → t m ≡ b → (r ≤ k → k < m → t k ≡ false) → cond b (suc m) r ≤ k → k < suc m → (c : Bool) → eqb k m ≡ c → t k ≡ false
past_step t m k r true e next h l c i = absurd (omega arith)
past_step t m k r false e next h l true i = ap t (eqb-true k m i) ∙ e
past_step t m k r false e next h l false i = let ne = eqb-false k m i in next h (omega arith)

-- those dropped fail
pub up_past : (t : ℕ → Bool) (m k : ℕ) → up_to t m ≤ k → k < m → t k ≡ false
up_past t zero k h l = absurd (not-suc-le-zero l)
up_past t (suc m) k h l = past_step t m k (up_to t m) (t m) refl (up_past t m k) h l (eqb k m) refl
