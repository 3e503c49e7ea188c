-- The laws of `count`, and the count of the first m that pass. Cited by the laws of offers and by the loops that count. Assumes nothing.
use mathlib.Core.Path.{◌≡◌, refl}
use mathlib.Core.Bool.{Bool, true, false, cond, ◌&&◌}
use Prim.Native.Nat.{ℕ, zero, suc, ◌+◌, ◌≤◌, ◌<◌, min}
use native.Mathlib.Nat.{add-zero}
use native.Mathlib.Numerals.{add-one}
use native.Mathlib.Omega.{arith}
use lib.Dec.{ltb}
use borrow.Author.Tests.{ltb-true, ltb-false}
use Rattle.orders.specs.Count.{count}

-- one number more
pub count_on : (t : ℕ → Bool) (n : ℕ) → count t (n + 1) ≡ count t n + cond (t n) 1 0
count_on t n = rw add-one

bit_le : (b : Bool) → cond b 1 0 ≤ 1
bit_le true = omega arith
bit_le false = omega arith

pub count_le : (t : ℕ → Bool) (n : ℕ) → count t n ≤ n
count_le t zero = omega arith
count_le t (suc n) = omega (arith, count_le t n, bit_le (t n))

-- more numbers, no fewer that pass
pub count_mono : (t : ℕ → Bool) (j k : ℕ) → count t j ≤ count t (j + k)
count_mono t j zero = rw add-zero (omega arith)
count_mono t j (suc k) = let e : j + suc k ≡ suc (j + k) = omega arith in rw e (omega (arith, count_mono t j k))

-- only the numbers below n matter
pub count_ext : (t u : ℕ → Bool) (n : ℕ) → ((k : ℕ) → k < n → t k ≡ u k) → count t n ≡ count u n
count_ext t u zero h = refl
count_ext t u (suc n) h = rw (count_ext t u n (λ k l. h k (omega arith)), h n (omega arith))

-- of those that pass, the first m
module _ (t : ℕ → Bool) (m : ℕ) where
  abbrev pub early : ℕ → Bool
  early k = t k && ltb (count t k) m

  pub count_early : (n : ℕ) → count early n ≡ min (count t n) m
  count_early zero = omega arith
  count_early (suc n) = go (t n) (ltb (count t n) m) refl (count_early n)
    where
      go : (b d : Bool) → ltb (count t n) m ≡ d → count early n ≡ min (count t n) m → count early n + cond (b && d) 1 0 ≡ min (count t n + cond b 1 0) m
      go true true q h = let l : count t n < m = ltb-true (count t n) m q in omega arith
      go true false q h = let l : m ≤ count t n = ltb-false (count t n) m q in omega arith
      go false d q h = omega arith
