-- The precision of a set whose weights are at most 1: at least 30 in the 32-bit store. Cited by BoxPremise. Assumes nothing.
use mathlib.Core.Path.{◌≡◌, refl, sym, ap, ◌∙◌}
use mathlib.Core.Bool.{Bool, true, false, cond}
use mathlib.Core.List.{List, [], ◌∷◌}
use Prim.Native.Nat.{ℕ, zero, suc, ◌+◌, ◌*◌, ◌^◌, ◌≤◌, ◌<◌, zero-le}
use native.Mathlib.Nat.{le_refl, le_trans, le_of_eq, le_of_lt, zero-lt-suc, add-zero, add-suc, suc-add, zero-add, one-mul, not-suc-le-zero, le_of_suc-le-suc}
use native.Mathlib.Numerals.{add-one}
use native.Mathlib.Omega.{arith}
use lib.Dec.{T, lit≤}
use lib.Pow.{pow_mono}
use borrow.Author.Tests.{lt-ltb, ltb-true, lt-leb}
use lib.Ieee.{Float, nan, inf, fin, binary64, mul, lt, le, of_int, of_bits}
use lib.Ieee.Positive.{num, den}
use lib.ListN.{length, get_or}
use Rattle.lists.specs.Tab.{first, turns}
use Rattle.numbers.specs.Whole.{whole, round_away}
use Rattle.integers.specs.Nearest.{nearest}
use Rattle.lists.proofs.FirstLaws.{first_le, first_ge}
use Rattle.floats.specs.Within.{Within}
use Rattle.floats.specs.Doubles.{zero64}
use Rattle.floats.proofs.Value.{lt_values}
use Rattle.floats.proofs.Signs.{lhs, rhs, lt_nat, le_nat}
use lib.Ieee.Exact.{HasValue}
use lib.Ieee.Scale.{finite}
use Rattle.floats.proofs.Integers.{int, int_value, within_mul, int_within}
use Rattle.windows.specs.Store.{store32}
use Rattle.weight_precision.specs.Precision.{larger, largest, scaled, reaches, precision}
use Rattle.promises.proofs.BoxFilter.{not_reached}

-- a whole number that is smaller is not reached
le_int : (a b : ℕ) → a ≤ 2 ^ 53 → b < a → le (int a) (int b) ≡ false
le_int a b A h =
    let B : b ≤ 2 ^ 53 = le_trans (le_of_lt h) A in
    let fa = finite_value (int a) false a 1 (int_value a A) in
    let fb = finite_value (int b) false b 1 (int_value b B) in
    let less : lhs (int b) (int a) < rhs (int b) (int a) = ltb-true _ _ (sym (lt_nat (int b) (int a) fb fa) ∙ lt_values (int b) (int a) false false b 1 a 1 (zero-lt-suc 0) (zero-lt-suc 0) (int_value b B) (int_value a A) ∙ lt-ltb (b * 1) (a * 1) (omega arith)) in
    le_nat (int a) (int b) fa fb ∙ lt-leb (rhs (int b) (int a)) (lhs (int b) (int a)) less
  where
    finite_value : (x : Float) (s : Bool) (a c : ℕ) → HasValue x s a c → T (finite x)
    finite_value nan s a c v = absurd v
    finite_value (inf t) s a c v = absurd v
    finite_value (fin t m e) s a c v = tt

pub rounded_is : (y : Float) (n : ℕ) → Within y n → round_away binary64 y ≡ int (nearest (num y) (den y))
unfolding whole
rounded_is nan n h = absurd h
rounded_is (inf s) n h = absurd h
rounded_is (fin true m e) n h = absurd h
rounded_is (fin false m e) n h = refl

-- a weight up to 1 does not reach 2^31 below 30
not_reaches : (w : Float) (p : ℕ) → Within w 1 → p < 30 → reaches 31 w p ≡ false
unfolding of_int scaled
not_reaches w p W h =
    let y = mul binary64 w (int (2 ^ suc p)) in
    let e : 2 ^ suc p ≤ 2 ^ 30 = pow_mono h in
    let Y : Within y (1 * 2 ^ suc p) = within_mul w (int (2 ^ suc p)) 1 (2 ^ suc p) W (int_within (2 ^ suc p) (le_trans e (lit≤ tt))) (le_trans (le_of_eq (one-mul (2 ^ suc p))) (le_trans e (lit≤ tt))) in
    ap (λ (i : ℕ). le (int (2 ^ 31)) (round_away binary64 (mul binary64 w (int (2 ^ i))))) (add-one p)
    ∙ ap (λ (z : Float). le (int (2 ^ 31)) z) (rounded_is y (1 * 2 ^ suc p) Y)
    ∙ le_int (2 ^ 31) (nearest (num y) (den y)) (lit≤ tt) (not_reached w p W h)

-- a search passes over what fails
first_over : (t : ℕ → Bool) (p n k : ℕ) → k ≤ n → ((j : ℕ) → j < k → t (p + j) ≡ false) → p + k ≤ first t p n
first_over t p n zero h e = le_trans (le_of_eq (add-zero p)) (first_ge t p n)
first_over t p zero (suc k) h e = absurd (not-suc-le-zero h)
first_over t p (suc n) (suc k) h e =
    rw (sym (ap t (add-zero p)) ∙ e 0 (zero-lt-suc k))
    (le_trans (le_of_eq (add-suc p k ∙ sym (suc-add p k))) (first_over t (suc p) n k (le_of_suc-le-suc h) (λ j l. ap t (suc-add p j ∙ sym (add-suc p j)) ∙ e (suc j) (omega arith))))

-- the largest of weights up to 1 is up to 1
larger_within : (x y : Float) (n : ℕ) → Within x n → Within y n → Within (larger x y) n
larger_within x y n a b = go (lt y x)
  where
    go : (t : Bool) → Within (cond t x y) n
    go true = a
    go false = b

first_within : (l : List Float) (n : ℕ) → ((k : ℕ) → k < length l → Within (get_or l k nan) n) → Within (get_or l 0 zero64) n
unfolding of_bits
first_within [] n all = zero-le
first_within (x ∷ l) n all = all 0 (zero-lt-suc (length l))

pub largest_within : (l : List Float) (n : ℕ) → ((k : ℕ) → k < length l → Within (get_or l k nan) n) → Within (largest l) n
unfolding largest
largest_within l n all = go (length l) (le_refl (length l))
  where
    go : (m : ℕ) → m ≤ length l → Within (turns (λ x k. larger x (get_or l k nan)) (get_or l 0 zero64) m) n
    go zero h = first_within l n all
    go (suc m) h = larger_within _ (get_or l m nan) n (go m (omega arith)) (all m h)

pub precise : (l : List Float) → Within (largest l) 1 → (30 ≤ precision store32 l) × (precision store32 l ≤ 45)
unfolding precision
precise l W = (
  le_trans (le_of_eq (sym (zero-add 30))) (first_over (reaches 31 (largest l)) 0 45 30 (lit≤ tt) (λ j h. ap (reaches 31 (largest l)) (zero-add j) ∙ not_reaches (largest l) j W h)),
  le_trans (first_le (reaches 31 (largest l)) 0 45) (lit≤ tt),
)
