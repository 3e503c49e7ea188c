-- A Box window: the filter's argument grows with the line, so the lines that weigh stand next to each other; each weighs 1, their total is their number n
-- exactly, and each share is 1 / n rounded once. Cited by BoxLines and BoxPlan. Assumes nothing.
use mathlib.Core.Path.{◌≡◌, refl, sym, ap, ◌∙◌, subst}
use mathlib.Core.Bool.{Bool, true, false, not, cond}
use Prim.Native.Nat.{ℕ, zero, suc, ◌+◌, ◌-◌, ◌*◌, ◌^◌, ◌≤◌, ◌<◌}
use native.Mathlib.Nat.{le_refl, le_trans, le_of_eq, zero-lt-suc, add-zero, add-suc, zero-mul, mul-zero, mul-pos, mul-one}
use native.Mathlib.Numerals.{add-one}
use native.Mathlib.Omega.{arith}
use lib.Dec.{T, lit≤}
use lib.IntN.{ℤ}
use lib.Ieee.{Float, nan, inf, fin, binary64, round, sub, mul, neg, le, eq, below, unlike, up, down, of_bits, of_int}
use lib.Ieee.Fits.{down_pos}
use lib.Ieee.Scale.{finite}
use Rattle.lists.specs.Tab.{turns}
use Rattle.floats.specs.Within.{Within, AtMost}
use Rattle.floats.proofs.Integers.{int, int_value, add_int}
use Rattle.floats.proofs.Monotone.{mul_mono_right, int_sub_mono, round_mono_signed}
use Rattle.filters.specs.declared.Filter.TheVariants.{Box}
use Rattle.floats.specs.Doubles.{zero64, one64, ◌plus◌}
use Rattle.filters.specs.Filters.{value_of, box_of}
use Rattle.line_weights.specs.Weights.{line_weight_value, weighs, weighs_from, weight_from, add_to, total_of, up_to}
use Rattle.line_weights.proofs.WeightLaws.{up_le, up_last, up_past}
use Rattle.plan_windows.proofs.WindowLaws.{up_pos}
use Rattle.promises.proofs.BoxFilter.{in_box, between, arg}
use Rattle.floats.proofs.AtMost.{finite_at, within_at, round_at, mul_at, sub_at}
use denote.Floats.{passes, is_true}

pub none : zero64 ≡ int 0
unfolding of_bits round
none = refl

pub one : one64 ≡ int 1
unfolding of_bits round
one = refl

room : 8192 ≤ 2 ^ 53
room = lit≤ tt

-- ---- the weight of a line: 1 in the box, else 0
pub box_weight : (c r : Float) (x : ℕ) → line_weight_value Box c r x ≡ cond (in_box (arg c r x)) one64 zero64
unfolding line_weight_value value_of box_of of_int of_bits neg
box_weight c r x = refl

weighs_one : (b : Bool) → not (eq (cond b one64 zero64) zero64) ≡ b
unfolding eq of_bits
weighs_one true = refl
weighs_one false = refl

pub box_weighs : (c r : Float) (x : ℕ) → weighs Box c r x ≡ in_box (arg c r x)
box_weighs c r x = ap (λ (w : Float). not (eq w zero64)) (box_weight c r x) ∙ weighs_one (in_box (arg c r x))

-- ---- the argument grows with the line, for a factor that is finite and has its sign clear
level : (t s : Bool) (x y : ℕ) → x ≡ 0 → y ≡ 0 → T (not (below t x s y))
level t s x y p q = subst (λ (z : ℕ). T (not (below t z s y))) (sym p) (subst (λ (z : ℕ). T (not (below t 0 s z))) (sym q) (none t s))
  where
    none : (t s : Bool) → T (not (below t 0 s 0))
    none true true = tt
    none true false = tt
    none false true = tt
    none false false = tt

-- two products with a zero are level
zeros_level : (x y : Float) (g : ℤ) → T (finite x) → T (finite y) → T (le (mul binary64 x (fin false 0 g)) (mul binary64 y (fin false 0 g)))
unfolding mul
zeros_level nan y g p q = absurd p
zeros_level (inf s) y g p q = absurd p
zeros_level (fin s m e) nan g p q = absurd q
zeros_level (fin s m e) (inf t) g p q = absurd q
zeros_level (fin s m e) (fin t n d) g p q =
    let a : m * up e * (0 * up g) ≡ 0 = ap (λ (z : ℕ). m * up e * z) (zero-mul (up g)) ∙ mul-zero (m * up e) in
    let b : n * up d * (0 * up g) ≡ 0 = ap (λ (z : ℕ). n * up d * z) (zero-mul (up g)) ∙ mul-zero (n * up d) in
    round_mono_signed binary64 (unlike s false) (unlike t false) (m * up e * (0 * up g)) (down e * down g) (n * up d * (0 * up g)) (down d * down g) (mul-pos (down_pos e) (down_pos g)) (mul-pos (down_pos d) (down_pos g))
    (level (unlike t false) (unlike s false) _ _ (ap (λ (z : ℕ). z * (down e * down g)) b ∙ zero-mul (down e * down g)) (ap (λ (z : ℕ). z * (down d * down g)) a ∙ zero-mul (down d * down g)))

factor_mono : (x y r : Float) → Within r 1 → T (finite x) → T (finite y) → T (le x y) → T (le (mul binary64 x r) (mul binary64 y r))
factor_mono x y nan R p q h = absurd R
factor_mono x y (inf s) R p q h = absurd R
factor_mono x y (fin true m e) R p q h = absurd R
factor_mono x y (fin false zero e) R p q h = zeros_level x y e p q
factor_mono x y (fin false (suc m) e) R p q h = mul_mono_right binary64 x y (suc m) e p q (zero-lt-suc m) h

module _ (c r : Float) (C : AtMost c (2 ^ 31)) (R : Within r 1) where
  difference : (x : ℕ) → x ≤ 8192 → AtMost (sub binary64 (int x) c) (8192 + 2 ^ 31)
  difference x h =
      sub_at binary64 (int x) c 8192 (2 ^ 31) (round_at binary64 false x 1 8192 (zero-lt-suc 0) (int_value 8192 (lit≤ tt)) (le_trans h (le_of_eq (sym (mul-one 8192))))) C
      (int_value (8192 + 2 ^ 31) (lit≤ tt))

  argument : (x : ℕ) → x ≤ 8192 → T (finite (arg c r x))
  argument x h =
      finite_at (arg c r x) ((8192 + 2 ^ 31) * 1) (mul_at binary64 (sub binary64 (int x) c) r (8192 + 2 ^ 31) 1 (difference x h) (within_at r 1 R) (int_value ((8192 + 2 ^ 31) * 1) (lit≤ tt)))

  grows : (x y : ℕ) → x ≤ y → y ≤ 8192 → T (le (arg c r x) (arg c r y))
  grows x y h l =
      let small : 8192 ≤ 2 ^ 53 = lit≤ tt in
      let fx = finite_at (sub binary64 (int x) c) (8192 + 2 ^ 31) (difference x (le_trans h l)) in
      let fy = finite_at (sub binary64 (int y) c) (8192 + 2 ^ 31) (difference y l) in
      factor_mono (sub binary64 (int x) c) (sub binary64 (int y) c) r R fx fy
      (int_sub_mono x y c (le_trans (le_trans h l) small) (le_trans l small) (finite_at c (2 ^ 31) C) h)

  -- no gap: where two lines weigh, every line between them does
  no_gap : (x y z : ℕ) → x ≤ y → y ≤ z → z ≤ 8192 → weighs Box c r x ≡ true → weighs Box c r z ≡ true → weighs Box c r y ≡ true
  no_gap x y z h k l a b =
      box_weighs c r y
      ∙ is_true (in_box (arg c r y))
      (between (arg c r x) (arg c r y) (arg c r z) (argument x (omega arith)) (argument y (omega arith)) (argument z l) (grows x y h (omega arith)) (grows y z k l)
      (passes (in_box (arg c r x)) (sym (box_weighs c r x) ∙ a)) (passes (in_box (arg c r z)) (sym (box_weighs c r z) ∙ b)))

  -- ---- a window that starts at line a, where a line weighs, and holds m lines to 8,192 at most
  module _ (a m : ℕ) (end : a + m ≤ 8192) (some : 0 < m) (starts : weighs Box c r a ≡ true) where
    abbrev test : ℕ → Bool
    test = weighs_from Box c r a

    abbrev n : ℕ
    n = up_to test m

    few : n ≤ m
    few = up_le test m

    pub one_line : 0 < n
    one_line = up_pos test m some (ap (weighs Box c r) (add-zero a) ∙ starts)

    -- each line that is left weighs
    all_weigh : (k : ℕ) → k < n → test k ≡ true
    all_weigh k h =
        let p = one_line in
        let q = few in
        let last : weighs Box c r (a + (n - 1)) ≡ true = up_last test m p in
        no_gap a (a + k) (a + (n - 1)) (omega arith) (omega arith) (omega arith) starts last

    weight_of : (k : ℕ) (b : Bool) → test k ≡ b → weight_from Box c r a k ≡ cond b one64 zero64
    weight_of k b h = box_weight c r (a + k) ∙ ap (λ (t : Bool). cond t one64 zero64) (sym (box_weighs c r (a + k)) ∙ h)

    pub one_weight : (k : ℕ) → k < n → weight_from Box c r a k ≡ one64
    one_weight k h = weight_of k true (all_weigh k h)

    pub no_weight : (k : ℕ) → n ≤ k → k < m → weight_from Box c r a k ≡ zero64
    no_weight k h l = weight_of k false (up_past test m k h l)

    -- the total so far: as many as there were lines
    part : (k : ℕ) → k ≤ n → turns (add_to Box c r a) zero64 k ≡ int k
    unfolding of_bits
    part zero h = none
    part (suc k) h =
        let q = few in
        ap (λ (t : Float). t plus weight_from Box c r a k) (part k (omega arith))
        ∙ ap (λ (w : Float). int k plus w) (one_weight k h ∙ one)
        ∙ add_int k 1 (le_trans (omega arith) room) ∙ ap int (add-one k)

    rest : (k : ℕ) → n + k ≤ m → turns (add_to Box c r a) zero64 (n + k) ≡ int n
    rest zero h = ap (turns (add_to Box c r a) zero64) (add-zero n) ∙ part n (le_refl n)
    rest (suc k) h =
        let q = few in
        ap (turns (add_to Box c r a) zero64) (add-suc n k)
        ∙ ap (λ (t : Float). t plus weight_from Box c r a (n + k)) (rest k (omega arith))
        ∙ ap (λ (w : Float). int n plus w) (no_weight (n + k) (omega arith) (omega arith) ∙ none)
        ∙ add_int n 0 (le_trans (omega arith) room) ∙ ap int (add-zero n)

    -- the total is the number of lines that weigh
    pub total_is : total_of Box c r a m ≡ int n
    unfolding total_of
    total_is =
        let q = few in
        let e : n + (m - n) ≡ m = omega arith in
        ap (turns (add_to Box c r a) zero64) (sym e) ∙ rest (m - n) (le_of_eq e)
