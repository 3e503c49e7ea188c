-- What the crop's tests leave of the near edge and the scale: both are from 0 to 8,192, and so the radius and every centre are small. A near edge or a
-- width may be minus zero, which is why `Clear` stands beside `Within`. Cited by CropLaws and PlanLaws. Assumes nothing.
use mathlib.Core.Path.{◌≡◌, refl, sym, ap, ◌∙◌, subst}
use mathlib.Core.Logic.{◌⊎◌, inl, inr}
use mathlib.Core.Bool.{Bool, true, false, ◌&&◌, ◌||◌, cond, true≢false, false≢true}
use Prim.Native.Nat.{ℕ, zero, suc, ◌+◌, ◌-◌, ◌*◌, ◌^◌, ◌≤◌, ◌<◌}
use native.Mathlib.Nat.{le_trans, le_of_eq, zero-lt-suc, mul-one, zero-mul, mul_assoc, mul_comm, mul-le-mul_right, mul-le-mul_left, mul-pos, sub-zero, zero-add}
use native.Mathlib.Omega.{arith}
use lib.IntN.{ℤ, pos}
use lib.Dec.{T, ltb, eqb, lit≤, lt→ltb}
use borrow.Author.Tests.{ltb-false, lt-ltb}
use lib.Ieee.{Float, nan, inf, fin, Format, binary64, up, down, round, sum, add, sub, neg, div, lt, le, eq, of_bits, of_int}
use lib.Ieee.Fits.{down_pos}
use lib.Ieee.Exact.{HasValue}
use lib.Ieee.Scale.{round_same}
use lib.Ieee.Positive.{num}
use Rattle.lists.proofs.BoolLaws.{or_left}
use Rattle.floats.proofs.Value.{lt_values, div_values}
use Rattle.floats.specs.Within.{Within}
use Rattle.floats.proofs.Within.{unsigned, round_unsigned, round_within, within_add, unlike_signs}
use Rattle.floats.proofs.Integers.{int, int_value, within_div_int}
use Rattle.numbers.proofs.Ranges.{minus_sign, round_minus, sub_sort}
use Rattle.floats.specs.Doubles.{is_finite, zero64}

-- finite, and from 0, minus zero too, to n
abbrev pub Clear : Float → ℕ → Type 0
Clear nan n = ⊥
Clear (inf s) n = ⊥
Clear (fin true m e) n = m * up e ≡ 0
Clear (fin false m e) n = m * up e ≤ n * down e

abbrev MinusZero : Float → Type 0
MinusZero nan = ⊥
MinusZero (inf s) = ⊥
MinusZero (fin true m e) = m * up e ≡ 0
MinusZero (fin false m e) = ⊥

pub within_mono : (x : Float) (a b : ℕ) → a ≤ b → Within x a → Within x b
within_mono nan a b h w = w
within_mono (inf s) a b h w = w
within_mono (fin true m e) a b h w = w
within_mono (fin false m e) a b h w = le_trans w (mul-le-mul_right (down e) h)

pub clear_mono : (x : Float) (a b : ℕ) → a ≤ b → Clear x a → Clear x b
clear_mono nan a b h w = w
clear_mono (inf s) a b h w = w
clear_mono (fin true m e) a b h w = w
clear_mono (fin false m e) a b h w = le_trans w (mul-le-mul_right (down e) h)

-- ---- from the tests
times_pos : (a c : ℕ) → 0 < c → a ≤ a * c
times_pos a c h = le_trans (le_of_eq (sym (mul-one a))) (mul-le-mul_left a h)

none_left : (a b : ℕ) → ltb 0 (a * 1 + b) ≡ false → a ≡ 0
none_left a b h = let l : a * 1 + b ≤ 0 = ltb-false 0 (a * 1 + b) h in let o : a * 1 ≡ a = mul-one a in omega arith

pub flat : (x : Float) → is_finite x ≡ true → lt x zero64 ≡ false → Clear x (num x)
unfolding lt of_bits
flat nan f h = absurd (false≢true f)
flat (inf s) f h = absurd (false≢true f)
flat (fin true m e) f h = none_left (m * up e) _ h
flat (fin false m e) f h = times_pos (m * up e) (down e) (down_pos e)

not_over : (x y : Float) (n : ℕ) → HasValue y false n 1 → T (unsigned x) → lt y x ≡ false → Within x n
unfolding lt
not_over nan y n v u h = absurd u
not_over (inf true) y n v u h = absurd u
not_over (inf false) nan n v u h = absurd v
not_over (inf false) (inf s) n v u h = absurd v
not_over (inf false) (fin s m e) n v u h = absurd (true≢false h)
not_over (fin true m e) y n v u h = absurd u
not_over (fin false m e) y n v u h =
    let t = lt_values y (fin false m e) false false n 1 (m * up e) (down e) (zero-lt-suc 0) (down_pos e) v (refl, refl) in
    le_trans (le_of_eq (sym (mul-one (m * up e)))) (ltb-false (n * down e) (m * up e * 1) (sym t ∙ h))

pub near_clear : (x y : Float) (n : ℕ) → HasValue y false n 1 → is_finite x ≡ true → lt x zero64 ≡ false → le y x ≡ false → Clear x n
unfolding le
near_clear nan y n v f h l = absurd (false≢true f)
near_clear (inf s) y n v f h l = absurd (false≢true f)
near_clear (fin true m e) y n v f h l = flat (fin true m e) f h
near_clear (fin false m e) y n v f h l = not_over (fin false m e) y n v tt (or_left (lt y (fin false m e)) (eq y (fin false m e)) l)

-- ---- sums with a zero that has the sign set
cond_yes : {A : Type 0} (t : Bool) (x y : A) → T t → cond t x y ≡ x
cond_yes true x y h = refl
cond_yes false x y h = absurd h

minus_first : (f : Format) (b c : ℕ) → sum f true 0 false b c ≡ round f false b c
unfolding sum
minus_first f zero c = refl
minus_first f (suc b) c =
    cond_yes (ltb 0 (suc b)) (round f false (suc b - 0) c) (round f (true && ltb (suc b) 0) (0 - suc b) c) (lt→ltb 0 (suc b) (zero-lt-suc b))
    ∙ ap (λ (z : ℕ). round f false z c) (sub-zero (suc b))

minus_second : (f : Format) (a c : ℕ) → sum f false a true 0 c ≡ round f false a c
minus_second f a c = unlike_signs f a 0 c (zero_at a) ∙ ap (λ (z : ℕ). round f false z c) (sub-zero a)
  where
    zero_at : (n : ℕ) → 0 ≤ n
    zero_at n = omega arith

zero_left : (a b c : ℕ) → a ≡ 0 → a * c ≡ 0
zero_left a b c h = ap (λ (z : ℕ). z * c) h ∙ zero-mul c

add_first : (m : ℕ) (e : ℤ) (n : ℕ) (d : ℤ) → m * up e ≡ 0 → add binary64 (fin true m e) (fin false n d) ≡ round binary64 false (n * up d * down e) (down e * down d)
unfolding add
add_first m e n d h =
    ap (λ (z : ℕ). sum binary64 true (z * down d) false (n * up d * down e) (down e * down d)) h
    ∙ ap (λ (z : ℕ). sum binary64 true z false (n * up d * down e) (down e * down d)) (zero-mul (down d))
    ∙ minus_first binary64 (n * up d * down e) (down e * down d)

add_second : (m : ℕ) (e : ℤ) (n : ℕ) (d : ℤ) → n * up d ≡ 0 → add binary64 (fin false m e) (fin true n d) ≡ round binary64 false (m * up e * down d) (down e * down d)
unfolding add
add_second m e n d h =
    ap (λ (z : ℕ). sum binary64 false (m * up e * down d) true (z * down e) (down e * down d)) h
    ∙ ap (λ (z : ℕ). sum binary64 false (m * up e * down d) true z (down e * down d)) (zero-mul (down e))
    ∙ minus_second binary64 (m * up e * down d) (down e * down d)

add_both : (m : ℕ) (e : ℤ) (n : ℕ) (d : ℤ) → m * up e ≡ 0 → n * up d ≡ 0 → add binary64 (fin true m e) (fin true n d) ≡ fin true 0 (pos 0)
unfolding add sum
add_both m e n d h k =
    let a : m * up e * down d ≡ 0 = zero_left (m * up e) 0 (down d) h in
    let b : n * up d * down e ≡ 0 = zero_left (n * up d) 0 (down e) k in
    let z : m * up e * down d + n * up d * down e ≡ 0 = omega arith in
    ap (λ (w : ℕ). round binary64 true w (down e * down d)) z
    ∙ round_same binary64 true 0 (down e * down d) 0 1 (mul-pos (down_pos e) (down_pos d)) (zero-lt-suc 0) (zero-mul 1 ∙ sym (zero-mul (down e * down d))) ∙ unfold round in refl

-- a sum with a zero that has the sign set keeps the bound
pub add_within : (x y : Float) (A B : ℕ) → Clear x A → Within y B → A + B ≤ 2 ^ 53 → Within (add binary64 x y) (A + B)
add_within nan y A B X Y l = absurd X
add_within (inf s) y A B X Y l = absurd X
add_within (fin false m e) y A B X Y l = within_add (fin false m e) y A B X Y l
add_within (fin true m e) nan A B X Y l = absurd Y
add_within (fin true m e) (inf s) A B X Y l = absurd Y
add_within (fin true m e) (fin true n d) A B X Y l = absurd Y
add_within (fin true m e) (fin false n d) A B X Y l =
    let b : n * up d * down e ≤ B * (down e * down d) =
    le_trans (mul-le-mul_right (down e) Y) (le_of_eq (mul_assoc B (down d) (down e) ∙ ap (λ (z : ℕ). B * z) (mul_comm (down d) (down e)))) in
    let more : B ≤ A + B = omega arith in
    subst (λ (z : Float). Within z (A + B)) (sym (add_first m e n d X))
    (round_within binary64 (n * up d * down e) (down e * down d) (A + B) (mul-pos (down_pos e) (down_pos d)) l (le_trans b (mul-le-mul_right (down e * down d) more)))

add_plain : (m : ℕ) (e : ℤ) (n : ℕ) (d : ℤ) → T (unsigned (add binary64 (fin false m e) (fin false n d)))
unfolding add sum
add_plain m e n d = round_unsigned binary64 (m * up e * down d + n * up d * down e) (down e * down d)

sub_turned : (x : Float) (m : ℕ) (e : ℤ) → add binary64 x (fin false m e) ≡ sub binary64 x (fin true m e)
unfolding sub neg
sub_turned x m e = refl

-- the far edge: not negative, or both terms are minus zero
far_sort : (x y : Float) (A B : ℕ) → Clear x A → Clear y B → T (unsigned (add binary64 x y)) ⊎ (MinusZero x × (add binary64 x y ≡ fin true 0 (pos 0)))
far_sort nan y A B X Y = absurd X
far_sort (inf s) y A B X Y = absurd X
far_sort (fin s m e) nan A B X Y = absurd Y
far_sort (fin s m e) (inf t) A B X Y = absurd Y
far_sort (fin true m e) (fin true n d) A B X Y = inr (X, add_both m e n d X Y)
far_sort (fin true m e) (fin false n d) A B X Y = inl (subst (λ (z : Float). T (unsigned z)) (sym (add_first m e n d X)) (round_unsigned binary64 _ _))
far_sort (fin false m e) (fin true n d) A B X Y = inl (subst (λ (z : Float). T (unsigned z)) (sym (add_second m e n d Y)) (round_unsigned binary64 _ _))
far_sort (fin false m e) (fin false n d) A B X Y = inl (add_plain m e n d)

-- far - near: the sign set, or at most the side
diff_sort : (far near : Float) (A : ℕ) → Within far A → Clear near A → A ≤ 2 ^ 53 → T (minus_sign (sub binary64 far near)) ⊎ Within (sub binary64 far near) A
diff_sort far nan A F N l = absurd N
diff_sort far (inf s) A F N l = absurd N
diff_sort far (fin false m e) A F N l = sub_sort far (fin false m e) A A F N l
diff_sort far (fin true m e) A F N l =
    let none : m * up e ≤ 0 * down e = le_trans (le_of_eq N) (le_of_eq (sym (zero-mul (down e)))) in
    let same : A + 0 ≡ A = omega arith in
    inr (subst (λ (z : Float). Within z A) (sub_turned far m e) (subst (λ (z : ℕ). Within (add binary64 far (fin false m e)) z) same (within_add far (fin false m e) A 0 F none (le_trans (le_of_eq same) l))))

diff_zero : (near : Float) (A : ℕ) → MinusZero near → A ≤ 2 ^ 53 → Within (sub binary64 (fin true 0 (pos 0)) near) A
diff_zero nan A N l = absurd N
diff_zero (inf s) A N l = absurd N
diff_zero (fin false m e) A N l = absurd N
diff_zero (fin true m e) A N l =
    let none : m * up e ≤ A * down e = le_trans (le_of_eq N) (zero_at (A * down e)) in
    subst (λ (z : Float). Within z A) (sub_turned (fin true 0 (pos 0)) m e) (subst (λ (z : ℕ). Within (add binary64 (fin true 0 (pos 0)) (fin false m e)) z) (zero-add A) (add_within (fin true 0 (pos 0)) (fin false m e) 0 A refl none (le_trans (le_of_eq (zero-add A)) l)))
  where
    zero_at : (n : ℕ) → 0 ≤ n
    zero_at n = omega arith

-- ---- the quotient
minus_div : (x y : Float) (n : ℕ) → T (minus_sign x) → HasValue y false n 1 → 0 < n → T (minus_sign (div binary64 x y))
minus_div nan y n t v h = absurd t
minus_div (inf false) y n t v h = absurd t
minus_div (inf true) nan n t v h = absurd v
minus_div (inf true) (inf s) n t v h = absurd v
minus_div (inf true) (fin true m e) n t v h = absurd (true≢false v.0)
minus_div (inf true) (fin false m e) n t v h = unfold div in tt
minus_div (fin false m e) y n t v h = absurd t
minus_div (fin true m e) y n t v h =
    subst (λ (z : Float). T (minus_sign z)) (sym (div_values binary64 (fin true m e) y true false (m * up e) (down e) n 1 (down_pos e) (zero-lt-suc 0) h (refl, refl) v))
    (round_minus binary64 _ _)

low_or_level : (a b : ℕ) → b ≡ 0 → ltb 0 (a + b) || (eqb a b && (false || eqb a 0)) ≡ true
low_or_level zero b h = rw h
low_or_level (suc a) b h = let l : 0 < suc a + b = omega arith in rw (lt-ltb _ _ l)

minus_le : (x : Float) → T (minus_sign x) → le x zero64 ≡ true
unfolding le lt eq of_bits
minus_le nan t = absurd t
minus_le (inf true) t = refl
minus_le (inf false) t = absurd t
minus_le (fin true m e) t = low_or_level (m * up e * 1) (0 * 1 * down e) (zero-mul (down e))
minus_le (fin false m e) t = absurd t

quotient : (x : Float) (A n : ℕ) → T (minus_sign x) ⊎ Within x A → 0 < n → n ≤ 2 ^ 53 → A ≤ 2 ^ 53 → le (div binary64 x (int n)) zero64 ≡ false → Within (div binary64 x (int n)) A
quotient x A n (inl t) h l k z = absurd (true≢false (sym (minus_le (div binary64 x (int n)) (minus_div x (int n) n t (int_value n l) h)) ∙ z))
quotient x A n (inr w) h l k z = within_div_int x A n w h l k

-- ---- the edges of an axis that passed the crop
pub record Passed (near width : Float) (side : ℕ) : Type 0 where
  pub some : 0 < side
  pub few : side ≤ 8192
  pub near_finite : is_finite near ≡ true
  pub width_finite : is_finite width ≡ true
  pub width_up : lt width zero64 ≡ false
  pub near_up : lt near zero64 ≡ false
  pub near_in : le (of_int binary64 (pos side)) near ≡ false
  pub far_in : lt (of_int binary64 (pos side)) (add binary64 near width) ≡ false

module _ (near width : Float) (side : ℕ) (ok : Passed near width side) where
  large : side ≤ 2 ^ 53
  large = le_trans ok.few (lit≤ tt)

  side_value : HasValue (of_int binary64 (pos side)) false side 1
  unfolding of_int
  side_value = int_value side large

  pub near_is_clear : Clear near side
  near_is_clear = near_clear near (of_int binary64 (pos side)) side side_value ok.near_finite ok.near_up ok.near_in

  diff_is : T (minus_sign (sub binary64 (add binary64 near width) near)) ⊎ Within (sub binary64 (add binary64 near width) near) side
  diff_is = go (far_sort near width side (num width) near_is_clear (flat width ok.width_finite ok.width_up))
    where
      go : T (unsigned (add binary64 near width)) ⊎ (MinusZero near × (add binary64 near width ≡ fin true 0 (pos 0)))
          → T (minus_sign (sub binary64 (add binary64 near width) near)) ⊎ Within (sub binary64 (add binary64 near width) near) side
      go (inl u) = diff_sort (add binary64 near width) near side (not_over (add binary64 near width) (of_int binary64 (pos side)) side side_value u ok.far_in) near_is_clear large
      go (inr z) = inr (subst (λ (f : Float). Within (sub binary64 f near) side) (sym z.1) (diff_zero near side z.0 large))

  pub scale_within : (n : ℕ) → 0 < n → n ≤ 8192 → le (div binary64 (sub binary64 (add binary64 near width) near) (of_int binary64 (pos n))) zero64 ≡ false
      → Within (div binary64 (sub binary64 (add binary64 near width) near) (of_int binary64 (pos n))) side
  unfolding of_int
  scale_within n h l z = quotient (sub binary64 (add binary64 near width) near) side n diff_is h (le_trans l (lit≤ tt)) large z
