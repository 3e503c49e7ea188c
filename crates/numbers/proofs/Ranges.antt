-- The ends of a range as the builder casts them, and the bounds that its operations keep. Cited by the weight builder. Assumes nothing.
use Rattle.std.proofs.Common.{◌≡◌, ℕ, ◌+◌, ◌-◌, ◌*◌, ◌/◌, ◌^◌, ◌<◌, ◌≤◌, min, Bool, true, false, cond, not, ◌&&◌, T, ltb, leb, ◌⊎◌, sym, refl, ap, ◌∙◌, subst, inl, inr, le_trans, le_of_eq, lt_of_le_of_lt, le_of_lt, div-lt_iff_lt-mul, mul-lt-mul_of_pos_right, zero-mul, mul-one, arith, lit<, lit≤, le→leb, lt→ltb, leb→le, nltb→le}
use mathlib.Core.Bool.{false≢true}
use native.Mathlib.Nat.{zero-div, min-eq_left, min-eq_right}
use lib.Dec.{nleb→lt}
use lib.Ieee.{Float, nan, inf, fin, Format, binary64, up, down, round, sum, add, sub, lt, of_bits, to_unsigned, in_unsigned, in_float, of_int}
use lib.Ieee.Fits.{down_pos}
use lib.Ieee.Back.{unsigned_back}
use lib.Ieee.Positive.{num, den, den_pos}
use Rattle.numbers.specs.Whole.{raised, whole, floor, ceil}
use Rattle.numbers.proofs.AtLeast.{stop_is}
use Rattle.numbers.proofs.Sizes.{raised_le}
use Rattle.floats.proofs.Value.{sub_values}
use Rattle.floats.specs.Within.{Within}
use Rattle.floats.proofs.Within.{within_value, within_add}
use Rattle.numbers.specs.Window.{stop}
use Rattle.numbers.proofs.Window.{floor_cast}
use Rattle.floats.proofs.Integers.{int, int_within, within_sub}
use Rattle.floats.proofs.Laws.{round_as}

-- ---- the casts are in range
whole_in : (n : ℕ) → n < 2 ^ 32 → T (in_unsigned binary64 32 (round binary64 false n 1))
unfolding of_int
whole_in n h = (unsigned_back binary64 32 n (unfold in_float in le→leb n (2 ^ 53) (le_trans (le_of_lt h) (lit≤ tt))) h).0

pub floor_in : (x : Float) (n : ℕ) → n < 2 ^ 32 → Within x n → T (in_unsigned binary64 32 (floor binary64 x))
unfolding whole
floor_in nan n h w = absurd w
floor_in (inf s) n h w = absurd w
floor_in (fin true m e) n h w = absurd w
floor_in (fin false m e) n h w = whole_in (m * up e / down e) ((div-lt_iff_lt-mul (down_pos e)).1 (lt_of_le_of_lt w (mul-lt-mul_of_pos_right h (down_pos e))))

pub ceil_in : (x : Float) (n : ℕ) → n < 2 ^ 32 → Within x n → T (in_unsigned binary64 32 (ceil binary64 x))
unfolding whole
ceil_in nan n h w = absurd w
ceil_in (inf s) n h w = absurd w
ceil_in (fin true m e) n h w = absurd w
ceil_in (fin false m e) n h w = whole_in (raised (m * up e) (down e)) (lt_of_le_of_lt (raised_le (m * up e) (down e) (down_pos e) n w) h)

less : (a b c : ℕ) → a < b → sum binary64 false a true b c ≡ round binary64 true (b - a) c
unfolding sum
less a b c h = cond_yes (ltb a b) (lt→ltb a b h)
  where
    cond_yes : (t : Bool) → T t → cond t (round binary64 true (b - a) c) (round binary64 (false && ltb b a) (a - b) c) ≡ round binary64 true (b - a) c
    cond_yes true u = refl
    cond_yes false u = absurd u

-- ---- a difference has the sign set, or is from 0 on
abbrev pub minus_sign : Float → Bool
minus_sign nan = false
minus_sign (inf s) = s
minus_sign (fin s m e) = s

pub round_minus : (f : Format) (a c : ℕ) → T (minus_sign (round f true a c))
round_minus f a c = round_as (λ (x : Float). T (minus_sign x)) f true a c (λ m e. tt) tt

pub sub_sort : (x y : Float) (A B : ℕ) → Within x A → Within y B → A ≤ 2 ^ 53 → T (minus_sign (sub binary64 x y)) ⊎ Within (sub binary64 x y) A
sub_sort x y A B X Y l = go (leb bp aq) (leb→le bp aq) (nleb→lt bp aq)
  where
    aq : ℕ
    aq = num x * den y

    bp : ℕ
    bp = num y * den x

    opened : sub binary64 x y ≡ sum binary64 false aq true bp (den x * den y)
    opened = sub_values binary64 x y false false (num x) (den x) (num y) (den y) (den_pos x) (den_pos y) (within_value x A X).0 (within_value y B Y).0

    go : (t : Bool) → (T t → bp ≤ aq) → (T (not t) → aq < bp) → T (minus_sign (sub binary64 x y)) ⊎ Within (sub binary64 x y) A
    go true p q = inr (within_sub x y A B X Y l (p tt))
    go false p q = inl (subst (λ (z : Float). T (minus_sign z)) (sym (opened ∙ less aq bp (den x * den y) (q tt))) (round_minus binary64 (bp - aq) (den x * den y)))

-- ---- the casts
minus_cast : (x : Float) → T (minus_sign x) → to_unsigned 32 x ≡ 0
unfolding to_unsigned
minus_cast nan t = refl
minus_cast (inf true) t = refl
minus_cast (inf false) t = absurd t
minus_cast (fin true m e) t = refl
minus_cast (fin false m e) t = absurd t

minus_floor : (x : Float) → T (minus_sign x) → T (minus_sign (floor binary64 x))
unfolding whole
minus_floor nan t = t
minus_floor (inf s) t = t
minus_floor (fin true m e) t = round_minus binary64 _ _
minus_floor (fin false m e) t = absurd t

minus_test : (x : Float) → T (minus_sign x) → lt (of_bits binary64 0) x ≡ true → ⊥
unfolding lt of_bits
minus_test nan t h = t
minus_test (inf true) t h = false≢true h
minus_test (inf false) t h = t
minus_test (fin true m e) t h = false≢true h
minus_test (fin false m e) t h = t

none_there : (x : Float) (n : ℕ) → Within x n → lt (of_bits binary64 0) x ≡ false → num x ≡ 0
unfolding lt of_bits
none_there nan n w h = absurd w
none_there (inf s) n w h = absurd w
none_there (fin true m e) n w h = absurd w
none_there (fin false m e) n w h = zero_of (m * up e) (le_trans (le_of_eq (sym (mul-one (m * up e)))) (le_trans (nltb→le (0 * 1 * down e) (m * up e * 1) (subst (λ (z : Bool). T (not z)) (sym h) tt)) (le_of_eq (zero-mul (down e)))))
  where
    zero_of : (k : ℕ) → k ≤ 0 → k ≡ 0
    zero_of k h = omega arith

pub floor_none : (x : Float) (n : ℕ) → n < 2 ^ 32 → T (minus_sign x) ⊎ Within x n → lt (of_bits binary64 0) x ≡ false → 0 ≡ to_unsigned 32 (floor binary64 x)
floor_none x n l (inl t) h = sym (minus_cast (floor binary64 x) (minus_floor x t))
floor_none x n l (inr w) h = sym (floor_cast x n l w ∙ ap (λ (z : ℕ). z / den x) (none_there x n w h) ∙ zero-div (den x))

pub floor_some : (x : Float) (n : ℕ) → T (minus_sign x) ⊎ Within x n → lt (of_bits binary64 0) x ≡ true → Within x n
floor_some x n (inl t) h = absurd (minus_test x t h)
floor_some x n (inr w) h = w

-- ---- what the builder computes stays small
-- (i + 0.5) is at most i + 1
pub half_within : (i : ℕ) → i ≤ 8192 → Within (add binary64 (int i) (of_bits binary64 0x3fe0_0000_0000_0000)) (i + 1)
half_within i h = within_add (int i) (of_bits binary64 0x3fe0_0000_0000_0000) i 1 (int_within i (le_trans h (lit≤ tt))) (unfold of_bits in lit≤ tt) (le_trans (step i h) (lit≤ tt))
  where
    step : (i : ℕ) → i ≤ 8192 → i + 1 ≤ 8193
    step i h = omega arith

-- ---- the functions' own steps
pub in_floor : (c r y : Float) → Within c (2 ^ 30) → Within r (2 ^ 30) → lt (of_bits binary64 0) (sub binary64 c r) ≡ true → y ≡ floor binary64 (sub binary64 c r) → T (in_unsigned binary64 32 y)
in_floor c r y C R h e = subst (λ (z : Float). T (in_unsigned binary64 32 z)) (sym e) (floor_in (sub binary64 c r) (2 ^ 30) (lit< tt) (floor_some (sub binary64 c r) (2 ^ 30) (sub_sort c r (2 ^ 30) (2 ^ 30) C R (lit≤ tt)) h))

pub in_ceil : (c r y : Float) → Within c (2 ^ 30) → Within r (2 ^ 30) → y ≡ ceil binary64 (add binary64 c r) → T (in_unsigned binary64 32 y)
in_ceil c r y C R e = subst (λ (z : Float). T (in_unsigned binary64 32 z)) (sym e) (ceil_in (add binary64 c r) (2 ^ 30 + 2 ^ 30) (lit< tt) (within_add c r (2 ^ 30) (2 ^ 30) C R (lit≤ tt)))

pub stop_low : (side : ℕ) (c r y : Float) → y ≡ ceil binary64 (add binary64 c r) → to_unsigned 32 y < side → to_unsigned 32 y ≡ stop side c r
stop_low side c r y e h = sym (stop_is side c r ∙ ap (λ (z : Float). min (to_unsigned 32 z) side) (sym e) ∙ min-eq_left (le_of_lt h))

pub stop_high : (side : ℕ) (c r y : Float) → y ≡ ceil binary64 (add binary64 c r) → side ≤ to_unsigned 32 y → side ≡ stop side c r
stop_high side c r y e h = sym (stop_is side c r ∙ ap (λ (z : Float). min (to_unsigned 32 z) side) (sym e) ∙ min-eq_right h)
