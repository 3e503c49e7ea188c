-- A range never holds more lines than the window size: c + r rounded is at most ceil c + ceil r, and c - r rounded at least floor c - ceil r.
-- Cited by the weight builder and by the promises. Assumes nothing.
use Rattle.std.proofs.Common.{◌≡◌, ℕ, suc, ◌+◌, ◌-◌, ◌*◌, ◌/◌, ◌^◌, ◌<◌, ◌≤◌, Bool, true, false, not, T, leb, sym, ap, ◌∙◌, subst, le_trans, le_of_eq, le_refl, le_of_suc-le-suc, lt_of_le_of_lt, le_of_lt, mul-le-mul_right, mul_assoc, mul_comm, div-lt_iff_lt-mul, add-mul, mul-lt-mul_of_pos_right, mul-pos, one-mul, le-div_iff_mul-le, div-mul-le_self, sub-le, arith, lit<, lit≤, le→leb, leb→le}
use native.Mathlib.Nat.{mul-sub, lt-div-mul-add}
use lib.Dec.{nleb→lt}
use lib.Ieee.{Float, nan, inf, fin, binary64, up, down, round, add, sub, to_unsigned, of_int, in_float}
use lib.Ieee.Fits.{down_pos}
use lib.Ieee.Back.{unsigned_back}
use lib.Ieee.Positive.{num, den, den_pos}
use Rattle.numbers.specs.Whole.{raised, whole, floor, ceil}
use Rattle.floats.proofs.Value.{sub_values}
use Rattle.numbers.proofs.AtLeast.{start_is, stop_is}
use Rattle.numbers.proofs.Sizes.{raised_le}
use Rattle.floats.specs.Within.{Within}
use Rattle.floats.proofs.Within.{within_value, round_within, round_above, unlike_signs, within_add}
use Rattle.numbers.specs.Window.{start, stop, window}

-- ---- floor and ceiling as whole numbers
whole_cast : (n : ℕ) → n < 2 ^ 32 → to_unsigned 32 (round binary64 false n 1) ≡ n
unfolding of_int
whole_cast n h = (unsigned_back binary64 32 n (unfold in_float in le→leb n (2 ^ 53) (le_trans (le_of_lt h) (lit≤ tt))) h).1

pub floor_cast : (x : Float) (n : ℕ) → n < 2 ^ 32 → Within x n → to_unsigned 32 (floor binary64 x) ≡ num x / den x
unfolding whole
floor_cast nan n h w = absurd w
floor_cast (inf s) n h w = absurd w
floor_cast (fin true m e) n h w = absurd w
floor_cast (fin false m e) n h w = whole_cast (m * up e / down e) ((div-lt_iff_lt-mul (down_pos e)).1 (lt_of_le_of_lt w (mul-lt-mul_of_pos_right h (down_pos e))))

pub ceil_cast : (x : Float) (n : ℕ) → n < 2 ^ 32 → Within x n → to_unsigned 32 (ceil binary64 x) ≡ raised (num x) (den x)
unfolding whole
ceil_cast nan n h w = absurd w
ceil_cast (inf s) n h w = absurd w
ceil_cast (fin true m e) n h w = absurd w
ceil_cast (fin false m e) n h w = whole_cast (raised (m * up e) (down e)) (lt_of_le_of_lt (raised_le (m * up e) (down e) (down_pos e) n w) h)

-- a / c is at most its ceiling, which is at most one more than its floor
raised_ge : (a c : ℕ) → 0 < c → a ≤ raised a c * c
raised_ge a c C = go a c (raised a c * c) C (lt-div-mul-add {a = a + (c - 1)} C)
  where
    go : (a c X : ℕ) → 0 < c → a + (c - 1) < X + c → a ≤ X
    go a c X C h = omega arith

raised_near : (a c : ℕ) → 0 < c → raised a c ≤ a / c + 1
raised_near a c C = raised_le a c C (a / c + 1) (le_trans (le_of_lt (lt-div-mul-add C)) (le_of_eq (sym (add-mul (a / c) 1 c ∙ ap (λ (z : ℕ). a / c * c + z) (one-mul c)))))

diff_ge : (a p b q A B : ℕ) → A * p ≤ a → b ≤ B * q → B ≤ A → (b * p ≤ a * q) × ((A - B) * (p * q) ≤ a * q - b * p)
diff_ge a p b q A B h k l =
    let x : A * (p * q) ≤ a * q = le_trans (le_of_eq (sym (mul_assoc A p q))) (mul-le-mul_right q h) in
    let y : b * p ≤ B * (p * q) = le_trans (mul-le-mul_right p k) (le_of_eq (mul_assoc B q p ∙ ap (λ (z : ℕ). B * z) (mul_comm q p))) in
    let w : B * (p * q) ≤ A * (p * q) = mul-le-mul_right (p * q) l in
    let z : (A - B) * (p * q) ≡ A * (p * q) - B * (p * q) = mul_comm (A - B) (p * q) ∙ mul-sub (p * q) A B ∙ ap (λ (z : ℕ). z - p * q * B) (mul_comm (p * q) A) ∙ ap (λ (z : ℕ). A * (p * q) - z) (mul_comm (p * q) B) in
    omega arith

-- c + r rounded is at most ceil c + ceil r
end_le : (c r : Float) (A B : ℕ) → Within c A → Within r B → A + B ≤ 2 ^ 31 → to_unsigned 32 (ceil binary64 (add binary64 c r)) ≤ A + B
end_le c r A B C R l =
    let s : Within (add binary64 c r) (A + B) = within_add c r A B C R (le_trans l (lit≤ tt)) in
    le_trans (le_of_eq (ceil_cast (add binary64 c r) (A + B) (lt_of_le_of_lt l (lit< tt)) s)) (raised_le (num (add binary64 c r)) (den (add binary64 c r)) (den_pos (add binary64 c r)) (A + B) (within_value (add binary64 c r) (A + B) s).1)

-- c - r rounded is at least floor c - ceil r, where that is not negative
start_ge : (c r : Float) (A B N : ℕ) → Within c N → Within r B → A * den c ≤ num c → B ≤ A → N ≤ 2 ^ 31 → A ≤ N → A - B ≤ to_unsigned 32 (floor binary64 (sub binary64 c r))
start_ge c r A B N C R h l n m =
    let v = within_value c N C in
    let w = within_value r B R in
    let P = mul-pos (den_pos c) (den_pos r) in
    let d = diff_ge (num c) (den c) (num r) (den r) A B h w.1 l in
    let X = num c * den r - num r * den c in
    let e = sub_values binary64 c r false false (num c) (den c) (num r) (den r) (den_pos c) (den_pos r) v.0 w.0 ∙ unlike_signs binary64 (num c * den r) (num r * den c) (den c * den r) d.0 in
    let top : X ≤ N * (den c * den r) = le_trans (sub-le (num c * den r) (num r * den c)) (le_trans (mul-le-mul_right (den r) v.1) (le_of_eq (mul_assoc N (den c) (den r)))) in
    let k = round_within binary64 X (den c * den r) N P (le_trans n (lit≤ tt)) top in
    let g = round_above binary64 X (den c * den r) (A - B) N P (le_trans (sub-le A B) (le_trans m (le_trans n (lit≤ tt)))) k d.1 in
    subst (λ (x : Float). A - B ≤ to_unsigned 32 (floor binary64 x)) (sym e)
    (le_trans ((le-div_iff_mul-le (den_pos (round binary64 false X (den c * den r)))).1 g) (le_of_eq (sym (floor_cast (round binary64 false X (den c * den r)) N (lt_of_le_of_lt n (lit< tt)) k))))

within_raised : (x : Float) (n : ℕ) → Within x n → Within x (raised (num x) (den x))
within_raised nan n h = absurd h
within_raised (inf s) n h = absurd h
within_raised (fin true m e) n h = absurd h
within_raised (fin false m e) n h = raised_ge (m * up e) (down e) (down_pos e)

raised_to : (x : Float) (n : ℕ) → Within x n → raised (num x) (den x) ≤ n
raised_to x n h = raised_le (num x) (den x) (den_pos x) n (within_value x n h).1

-- with no condition on the two
start_ge_cut : (c r : Float) (B N : ℕ) → Within c N → Within r B → N ≤ 2 ^ 31 → num c / den c - B ≤ to_unsigned 32 (floor binary64 (sub binary64 c r))
start_ge_cut c r B N C R n = go (leb B F) (leb→le B F) (nleb→lt B F)
  where
    F : ℕ
    F = num c / den c

    at_most : F ≤ N
    at_most = le_of_suc-le-suc ((div-lt_iff_lt-mul (den_pos c)).1 (lt_of_le_of_lt (within_value c N C).1 (mul-lt-mul_of_pos_right (le_refl (suc N)) (den_pos c))))

    none : (a b x : ℕ) → a < b → a - b ≤ x
    none a b x h = omega arith

    go : (t : Bool) → (T t → B ≤ F) → (T (not t) → F < B) → F - B ≤ to_unsigned 32 (floor binary64 (sub binary64 c r))
    go true a b = start_ge c r F B N C R (div-mul-le_self (num c) (den c)) (a tt) n at_most
    go false a b = none F B (to_unsigned 32 (floor binary64 (sub binary64 c r))) (b tt)

-- ---- the theorem
pub range_fits_window : (side : ℕ) (c r : Float) → Within c (2 ^ 30) → Within r (2 ^ 30) → stop side c r - start c r ≤ window r
unfolding window
range_fits_window side c r C R =
    let v = within_value c (2 ^ 30) C in
    let w = within_value r (2 ^ 30) R in
    let A = raised (num c) (den c) in
    let F = num c / den c in
    let B = raised (num r) (den r) in
    let a : A ≤ (2 ^ 30) = raised_to c (2 ^ 30) C in
    let b : B ≤ (2 ^ 30) = raised_to r (2 ^ 30) R in
    let hi : to_unsigned 32 (ceil binary64 (add binary64 c r)) ≤ A + B = end_le c r A B (within_raised c (2 ^ 30) C) (within_raised r (2 ^ 30) R) (omega arith) in
    let lo : F - B ≤ to_unsigned 32 (floor binary64 (sub binary64 c r)) = start_ge_cut c r B (2 ^ 30) C (within_raised r (2 ^ 30) R) (lit≤ tt) in
    let n : A ≤ F + 1 = raised_near (num c) (den c) (den_pos c) in
    let e : to_unsigned 32 (ceil binary64 r) ≡ B = ceil_cast r (2 ^ 30) (lit< tt) R in
    rw (start_is c r, stop_is side c r) (omega arith)
