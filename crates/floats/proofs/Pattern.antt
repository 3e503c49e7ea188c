-- The bit pattern of a rounded value: k digits dropped and q kept make the pattern k * hid + q, and the infinity's from there on.
-- Cited by the narrowing. Assumes nothing.
use mathlib.Core.Path.{◌≡◌, refl, sym, ap, ◌∙◌, subst}
use mathlib.Core.Logic.{◌⊎◌, inl, inr}
use mathlib.Core.Bool.{Bool, true, false, not, cond}
use Prim.Native.Nat.{ℕ, suc, ◌+◌, ◌-◌, ◌*◌, ◌/◌, ◌%◌, ◌^◌, ◌≤◌, ◌<◌, min}
use native.Mathlib.Nat.{le-suc, le_refl, lt_of_mul-lt-mul_right, le_trans, le_of_eq, le_of_lt, lt_of_lt_of_le, lt_of_le_of_lt, eq-or-lt_of_le, zero-lt-suc, zero-add, add-zero, mul_comm, mul_assoc, mul-le-mul_right, add-mod_left, mod-eq_of_lt, mul-add-mod_self_left, le-add_right, pow-succ', suc-mul, ne_of_lt, min-eq_left, min-eq_right}
use native.Mathlib.Omega.{arith}
use lib.Dec.{T, ltb, leb, eqb, ltb→lt, lt→ltb, nltb→le, le→leb, eqb→eq, not_T}
use lib.Arith.{digits_lt, digits_div, digits_mod, lt→nleb, le→nltb}
use lib.Pow.{pow-add, pow_pos, pow_mono, pow-lt, shl_lt}
use lib.Ieee.{nan, inf, Format, binary32, binary64, prec, emax, low, hid, ones, top, odd, units, of_bits, of_fields}
use lib.Ieee.Fits.{odd-fits, two, reach}
use lib.Ieee.Exact.{HasValue, odd_sign}
use lib.Ieee.Bits.{is_true, is_false, cond_no}
use Rattle.floats.proofs.Laws.{fits_unique}

-- ---- the three kinds of fields
of_bits_is : (f : Format) (b : ℕ) → of_bits f b ≡ of_fields f (leb (top f) b) (b % top f / hid f) (b % hid f)
unfolding of_bits
of_bits_is f b = refl

same : (f : Format) {s s' : Bool} {x x' t t' : ℕ} → s ≡ s' → x ≡ x' → t ≡ t' → of_fields f s x t ≡ of_fields f s' x' t'
same f {s} {s'} {x} {x'} {t} {t'} p q r = ap (λ (a : Bool). of_fields f a x t) p ∙ ap (λ (a : ℕ). of_fields f s' a t) q ∙ ap (λ (a : ℕ). of_fields f s' x' a) r

under_top : (f : Format) (x t : ℕ) → x < suc (ones f) → t < hid f → x * hid f + t < top f
under_top f x t X H = subst (λ (a : ℕ). x * hid f + t < a) (mul_comm (suc (ones f)) (hid f)) (digits_lt X H)

pub fields : (f : Format) (s : Bool) (x t : ℕ) → x < suc (ones f) → t < hid f → of_bits f (cond s (top f) 0 + (x * hid f + t)) ≡ of_fields f s x t
fields f true x t X H =
    of_bits_is f (top f + (x * hid f + t))
    ∙ same f (is_true (leb (top f) (top f + (x * hid f + t))) (le→leb (top f) (top f + (x * hid f + t)) (le-add_right (top f) (x * hid f + t))))
    (ap (λ (a : ℕ). a / hid f) (add-mod_left (top f) (x * hid f + t) ∙ mod-eq_of_lt (under_top f x t X H)) ∙ digits_div x H)
    (mul-add-mod_self_left (hid f) (suc (ones f)) (x * hid f + t) ∙ digits_mod x H)
fields f false x t X H =
    ap (λ (a : ℕ). of_bits f a) (zero-add (x * hid f + t))
    ∙ of_bits_is f (x * hid f + t)
    ∙ same f (is_false (leb (top f) (x * hid f + t)) (lt→nleb (top f) (x * hid f + t) (under_top f x t X H)))
    (ap (λ (a : ℕ). a / hid f) (mod-eq_of_lt (under_top f x t X H)) ∙ digits_div x H)
    (digits_mod x H)

lt→neqb : (a b : ℕ) → a < b → T (not (eqb a b))
lt→neqb a b h = not_T (eqb a b) (λ t. ne_of_lt h (eqb→eq a b t))

pub field_zero : (f : Format) (s : Bool) (t : ℕ) → of_fields f s 0 t ≡ odd (prec f) s t 0 (low f)
unfolding of_fields
field_zero f s t = refl

pub field_mid : (f : Format) (s : Bool) (x t : ℕ) → suc x < ones f → of_fields f s (suc x) t ≡ odd (prec f) s (hid f + t) x (low f)
unfolding of_fields
field_mid f s x t h = cond_no (eqb (suc x) (ones f)) (cond (eqb t 0) (inf s) nan) (odd (prec f) s (hid f + t) x (low f)) (lt→neqb (suc x) (ones f) h)

field_top : (f : Format) (s : Bool) → of_fields f s (ones f) 0 ≡ inf s
unfolding of_fields
field_top binary32 s = refl
field_top binary64 s = refl

-- ---- `units` by its value
pub overflow : Format → ℕ
overflow f = 2 ^ (low f + suc (emax f))

pub odd_units : (f : Format) (s : Bool) (q k : ℕ) → q < 2 ^ prec f → q * 2 ^ k < 2 ^ (low f + suc (emax f)) → odd (prec f) s q k (low f) ≡ units f s q k
unfolding units
odd_units f s q k h b = go (ltb (q * 2 ^ k) (2 ^ (low f + suc (emax f)))) (lt→ltb (q * 2 ^ k) (2 ^ (low f + suc (emax f))) b)
  where
    go : (t : Bool) → T t → odd (prec f) s q k (low f) ≡ cond t (odd (suc (prec f)) s q k (low f)) (inf s)
    go true t =
        fits_unique f (odd (prec f) s q k (low f)) (odd (suc (prec f)) s q k (low f)) s (q * 2 ^ k) (2 ^ low f) (pow_pos (low f))
        (odd-fits f (prec f) s q k h (le_of_lt h) b) (odd-fits f (suc (prec f)) s q k (lt_of_lt_of_le h (pow_mono (le-suc (prec f)))) (le_of_lt h) b)
        (odd_sign (prec f) s q k (low f)) (odd_sign (suc (prec f)) s q k (low f))
    go false t = absurd t

pub units_over : (f : Format) (s : Bool) (q k : ℕ) → 2 ^ (low f + suc (emax f)) ≤ q * 2 ^ k → units f s q k ≡ inf s
unfolding units
units_over f s q k h = cond_no (ltb (q * 2 ^ k) (2 ^ (low f + suc (emax f)))) (odd (suc (prec f)) s q k (low f)) (inf s) (le→nltb (q * 2 ^ k) (2 ^ (low f + suc (emax f))) h)

-- `units` is fixed by the number that it stands for
units_same : (f : Format) (s : Bool) (q k q' k' : ℕ) → q ≤ 2 ^ prec f → q' ≤ 2 ^ prec f → q * 2 ^ k ≡ q' * 2 ^ k' → units f s q k ≡ units f s q' k'
unfolding units
units_same f s q k q' k' h h' e =
    go (ltb (q * 2 ^ k) O) (ltb→lt (q * 2 ^ k) O) ∙ ap (λ (z : ℕ). cond (ltb z O) (odd (suc (prec f)) s q' k' (low f)) (inf s)) e
  where
    O : ℕ
    O = 2 ^ (low f + suc (emax f))

    more : 2 ^ prec f < 2 ^ suc (prec f)
    more = pow-lt (le_refl (suc (prec f)))

    go : (b : Bool) → (T b → q * 2 ^ k < O) → cond b (odd (suc (prec f)) s q k (low f)) (inf s) ≡ cond b (odd (suc (prec f)) s q' k' (low f)) (inf s)
    go true b =
        fits_unique f (odd (suc (prec f)) s q k (low f)) (odd (suc (prec f)) s q' k' (low f)) s (q * 2 ^ k) (2 ^ low f) (pow_pos (low f))
        (odd-fits f (suc (prec f)) s q k (lt_of_le_of_lt h more) h (b tt))
        (odd-fits f (suc (prec f)) s q' k' (lt_of_le_of_lt h' more) h' (subst (λ (z : ℕ). z < O) e (b tt)))
        (odd_sign (suc (prec f)) s q k (low f))
        (subst (λ (z : ℕ). HasValue (odd (suc (prec f)) s q' k' (low f)) s z (2 ^ low f)) (sym e) (odd_sign (suc (prec f)) s q' k' (low f)))
    go false b = refl

-- one digit more kept, one fewer dropped
suc_pred : (p : ℕ) → 2 ≤ p → suc (p - 1) ≡ p
suc_pred p h = omega arith

pub two_hid : (f : Format) → 2 ^ prec f ≡ 2 * hid f
two_hid f = ap (λ (x : ℕ). 2 ^ x) (sym (suc_pred (prec f) (two f))) ∙ pow-succ' 2 (prec f - 1)

hid_le : (f : Format) → hid f ≤ 2 ^ prec f
hid_le f = go (hid f) (2 ^ prec f) (two_hid f)
  where
    go : (a b : ℕ) → b ≡ 2 * a → a ≤ b
    go a b e = omega arith

hid_lt : (f : Format) → hid f < 2 ^ prec f
hid_lt f = go (hid f) (2 ^ prec f) (pow_pos (prec f - 1)) (two_hid f)
  where
    go : (a b : ℕ) → 0 < a → b ≡ 2 * a → a < b
    go a b h e = omega arith

carried : (f : Format) (s : Bool) (k : ℕ) → units f s (hid f) (suc k) ≡ units f s (2 ^ prec f) k
carried f s k =
    units_same f s (hid f) (suc k) (2 ^ prec f) k (hid_le f) (le_refl (2 ^ prec f))
    (ap (λ (z : ℕ). hid f * z) (pow-succ' 2 k) ∙ sym (mul_assoc (hid f) 2 (2 ^ k)) ∙ ap (λ (z : ℕ). z * 2 ^ k) (mul_comm (hid f) 2 ∙ sym (two_hid f)))

-- ---- the pattern
room : (p e k : ℕ) → 2 ≤ p → suc k < 2 * e + 1 → p + k ≤ e + p - 2 + suc e
room p e k h l = omega arith

low_room : (p e : ℕ) → 2 ≤ p → p ≤ suc e → p + 0 ≤ e + p - 2 + suc e
low_room p e h l = omega arith

low_case : (f : Format) (s : Bool) (q : ℕ) → q < hid f → of_bits f (cond s (top f) 0 + (0 * hid f + q)) ≡ units f s q 0
low_case f s q h =
    let g : q < 2 ^ prec f = lt_of_lt_of_le h (hid_le f) in
    fields f s 0 q (zero-lt-suc (ones f)) h ∙ field_zero f s q ∙ odd_units f s q 0 g (lt_of_lt_of_le (shl_lt (prec f) 0 g) (pow_mono (low_room (prec f) (emax f) (two f) (reach f))))

lead : (h t w : ℕ) → w ≡ 2 * h → t < h → h + t < w
lead h t w e l = omega arith

mid_case : (f : Format) (s : Bool) (k t : ℕ) → t < hid f → suc k < ones f → of_bits f (cond s (top f) 0 + (suc k * hid f + t)) ≡ units f s (hid f + t) k
mid_case f s k t h l =
    let g : hid f + t < 2 ^ prec f = lead (hid f) t (2 ^ prec f) (two_hid f) h in
    fields f s (suc k) t (lt_of_lt_of_le l (le-suc (ones f))) h ∙ field_mid f s k t l
    ∙ odd_units f s (hid f + t) k g (lt_of_lt_of_le (shl_lt (prec f) k g) (pow_mono (room (prec f) (emax f) k (two f) l)))

in_range : (f : Format) (s : Bool) (q k : ℕ) → q < 2 ^ prec f → (k ≡ 0) ⊎ (hid f ≤ q) → k * hid f + q < ones f * hid f → of_bits f (cond s (top f) 0 + (k * hid f + q)) ≡ units f s q k
in_range f s q k h c b = go (ltb q (hid f)) (ltb→lt q (hid f)) (nltb→le q (hid f)) c
  where
    clash : (a b : ℕ) → a < b → b ≤ a → ⊥
    clash a b h l = omega arith

    under : (q h w : ℕ) → h ≤ q → q < w → w ≡ 2 * h → (h + (q - h) ≡ q) × (q - h < h)
    under q h w a b e = omega arith

    turn : (K S h q t : ℕ) → S ≡ K + h → h + t ≡ q → S + t ≡ K + q
    turn K S h q t e g = omega arith

    drop_t : (S t b : ℕ) → S + t < b → S < b
    drop_t S t b h = omega arith

    go : (d : Bool) → (T d → q < hid f) → (T (not d) → hid f ≤ q) → (k ≡ 0) ⊎ (hid f ≤ q) → of_bits f (cond s (top f) 0 + (k * hid f + q)) ≡ units f s q k
    go true a z (inl e) = subst (λ (j : ℕ). of_bits f (cond s (top f) 0 + (j * hid f + q)) ≡ units f s q j) (sym e) (low_case f s q (a tt))
    go true a z (inr e) = absurd (clash q (hid f) (a tt) e)
    go false a z e =
        let u = under q (hid f) (2 ^ prec f) (z tt) h (two_hid f) in
        let p : suc k * hid f + (q - hid f) ≡ k * hid f + q = turn (k * hid f) (suc k * hid f) (hid f) q (q - hid f) (suc-mul k (hid f)) u.0 in
        let l : suc k < ones f = lt_of_mul-lt-mul_right (hid f) (drop_t (suc k * hid f) (q - hid f) (ones f * hid f) (subst (λ (x : ℕ). x < ones f * hid f) (sym p) b)) in
        ap (λ (x : ℕ). of_bits f (cond s (top f) 0 + x)) (sym p) ∙ mid_case f s k (q - hid f) u.1 l ∙ ap (λ (x : ℕ). units f s x k) u.0

past : (f : Format) (s : Bool) (q k : ℕ) → q < 2 ^ prec f → (k ≡ 0) ⊎ (hid f ≤ q) → ones f * hid f ≤ k * hid f + q → of_bits f (cond s (top f) 0 + ones f * hid f) ≡ units f s q k
past f s q k h c b = ap (λ (x : ℕ). of_bits f (cond s (top f) 0 + x)) (sym (add-zero (ones f * hid f))) ∙ fields f s (ones f) 0 (le_refl (suc (ones f))) (pow_pos (prec f - 1)) ∙ field_top f s ∙ sym (units_over f s q k (far c))
  where
    two_more : (K H q w b : ℕ) → b ≤ K + q → q < w → w ≡ 2 * H → b < K + H + H
    two_more K H q w b x y z = omega arith

    wide : (k : ℕ) → suc (suc k) * hid f ≡ k * hid f + hid f + hid f
    wide k = suc-mul (suc k) (hid f) ∙ ap (λ (x : ℕ). x + hid f) (suc-mul k (hid f))

    big : ones f < suc (suc k)
    big = lt_of_mul-lt-mul_right (hid f) (subst (λ (x : ℕ). ones f * hid f < x) (sym (wide k)) (two_more (k * hid f) (hid f) q (2 ^ prec f) (ones f * hid f) b h (two_hid f)))

    never : (p e k : ℕ) → 2 ≤ p → p ≤ suc e → 2 * e + 1 < suc (suc k) → k ≡ 0 → ⊥
    never p e k x y z w = omega arith

    reach_top : (p e k : ℕ) → 2 ≤ p → 2 * e + 1 < suc (suc k) → e + p - 2 + suc e ≤ p - 1 + k
    reach_top p e k x z = omega arith

    far : (k ≡ 0) ⊎ (hid f ≤ q) → 2 ^ (low f + suc (emax f)) ≤ q * 2 ^ k
    far (inl e) = absurd (never (prec f) (emax f) k (two f) (reach f) big e)
    far (inr l) = le_trans (pow_mono (reach_top (prec f) (emax f) k (two f) big)) (le_trans (le_of_eq (pow-add 2 (prec f - 1) k)) (mul-le-mul_right (2 ^ k) l))

below_top : (f : Format) (s : Bool) (q k : ℕ) → q < 2 ^ prec f → (k ≡ 0) ⊎ (hid f ≤ q) → of_bits f (cond s (top f) 0 + min (k * hid f + q) (ones f * hid f)) ≡ units f s q k
below_top f s q k h c = go (ltb P Q) (ltb→lt P Q) (nltb→le P Q)
  where
    P : ℕ
    P = k * hid f + q

    Q : ℕ
    Q = ones f * hid f

    go : (d : Bool) → (T d → P < Q) → (T (not d) → Q ≤ P) → of_bits f (cond s (top f) 0 + min P Q) ≡ units f s q k
    go true a z = ap (λ (x : ℕ). of_bits f (cond s (top f) 0 + x)) (min-eq_left (le_of_lt (a tt))) ∙ in_range f s q k h c (a tt)
    go false a z = ap (λ (x : ℕ). of_bits f (cond s (top f) 0 + x)) (min-eq_right (z tt)) ∙ past f s q k h c (z tt)

pub units_bits : (f : Format) (s : Bool) (q k : ℕ) → q ≤ 2 ^ prec f → (k ≡ 0) ⊎ (hid f ≤ q) → of_bits f (cond s (top f) 0 + min (k * hid f + q) (ones f * hid f)) ≡ units f s q k
units_bits f s q k h c = go (eq-or-lt_of_le h)
  where
    turn : (K S H q w : ℕ) → S ≡ K + H → w ≡ 2 * H → q ≡ w → K + q ≡ S + H
    turn K S H q w a b c = omega arith

    go : (q ≡ 2 ^ prec f) ⊎ (q < 2 ^ prec f) → of_bits f (cond s (top f) 0 + min (k * hid f + q) (ones f * hid f)) ≡ units f s q k
    go (inl e) =
        ap (λ (x : ℕ). of_bits f (cond s (top f) 0 + min x (ones f * hid f))) (turn (k * hid f) (suc k * hid f) (hid f) q (2 ^ prec f) (suc-mul k (hid f)) (two_hid f) e)
        ∙ below_top f s (hid f) (suc k) (hid_lt f) (inr (le_refl (hid f))) ∙ carried f s k ∙ ap (λ (x : ℕ). units f s x k) (sym e)
    go (inr l) = below_top f s q k l c
