-- No sum wraps: from 2^44, at most 8,192 terms of at most 2^47 stay below 2^62. And one turn of sums side by side, whatever their number. Cited by `step` and
-- `add_lines`. Assumes nothing.
use mathlib.Core.Path.{◌≡◌, refl, sym, ap, ◌∙◌}
use mathlib.Core.List.{List}
use Prim.Native.Nat.{ℕ, ◌+◌, ◌*◌, ◌-◌, ◌^◌, ◌<◌, ◌≤◌}
use native.Mathlib.Nat.{lt_of_le_of_lt, mul-le-mul, pow-le-pow_right, zero-add}
use native.Mathlib.Numerals.{add-one}
use native.Mathlib.Omega.{arith}
use lib.IntN.{ℤ, pos, nat_abs, ◌+ℤ◌, ◌*ℤ◌, +ℤ_idr, +ℤ_assoc}
use lib.ListN.{length, get_or}
use lib.Signed.{mag, nat_abs-le}
use mir.Facts.{to_z-of_z}
use mir.Syntax.{w64}
use mir.Val.{SFits, to_z, of_z}
use Rattle.lists.specs.Tab.{tab}
use Rattle.lists.proofs.TabLaws.{length_tab, get_d_tab, tab_ext, tab_get_d}
use Rattle.integers.specs.Sums.{sum}
use Rattle.integers.proofs.Parts.{add_size, scale_size, mag_size}
use Rattle.vertical.specs.Column.{column_sum}
use Rattle.row_u16.specs.Chunks.{step_at, summed_at}

-- ---- sizes

fits : (z : ℤ) → nat_abs z < 2 ^ 63 → SFits w64 z
fits z h = record { sfits = lt_of_le_of_lt (mag_size z) h }

-- a weight times a sample
term_size : (w : ℤ) (s : ℕ) → nat_abs w ≤ 2 ^ 31 → s < 2 ^ 16 → nat_abs (w *ℤ pos s) ≤ 2 ^ 47
term_size w s h k = let l : s ≤ 2 ^ 16 = omega arith in rw (scale_size w s) (mul-le-mul h l)

step_size : (a w : ℤ) (s : ℕ) → nat_abs w ≤ 2 ^ 31 → s < 2 ^ 16 → nat_abs (a +ℤ w *ℤ pos s) ≤ nat_abs a + 2 ^ 47
step_size a w s h k = omega (arith, add_size a (w *ℤ pos s), term_size w s h k)

-- half of 2^p is small
pub half_size : (p : ℕ) {y : ℤ} → p ≤ 45 → y ≡ pos (2 ^ (p - 1)) → nat_abs y ≤ 2 ^ 44
half_size p h e = let l : p - 1 ≤ 44 = omega arith in rw e (pow-le-pow_right {n = 2} (omega arith) l)

-- ---- the machine's step: b, y and x are what it reads back for a, w and s

module _ {a w b y x : ℤ} {s : ℕ} (ea : b ≡ a) (ew : y ≡ w) (es : x ≡ pos s) (ha : nat_abs a ≤ 2 ^ 62) (hw : mag w < 2 ^ 31) (hs : s < 2 ^ 16) where
  pub product_fits : SFits w64 (y *ℤ x)
  product_fits = rw (ew, es) (fits (w *ℤ pos s) (omega (arith, term_size w s (nat_abs-le w hw) hs)))

  product : to_z w64 (of_z w64 (y *ℤ x)) ≡ w *ℤ pos s
  product = to_z-of_z product_fits ∙ rw (ew, es) refl

  pub step_fits : SFits w64 (b +ℤ to_z w64 (of_z w64 (y *ℤ x)))
  step_fits = rw (product, ea) (fits (a +ℤ w *ℤ pos s) (omega (arith, step_size a w s (nat_abs-le w hw) hs)))

  pub step_is : to_z w64 (of_z w64 (b +ℤ to_z w64 (of_z w64 (y *ℤ x)))) ≡ a +ℤ w *ℤ pos s
  step_is = to_z-of_z step_fits ∙ rw (product, ea) refl

-- ---- sums side by side, from `old`: k lines are added, and how large each is

module _ (ws : List ℤ) (src : List ℕ) (at row : ℕ) (old : List ℤ) where
  pub record Added (k : ℕ) (now : List ℤ) : Type 0 where
    pub is : now ≡ tab 0 (length old) (summed_at old ws src at row k)
    pub small : (t : ℕ) → t < length old → nat_abs (summed_at old ws src at row k t) ≤ 2 ^ 44 + k * 2 ^ 47

  none : (t : ℕ) → get_or old t (pos 0) ≡ summed_at old ws src at row 0 t
  unfolding column_sum sum
  none t = sym (+ℤ_idr (get_or old t (pos 0)))

  pub added_none : ((t : ℕ) → t < length old → nat_abs (get_or old t (pos 0)) ≤ 2 ^ 44) → Added 0 old
  added_none h = record {
    is = sym (tab_get_d old (pos 0)) ∙ tab_ext 0 (length old) (λ t. get_or old t (pos 0)) (summed_at old ws src at row 0) (λ t l. none (0 + t));
    small = λ t l. rw (← none t) (omega (arith, h t l));
  }

  module _ {k : ℕ} {now : List ℤ} (d : Added k now) where
    pub added_long : length now ≡ length old
    added_long = ap length d.is ∙ length_tab 0 (length old) (summed_at old ws src at row k)

    added_at : (t : ℕ) → t < length old → get_or now t (pos 0) ≡ summed_at old ws src at row k t
    added_at t l =
        ap (λ (xs : List ℤ). get_or xs t (pos 0)) d.is ∙ get_d_tab 0 (length old) (summed_at old ws src at row k) t (pos 0) l ∙ ap (summed_at old ws src at row k) (zero-add t)

    pub added_small : k ≤ 8192 → (t : ℕ) → t < length now → nat_abs (get_or now t (pos 0)) ≤ 2 ^ 62
    added_small few t l = rw (added_at t (rw added_long at l)) (omega (arith, d.small t (rw added_long at l)))

    -- a line more: at i, with the weight w
    module _ {i : ℕ} {w : ℤ} (ei : i ≡ at + k * row) (ew : w ≡ get_or ws k (pos 0)) (hw : mag (get_or ws k (pos 0)) < 2 ^ 31) (hs : (x : ℕ) → get_or src x 0 < 2 ^ 16) where
      next : (t : ℕ) → summed_at old ws src at row k t +ℤ w *ℤ pos (get_or src (i + t) 0) ≡ summed_at old ws src at row (k + 1) t
      unfolding column_sum sum
      next t =
          let e : at + k * row + t ≡ at + t + k * row = omega arith in
          rw (ew, ei, e, add-one k) (+ℤ_assoc (get_or old t (pos 0)) (column_sum ws src (at + t) row k) (get_or ws k (pos 0) *ℤ pos (get_or src (at + t + k * row) 0)))

      pub added_more : {new : List ℤ} → new ≡ tab 0 (length now) (step_at now w src i) → Added (k + 1) new
      added_more e = record {
        is = e ∙ ap (λ (n : ℕ). tab 0 n (step_at now w src i)) added_long ∙ tab_ext 0 (length old) (step_at now w src i) (summed_at old ws src at row (k + 1)) (λ t l. rw zero-add (ap (λ (z : ℤ). z +ℤ w *ℤ pos (get_or src (i + t) 0)) (added_at t l) ∙ next t));
        small = λ t l. rw (← next t) (omega (arith, step_size (summed_at old ws src at row k t) w (get_or src (i + t) 0) (rw ew (nat_abs-le (get_or ws k (pos 0)) hw)) (hs (i + t)), d.small t l));
      }
