-- Columns that a turn writes side by side are the row's, in integers and in doubles, whatever their number. Cited by the functions of `columns` and `sums`.
-- Assumes nothing.
use mathlib.Core.Path.{◌≡◌, ap, ◌∙◌}
use mathlib.Core.List.{List}
use Prim.Native.Nat.{ℕ, ◌+◌, ◌-◌, ◌*◌, ◌/◌, ◌^◌, ◌≤◌, ◌<◌}
use native.Mathlib.Nat.{zero-add, le_refl, div-mul-le_self}
use native.Mathlib.Omega.{arith}
use lib.IntN.{ℤ, pos, nat_abs, ◌+ℤ◌}
use lib.Ieee.{Float, nan}
use lib.ListN.{length, get_or}
use lib.Signed.{shr_z}
use Rattle.lists.specs.Tab.{tab}
use Rattle.lists.proofs.TabLaws.{Written, get_d_tab, tab_ext, front_past, row_end}
use Rattle.floats.specs.Halves.{far}
use Rattle.integers.specs.Sums.{clipped}
use Rattle.integers.proofs.Floors.{shifted_from}
use Rattle.vertical.specs.Column.{column_sum, row_value, clipped_at}
use Rattle.vertical.proofs.ColumnLaws.{value_at}
use Rattle.row_u16.specs.Chunks.{summed_at, half_more, top_of, cut_at}
use Rattle.row_u16.proofs.Rounded.{cut_as}

module _ (p : ℕ) (ws : List ℤ) (src : List ℕ) (at row j n : ℕ) where
  abbrev Row : ℕ → ℕ
  Row = row_value 65535 p ws src at row (length ws)

  -- the sum of the column that is t behind j
  abbrev Sum : ℕ → ℤ
  Sum t = column_sum ws src (at + j + t) row (length ws)

  -- a part lent by itself, counted from j on
  pub part_is : {part : List ℕ} (m : ℕ) → m ≡ n → part ≡ tab 0 m (row_value 65535 p ws src (at + j) row (length ws)) → part ≡ tab 0 n (λ t. Row (j + t))
  part_is m em e =
      e ∙ ap (λ (m : ℕ). tab 0 m (row_value 65535 p ws src (at + j) row (length ws))) em
      ∙ tab_ext 0 n (row_value 65535 p ws src (at + j) row (length ws)) (λ t. Row (j + t)) (λ t l. rw zero-add (value_at 65535 p ws src at row j n t))

  pub double_part : (ss : List Float) {top big : Float} {part : List ℕ} → 1 ≤ p → p ≤ 45 → ((t : ℕ) → t < n → nat_abs (Sum t) < 2 ^ 52) → ((t : ℕ) → t < n → get_or ss t nan ≡ half_more (Sum t)) → top ≡ top_of p → big ≡ far p → part ≡ tab 0 n (cut_at ss top big) → part ≡ tab 0 n (λ t. Row (j + t))
  unfolding column_sum
  double_part ss {top} {big} one few small each et eb e =
      e ∙ tab_ext 0 n (cut_at ss top big) (λ t. Row (j + t)) (λ t l. rw zero-add (cut_as p (Sum t) one few (small t l) (each t l) et eb ∙ value_at 65535 p ws src at row j n t))

-- ---- sums in integers that start from the half of 2^p, made samples
pub clipped_is : (p : ℕ) (ws : List ℤ) (src : List ℕ) (at row : ℕ) (old : List ℤ) {ss : List ℤ} {part : List ℕ} (m : ℕ) → m ≤ length old → ((t : ℕ) → t < length old → get_or old t (pos 0) ≡ pos (2 ^ (p - 1))) → ss ≡ tab 0 (length old) (summed_at old ws src at row (length ws)) → part ≡ tab 0 m (clipped_at 65535 ss p) → part ≡ tab 0 m (row_value 65535 p ws src at row (length ws))
unfolding column_sum
clipped_is p ws src at row old {ss} m few half es e =
    e ∙ tab_ext 0 m (clipped_at 65535 ss p) (row_value 65535 p ws src at row (length ws)) (λ t l. rw zero-add (one t (omega arith)))
  where
    one : (t : ℕ) → t < length old → clipped_at 65535 ss p t ≡ row_value 65535 p ws src at row (length ws) t
    one t l =
        let z = column_sum ws src (at + t) row (length ws) in
        let read : get_or ss t (pos 0) ≡ pos (2 ^ (p - 1)) +ℤ z =
        ap (λ (xs : List ℤ). get_or xs t (pos 0)) es
        ∙ get_d_tab 0 (length old) (summed_at old ws src at row (length ws)) t (pos 0) l ∙ rw zero-add (ap (λ (y : ℤ). y +ℤ z) (half t l)) in
        ap (λ (y : ℤ). clipped 65535 (shr_z y (2 ^ p))) read ∙ ap (clipped 65535) (shifted_from p z)

-- ---- what is not written yet is as it was
pub not_yet : {A : Type 0} {k : ℕ} {f : ℕ → A} {old now : List A} (d : A) → Written k f old now → get_or now k d ≡ get_or old k d
not_yet {k = k} {f = f} {old = old} d w = ap (λ (l : List _). get_or l k d) w.is ∙ front_past k f old k d (le_refl k)

-- ---- the q-th of the runs of n that fit between `from` and `long` ends there
pub turn_end : (from long q n : ℕ) → from ≤ long → q < (long - from) / n → from + q * n + n ≤ long
turn_end from long q n f h = omega (arith, row_end q ((long - from) / n) n h, div-mul-le_self (long - from) n)
