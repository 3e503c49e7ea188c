-- One column's sum, line by line, and the columns of a row one after the other, for samples up to any M. Cited by the workers of the u16 and the u8 pass.
-- Assumes nothing.
use mathlib.Core.Path.{◌≡◌, sym, ap, ◌∙◌}
use mathlib.Core.List.{List}
use Prim.Native.Nat.{ℕ, ◌+◌, ◌-◌, ◌*◌, ◌^◌, ◌<◌}
use native.Mathlib.Nat.{le_refl, zero-add, add_assoc}
use native.Mathlib.Numerals.{add-one}
use lib.IntN.{ℤ, pos, ◌+ℤ◌, ◌*ℤ◌, +ℤ_idr, +ℤ_assoc}
use lib.ListN.{length, get_or}
use lib.Signed.{shr_z}
use Rattle.lists.specs.Tab.{tab, front}
use Rattle.lists.proofs.TabLaws.{tab_ext, front_over}
use Rattle.integers.specs.Sums.{sum, clipped}
use Rattle.integers.proofs.Floors.{shifted_from}
use Rattle.vertical.specs.Column.{column_sum, column_value, row_value, clipped_at}

-- ---- a column's sum, from z
pub sum_none : (ws : List ℤ) (src : List ℕ) (at row : ℕ) (z : ℤ) → z ≡ z +ℤ column_sum ws src at row 0
unfolding column_sum sum
sum_none ws src at row z = sym (+ℤ_idr z)

sum_more : (ws : List ℤ) (src : List ℕ) (at row k : ℕ) (z : ℤ) → z +ℤ column_sum ws src at row k +ℤ get_or ws k (pos 0) *ℤ pos (get_or src (at + k * row) 0) ≡ z +ℤ column_sum ws src at row (k + 1)
unfolding column_sum sum
sum_more ws src at row k z =
    rw (add-one k) (+ℤ_assoc z (column_sum ws src at row k) (get_or ws k (pos 0) *ℤ pos (get_or src (at + k * row) 0)))

-- a turn of the loop over the lines: r is the new sum, a the old one, w and the sample at i what the turn reads
module _ (ws : List ℤ) (src : List ℕ) (at row k : ℕ) (z : ℤ) {r a w : ℤ} {i : ℕ}
    (er : r ≡ a +ℤ w *ℤ pos (get_or src i 0)) (ew : w ≡ get_or ws k (pos 0)) where
  pub turn : a ≡ z +ℤ column_sum ws src at row k → i ≡ at + k * row → r ≡ z +ℤ column_sum ws src at row (k + 1)
  turn ea ei = er ∙ rw (ea, ew, ei) (sum_more ws src at row k z)

-- a sum that starts from the half of 2^p, shifted and clipped, is the column's value
pub column_is : (M p : ℕ) (ws : List ℤ) (src : List ℕ) (at row n : ℕ) → clipped M (shr_z (pos (2 ^ (p - 1)) +ℤ column_sum ws src at row n) (2 ^ p)) ≡ column_value M p ws src at row n
unfolding column_sum
column_is M p ws src at row n = ap (clipped M) (shifted_from p (column_sum ws src at row n))

-- sums side by side, each from the half of 2^p on, are the next n columns of the row
module _ (M p : ℕ) (ws : List ℤ) (src : List ℕ) (at row j n : ℕ) where
  abbrev Row : ℕ → ℕ
  Row = row_value M p ws src at row (length ws)

  abbrev Sum : ℕ → ℤ
  Sum t = column_sum ws src (at + j + t) row (length ws)

  -- the column that is t behind j, counted from `at`
  pub value_at : (t : ℕ) → column_value M p ws src (at + j + t) row (length ws) ≡ Row (j + t)
  value_at t = ap (λ (i : ℕ). column_value M p ws src i row (length ws)) (add_assoc at j t)

  pub whole_part : (ss : List ℤ) {init : ℤ} {part : List ℕ} → init ≡ pos (2 ^ (p - 1)) → ((t : ℕ) → t < n → get_or ss t (pos 0) ≡ init +ℤ Sum t) → part ≡ tab 0 n (clipped_at M ss p) → part ≡ tab 0 n (λ t. Row (j + t))
  whole_part ss ei each e =
      e
      ∙ tab_ext 0 n (clipped_at M ss p) (λ t. Row (j + t))
      (λ t l. rw zero-add (ap (λ (z : ℤ). clipped M (shr_z z (2 ^ p))) (each t l ∙ ap (λ (z : ℤ). z +ℤ Sum t) ei) ∙ column_is M p ws src (at + j + t) row (length ws) ∙ value_at t))

-- what is done already would be written again as it is
pub done_again : {A : Type 0} (f : ℕ → A) (old : List A) (a : ℕ) {now : List A} → now ≡ front a f old → now ≡ front a f now
done_again f old a is = is ∙ sym (front_over a a f f old (le_refl a)) ∙ ap (front a f) (sym is)
