-- No sum of up to 32 lines in doubles rounds: it is a whole number and a half, at most 32 x 2^31 x 65535 in size. And one turn of the loop. Cited by `sums16` of
-- `doubles`. Assumes nothing.
use mathlib.Core.Path.{◌≡◌, refl, sym, ap, ◌∙◌}
use mathlib.Core.List.{List}
use Prim.Native.Nat.{ℕ, ◌+◌, ◌*◌, ◌^◌, ◌≤◌, ◌<◌}
use native.Mathlib.Nat.{mul-le-mul, mul_comm}
use native.Mathlib.Numerals.{add-one}
use native.Mathlib.Omega.{arith}
use lib.IntN.{ℤ, pos, nat_abs, ◌+ℤ◌, ◌*ℤ◌}
use lib.ListN.{get_or}
use lib.Signed.{mag, nat_abs-le}
use lib.Ieee.{Float, binary64, add, mul, of_int, of_bits}
use Rattle.floats.specs.Halves.{halves}
use Rattle.floats.proofs.Doubles.{doubles_are}
use Rattle.floats.proofs.Halves.{step_halves}
use Rattle.integers.specs.Sums.{sum}
use Rattle.integers.proofs.Parts.{pos_parts, same, add_parts, add_size, scale_size}
use Rattle.vertical.specs.Column.{column_sum}
use Rattle.row_u16.specs.Chunks.{half_more}

-- ---- a sum z with a half added is 2 z + 1 halves; and a term t more
halves_more : (z t : ℤ) → (z +ℤ z +ℤ pos 1) +ℤ (t +ℤ t) ≡ (z +ℤ t) +ℤ (z +ℤ t) +ℤ pos 1
halves_more z t =
    same ((z +ℤ z +ℤ pos 1) +ℤ (t +ℤ t)) ((z +ℤ t) +ℤ (z +ℤ t) +ℤ pos 1)
    (omega (arith, pos_parts 1, add_parts (z +ℤ z +ℤ pos 1) (t +ℤ t), add_parts (z +ℤ z) (pos 1), add_parts z z, add_parts t t, add_parts ((z +ℤ t) +ℤ (z +ℤ t)) (pos 1), add_parts (z +ℤ t) (z +ℤ t), add_parts z t))

pub double_size : (z : ℤ) → nat_abs (z +ℤ z +ℤ pos 1) ≤ nat_abs z + nat_abs z + 1
double_size z = omega (arith, add_size (z +ℤ z) (pos 1), add_size z z)

-- ---- sizes
-- a weight times a sample
abbrev pub most : ℕ
most = 2 ^ 31 * 65535

term_size : (w : ℤ) (s : ℕ) → mag w < 2 ^ 31 → s < 2 ^ 16 → nat_abs (w *ℤ pos s) ≤ most
term_size w s h l = let k : s ≤ 65535 = omega arith in rw (scale_size w s) (mul-le-mul (nat_abs-le w h) k)

-- ---- the loop: the half that the sums start from, and a turn
pub half_none : (ws : List ℤ) (src : List ℕ) (at row : ℕ) → of_bits binary64 0x3fe0_0000_0000_0000 ≡ half_more (column_sum ws src at row 0)
unfolding column_sum sum halves
half_none ws src at row = doubles_are.1

pub size_none : (ws : List ℤ) (src : List ℕ) (at row : ℕ) → nat_abs (column_sum ws src at row 0) ≤ 0 * most
unfolding column_sum sum
size_none ws src at row = omega arith

module _ (ws : List ℤ) (src : List ℕ) (at row k : ℕ) {i : ℕ} (ei : i ≡ at + k * row) (hw : mag (get_or ws k (pos 0)) < 2 ^ 31) (hs : get_or src i 0 < 2 ^ 16) (hz : nat_abs (column_sum ws src at row k) ≤ k * most) where
  sum_next : column_sum ws src at row (k + 1) ≡ column_sum ws src at row k +ℤ get_or ws k (pos 0) *ℤ pos (get_or src i 0)
  unfolding column_sum sum
  sum_next = rw (add-one k, ei) refl

  pub size_next : nat_abs (column_sum ws src at row (k + 1)) ≤ (k + 1) * most
  size_next = rw sum_next (omega (arith, add_size (column_sum ws src at row k) (get_or ws k (pos 0) *ℤ pos (get_or src i 0)), term_size (get_or ws k (pos 0)) (get_or src i 0) hw hs))

  pub half_next : k < 32 → {r a v : Float} → r ≡ add binary64 a (mul binary64 (of_int binary64 (pos (get_or src i 0))) v) → v ≡ of_int binary64 (get_or ws k (pos 0)) → a ≡ half_more (column_sum ws src at row k) → r ≡ half_more (column_sum ws src at row (k + 1))
  half_next few {r} {a} {v} er ev ea =
      let z = column_sum ws src at row k in
      let w = get_or ws k (pos 0) in
      let s = get_or src i 0 in
      let t : nat_abs (w *ℤ pos s) ≤ most = term_size w s hw hs in
      let e : nat_abs (w *ℤ pos s) ≡ nat_abs w * s = scale_size w s in
      let n : nat_abs w ≤ 2 ^ 31 = nat_abs-le w hw in
      er ∙ rw (ea, ev)
      (step_halves (z +ℤ z +ℤ pos 1) w s (omega (arith, double_size z)) (omega arith) (omega arith) (omega (arith, mul_comm s (nat_abs w))) ∙ ap halves (halves_more z (w *ℤ pos s)) ∙ ap half_more (sym sum_next))
