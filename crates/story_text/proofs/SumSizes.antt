-- The total of a story turn by turn: a product more, and how large it is. At most 8,192 products of at most 2^47 stay at or below 2^60. Cited by `sums::total`. Assumes nothing.
use mathlib.Core.Path.{◌≡◌, refl, ap, ◌∙◌}
use Prim.Native.Nat.{ℕ, ◌+◌, ◌*◌, ◌^◌, ◌<◌, ◌≤◌}
use native.Mathlib.Nat.{mul-le-mul}
use native.Mathlib.Numerals.{add-one}
use native.Mathlib.Omega.{arith}
use lib.IntN.{ℤ, pos, nat_abs, ◌+ℤ◌, ◌*ℤ◌}
use Rattle.lists.proofs.TabLaws.{row_next}
use Rattle.integers.specs.Sums.{sum, total}
use Rattle.integers.proofs.Parts.{add_size, scale_size}
use mir.Facts.{to_z-of_z}
use mir.Syntax.{Width, w64}
use mir.Val.{SFits, to_z, of_z}

pub total_none : (w : ℕ → ℤ) (s : ℕ → ℕ) → pos 0 ≡ total w s 0
unfolding sum
total_none w s = refl

pub total_more : (w : ℕ → ℤ) (s : ℕ → ℕ) (k : ℕ) → total w s k +ℤ w k *ℤ pos (s k) ≡ total w s (k + 1)
unfolding sum
total_more w s k = rw add-one

pub size_more : (t w : ℤ) (s k : ℕ) → nat_abs t ≤ k * 2 ^ 47 → nat_abs w ≤ 2 ^ 31 → s < 2 ^ 16 → nat_abs (t +ℤ w *ℤ pos s) ≤ (k + 1) * 2 ^ 47
size_more t w s k h l m =
    let few : s ≤ 2 ^ 16 = omega arith in
    let term : nat_abs (w *ℤ pos s) ≤ 2 ^ 47 = rw (scale_size w s) (mul-le-mul l few) in
    omega (arith, add_size t (w *ℤ pos s), row_next (k * 2 ^ 47) k (2 ^ 47) refl)

-- a weight of a narrower type, widened
pub wide_back : (w : Width) (x : ℤ) → SFits w x → SFits w64 x → to_z w64 (of_z w64 (to_z w (of_z w x))) ≡ x
wide_back w x f g = ap (λ (z : ℤ). to_z w64 (of_z w64 z)) (to_z-of_z f) ∙ to_z-of_z g
