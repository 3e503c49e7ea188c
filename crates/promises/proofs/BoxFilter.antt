-- Box: a weight up to 1 needs the precision 30 or more, and the lines with weight 1 are next to each other. Cited by the Box theorems. Assumes nothing.
use Prim.Native.Nat.{ℕ, suc, ◌*◌, ◌^◌, ◌≤◌, ◌<◌}
use native.Mathlib.Nat.{le_trans, le_of_eq, lt_of_le_of_lt, one-mul}
use mathlib.Core.Bool.{Bool, true, false, ◌&&◌}
use lib.IntN.{negsuc}
use lib.Dec.{T, lit≤, lit<}
use lib.Pow.{pow_mono}
use lib.Ieee.{Float, fin, binary64, sub, mul, lt, le}
use lib.Ieee.Fits.{and_i, and_l, and_r}
use lib.Ieee.Scale.{finite}
use lib.Ieee.Positive.{num, den, den_pos}
use Rattle.integers.specs.Nearest.{nearest}
use Rattle.numbers.proofs.Sizes.{half_le}
use Rattle.floats.specs.Within.{Within}
use Rattle.floats.proofs.Within.{within_value}
use Rattle.floats.proofs.Integers.{int, within_mul, int_within}
use Rattle.floats.proofs.Signs.{le_trans_finite, lt_le_trans_finite}

-- ---- a weight up to 1 does not reach 2 ^ 31 below p = 30
pub not_reached : (w : Float) (p : ℕ) → Within w 1 → p < 30 → let y = mul binary64 w (int (2 ^ suc p)) in nearest (num y) (den y) < 2 ^ 31
not_reached w p W h =
    let y = mul binary64 w (int (2 ^ suc p)) in
    let e : 2 ^ suc p ≤ 2 ^ 30 = pow_mono h in
    let Y : Within y (1 * 2 ^ suc p) = within_mul w (int (2 ^ suc p)) 1 (2 ^ suc p) W (int_within (2 ^ suc p) (le_trans e (lit≤ tt))) (le_trans (le_of_eq (one-mul (2 ^ suc p))) (le_trans e (lit≤ tt))) in
    lt_of_le_of_lt (half_le (num y) (den y) (den_pos y) (1 * 2 ^ suc p) (within_value y (1 * 2 ^ suc p) Y).1) (lt_of_le_of_lt (le_of_eq (one-mul (2 ^ suc p))) (lt_of_le_of_lt e (lit< tt)))

-- ---- Box is 1 above -0.5 up to and including 0.5
abbrev pub in_box : Float → Bool
in_box x = lt (fin true 1 (negsuc 0)) x && le x (fin false 1 (negsuc 0))

pub between : (x y z : Float) → T (finite x) → T (finite y) → T (finite z) → T (le x y) → T (le y z) → T (in_box x) → T (in_box z) → T (in_box y)
between x y z p q r h k a b =
    and_i (lt (fin true 1 (negsuc 0)) y) (le y (fin false 1 (negsuc 0)))
    (lt_le_trans_finite (fin true 1 (negsuc 0)) x y tt p q (and_l (lt (fin true 1 (negsuc 0)) x) (le x (fin false 1 (negsuc 0))) a) h)
    (le_trans_finite y z (fin false 1 (negsuc 0)) q r tt k (and_r (lt (fin true 1 (negsuc 0)) z) (le z (fin false 1 (negsuc 0))) b))

-- the filter's argument at line k
abbrev pub arg : Float → Float → ℕ → Float
arg c r k = mul binary64 (sub binary64 (int k) c) r
