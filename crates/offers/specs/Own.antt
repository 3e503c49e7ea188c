-- The offer of our own for one window of stored weights w with the excess e: as many weights as the excess asks move by 1, all the same way, the first in line order that
-- stay inside their type. Cited by the contracts of `offers` and `repairs` and by the promises. Definitions only. Assumes nothing.
use Rattle.std.specs.Prelude.{Bool, cond, ◌&&◌, ℕ, zero, suc, ltb, ℤ, pos, negsuc, nat_abs, ◌+ℤ◌}
use Rattle.orders.specs.Count.{count}
use Rattle.offers.specs.Repair.{in_type_value}

-- the way that an excess asks the weights to go: down by 1 where the total is too large, up by 1 where it is too small
abbrev pub way : ℤ → ℤ
way (pos zero) = pos 0
way (pos (suc n)) = negsuc 0
way (negsuc n) = pos 1

module _ (limit : ℕ) (e : ℤ) (w : ℕ → ℤ) where
  -- weight k can go that way and stay inside its type
  abbrev pub movable : ℕ → Bool
  movable k = in_type_value limit (w k +ℤ way e)

  -- it moves: fewer weights before it can than the excess asks
  abbrev pub moves : ℕ → Bool
  moves k = movable k && ltb (count movable k) (nat_abs e)

  -- the offered weight
  abbrev pub moved : ℕ → ℤ
  moved k = cond (moves k) (w k +ℤ way e) (w k)

  -- the window of n weights has no offer: fewer can move than the excess asks
  abbrev pub no_repair : ℕ → Bool
  no_repair n = ltb (count movable n) (nat_abs e)

  -- slot k of the offer, of which n are in use: 0 in an idle one
  abbrev pub offered_slot : ℕ → ℕ → ℤ
  offered_slot n k = cond (ltb k n) (moved k) (pos 0)
