-- Repairs of one window, over any limit. A repair moves at least as many weights as the excess asks, and enough of those that it moves the excess's way can be moved; so
-- where there is a repair our own offer has the total 2^p. Cited by the laws of `repairs`. Assumes nothing.
use mathlib.Core.Path.{◌≡◌, refl, ap}
use mathlib.Core.Bool.{Bool, true, false, cond, not}
use Prim.Native.Nat.{ℕ, zero, suc, ◌+◌, ◌^◌, ◌≤◌, ◌<◌}
use native.Mathlib.Omega.{arith}
use lib.Dec.{ltb}
use lib.IntN.{ℤ, pos, negsuc, nat_abs, neg_ℤ, ◌+ℤ◌}
use lib.Signed.{mag}
use borrow.Author.Tests.{ltb-true, ltb-false, lt-ltb, le-ltb, not-false}
use Rattle.lists.specs.Tab.{any}
use Rattle.lists.proofs.AnyLaws.{any_none, none_any}
use Rattle.lists.proofs.BoolLaws.{or_left, or_right}
use Rattle.integers.specs.Sums.{sum, distance}
use Rattle.integers.proofs.Parts.{plus, minus, pos_parts, neg_parts, alone, size_parts, same, add_parts, distance_parts}
use Rattle.orders.specs.Count.{count}
use Rattle.orders.proofs.SumOrders.{AtMost, sum_at_most}
use Rattle.windows.specs.Set.{excess}
use Rattle.windows.specs.Fit.{differ}
use Rattle.excesses.proofs.RightLaws.{alike, not_differ}
use Rattle.offers.specs.Repair.{in_type_value, Repair, bad_weight, bad_repair, changed}
use Rattle.offers.specs.Own.{movable}

pub negsuc_parts : (n : ℕ) → (plus (negsuc n) ≡ 0) × (minus (negsuc n) ≡ suc n)
unfolding plus minus
negsuc_parts n = (refl, refl)

-- the total is the excess and 2^p
pub excess_parts : (p : ℕ) (w : ℕ → ℤ) (n : ℕ) → plus (excess p w n) + (2 ^ p + minus (sum w n)) ≡ plus (sum w n) + minus (excess p w n)
unfolding excess
excess_parts p w n = omega (arith, add_parts (sum w n) (neg_ℤ (pos (2 ^ p))), neg_parts (pos (2 ^ p)), pos_parts (2 ^ p))

-- ---- one weight x, and y that is offered for it

module _ (limit : ℕ) (x y : ℤ) (near : distance y x ≤ 1) (inside : mag y < 2 ^ limit) where
  -- a y that is x + z is a weight that can go by z
  reached : (z : ℤ) → y ≡ x +ℤ z → in_type_value limit (x +ℤ z) ≡ false → ⊥
  reached z e f =
      let l : 2 ^ limit ≤ mag (x +ℤ z) = ltb-false (mag (x +ℤ z)) (2 ^ limit) f in
      let q : mag y ≡ mag (x +ℤ z) = ap mag e in omega arith

  -- x is at most y, and 1 more only where it can go down; y at most x, and 1 more only where x can go up
  lower : AtMost x y (cond (in_type_value limit (x +ℤ negsuc 0)) 1 0)
  lower = go (in_type_value limit (x +ℤ negsuc 0)) (ltb (plus y + minus x) (plus x + minus y)) refl refl
    where
      go : (b d : Bool) → in_type_value limit (x +ℤ negsuc 0) ≡ b → ltb (plus y + minus x) (plus x + minus y) ≡ d → AtMost x y (cond b 1 0)
      go true d q r = omega (arith, near, distance_parts y x)
      go false true q r =
          let l : plus y + minus x < plus x + minus y = ltb-true (plus y + minus x) (plus x + minus y) r in
          absurd (reached (negsuc 0) (same y (x +ℤ negsuc 0) (omega (arith, near, distance_parts y x, add_parts x (negsuc 0), negsuc_parts 0))) q)
      go false false q r = let l : plus x + minus y ≤ plus y + minus x = ltb-false (plus y + minus x) (plus x + minus y) r in omega arith

  higher : AtMost y x (cond (in_type_value limit (x +ℤ pos 1)) 1 0)
  higher = go (in_type_value limit (x +ℤ pos 1)) (ltb (plus x + minus y) (plus y + minus x)) refl refl
    where
      go : (b d : Bool) → in_type_value limit (x +ℤ pos 1) ≡ b → ltb (plus x + minus y) (plus y + minus x) ≡ d → AtMost y x (cond b 1 0)
      go true d q r = omega (arith, near, distance_parts y x)
      go false true q r =
          let l : plus x + minus y < plus y + minus x = ltb-true (plus x + minus y) (plus y + minus x) r in
          absurd (reached (pos 1) (same y (x +ℤ pos 1) (omega (arith, near, distance_parts y x, add_parts x (pos 1), pos_parts 1))) q)
      go false false q r = let l : plus y + minus x ≤ plus x + minus y = ltb-false (plus x + minus y) (plus y + minus x) r in omega arith

-- they are 1 apart only where they differ
apart : (x y : ℤ) → distance y x ≤ 1 → AtMost x y (cond (differ y x) 1 0) × AtMost y x (cond (differ y x) 1 0)
apart x y h = go (differ y x) refl
  where
    go : (b : Bool) → differ y x ≡ b → AtMost x y (cond b 1 0) × AtMost y x (cond b 1 0)
    go true q = (omega (arith, h, distance_parts y x), omega (arith, h, distance_parts y x))
    go false q = let e = alike y x q in (rw e (omega arith), rw e (omega arith))

-- ---- a window that is repaired

module _ (limit p : ℕ) (w v : ℕ → ℤ) (n : ℕ) (o : Repair limit p w v n) where
  -- the offered total is 2^p
  full : 2 ^ p + minus (sum v n) ≡ plus (sum v n)
  full = let z = pos_parts 0 in let e = excess_parts p v n in omega (arith, rw o.exact at e, z)

  enough_of : (e : ℤ) → excess p w n ≡ e → nat_abs e ≤ count (movable limit e w) n
  enough_of (pos zero) q = omega arith
  enough_of (pos (suc m)) q =
      let b = sum_at_most w v (movable limit (pos (suc m)) w) n (λ k l. lower limit (w k) (v k) (o.near k l) (o.inside k l)) in
      omega (arith, b, full, rw q at (excess_parts p w n), pos_parts (suc m))
  enough_of (negsuc m) q =
      let b = sum_at_most v w (movable limit (negsuc m) w) n (λ k l. higher limit (w k) (v k) (o.near k l) (o.inside k l)) in
      omega (arith, b, full, rw q at (excess_parts p w n), negsuc_parts m)

  -- as many weights can move as the excess asks
  pub enough : nat_abs (excess p w n) ≤ count (movable limit (excess p w n) w) n
  enough = enough_of (excess p w n) refl

  -- and at least so many were changed
  pub least_changed : nat_abs (excess p w n) ≤ count (changed w v) n
  least_changed =
      let a = sum_at_most w v (changed w v) n (λ k l. (apart (w k) (v k) (o.near k l)).0) in
      let b = sum_at_most v w (changed w v) n (λ k l. (apart (w k) (v k) (o.near k l)).1) in
      omega (arith, a, b, full, excess_parts p w n, size_parts (excess p w n), alone (excess p w n))

-- ---- the test that code makes

module _ (limit p : ℕ) (w v : ℕ → ℤ) (n : ℕ) where
  abbrev far : ℕ → Bool
  far k = ltb 1 (distance (v k) (w k))

  pub repair_of : bad_repair limit p w v n ≡ false → Repair limit p w v n
  repair_of h =
      let a = any_none (bad_weight limit w v) n (or_left (any n (bad_weight limit w v)) (differ (excess p v n) (pos 0)) h) in record {
        near = λ k l. ltb-false 1 (distance (v k) (w k)) (or_left (far k) (not (in_type_value limit (v k))) (a k l));
        inside = λ k l. ltb-true (mag (v k)) (2 ^ limit) (not-false (in_type_value limit (v k)) (or_right (far k) (not (in_type_value limit (v k))) (a k l)));
        exact = alike (excess p v n) (pos 0) (or_right (any n (bad_weight limit w v)) (differ (excess p v n) (pos 0)) h);
      }

  pub of_repair : Repair limit p w v n → bad_repair limit p w v n ≡ false
  of_repair o =
      let a = none_any (bad_weight limit w v) n (λ k l. let i : in_type_value limit (v k) ≡ true = lt-ltb (mag (v k)) (2 ^ limit) (o.inside k l) in rw (le-ltb 1 (distance (v k) (w k)) (o.near k l), i)) in
      rw a (not_differ (excess p v n) (pos 0) o.exact)
