-- What the machine's tests and sums of single weights say, in the definitions' words, and the turns of the loops over a window's weights. Cited by the functions of `offers`.
-- Assumes nothing.
use mathlib.Core.Path.{◌≡◌, refl, sym, ◌∙◌}
use mathlib.Core.Bool.{Bool, true, false, cond, not, ◌||◌, ◌&&◌}
use Prim.Native.Nat.{ℕ, zero, suc, ◌+◌, ◌-◌, ◌^◌, ◌<◌, ◌≤◌}
use native.Mathlib.Omega.{arith}
use lib.Dec.{ltb}
use lib.IntN.{ℤ, pos, negsuc, nat_abs, ◌+ℤ◌, ◌-ℤ◌}
use lib.Signed.{mag, lt_z}
use mir.Val.{bool_byte}
use borrow.Author.Tests.{ltb-true, lt-ltb, le-ltb}
use Rattle.integers.specs.Sums.{distance}
use Rattle.orders.specs.Count.{count}
use Rattle.orders.proofs.CountLaws.{count_on, count_le}
use Rattle.offers.specs.Repair.{in_type_value, bad_weight}
use Rattle.offers.specs.Own.{way, movable, offered_slot}

and_true : (b : Bool) → b && true ≡ b
and_true true = refl
and_true false = refl

-- the two ends of a type that holds -m to m - 1
pub inside_is : (m : ℕ) (v : ℤ) → lt_z (negsuc 0 -ℤ v) (pos m) && lt_z v (pos m) ≡ ltb (mag v) m
inside_is m (pos zero) = refl
inside_is m (pos (suc n)) = refl
inside_is m (negsuc n) =
    let l : 1 ≤ suc n = omega arith in
    let e : suc n - 1 ≡ n = omega arith in
    rw (le-ltb (suc n) 1 l, e) (and_true (ltb n m))

-- farther than 1
pub far_is : (d : ℤ) → lt_z d (negsuc 0) || lt_z (pos 1) d ≡ ltb 1 (nat_abs d)
far_is (pos n) = refl
far_is (negsuc zero) = refl
far_is (negsuc (suc n)) =
    let a : ltb 0 (suc n) ≡ true = lt-ltb 0 (suc n) (omega arith) in
    let b : ltb 1 (suc (suc n)) ≡ true = lt-ltb 1 (suc (suc n)) (omega arith) in
    rw (a, b)

way_size : (e : ℤ) → nat_abs (way e) ≤ 1
way_size (pos zero) = omega arith
way_size (pos (suc n)) = omega arith
way_size (negsuc n) = omega arith

-- ---- a turn of a loop over weights: r is what the code's test said, x and y what the machine reads back for the step and the weight

pub step_size : (e : ℤ) {x : ℤ} → x ≡ way e → nat_abs x ≤ 1
step_size e ex = rw ex (way_size e)

pub can_is : (limit : ℕ) (e : ℤ) (w : ℕ → ℤ) (k : ℕ) {r : Bool} {x y : ℤ} → r ≡ in_type_value limit (y +ℤ x) → y ≡ w k → x ≡ way e → r ≡ movable limit e w k
can_is limit e w k er ey ex = er ∙ rw (ey, ex) refl

-- what a test adds to a count
one_more : (r : Bool) → bool_byte r ≡ cond r 1 0
one_more true = refl
one_more false = refl

pub one_small : (r : Bool) → bool_byte r ≤ 1
one_small true = omega arith
one_small false = omega arith

pub count_turn : (t : ℕ → Bool) (k : ℕ) {c d : ℕ} {r : Bool} → d ≡ bool_byte r → c ≡ count t k → r ≡ t k → c + d ≡ count t (k + 1)
count_turn t k {c} {d} {r} ed ec er = rw (ed, one_more r, ec, er) (sym (count_on t k))

-- a count of what passes below k is below k + 1
pub count_room : (t : ℕ → Bool) (k n : ℕ) {c : ℕ} → c ≡ count t k → k < n → c + 1 ≤ n
count_room t k n ec h = omega (arith, ec, count_le t k)

pub misfit_is : (limit : ℕ) (w v : ℕ → ℤ) (k : ℕ) {r : Bool} {x y : ℤ} → r ≡ (ltb 1 (distance y x) || not (in_type_value limit y)) → x ≡ w k → y ≡ v k → r ≡ bad_weight limit w v k
misfit_is limit w v k er ex ey = er ∙ rw (ex, ey) refl

pub slot_is : (limit : ℕ) (e : ℤ) (w : ℕ → ℤ) (n k : ℕ) {z x y : ℤ} {can : Bool} {seen asked : ℕ} → z ≡ cond (ltb k n) (cond (can && ltb seen asked) (y +ℤ x) y) (pos 0)
    → can ≡ movable limit e w k → seen ≡ count (movable limit e w) k → asked ≡ nat_abs e → y ≡ w k → x ≡ way e → z ≡ offered_slot limit e w n k
slot_is limit e w n k ez ec es en ey ex = ez ∙ rw (ec, es, en, ey, ex) refl

-- an offered slot is inside the type, where the stored weight is
pub slot_inside : (limit : ℕ) (e : ℤ) (w : ℕ → ℤ) (n k : ℕ) → mag (w k) < 2 ^ limit → 0 < 2 ^ limit → mag (offered_slot limit e w n k) < 2 ^ limit
slot_inside limit e w n k h z = go (ltb k n) (movable limit e w k) (ltb (count (movable limit e w) k) (nat_abs e)) refl
  where
    go : (used can early : Bool) → movable limit e w k ≡ can → mag (cond used (cond (can && early) (w k +ℤ way e) (w k)) (pos 0)) < 2 ^ limit
    go true true true q = ltb-true (mag (w k +ℤ way e)) (2 ^ limit) q
    go true true false q = h
    go true false early q = h
    go false can early q = z
