-- Our own offer for one window, over any limit: where enough weights can move it is a repair, and it changes as many weights as the excess asks, the first in line order.
-- Cited by the laws of `repairs`. Assumes nothing.
use mathlib.Core.Path.{◌≡◌, refl, ap, ◌∙◌}
use mathlib.Core.Bool.{Bool, true, false, cond}
use Prim.Native.Nat.{ℕ, zero, suc, ◌+◌, ◌^◌, ◌≤◌, ◌<◌}
use native.Mathlib.Nat.{one-mul, zero-mul}
use native.Mathlib.Omega.{arith}
use lib.Dec.{ltb}
use lib.IntN.{ℤ, pos, negsuc, nat_abs, ◌+ℤ◌, ◌*ℤ◌}
use lib.Signed.{mag}
use borrow.Author.Tests.{ltb-true, ltb-false, lt-ltb}
use Rattle.lists.proofs.BoolLaws.{and_left, and_right}
use Rattle.integers.specs.Sums.{sum, distance}
use Rattle.integers.proofs.Parts.{plus, minus, pos_parts, alone, same, add_parts, scale_parts, distance_parts}
use Rattle.orders.specs.Count.{count}
use Rattle.orders.proofs.CountLaws.{count_mono, count_ext, count_early}
use Rattle.orders.proofs.SumOrders.{sum_moved}
use Rattle.windows.specs.Set.{excess}
use Rattle.windows.specs.Fit.{differ}
use Rattle.excesses.proofs.RightLaws.{not_differ, differ_other}
use Rattle.offers.specs.Repair.{Repair, changed}
use Rattle.offers.specs.Own.{way, movable, moves, moved, no_repair}
use Rattle.offers.proofs.RepairLaws.{negsuc_parts, excess_parts, enough}

way_parts : (e : ℤ) → plus (way e) + minus (way e) ≤ 1
way_parts (pos zero) = omega (arith, pos_parts 0)
way_parts (pos (suc m)) = omega (arith, negsuc_parts 0)
way_parts (negsuc m) = omega (arith, pos_parts 1)

-- s + y is M, by the parts a and b of y
meets : (s y : ℤ) (M a b : ℕ) → plus y ≡ a → minus y ≡ b → plus s + a ≡ M + minus s + b → plus (s +ℤ y) ≡ M + minus (s +ℤ y)
meets s y M a b ea eb h = omega (arith, add_parts s y)

-- c steps down, c steps up
down_parts : (c : ℕ) → (plus (negsuc 0 *ℤ pos c) ≡ 0) × (minus (negsuc 0 *ℤ pos c) ≡ c)
down_parts c = let s = scale_parts (negsuc 0) c in let n = negsuc_parts 0 in (s.0 ∙ rw n.0 (zero-mul c), s.1 ∙ rw n.1 (one-mul c))

up_parts : (c : ℕ) → (plus (pos 1 *ℤ pos c) ≡ c) × (minus (pos 1 *ℤ pos c) ≡ 0)
up_parts c = let s = scale_parts (pos 1) c in let n = pos_parts 1 in (s.0 ∙ rw n.0 (one-mul c), s.1 ∙ rw n.1 (zero-mul c))

module _ (limit p : ℕ) (w : ℕ → ℤ) (n : ℕ) where
  -- as many steps as the excess asks, its way, take it away
  taken_away : (e : ℤ) → excess p w n ≡ e → plus (sum w n +ℤ way e *ℤ pos (nat_abs e)) ≡ 2 ^ p + minus (sum w n +ℤ way e *ℤ pos (nat_abs e))
  taken_away (pos zero) q =
      meets (sum w n) (pos 0 *ℤ pos 0) (2 ^ p) 0 0 (pos_parts 0).0 (pos_parts 0).1 (omega (arith, rw q at (excess_parts p w n), pos_parts 0))
  taken_away (pos (suc m)) q =
      let d = down_parts (suc m) in
      meets (sum w n) (negsuc 0 *ℤ pos (suc m)) (2 ^ p) 0 (suc m) d.0 d.1 (omega (arith, rw q at (excess_parts p w n), pos_parts (suc m)))
  taken_away (negsuc m) q =
      let d = up_parts (suc m) in
      meets (sum w n) (pos 1 *ℤ pos (suc m)) (2 ^ p) (suc m) 0 d.0 d.1 (omega (arith, rw q at (excess_parts p w n), negsuc_parts m))

  abbrev e : ℤ
  e = excess p w n

  abbrev own : ℕ → ℤ
  own = moved limit e w

  count_moves : nat_abs e ≤ count (movable limit e w) n → count (moves limit e w) n ≡ nat_abs e
  count_moves h = count_early (movable limit e w) (nat_abs e) n ∙ omega arith

  own_exact : nat_abs e ≤ count (movable limit e w) n → excess p own n ≡ pos 0
  own_exact h =
      let s : sum own n ≡ sum w n +ℤ way e *ℤ pos (nat_abs e) = sum_moved w (way e) (moves limit e w) n ∙ rw (count_moves h) in
      let t = rw (← s) at (taken_away e refl) in
      same (excess p own n) (pos 0) (omega (arith, excess_parts p own n, t, pos_parts 0))

  own_near : (k : ℕ) → distance (own k) (w k) ≤ 1
  own_near k = go (moves limit e w k)
    where
      go : (b : Bool) → distance (cond b (w k +ℤ way e) (w k)) (w k) ≤ 1
      go true = omega (arith, distance_parts (w k +ℤ way e) (w k), add_parts (w k) (way e), way_parts e)
      go false = omega (arith, distance_parts (w k) (w k))

  own_inside : (k : ℕ) → mag (w k) < 2 ^ limit → mag (own k) < 2 ^ limit
  own_inside k h = go (moves limit e w k) refl
    where
      go : (b : Bool) → moves limit e w k ≡ b → mag (cond b (w k +ℤ way e) (w k)) < 2 ^ limit
      go true q = ltb-true (mag (w k +ℤ way e)) (2 ^ limit) (and_left (movable limit e w k) (ltb (count (movable limit e w) k) (nat_abs e)) q)
      go false q = h

  -- the window has no offer: nothing repairs it
  pub none_there : no_repair limit e w n ≡ true → (v : ℕ → ℤ) → Repair limit p w v n → ⊥
  none_there h v o = let l : count (movable limit e w) n < nat_abs e = ltb-true (count (movable limit e w) n) (nat_abs e) h in omega (arith, enough limit p w v n o)

  -- it has one: the stored weights being inside their type, ours repairs it
  pub own_repair : no_repair limit e w n ≡ false → ((k : ℕ) → k < n → mag (w k) < 2 ^ limit) → Repair limit p w own n
  own_repair h typed = record {
    near = λ k l. own_near k;
    inside = λ k l. own_inside k (typed k l);
    exact = own_exact (ltb-false (count (movable limit e w) n) (nat_abs e) h);
  }

-- a weight moves: so does each before it that can
pub in_order : (limit : ℕ) (e : ℤ) (w : ℕ → ℤ) (j d : ℕ) → moves limit e w (j + d) ≡ true → movable limit e w j ≡ true → moves limit e w j ≡ true
in_order limit e w j d h m =
    let c = count (movable limit e w) in
    let l : c (j + d) < nat_abs e = ltb-true (c (j + d)) (nat_abs e) (and_right (movable limit e w (j + d)) (ltb (c (j + d)) (nat_abs e)) h) in
    let k : c j < nat_abs e = omega (arith, count_mono (movable limit e w) j d) in
    rw (m, lt-ltb (c j) (nat_abs e) k)

-- ---- how many weights it changes

moves_changed : (limit : ℕ) (e : ℤ) (w : ℕ → ℤ) (k : ℕ) → changed w (moved limit e w) k ≡ moves limit e w k
moves_changed limit e w k = go e (moves limit e w k) refl
  where
    gone : (z : ℤ) → plus z + minus z ≡ 1 → w k +ℤ z ≡ w k → ⊥
    gone z h q = omega (arith, h, alone z, add_parts (w k) z, ap plus q, ap minus q)

    go : (e : ℤ) (b : Bool) → moves limit e w k ≡ b → differ (cond b (w k +ℤ way e) (w k)) (w k) ≡ b
    go e false q = not_differ (w k) (w k) refl
    go (pos zero) true q =
        let c = count (movable limit (pos 0) w) k in
        let l : c < 0 = ltb-true c 0 (and_right (movable limit (pos 0) w k) (ltb c 0) q) in absurd (omega arith)
    go (pos (suc m)) true q = differ_other (w k +ℤ negsuc 0) (w k) (gone (negsuc 0) (omega (arith, negsuc_parts 0)))
    go (negsuc m) true q = differ_other (w k +ℤ pos 1) (w k) (gone (pos 1) (omega (arith, pos_parts 1)))

-- where the window has an offer, exactly as many as the excess asks
pub own_changed : (limit p : ℕ) (w : ℕ → ℤ) (n : ℕ) → no_repair limit (excess p w n) w n ≡ false → count (changed w (moved limit (excess p w n) w)) n ≡ nat_abs (excess p w n)
own_changed limit p w n h =
    count_ext (changed w (moved limit (excess p w n) w)) (moves limit (excess p w n) w) n (λ k l. moves_changed limit (excess p w n) w k)
    ∙ count_moves limit p w n (ltb-false (count (movable limit (excess p w n) w) n) (nat_abs (excess p w n)) h)
