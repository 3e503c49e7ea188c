-- What is known of a store that is open to a client, of a set that stands in its client's part, and of the numbers of two clients that are not the same. Cited by OtherView,
-- OwnView and Kept, and by the proofs of `shared_store`. Assumes nothing.
use mathlib.Core.Path.{◌≡◌, refl, ap}
use mathlib.Core.Bool.{Bool, false, not, ◌||◌}
use Prim.Native.Nat.{ℕ, zero, suc, ◌+◌, ◌*◌, ◌≤◌, ◌<◌}
use native.Mathlib.Omega.{arith}
use lib.Dec.{eqb, ltb}
use lib.ListN.{length}
use borrow.Author.Tests.{ltb-false, le-ltb, ne_eqb, eqb-true, not-false}
use Rattle.lists.proofs.BoolLaws.{or_left, or_right}
use Rattle.shares.specs.Store.{Store, share, held, wide, slot_base, closed, unset}

pub record Open (s : Store) (c : ℕ) : Type 0 where
  pub ten : length s.numbers ≡ 10
  pub all_starts : length s.starts ≡ 16384
  pub all_sizes : length s.sizes ≡ 16384
  pub all_excesses : length s.excesses ≡ 16384
  pub shares : share s 0 + share s 1 ≤ length s.slots
  pub one_of_two : c ≤ 1

-- four lengths that are as a store has them
pub record Lengths (n st sz ex : ℕ) : Type 0 where
  pub numbers : n ≡ 10
  pub starts : st ≡ 16384
  pub sizes : sz ≡ 16384
  pub excesses : ex ≡ 16384

pub lengths : (n st sz ex : ℕ) → ((not (eqb n 10) || not (eqb st 16384)) || not (eqb sz 16384)) || not (eqb ex 16384) ≡ false → Lengths n st sz ex
lengths n st sz ex h =
    let a = not (eqb n 10) in
    let b = not (eqb st 16384) in
    let c = not (eqb sz 16384) in
    let d = not (eqb ex 16384) in
    let three : (a || b) || c ≡ false = or_left ((a || b) || c) d h in
    let two : a || b ≡ false = or_left (a || b) c three in
    record {
      numbers = eqb-true n 10 (not-false _ (or_left a b two));
      starts = eqb-true st 16384 (not-false _ (or_right a b two));
      sizes = eqb-true sz 16384 (not-false _ (or_right (a || b) c three));
      excesses = eqb-true ex 16384 (not-false _ (or_right ((a || b) || c) d h));
    }

opened : (s : Store) (c : ℕ) (bad few : Bool) → (bad || few) || ltb 1 c ≡ false → (bad ≡ false → Lengths (length s.numbers) (length s.starts) (length s.sizes) (length s.excesses)) → (few ≡ false → share s 0 + share s 1 ≤ length s.slots) → Open s c
opened s c bad few h ls sh =
    let two : bad || few ≡ false = or_left (bad || few) (ltb 1 c) h in
    let l = ls (or_left bad few two) in
    record {
      ten = l.numbers;
      all_starts = l.starts;
      all_sizes = l.sizes;
      all_excesses = l.excesses;
      shares = sh (or_right bad few two);
      one_of_two = ltb-false 1 c (or_right (bad || few) (ltb 1 c) h);
    }

pub open_store : (s : Store) (c : ℕ) → closed s c ≡ false → Open s c
unfolding closed
open_store s c h =
    opened s c _ (ltb (length s.slots) (share s 0 + share s 1)) h
    (lengths (length s.numbers) (length s.starts) (length s.sizes) (length s.excesses))
    (ltb-false (length s.slots) (share s 0 + share s 1))

-- a client's set is in its part
pub record Inside (s : Store) (c : ℕ) : Type 0 where
  pub few : held s c ≤ 8192
  pub room : held s c * wide s c ≤ share s c

pub inside_part : (s : Store) (c : ℕ) → unset s c ≡ false → Inside s c
unfolding unset
inside_part s c h =
    let a = eqb (held s c) 0 in
    let b = ltb 8192 (held s c) in
    let k = ltb (share s c) (held s c * wide s c) in
    let two : a || b ≡ false = or_left (a || b) k h in
    record { few = ltb-false 8192 (held s c) (or_right a b two); room = ltb-false (share s c) (held s c * wide s c) (or_right (a || b) k h) }

-- and no test finds it missing
pub is_set : (h n r : ℕ) → 0 < h → h ≤ 8192 → n ≤ r → (eqb h 0 || ltb 8192 h) || ltb r n ≡ false
is_set h n r some few room =
    let a : eqb h 0 ≡ false = ne_eqb h 0 (λ (e : h ≡ 0). omega arith) in
    rw (a, le-ltb 8192 h few, le-ltb r n room)

-- a part of so many slots ends within the slots
ends : (c n x y z l : ℕ) → c ≤ 1 → (c ≡ 0 → z ≡ x) → (c ≡ 1 → z ≡ y) → n ≤ z → x + y ≤ l → c * x + n ≤ l
ends zero n x y z l one e0 e1 h k = omega (arith, e0 refl)
ends (suc zero) n x y z l one e0 e1 h k = omega (arith, e1 refl)
ends (suc (suc c)) n x y z l one e0 e1 h k = absurd (omega arith)

pub in_slots : (s : Store) (c n : ℕ) → Open s c → n ≤ share s c → slot_base s c + n ≤ length s.slots
in_slots s c n o h = ends c n (share s 0) (share s 1) (share s c) (length s.slots) o.one_of_two (λ e. ap (share s) e) (λ e. ap (share s) e) h o.shares

-- two clients, each one of two and not the same
pub pick : {A : Type 0} (c d : ℕ) → d ≤ 1 → c ≤ 1 → (c ≡ d → ⊥) → (c ≡ 0 → d ≡ 1 → A) → (c ≡ 1 → d ≡ 0 → A) → A
pick zero zero hd hc apart first second = absurd (apart refl)
pick zero (suc zero) hd hc apart first second = first refl refl
pick (suc zero) zero hd hc apart first second = second refl refl
pick (suc zero) (suc zero) hd hc apart first second = absurd (apart refl)
pick (suc (suc c)) d hd hc apart first second = absurd (omega arith)
pick zero (suc (suc d)) hd hc apart first second = absurd (omega arith)
pick (suc zero) (suc (suc d)) hd hc apart first second = absurd (omega arith)
