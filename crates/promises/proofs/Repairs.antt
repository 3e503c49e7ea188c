-- The proofs of `RepairsAgree`, each a law of `repairs`; of `FlatRepaired`, where an excess of 0 is a distance of 0 from 2^P, which is `flat_frame`'s premise; and of
-- `SameRefusals`, since an accepted offer changes no test but those of weights and excesses, which held before and hold again. Assumes nothing.
use mathlib.Core.Path.{◌≡◌, refl, ap}
use mathlib.Core.Bool.{Bool, true, false, ◌||◌}
use Prim.Native.Nat.{ℕ, ◌*◌, ◌^◌}
use native.Mathlib.Nat.{mul-zero}
use lib.IntN.{pos, nat_abs}
use lib.ListN.{length}
use lib.Pow.{pow_pos}
use borrow.Author.Tests.{lt-ltb}
use Rattle.lists.specs.Ranges.{bad_sides_value}
use Rattle.lists.proofs.BoolLaws.{or_left, or_right}
use Rattle.windows.specs.declared.Store.{Store}
use Rattle.windows.specs.Set.{Stored, windows, excess, distance_of, excess_of}
use Rattle.windows.specs.Store.{store16, store32, bad_precision}
use Rattle.windows.specs.Fit.{bad_set, bad_excesses, bad_stored}
use Rattle.vertical.specs.U16.{passed_u16, keeps_flat}
use Rattle.repairs.specs.Left.{left_set}
use Rattle.repairs.proofs.Rows.{accepted_exactly}
use Rattle.repairs.proofs.Taken.{accepted_repairs, taken_over, left_fits}
use Rattle.repairs.proofs.Own.{own_accepted, complete, first_line, least_of_all}
use Rattle.promises.specs.Repairs.{RepairsAgree, FlatRepaired, FlatRepairedU8, SameFit, SameRefusals}
use Rattle.promises.proofs.FlatFrame.{flat_frame, flat_frame_u8}

pub repairs_agree : (store : Store) → RepairsAgree store
repairs_agree store = record {
  accepted_repairs = accepted_repairs store;
  taken_over = taken_over store;
  left_fits = left_fits store;
  own_accepted = own_accepted store;
  complete = complete store;
  first_line = first_line store;
  least_changed = least_of_all store;
}

-- no excess: the premise of flat frames, for any largest sample
near : (M : ℕ) (s : Stored) (i : ℕ) → excess_of s i ≡ pos 0 → keeps_flat M s i ≡ true
unfolding excess
near M s i e =
    let d : distance_of s i ≡ 0 = ap nat_abs e in
    lt-ltb (2 * M * distance_of s i) (2 ^ s.precision) (rw (d, mul-zero) (pow_pos s.precision))

pub flat_repaired : FlatRepaired
flat_repaired store s o src row first count old v accepted none top flat =
    flat_frame (left_set store s o) src row first count old v none top flat (λ i l. near 65535 (left_set store s o) i (taken_over store s o accepted i l).1.0)

pub flat_repaired_u8 : FlatRepairedU8
flat_repaired_u8 s o src row first count old v accepted none top flat =
    flat_frame_u8 (left_set store16 s o) src row first count old v none top flat (λ i l. near 255 (left_set store16 s o) i (taken_over store16 s o accepted i l).1.0)

-- two tests that failed, before and after, beside one that is the same
both_failed : (a b c d e : Bool) → a ≡ false → b ≡ false → c ≡ false → d ≡ false → (a || e) || c ≡ (b || e) || d
both_failed a b c d e ha hb hc hd = rw (ha, hb, hc, hd) refl

pub same_fit : SameFit
same_fit store s o accepted other =
    let sides = bad_sides_value s.set.layout.lines (windows s.set.layout) in
    let before = ((accepted_exactly store s o 0).0 accepted).1.0 in
    let after = or_right sides (bad_stored (left_set store s o) store) (left_fits store s o accepted) in
    let left = left_set store s o in
    let shape-before = or_left (bad_set s.set.layout (length s.set.weights) || bad_precision store s.precision) (bad_excesses s) before in
    let shape-after = or_left (bad_set s.set.layout (length left.set.weights) || bad_precision store s.precision) (bad_excesses left) after in
    both_failed (bad_set s.set.layout (length left.set.weights)) (bad_set s.set.layout (length s.set.weights)) (bad_excesses left) (bad_excesses s) (bad_precision other s.precision)
    (or_left (bad_set s.set.layout (length left.set.weights)) (bad_precision store s.precision) shape-after)
    (or_left (bad_set s.set.layout (length s.set.weights)) (bad_precision store s.precision) shape-before)
    (or_right (bad_set s.set.layout (length left.set.weights) || bad_precision store s.precision) (bad_excesses left) after)
    (or_right (bad_set s.set.layout (length s.set.weights) || bad_precision store s.precision) (bad_excesses s) before)

pub same_refusals : SameRefusals
unfolding passed_u16
same_refusals store s o accepted samples row first count room = rw (same_fit store s o accepted store32) refl
