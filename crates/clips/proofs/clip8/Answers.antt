-- `clip8`: between the tests v + 640 is a place of the table, and the entry there is v clipped. Assumes nothing.
use mathlib.Core.Path.{◌≡◌, refl, ◌∙◌, ap, sym}
use mathlib.Core.Bool.{false}
use Prim.Native.Nat.{ℕ, suc, ◌+◌, ◌-◌, ◌<◌, ◌≤◌}
use native.Mathlib.Omega.{arith}
use lib.IntN.{ℤ, pos, negsuc, nat_abs, ◌+ℤ◌, ◌-ℤ◌, +ℤ-neg_ℤ_cancel}
use lib.Signed.{lt_z}
use mir.Syntax.{w32}
use mir.Val.{to_z, of_z}
use mir.Facts.{to_z-of_z, to_z_pos}
use borrow.Author.Rules.{rules}
use borrow.Author.Tests.{ltb-false, le-ltb}
use Rattle.integers.specs.Sums.{clipped}
use Rattle.integers.proofs.Clips.{clipped_low, clipped_high}
use Rattle.clips.specs.Table.{entry_of}
use Rattle.clips.proofs.clip8.Goals as goal

-- the place of the table for v
record Placed (v : ℤ) : Type 0 where
  place : ℕ
  is : v +ℤ pos 640 ≡ pos place
  small : place < 1280

placed : (v : ℤ) → lt_z v (negsuc 639) ≡ false → lt_z (pos 639) v ≡ false → Placed v
placed (pos n) l h = record { place = n + 640; is = refl; small = omega (arith, ltb-false 639 n h) }
placed (negsuc n) l h =
    let b : n ≤ 639 = ltb-false 639 n l in
    let t : suc n ≤ 640 = omega arith in
    record { place = 640 - suc n; is = rw (le-ltb 640 (suc n) t); small = omega arith }

-- the entry there is for v + 640 - 640
rule : (v : ℤ) (p : Placed v) → entry_of p.place ≡ clipped 255 v
rule v p = ap (λ (z : ℤ). clipped 255 (z -ℤ pos 640)) (sym p.is) ∙ ap (clipped 255) (+ℤ-neg_ℤ_cancel v (pos 640))

at_place : (v : ℤ) (p : Placed v) → to_z w32 (of_z w32 (v +ℤ pos 640)) ≡ pos p.place
at_place v p = ap (λ (z : ℤ). to_z w32 (of_z w32 z)) p.is ∙ to_z_pos w32 {n = p.place} (omega (arith, p.small))

pub returns-then-v-ltminus640 : goal.returns-then-v-ltminus640
returns-then-v-ltminus640 c = record { answer = sym (clipped_low 255 c.args.v (negsuc 639) refl (rw (to_z-of_z c.ranges.v) at c.if-v-ltminus640.true)) }

pub returns-then-v-gt639 : goal.returns-then-v-gt639
returns-then-v-gt639 c = record { answer = sym (clipped_high 255 639 c.args.v (omega arith) (rw (to_z-of_z c.ranges.v) at c.if-v-gt639.true)) }

pub overflow_add-v : goal.overflow_add-v
overflow_add-v c =
    let here : Placed c.args.v = let back : to_z w32 (of_z w32 c.args.v) ≡ c.args.v = to_z-of_z c.ranges.v in placed c.args.v (rw back at c.if-v-ltminus640.false) (rw back at c.if-v-gt639.false) in
    rw (to_z-of_z c.ranges.v, here.is) (record { sfits = omega (arith, here.small) })

pub overflow_cast-v : goal.overflow_cast-v
overflow_cast-v c =
    let here : Placed c.args.v = let back : to_z w32 (of_z w32 c.args.v) ≡ c.args.v = to_z-of_z c.ranges.v in placed c.args.v (rw back at c.if-v-ltminus640.false) (rw back at c.if-v-gt639.false) in
    rw (to_z-of_z c.ranges.v, at_place c.args.v here) (tt, record { fits = omega (arith, here.small) })

pub lookup-requires : goal.lookup-requires
lookup-requires c =
    let here : Placed c.args.v = let back : to_z w32 (of_z w32 c.args.v) ≡ c.args.v = to_z-of_z c.ranges.v in placed c.args.v (rw back at c.if-v-ltminus640.false) (rw back at c.if-v-gt639.false) in
    rw (to_z-of_z c.ranges.v, at_place c.args.v here) here.small

pub returns : goal.returns
returns c =
    let here : Placed c.args.v = let back : to_z w32 (of_z w32 c.args.v) ≡ c.args.v = to_z-of_z c.ranges.v in placed c.args.v (rw back at c.if-v-ltminus640.false) (rw back at c.if-v-gt639.false) in
    let v = c.args.v in
    let back : to_z w32 (of_z w32 v) ≡ v = to_z-of_z c.ranges.v in
    record {
      answer = c.lookup.ensures.answer ∙ ap (λ (z : ℤ). entry_of (nat_abs (to_z w32 (of_z w32 (z +ℤ pos 640))))) back
          ∙ ap (λ (z : ℤ). entry_of (nat_abs z)) (at_place v here) ∙ rule v here;
    }
