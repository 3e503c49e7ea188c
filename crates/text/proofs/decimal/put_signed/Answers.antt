-- `decimal::put_signed` meets its contract: a minus and the size below 0, the size alone from 0 on. Assumes nothing.
use mathlib.Core.Path.{◌≡◌, ap, ◌∙◌}
use mathlib.Core.Bool.{true, false}
use mathlib.Core.List.{[], ◌∷◌, ◌++◌}
use Prim.Native.Nat.{ℕ}
use native.Mathlib.Omega.{arith}
use lib.IntN.{ℤ, pos, negsuc, nat_abs}
use lib.Signed.{lt_z}
use mir.Facts.{to_z-of_z}
use borrow.Author.Rules.{rules}
use borrow.Author.Tests.{ltb-true}
use Rattle.text.specs.Text.{decimal, signed}
use Rattle.text.proofs.TextLaws.{laid_none, laid_then, laid_byte}
use Rattle.text.proofs.decimal.put_signed.Goals as goal

below : (v : ℤ) (n : ℕ) → lt_z v (pos 0) ≡ true → n ≡ nat_abs v → signed v ≡ (45 ∷ []) ++ decimal n
unfolding signed
below (pos a) n h e = absurd (omega (arith, ltb-true a 0 h))
below (negsuc a) n h e = rw e

above : (v : ℤ) (n : ℕ) → lt_z v (pos 0) ≡ false → n ≡ nat_abs v → signed v ≡ decimal n
unfolding signed
above (pos a) n h e = rw e
above (negsuc a) n h e = let z : ◌≡◌ {A = ℕ} 0 1 = cc in absurd (omega arith)

pub returns-then-v-lt0 : goal.returns-then-v-lt0
returns-then-v-lt0 c =
    let minus : signed c.args.v ≡ (45 ∷ []) ++ decimal c.size-n.result = below c.args.v c.size-n.result (rw (to_z-of_z c.ranges.v) at c.if-v-lt0.true) (c.size-n.ensures.answer ∙ ap nat_abs (to_z-of_z c.ranges.v)) in
    let l1 = laid_byte 45 (laid_none c.args.at c.args.out.now (search rules) (search rules)) c.put_byte-p.ensures.answer c.put_byte-p.ensures.written in
    let l2 = laid_then (decimal c.size-n.result) l1 c.put_number.ensures.answer c.put_number.ensures.written in
    rw minus (record { answer = l2.place; written = l2.is })

pub returns : goal.returns
returns c =
    let plain : signed c.args.v ≡ decimal c.size-n.result = above c.args.v c.size-n.result (rw (to_z-of_z c.ranges.v) at c.if-v-lt0.false) (c.size-n.ensures.answer ∙ ap nat_abs (to_z-of_z c.ranges.v)) in
    rw plain (record { answer = c.put_number-2.ensures.answer; written = c.put_number-2.ensures.written })
