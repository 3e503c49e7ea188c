-- Above bits - 1 is at least bits; where bits is 0 no precision from 4 on is let through either way. Assumes nothing.
use mathlib.Core.Path.{◌≡◌, refl, ap, sym, ◌∙◌}
use mathlib.Core.Bool.{Bool, true, false, not, ◌||◌}
use Prim.Native.Nat.{ℕ, zero, suc, ◌-◌}
use native.Mathlib.Numerals.{unary_clauses}
use native.Mathlib.Omega.{arith}
use lib.Dec.{ltb, leb}
use borrow.Author.Tests.{ltb-false, lt-ltb, le-leb}
use Rattle.windows.proofs.precisions.precision_fits.Goals as goal

above : (bits p : ℕ) (low : Bool) → ltb p 4 ≡ low → low || leb bits p ≡ low || ltb (bits - 1) p
above bits p true h = refl
above zero p false h =
    let l = ltb-false p 4 h in
    le-leb 0 p (omega arith) ∙ sym (lt-ltb 0 p (omega (arith, l)))
above (suc bits) p false h = simp unary_clauses refl

-- src/precisions.rt
pub returns : goal.returns
returns c = record { answer = ap not (above c.args.store.bits c.args.precision (ltb c.args.precision 4) refl) }
