-- The forms of weights and windows: apart, and each can be completed. Cited by the scanners of windows. Assumes nothing.
use mathlib.Core.Bool.{Bool, true, false, cond}
use Prim.Native.Nat.{ℕ, suc, ◌≤◌, ◌<◌, ◌^◌}
use native.Mathlib.Omega.{arith}
use lib.Dec.{eqb}
use lib.IntN.{ℤ, pos}
use Rattle.scan.specs.Form.{Apart}
use Rattle.scan.specs.Number.{Inside, NoDigit}
use Rattle.scan.proofs.ApartLaws.{apart_signeds}
use Rattle.sheet_scan.specs.Lines.{weight_item}

end_plain : (b : Bool) → NoDigit (cond b 10 44)
end_plain true d l e = omega arith
end_plain false d l e = omega arith

pub item_plain : (size j : ℕ) → NoDigit (cond (eqb (suc j) size) 10 44)
item_plain size j = end_plain (eqb (suc j) size)

pub apart_item : (limit size : ℕ) → limit < 2 ^ 32 → (j : ℕ) → Apart (weight_item limit size j)
apart_item limit size small j = apart_signeds limit (cond (eqb (suc j) size) 10 44) (omega arith) (item_plain size j)

-- a weight of 0 can stand everywhere
pub item_zero : (limit size : ℕ) → 1 ≤ limit → (j : ℕ) → (v : ℤ) × Inside limit v
item_zero limit size l j = (pos 0, l)
