-- `digits::passes` meets its contract: the division asks what the product would, without the product. Assumes nothing.
use mathlib.Core.Path.{◌≡◌, refl, sym}
use mathlib.Core.Bool.{Bool, true, false}
use Prim.Native.Nat.{ℕ, ◌+◌, ◌-◌, ◌*◌, ◌/◌, ◌≤◌, ◌<◌}
use native.Mathlib.Nat.{div-lt_iff_lt-mul, le-div_iff_mul-le}
use native.Mathlib.Omega.{arith}
use lib.Dec.{ltb}
use borrow.Author.Rules.{rules}
use borrow.Author.Tests.{lt-ltb, le-ltb, ltb-true, ltb-false}
use Rattle.numerals.proofs.digits.passes.Goals as goal

above : (v base d most : ℕ) → 0 < base → d ≤ most → ltb ((most - d) / base) v ≡ ltb most (v * base + d)
above v base d most some h = by (ltb ((most - d) / base) v) refl
  where
    by : (b : Bool) → ltb ((most - d) / base) v ≡ b → b ≡ ltb most (v * base + d)
    by true q =
        let l = (div-lt_iff_lt-mul {k = base} {x = most - d} {y = v} some).0 (ltb-true ((most - d) / base) v q) in
        sym (lt-ltb most (v * base + d) (omega (arith, l, h)))
    by false q =
        let l = (le-div_iff_mul-le {k = base} {x = v} {y = most - d} some).0 (ltb-false ((most - d) / base) v q) in
        sym (le-ltb most (v * base + d) (omega (arith, l, h)))

pub returns-then-most-d : goal.returns-then-most-d
returns-then-most-d c =
    let a = c.args in
    record { answer = sym (lt-ltb a.most (a.v * a.base + a.d) (omega (arith, c.if-most-d.true))) }

pub returns : goal.returns
returns c =
    let a = c.args in
    record { answer = above a.v a.base a.d a.most c.requires (search rules) }
