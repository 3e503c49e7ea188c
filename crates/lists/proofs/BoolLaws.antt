-- Rows of tests: a `|` of tests that failed, an `&` of tests that held, and a ladder of refusals that did not refuse. Cited wherever a judge's answer is taken apart.
-- Assumes nothing.
use mathlib.Core.Path.{◌≡◌, refl, sym}
use mathlib.Core.Bool.{Bool, true, false, not, cond, ◌||◌, ◌&&◌}
use Prim.Native.Nat.{ℕ}
use native.Mathlib.Omega.{arith}
use lib.Dec.{T}

-- the two truth values differ, so anything follows where they are said to be equal
pub never : {A : Type 0} → true ≡ false → A
never h = let z : ◌≡◌ {A = ℕ} 0 1 = cc in absurd (omega arith)

-- a `|` failed: each side failed
pub or_left : (a b : Bool) → a || b ≡ false → a ≡ false
or_left true b h = h
or_left false b h = refl

pub or_right : (a b : Bool) → a || b ≡ false → b ≡ false
or_right true b h = never h
or_right false b h = h

-- an `&` held: each side held
pub and_left : (a b : Bool) → a && b ≡ true → a ≡ true
and_left true b h = refl
and_left false b h = never (sym h)

pub and_right : (a b : Bool) → a && b ≡ true → b ≡ true
and_right true b h = h
and_right false b h = never (sym h)

-- one side of a `|` is enough
pub or_first : (a b : Bool) → T a → T (a || b)
or_first true b t = tt
or_first false b t = absurd t

-- a ladder gave b, and its first rung would have given another answer: the first test failed, and the rest gave b
pub ladder : {A : Type 0} (t : Bool) {a r b : A} → (a ≡ b → ⊥) → cond t a r ≡ b → (t ≡ false) × (r ≡ b)
ladder true other h = absurd (other h)
ladder false other h = (refl, h)

-- a judge said r, which is `not b`, and code asked `!r`: whether b held
pub asked_bad : (b : Bool) {r : Bool} → r ≡ not b → not r ≡ true → b ≡ true
asked_bad true e h = refl
asked_bad false e h = rw e at h

pub asked_good : (b : Bool) {r : Bool} → r ≡ not b → not r ≡ false → b ≡ false
asked_good true e h = rw e at h
asked_good false e h = refl
