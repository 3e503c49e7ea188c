-- `samples::samples_fit`: the goals that the check leaves; the argument stands in Invariants.antt. Assumes nothing.
use mathlib.Core.Path.{◌≡◌, subst}
use mathlib.Core.List.{List}
use Prim.Native.Nat.{ℕ, ◌^◌, ◌-◌, ◌≤◌, ◌<◌, ◌*◌, ◌+◌, ◌/◌, zero-le}
use native.Mathlib.Omega.{arith}
use borrow.Author.Count.{below_more}
use lib.Dec.{T}
use lib.ListN.{get_or}
use lib.Ieee.{Float, nan}
use lib.Ieee.Scale.{finite}
use Rattle.floats.specs.Within.{AtMost}
use Rattle.lists.proofs.StoreLaws.{join}
use Rattle.finite_f32.specs.Scan.{is_zero_value, Zeros, Small}
use Rattle.finite_f32.proofs.samples.samples_fit.Goals as goal

found : (src : List Float) (row first t a y : ℕ) → a ≤ y → T (finite (get_or src ((a + (y - a)) * row + first + t) nan)) → T (finite (get_or src (y * row + first + t) nan))
found src row first t a y h = subst (λ (z : ℕ). T (finite (get_or src (z * row + first + t) nan))) (back a y h)
  where
    back : (a y : ℕ) → a ≤ y → a + (y - a) ≡ y
    back a y h = omega arith

pub loop-i-preserved : goal.loop-i-preserved
loop-i-preserved c =
    let a = c.args in
    let A = get_or a.starts.now c.loop-i.i 0 in
    let B = c.resume-b.result in
    let E = A + get_or a.sizes.now c.loop-i.i 0 in
    let Z = c.lines16-m.result in
    let z = c.rests-z.result in
    let n = a.count / 16 in
    let up = c.resume-b.ensures in
    let P : ℕ → Type 0 = λ y. Small a.src.now (y * a.row + a.first) 0 a.count in
    let far : Zeros 16 Z → T (is_zero_value z) → (y : ℕ) → B ≤ y → y < E → Small a.src.now (y * a.row + a.first) 0 a.count = λ h k y p q. join (λ (t : ℕ). AtMost (get_or a.src.now (y * a.row + a.first + t) nan) (2 ^ 128)) 0 (n * 16) a.count (c.lines16-m.ensures.small h y p q) (c.rests-z.ensures.small k y p q) in
    let near : Zeros 16 Z → T (is_zero_value z) → (y : ℕ) → A ≤ y → y < B → Small a.src.now (y * a.row + a.first) 0 a.count = λ h k y p q. c.loop-i.invariant.3 (c.lines16-m.ensures.result_len.2 h) (c.rests-z.ensures.t_2.1 k) y (up.1 y p q).0 (up.1 y p q).1 in (
      c.lines16-m.ensures.result_len.0,
      c.lines16-m.ensures.result_len.1,
      c.rests-z.ensures.t_2.0,
      (λ h k. join P A B c.greater-hi.result (near h k) (λ y p q. far h k y p (c.greater-hi.ensures.2 y p q))),
      (λ h k. below_more (λ (x : ℕ). (j : ℕ) → j < get_or a.sizes.now x 0 → (t : ℕ) → t < a.count → AtMost (get_or a.src.now ((get_or a.starts.now x 0 + j) * a.row + a.first + t) nan) (2 ^ 128)) c.loop-i.i (c.loop-i.invariant.4 (c.lines16-m.ensures.result_len.2 h) (c.rests-z.ensures.t_2.1 k))
          (λ j m t u. join P A B E (near h k) (far h k) (get_or a.starts.now c.loop-i.i 0 + j) (omega arith) (omega arith) t zero-le u)),
      (λ f.
          let o = c.loop-i.invariant.5 (λ x m. f x (omega arith)) in
          let here : (y : ℕ) → B ≤ y → y < E → (t : ℕ) → t < a.count → T (finite (get_or a.src.now (y * a.row + a.first + t) nan)) = λ y p q t u. found a.src.now a.row a.first t (get_or a.starts.now c.loop-i.i 0) y (omega (arith, up.0)) (f c.loop-i.i (omega arith) (y - get_or a.starts.now c.loop-i.i 0) (omega (arith, up.0)) t u) in
          (c.lines16-m.ensures.zeros o.0 (λ y p q t v u. here y p q t (omega arith)), c.rests-z.ensures.t_3 o.1 (λ y p q t v u. here y p q t u))),
    )
