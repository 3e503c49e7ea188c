-- What the premises of `rows` give at one window: `WindowThere` of `vertical`, and that the window's weights and samples are small enough. Assumes nothing.
use mathlib.Core.Path.{◌≡◌, sym, ap, ◌∙◌, subst}
use mathlib.Core.List.{List}
use Prim.Native.Nat.{ℕ, ◌+◌, ◌*◌, ◌^◌, ◌<◌}
use native.Mathlib.Nat.{add-mul}
use native.Mathlib.Omega.{arith}
use lib.ListN.{length, get_or, take, drop, length-take, length-drop}
use lib.Seq.{get_or-take, get_or-drop}
use lib.Ieee.{Float, nan}
use Rattle.floats.specs.Within.{AtMost}
use Rattle.vertical.specs.Ready.{Ready}
use Rattle.vertical.proofs.Turns.{WindowThere, window_there}
use Rattle.row_f32.specs.Column.{Summable}
use Rattle.finite_f32.specs.Scan.{SmallSamples, SmallWeights}

module _ (src : List Float) (row first count : ℕ) (starts sizes : List ℕ) (window : ℕ) (weights : List Float) (room : ℕ)
    (r : Ready (length src) row first count starts sizes window (length weights) room) (heavy : SmallWeights starts sizes window weights) (light : SmallSamples src row first count starts sizes)
    (i : ℕ) (h : i < length starts) where
  pub there_here : WindowThere (length src) row first count starts sizes window (length weights) room i
  there_here = window_there (length src) row first count starts sizes window (length weights) room r i h

  long : length (take (get_or sizes i 0) (drop (i * window) weights)) ≡ get_or sizes i 0
  long = simp (length-take, length-drop) (omega (arith, there_here.weights))

  swap : (A K f t : ℕ) → A + K + f + t ≡ A + f + K + t
  swap A K f t = omega arith

  here : (k t : ℕ) → (get_or starts i 0 + k) * row + first + t ≡ get_or starts i 0 * row + first + k * row + t
  here k t = ap (λ (y : ℕ). y + first + t) (add-mul (get_or starts i 0) k row) ∙ swap (get_or starts i 0 * row) (k * row) first t

  weight : (k : ℕ) → k < get_or sizes i 0 → get_or (take (get_or sizes i 0) (drop (i * window) weights)) k nan ≡ get_or weights (i * window + k) nan
  weight k g = get_or-take (get_or sizes i 0) (drop (i * window) weights) k nan g ∙ get_or-drop (i * window) weights k nan

  inside : (k : ℕ) → k < length (take (get_or sizes i 0) (drop (i * window) weights)) → k < get_or sizes i 0
  inside k g = subst (λ (n : ℕ). k < n) long g

  pub summable_here : Summable (take (get_or sizes i 0) (drop (i * window) weights)) src (get_or starts i 0 * row + first) row count
  summable_here = record {
    few = omega (arith, long, there_here.few);
    rows = r.narrow;
    there = λ k g. there_here.lines k (inside k g);
    heavy = λ k g. subst (λ (x : Float). AtMost x (2 ^ 64)) (sym (weight k (inside k g))) (heavy i h k (inside k g));
    light = λ k t g u. subst (λ (y : ℕ). AtMost (get_or src y nan) (2 ^ 128)) (here k t) (light i h k (inside k g) t u);
  }
