-- `rows::rows`: the goals that the check leaves; the argument stands in Invariants.antt. Assumes nothing.
use mathlib.Core.Path.{◌≡◌, ◌∙◌, refl, sym, subst}
use Prim.Native.Nat.{ℕ, ◌<◌, ◌*◌, ◌+◌, ◌/◌, ◌^◌, zero-le}
use native.Mathlib.Omega.{arith}
use native.Mathlib.Nat.{not-suc-le-zero}
use borrow.Author.Count.{below_more}
use Rattle.lists.proofs.BoolLaws.{never}
use Rattle.lists.proofs.StoreLaws.{join}
use lib.ListN.{length, get_or}
use lib.Dec.{T}
use lib.Ieee.{Float, nan, binary32, of_bits}
use Rattle.lists.proofs.TabLaws.{row_end}
use Rattle.vertical_f32.proofs.Turns.{there_here, summable_here}
use Rattle.finite_f32.proofs.Lanes.{start_flags, start_zero, zero_flag}
use Rattle.floats.specs.Within.{AtMost}
use Rattle.row_f32.specs.Column.{window_value}
use Rattle.vertical_f32.proofs.rows.rows.Goals as goal

-- what lies below the window of a turn
below : (x i n j : ℕ) → x < i → j < n → x * n + j < i * n
below x i n j h k = omega (arith, row_end x i n h)

pub loop-i-init : goal.loop-i-init
loop-i-init c = (
  refl,
  (λ x h. absurd (not-suc-le-zero h)),
  refl,
  start_flags 4,
  zero_flag (of_bits binary32 0) start_zero,
  (λ p q x h. absurd (not-suc-le-zero h)),
)

pub overflow_mul-starts : goal.overflow_mul-starts
overflow_mul-starts c = (omega (arith, there_here _ _ _ _ _ _ _ _ _ c.requires.ready c.requires.small_weights c.requires.small_samples _ c.loop-i-test.true))

pub overflow_add-starts : goal.overflow_add-starts
overflow_add-starts c = (omega (arith, there_here _ _ _ _ _ _ _ _ _ c.requires.ready c.requires.small_weights c.requires.small_samples _ c.loop-i-test.true))

pub overflow_mul-i : goal.overflow_mul-i
overflow_mul-i c = omega (arith, there_here _ _ _ _ _ _ _ _ _ c.requires.ready c.requires.small_weights c.requires.small_samples _ c.loop-i-test.true)

pub bounds-sizes-i : goal.bounds-sizes-i
bounds-sizes-i c = omega (arith, c.requires.ready.set.pairs)

pub overflow_mul-i-in-loop-i : goal.overflow_mul-i-in-loop-i
overflow_mul-i-in-loop-i c = omega (arith, there_here _ _ _ _ _ _ _ _ _ c.requires.ready c.requires.small_weights c.requires.small_samples _ c.loop-i-test.true)

pub place-m-requires : goal.place-m-requires
place-m-requires c =
    let a = c.args in
    let t = there_here _ _ _ _ _ _ _ _ _ c.requires.ready c.requires.small_weights c.requires.small_samples _ c.loop-i-test.true in
    record { z0_len = (c.loop-i.invariant.2, c.loop-i.invariant.3); count_bound = ((omega (arith, t.first_line, t.columns)), t.weights, omega (arith, t.outputs, c.loop-i.invariant.0)); summable = (summable_here a.src.now a.row a.first a.count a.starts.now a.sizes.now a.window a.weights.now (length a.out.now) c.requires.ready c.requires.small_weights c.requires.small_samples c.loop-i.i c.loop-i-test.true) }

pub overflow_mul-i-in-loop-i-2 : goal.overflow_mul-i-in-loop-i-2
overflow_mul-i-in-loop-i-2 c = omega (arith, there_here _ _ _ _ _ _ _ _ _ c.requires.ready c.requires.small_weights c.requires.small_samples _ c.loop-i-test.true)

pub overflow_mul-count : goal.overflow_mul-count
overflow_mul-count c = omega (arith, there_here _ _ _ _ _ _ _ _ _ c.requires.ready c.requires.small_weights c.requires.small_samples _ c.loop-i-test.true)

pub rest-z-requires : goal.rest-z-requires
rest-z-requires c =
    let t = there_here _ _ _ _ _ _ _ _ _ c.requires.ready c.requires.small_weights c.requires.small_samples _ c.loop-i-test.true in
    (c.loop-i.invariant.4, omega (arith, t.outputs, c.loop-i.invariant.0, c.place-m.auto.out))

pub loop-i-preserved : goal.loop-i-preserved
loop-i-preserved c =
    let a = c.args in
    let n = c.place-m in
    let new = n.new.out in
    let Value : ℕ → ℕ → Float = window_value a.src.now a.row a.first a.starts.now a.sizes.now a.window a.weights.now in
    let here : (j : ℕ) → j < a.count → get_or new (c.loop-i.i * a.count + j) nan ≡ Value c.loop-i.i j = λ j g. n.ensures.by_index j g in (
      n.auto.out ∙ c.loop-i.invariant.0,
      below_more
          (λ (x : ℕ). (j : ℕ) → j < a.count → get_or new (x * a.count + j) nan ≡ Value x j)
          c.loop-i.i
          (λ x h j g. n.ensures.by_index_2 (x * a.count + j) (below x c.loop-i.i a.count j h g) ∙ c.loop-i.invariant.1 x h j g)
          here,
      n.ensures.result_len.0,
      n.ensures.result_len.1,
      c.rest-z.ensures.t.0,
      (λ p q. below_more
          (λ (x : ℕ). (j : ℕ) → j < a.count → AtMost (Value x j) (2 ^ 128))
          c.loop-i.i
          (c.loop-i.invariant.5 (n.ensures.result_len.2 p) (c.rest-z.ensures.t.1 q))
          (λ j g. join (λ (j : ℕ). j < a.count → AtMost (Value c.loop-i.i j) (2 ^ 128)) 0 (a.count / 16 * 16) a.count
          (λ y v h w. (n.ensures.at_most p y h))
          (λ y v h w. subst (λ (x : Float). AtMost x (2 ^ 128)) (here y w) (c.rest-z.ensures.small q y v h))
          j zero-le g g)),
    )

pub all_four-requires : goal.all_four-requires
all_four-requires c = c.loop-i.invariant.3

pub returns-then-not-all_four : goal.returns-then-not-all_four
returns-then-not-all_four c = record { by_index = (λ x h j g. c.loop-i.invariant.1 x (omega arith) j g); at_most = (λ e. never (sym e)) }

pub is_zero-requires : goal.is_zero-requires
is_zero-requires c = c.loop-i.invariant.4

pub returns : goal.returns
returns c =
    let zz = c.all_four.ensures (c.if-not-all_four.false) in
    record { by_index = (λ x h j g. c.loop-i.invariant.1 x (omega arith) j g); at_most = (λ e x h j g. c.loop-i.invariant.5 zz (subst T (sym (sym c.is_zero.ensures ∙ e)) tt) x (omega arith) j g) }
