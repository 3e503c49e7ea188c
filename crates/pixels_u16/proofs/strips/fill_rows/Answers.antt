-- `strips::fill_rows`: the goals that the check leaves; the argument stands in Invariants.antt. Assumes nothing.
use mathlib.Core.Path.{◌≡◌, refl, sym, ap, ◌∙◌}
use mathlib.Core.List.{List}
use Prim.Native.Nat.{ℕ, ◌+◌, ◌*◌, ◌-◌, ◌<◌, ◌≤◌}
use native.Mathlib.Nat.{mul-le-mul, mul-le-mul_right, add-mul, zero-add, not-suc-le-zero}
use native.Mathlib.Omega.{arith}
use lib.ListN.{length, get_or}
use lib.Seq.{ext_get_or}
use Rattle.lists.specs.Tab.{tab}
use Rattle.lists.proofs.TabLaws.{length_tab, get_d_tab}
use Rattle.pixels_u16.specs.Places.{at_once_value, row_values}
use Rattle.pixels_u16.proofs.OnceLaws.{Next, next}
use Rattle.pixels_u16.proofs.StripLaws.{strip_more}
use Rattle.pixels_u16.proofs.strips.fill_rows.Goals as goal

-- the rows from y on, n of them, are in the frame, and their places in the output
module _ (first count row y n across samples room : ℕ) (l : y + n ≤ count) (all : (first + count) * row ≤ samples) (full : room ≡ count * across) where
  rows_in : (first + y) * row + n * row ≤ samples
  rows_in =
      let k : first + y + n ≤ first + count = omega arith in
      omega (arith, add-mul (first + y) n row, mul-le-mul_right row k)

  places_in : y * across + n * across ≤ room
  places_in = omega (arith, add-mul y n across, mul-le-mul_right across l)

-- a turn of n rows
turn : (components window first count row across samples room y n a b : ℕ) → y < count → n ≡ at_once_value components window (count - y) → (first + count) * row ≤ samples → room ≡ count * across → a ≡ (first + y) * row → b ≡ y * across → Next components window (count - y) n × (a + n * row ≤ samples) × (b + n * across ≤ room)
turn components window first count row across samples room y n a b h e all full ea eb =
    let m = next components window (count - y) (omega arith) e in
    let l : y + n ≤ count = omega (arith, m.there) in
    (m, rw ea (rows_in first count row y n across samples room l all full), rw eb (places_in first count row y n across samples room l all full))

-- a list that has f everywhere
whole : (list : List ℕ) (f : ℕ → ℕ) (n : ℕ) → length list ≡ n → ((x : ℕ) → x < n → get_or list x 0 ≡ f x) → list ≡ tab 0 n f
whole list f n long each =
    ext_get_or 0 list (tab 0 n f) (long ∙ sym (length_tab 0 n f)) (λ x h. let l : x < n = omega arith in each x l ∙ sym (get_d_tab 0 n f x 0 l ∙ ap f (zero-add x)))

pub overflow_mul-across : goal.overflow_mul-across
overflow_mul-across c =
    omega (arith, mul-le-mul c.requires.ready.set.few_windows c.requires.le_components.1)

pub overflow_mul-a : goal.overflow_mul-a
overflow_mul-a c =
    omega (arith, c.requires.row_in_bounds, add-mul c.args.first c.args.count c.args.row)

pub loop-y-init : goal.loop-y-init
loop-y-init c = (omega arith, omega arith, omega arith, refl, λ x l. absurd (not-suc-le-zero l))

pub strip-requires : goal.strip-requires
strip-requires c =
    let t = turn _ _ _ _ _ _ _ _ _ _ _ _ c.loop-y-test.true c.at_once-n.ensures c.requires.row_in_bounds.0 c.requires.row_in_bounds.2 c.loop-y.invariant.1 c.loop-y.invariant.2 in
    record { le_p = c.requires.le_p; le_components = c.requires.le_components; ready = c.requires.ready; n_value = (t.0.several, t.0.some); row_in_bounds = (t.1, c.requires.row_in_bounds.1, rw c.loop-y.invariant.3 t.2, rw c.loop-y.invariant.3 c.requires.row_in_bounds.3) }

pub overflow_mul-a-in-loop-y : goal.overflow_mul-a-in-loop-y
overflow_mul-a-in-loop-y c = omega (arith, turn _ _ _ _ _ _ _ _ _ _ _ _ c.loop-y-test.true c.at_once-n.ensures c.requires.row_in_bounds.0 c.requires.row_in_bounds.2 c.loop-y.invariant.1 c.loop-y.invariant.2, c.requires.row_in_bounds)

pub overflow_add-a : goal.overflow_add-a
overflow_add-a c = omega (arith, turn _ _ _ _ _ _ _ _ _ _ _ _ c.loop-y-test.true c.at_once-n.ensures c.requires.row_in_bounds.0 c.requires.row_in_bounds.2 c.loop-y.invariant.1 c.loop-y.invariant.2, c.requires.row_in_bounds)

pub overflow_mul-b : goal.overflow_mul-b
overflow_mul-b c = omega (arith, turn _ _ _ _ _ _ _ _ _ _ _ _ c.loop-y-test.true c.at_once-n.ensures c.requires.row_in_bounds.0 c.requires.row_in_bounds.2 c.loop-y.invariant.1 c.loop-y.invariant.2, c.requires.row_in_bounds)

pub overflow_add-b : goal.overflow_add-b
overflow_add-b c = omega (arith, turn _ _ _ _ _ _ _ _ _ _ _ _ c.loop-y-test.true c.at_once-n.ensures c.requires.row_in_bounds.0 c.requires.row_in_bounds.2 c.loop-y.invariant.1 c.loop-y.invariant.2, c.requires.row_in_bounds)

pub overflow_add-y : goal.overflow_add-y
overflow_add-y c =
    let t = turn _ _ _ _ _ _ _ _ _ _ _ _ c.loop-y-test.true c.at_once-n.ensures c.requires.row_in_bounds.0 c.requires.row_in_bounds.2 c.loop-y.invariant.1 c.loop-y.invariant.2 in
    omega (arith, t.0.few, c.ranges.count)

pub loop-y-smaller : goal.loop-y-smaller
loop-y-smaller c =
    let t = turn _ _ _ _ _ _ _ _ _ _ _ _ c.loop-y-test.true c.at_once-n.ensures c.requires.row_in_bounds.0 c.requires.row_in_bounds.2 c.loop-y.invariant.1 c.loop-y.invariant.2 in
    omega (arith, t.0.some, t.0.there, c.loop-y-test.true)

pub loop-y-preserved : goal.loop-y-preserved
loop-y-preserved c =
    let a = c.args in
    let t = turn _ _ _ _ _ _ _ _ _ _ _ _ c.loop-y-test.true c.at_once-n.ensures c.requires.row_in_bounds.0 c.requires.row_in_bounds.2 c.loop-y.invariant.1 c.loop-y.invariant.2 in
    let r = c.strip in
    let n = c.at_once-n.result in (
      omega (arith, t.0.there),
      omega (arith, c.loop-y.invariant.1, add-mul (a.first + c.loop-y.y) n a.row),
      omega (arith, c.loop-y.invariant.2, add-mul c.loop-y.y n (length a.starts.now * a.components)),
      r.auto.out ∙ c.loop-y.invariant.3,
      strip_more a.src.now a.first a.components a.row a.weights.now a.starts.now a.sizes.now a.window a.p c.loop-y.a c.loop-y.b c.loop-y.y n c.loop-y.out r.new.out c.loop-y.invariant.1 c.loop-y.invariant.2 c.loop-y.invariant.4 r.ensures,
    )

pub shape_of-out : goal.shape_of-out
shape_of-out c = c.loop-y.invariant.3

pub returns : goal.returns
returns c =
    let a = c.args in
    let f = row_values a.src.now (a.first * a.row) a.components a.row a.starts.now a.sizes.now a.window a.weights.now a.p in
    let all : c.loop-y.y ≡ a.count = omega arith in
    record { written = whole c.loop-y.out f (a.count * (length a.starts.now * a.components)) (c.loop-y.invariant.3 ∙ c.requires.row_in_bounds.2) (λ x h. c.loop-y.invariant.4 x (rw (c.loop-y.invariant.2, all) h)) }
