-- `strips::strip`: the goals that the check leaves; the argument stands in Invariants.antt. Assumes nothing.
use mathlib.Core.Path.{◌≡◌, refl, ◌∙◌}
use Prim.Native.Nat.{◌+◌, ◌*◌, ◌^◌, ◌≤◌}
use native.Mathlib.Nat.{mul-le-mul}
use native.Mathlib.Omega.{arith}
use lib.ListN.{length, get_or}
use Rattle.lists.proofs.TabLaws.{row_next}
use Rattle.vertical.proofs.Turns.{window_there}
use Rattle.pixels_u16.proofs.BlockLaws.{in_rows}
use Rattle.pixels_u16.proofs.StripLaws.{windows_none, windows_more, windows_all, slots_size}
use Rattle.pixels_u16.proofs.strips.strip.Goals as goal

pub overflow_mul-across : goal.overflow_mul-across
overflow_mul-across c =
    omega (arith, mul-le-mul c.requires.ready.set.few_windows c.requires.le_components.1)

pub loop-i-init : goal.loop-i-init
loop-i-init c =
    let a = c.args in (
      omega arith,
      refl,
      windows_none a.src.now a.a a.components a.row a.weights.now a.starts.now a.sizes.now a.window a.p a.out.now a.b a.n,
    )

pub overflow_mul-f : goal.overflow_mul-f
overflow_mul-f c = omega (arith, window_there _ _ _ _ _ _ _ _ _ c.requires.ready c.loop-i.i c.loop-i-test.true)

pub bounds-sizes-i : goal.bounds-sizes-i
bounds-sizes-i c = omega (arith, c.requires.ready.set.pairs)

pub overflow_add-e : goal.overflow_add-e
overflow_add-e c = (omega (arith, window_there _ _ _ _ _ _ _ _ _ c.requires.ready c.loop-i.i c.loop-i-test.true))

pub overflow_mul-at : goal.overflow_mul-at
overflow_mul-at c = (omega (arith, c.requires.ready.set.ends c.loop-i.i c.loop-i-test.true, window_there _ _ _ _ _ _ _ _ _ c.requires.ready c.loop-i.i c.loop-i-test.true))

pub overflow_add-at : goal.overflow_add-at
overflow_add-at c = (omega (arith, c.requires.ready.set.ends c.loop-i.i c.loop-i-test.true, window_there _ _ _ _ _ _ _ _ _ c.requires.ready c.loop-i.i c.loop-i-test.true, c.requires.row_in_bounds))

pub offset_bounds-weights-f : goal.offset_bounds-weights-f
offset_bounds-weights-f c = omega (arith, window_there _ _ _ _ _ _ _ _ _ c.requires.ready c.loop-i.i c.loop-i-test.true)

pub slice_bounds-pixels-end : goal.slice_bounds-pixels-end
slice_bounds-pixels-end c = omega (arith, window_there _ _ _ _ _ _ _ _ _ c.requires.ready c.loop-i.i c.loop-i-test.true)

pub pixels-requires : goal.pixels-requires
pixels-requires c =
    let a = c.args in
    let h = c.loop-i-test.true in
    let w = window_there _ _ _ _ _ _ _ _ _ c.requires.ready c.loop-i.i c.loop-i-test.true in
    let Z = get_or a.sizes.now c.loop-i.i 0 in
    let S = get_or a.starts.now c.loop-i.i 0 in
    let few = slots_size a.src.now a.a a.components a.row a.weights.now a.starts.now a.sizes.now a.window a.p a.out.now a.b a.n c.loop-i.i c.loop-i.out c.loop-i.invariant.2 h Z S refl refl w.weights in
    let inside = c.requires.row_in_bounds in
    let first : S * a.components ≤ 2 ^ 28 = w.first_line in
    record { le_p = c.requires.le_p; le_components = (c.requires.le_components.0, c.requires.le_components.1, omega (arith, inside), omega (arith, inside, c.loop-i.invariant.0, w.outputs, w.outputs_few), omega (arith, few, w.few), omega (arith, w.outputs_few)); n_value = ((λ m. ((c.requires.n_value.0 m).0, omega (arith, few, c.requires.ready.set.small c.loop-i.i h, (c.requires.n_value.0 m).1))), c.requires.n_value.1); by_index = (λ k hk t ht. in_rows (a.a + S * a.components + k * a.components) a.a (S * a.components + k * a.components) a.components a.row a.n t (length a.src.now) (omega arith) ((omega (arith, w.lines k (omega (arith, few))))) inside.0 c.requires.le_components.0 ht); by_index_2 = λ t ht. rw c.loop-i.invariant.1 (in_rows c.loop-i.o a.b (c.loop-i.i * a.components) a.components (length a.starts.now * a.components) a.n t (length a.out.now) c.loop-i.invariant.0 w.outputs inside.2 c.requires.le_components.0 ht) }

pub overflow_add-o : goal.overflow_add-o
overflow_add-o c = omega (arith, window_there _ _ _ _ _ _ _ _ _ c.requires.ready c.loop-i.i c.loop-i-test.true, c.requires.row_in_bounds, c.loop-i.invariant.0)

pub loop-i-preserved : goal.loop-i-preserved
loop-i-preserved c =
    let a = c.args in
    let h = c.loop-i-test.true in
    let Z = get_or a.sizes.now c.loop-i.i 0 in
    let S = get_or a.starts.now c.loop-i.i 0 in
    let r = c.pixels in (
      omega (arith, c.loop-i.invariant.0, row_next (c.loop-i.i * a.components) c.loop-i.i a.components refl),
      r.auto.out ∙ c.loop-i.invariant.1,
      windows_more a.src.now a.a a.components a.row a.weights.now a.starts.now a.sizes.now a.window a.p a.out.now a.b a.n c.loop-i.i c.loop-i.out c.loop-i.invariant.2 h Z S refl refl (window_there _ _ _ _ _ _ _ _ _ c.requires.ready c.loop-i.i c.loop-i-test.true).weights c.requires.le_components.0 c.loop-i.o c.loop-i.invariant.0 r.ensures,
    )

pub shape_of-out : goal.shape_of-out
shape_of-out c = c.loop-i.invariant.1

pub returns : goal.returns
returns c =
    let a = c.args in
    let all : c.loop-i.i ≡ length a.starts.now = omega arith in
    windows_all a.src.now a.a a.components a.row a.weights.now a.starts.now a.sizes.now a.window a.p a.out.now a.b a.n c.requires.le_components.0 c.loop-i.out (rw (← all) c.loop-i.invariant.2)
