-- `rows::rows`: the goals that the check leaves; the argument stands in Invariants.antt. Assumes nothing.
use mathlib.Core.Path.{refl}
use lib.ListN.{get_or}
use native.Mathlib.Omega.{arith}
use Rattle.vertical.proofs.Turns.{window_there}
use Rattle.vertical.proofs.RowTurns.{rows_none, rows_all, turn_few, turn_lines, turn_low, turn}
use Rattle.vertical_u16.proofs.rows.rows.Goals as goal

pub loop-i-init : goal.loop-i-init
loop-i-init c =
    let a = c.args in
    rows_none 65535 a.src.now a.row a.first a.count a.starts.now a.sizes.now a.window a.weights.now a.p a.out.now

pub overflow_mul-a : goal.overflow_mul-a
overflow_mul-a c = omega (arith, window_there _ _ _ _ _ _ _ _ _ c.requires.ready c.loop-i.i c.loop-i-test.true)

pub bounds-sizes-i : goal.bounds-sizes-i
bounds-sizes-i c = omega (arith, c.requires.ready.set.pairs)

pub overflow_add-e : goal.overflow_add-e
overflow_add-e c = (omega (arith, window_there _ _ _ _ _ _ _ _ _ c.requires.ready c.loop-i.i c.loop-i-test.true))

pub overflow_add-f : goal.overflow_add-f
overflow_add-f c = omega (arith, window_there _ _ _ _ _ _ _ _ _ c.requires.ready c.loop-i.i c.loop-i-test.true, c.loop-i.invariant.1)

pub overflow_mul-at : goal.overflow_mul-at
overflow_mul-at c = (omega (arith, window_there _ _ _ _ _ _ _ _ _ c.requires.ready c.loop-i.i c.loop-i-test.true))

pub overflow_add-at : goal.overflow_add-at
overflow_add-at c = (omega (arith, window_there _ _ _ _ _ _ _ _ _ c.requires.ready c.loop-i.i c.loop-i-test.true))

pub offset_bounds-weights-a : goal.offset_bounds-weights-a
offset_bounds-weights-a c = omega (arith, window_there _ _ _ _ _ _ _ _ _ c.requires.ready c.loop-i.i c.loop-i-test.true)

pub slice_bounds-fill-end : goal.slice_bounds-fill-end
slice_bounds-fill-end c = omega (arith, window_there _ _ _ _ _ _ _ _ _ c.requires.ready c.loop-i.i c.loop-i-test.true)

pub offset_bounds-out-o : goal.offset_bounds-out-o
offset_bounds-out-o c = omega (arith, window_there _ _ _ _ _ _ _ _ _ c.requires.ready c.loop-i.i c.loop-i-test.true, c.loop-i.invariant.1)

pub fill-requires : goal.fill-requires
fill-requires c =
    let a = c.args in
    let h = c.loop-i-test.true in
    let Z = get_or a.sizes.now c.loop-i.i 0 in
    let S = get_or a.starts.now c.loop-i.i 0 in
    record { le_p = c.requires.le_p; row_bound = c.requires.ready.narrow; ws_len_bound = turn_few 65535 a.src.now a.row a.first a.count a.starts.now a.sizes.now a.window a.weights.now a.p a.out.now c.requires.ready c.loop-i.i c.loop-i.o c.loop-i.out c.loop-i.invariant h Z S refl refl; by_index = turn_lines 65535 a.src.now a.row a.first a.count a.starts.now a.sizes.now a.window a.weights.now a.p a.out.now c.requires.ready c.loop-i.i c.loop-i.o c.loop-i.out c.loop-i.invariant h Z S refl refl; out_bound = turn_low 65535 a.src.now a.row a.first a.count a.starts.now a.sizes.now a.window a.weights.now a.p a.out.now c.requires.ready c.loop-i.i c.loop-i.o c.loop-i.out c.loop-i.invariant h Z S refl refl }

pub loop-i-preserved : goal.loop-i-preserved
loop-i-preserved c =
    let a = c.args in
    let Z = get_or a.sizes.now c.loop-i.i 0 in
    let S = get_or a.starts.now c.loop-i.i 0 in
    turn 65535 a.src.now a.row a.first a.count a.starts.now a.sizes.now a.window a.weights.now a.p a.out.now c.requires.ready c.loop-i.i c.loop-i.o c.loop-i.out c.loop-i.invariant c.loop-i-test.true Z S refl refl c.fill.ensures.written

pub returns : goal.returns
returns c =
    let a = c.args in
    rows_all 65535 a.src.now a.row a.first a.count a.starts.now a.sizes.now a.window a.weights.now a.p a.out.now c.requires.ready c.loop-i.i c.loop-i.o c.loop-i.out c.loop-i.invariant (omega arith)
