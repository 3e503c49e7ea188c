-- `judge::some_heavy`: the goals that the check leaves; the argument stands in Invariants.antt. Assumes nothing.
use mathlib.Core.Path.{◌≡◌, refl}
use Prim.Native.Nat.{ℕ, ◌-◌, ◌≤◌, ◌<◌, ◌+◌, ◌*◌}
use native.Mathlib.Nat.{mul-le-mul}
use native.Mathlib.Numerals.{add-one}
use native.Mathlib.Omega.{arith}
use lib.ListN.{length, get_or}
use mathlib.Core.List.{List}
use Rattle.windows.specs.Fit.{InSlots}
use Rattle.lists.proofs.StoreLaws.{part_size}
use Rattle.vertical_u8.proofs.Slices.{slice_heavy}
use Rattle.vertical_u8.proofs.judge.some_heavy.Goals as goal

-- few slots stand before a window's
low : (sizes : List ℕ) (window slots i : ℕ) → InSlots window sizes slots → i < length sizes → i * window ≤ 8192 * 32769
low sizes window slots i r h = let few : i ≤ 8192 = omega (arith, r.many) in mul-le-mul few r.wide

pub loop-i-init : goal.loop-i-init
loop-i-init c = refl

pub overflow_mul-a : goal.overflow_mul-a
overflow_mul-a c = omega (arith, low c.args.sizes.now _ _ c.loop-i.i c.requires.in_slots c.loop-i-test.true)

pub overflow_add-e : goal.overflow_add-e
overflow_add-e c =
    let h = c.loop-i-test.true in
    (omega (arith, low c.args.sizes.now _ _ c.loop-i.i c.requires.in_slots h, c.requires.in_slots.few c.loop-i.i h))

pub offset_bounds-weights-a : goal.offset_bounds-weights-a
offset_bounds-weights-a c = omega (arith, low c.args.sizes.now _ _ c.loop-i.i c.requires.in_slots c.loop-i-test.true)

pub slice_bounds-is_heavy-end : goal.slice_bounds-is_heavy-end
slice_bounds-is_heavy-end c = omega (arith, c.requires.in_slots.there c.loop-i.i c.loop-i-test.true)

pub is_heavy-bad-requires : goal.is_heavy-bad-requires
is_heavy-bad-requires c =
    let a = c.args in
    let lw = part_size a.weights.now (c.loop-i.i * a.window) (get_or a.sizes.now c.loop-i.i 0) (omega (arith, c.requires.in_slots.there c.loop-i.i c.loop-i-test.true)) in
    record { le_p = c.requires.le_p; ws_len_bound = omega (arith, lw, c.requires.in_slots.few c.loop-i.i c.loop-i-test.true) }

pub loop-i-preserved : goal.loop-i-preserved
loop-i-preserved c =
    let a = c.args in
    let d : c.loop-i.i * a.window + (get_or a.sizes.now c.loop-i.i 0) - c.loop-i.i * a.window ≡ get_or a.sizes.now c.loop-i.i 0 = omega arith in
    let lw = part_size a.weights.now (c.loop-i.i * a.window) (get_or a.sizes.now c.loop-i.i 0) (omega (arith, c.requires.in_slots.there c.loop-i.i c.loop-i-test.true)) in
    rw (add-one, c.loop-i.invariant, slice_heavy a.window a.weights.now a.sizes.now a.p c.loop-i.i d lw c.is_heavy-bad.ensures) refl

pub returns : goal.returns
returns c =
    let all : c.loop-i.i ≡ length c.args.sizes.now = omega arith in
    rw (← all) c.loop-i.invariant
