-- `slots::write_offers`: the goals that the check leaves; the argument stands in Invariants.antt. Assumes nothing.
use mathlib.Core.Path.{◌≡◌, refl}
use Prim.Native.Nat.{◌+◌, ◌*◌, ◌-◌, ◌≤◌}
use native.Mathlib.Nat.{zero-mul}
use native.Mathlib.Omega.{arith}
use lib.IntN.{pos}
use lib.ListN.{length, get_or, take, drop}
use mir.Facts.{to_z-of_z}
use mir.Syntax.{w64}
use Rattle.lists.proofs.StoreLaws.{part_size}
use Rattle.lists.proofs.TabLaws.{row_next, written_none, written_row}
use Rattle.windows.proofs.WeightLaws.{length_values, values_part}
use Rattle.offer_windows.specs.Walks.{offered_in}
use Rattle.offer_windows.proofs.WalkLaws.{row_is, ends_within}
use Rattle.offer_windows.proofs.slots.write_offers.Goals as goal

pub loop-i-init : goal.loop-i-init
loop-i-init g c = (omega arith, rw zero-mul written_none)

pub loop-i-preserved : goal.loop-i-preserved
loop-i-preserved g c =
    let a = c.args in
    let i = c.loop-i.i in
    let each = g.met.W.Weight.each in
    let limit = g.W.Weight.STORE.limit in
    let ws = g.W.Weight.values a.weights.now in
    let ends : i * a.window + a.window ≤ length a.weights.now = ends_within a.window (length a.weights.now) (length a.sizes.now) i c.requires.0 (omega arith) in
    let part : length (take (i * a.window + a.window - i * a.window) (drop (i * a.window) c.loop-i.out)) ≡ a.window = part_size c.loop-i.out (i * a.window) a.window (omega (arith, ends, c.requires.2)) in
    let read = to_z-of_z {w = w64} (record { sfits = c.offer_window-arg-1.given }) in
    let row = row_is limit ws (get_or a.sizes.now i 0) (i * a.window) (length (take (i * a.window + a.window - i * a.window) (drop (i * a.window) c.loop-i.out))) a.window (get_or a.excesses.now i (pos 0)) c.offer_window.ensures.written read part in
    let room : i * a.window + a.window ≤ length (g.W.Weight.values a.out.now) = rw (length_values each a.out.now) (omega (arith, ends, c.requires.2)) in
    let more = written_row i a.window (i * a.window) (i * a.window + a.window - i * a.window) (offered_in limit a.window ws a.sizes.now a.excesses.now) c.loop-i.invariant.1 refl (omega arith) room row in
    (omega arith, rw (← row_next (i * a.window) i a.window refl, values_part each) more)
