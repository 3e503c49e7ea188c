-- A row written through its part of the output: what stands before the part is kept, and the lanes are those of the row. Assumes nothing.
use mathlib.Core.Path.{◌≡◌, ◌∙◌, refl, sym, subst}
use Prim.Native.Nat.{ℕ, ◌-◌, ◌≤◌, ◌<◌, ◌+◌, ◌*◌, ◌/◌}
use native.Mathlib.Omega.{arith}
use lib.ListN.{length}
use lib.Ieee.{nan}
use Rattle.lists.proofs.StoreLaws.{part_size, part_here, part_low}
use Rattle.vertical_f32.proofs.rows.place.Goals as goal

pub fill-requires : goal.fill-requires
fill-requires c =
    let a = c.args in
    let d : a.a + a.size - a.a ≡ a.size = omega arith in
    let lo = part_size a.out.now a.o a.count c.requires.count_bound.2 in
    record { z0_len = c.requires.z0_len; summable = rw (lo, d) c.requires.summable; out_bound = omega (arith, lo, c.requires.count_bound.0) }

pub returns : goal.returns
returns c =
    let a = c.args in
    let n = c.fill in
    let lw = part_size a.ws.now a.a a.size c.requires.count_bound.1 in
    let lo = part_size a.out.now a.o a.count c.requires.count_bound.2 in
    let d : a.a + a.size - a.a ≡ a.size = omega arith in
    let f : a.o + (a.o + a.count - a.o) ≤ length a.out.now = omega (arith, c.requires.count_bound.2) in
    let s : length n.new.out ≡ a.o + a.count - a.o = n.auto.out ∙ omega (arith, lo) in
    record { by_index = (λ t h. part_here nan a.out.now n.new.out a.o (a.o + a.count - a.o) f s t (omega arith) ∙ (n.ensures.by_index t (omega (arith, lo)) ∙ rw (lw, d) refl)); by_index_2 = part_low nan a.out.now n.new.out a.o (a.o + a.count - a.o) f s; result_len = n.ensures.result_len; at_most = λ z t h. rw (lw, d) at (n.ensures.at_most z t (subst (λ (k : ℕ). t < k / 16 * 16) (sym lo) h)) }
