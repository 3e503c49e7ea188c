-- Several rows are `several`'s; of one row alone the samples follow one another, and `row_u16` fills them. Assumes nothing.
use mathlib.Core.Path.{◌≡◌}
use Prim.Native.Nat.{ℕ, ◌+◌, ◌*◌, ◌-◌, ◌≤◌}
use native.Mathlib.Nat.{one-mul}
use native.Mathlib.Omega.{arith}
use lib.ListN.{length, take, drop}
use Rattle.lists.proofs.StoreLaws.{part_size}
use Rattle.pixels_u16.proofs.BlockLaws.{last_in, pixel_put}
use Rattle.pixels_u16.proofs.blocks.pixels.Goals as goal

pub several-requires : goal.several-requires
several-requires c =
    let q = c.requires.le_components in
    let m = c.requires.n_value.0 c.if-n-gt1.true in
    record { le_p = c.requires.le_p; le_components = (q.0, q.1, omega (arith, q.2), q.3, q.5, m.0); ws_len_bound = m.1; by_index = c.requires.by_index; by_index_2 = c.requires.by_index_2 }

pub returns-then-n-gt1 : goal.returns-then-n-gt1
returns-then-n-gt1 c = c.several.ensures

-- of one row, the samples that are read and the places that are written end in their lists
one : (n components : ℕ) → n ≤ 1 → 1 ≤ n → n * components ≡ components
one n components h k = let e : n ≡ 1 = omega arith in rw (e, one-mul components)

pub slice_bounds-fill-end : goal.slice_bounds-fill-end
slice_bounds-fill-end c =
    let a = c.args in
    let e = one a.n a.components c.if-n-gt1.false c.requires.n_value.1 in
    omega (arith, last_in a.o a.components a.wide (length a.out.now) c.requires.le_components.0 (λ t l. c.requires.by_index_2 t (rw e l)))

pub fill-requires : goal.fill-requires
fill-requires c =
    let a = c.args in
    let e = one a.n a.components c.if-n-gt1.false c.requires.n_value.1 in
    let room = last_in a.o a.components a.wide (length a.out.now) c.requires.le_components.0 (λ t l. c.requires.by_index_2 t (rw e l)) in
    let long = part_size a.out.now a.o a.components room in
    record { le_p = c.requires.le_p; row_bound = omega (arith, c.requires.le_components); ws_len_bound = c.requires.le_components.4; by_index = (λ k h. rw long (last_in (a.at + k * a.components) a.components a.row (length a.src.now) c.requires.le_components.0 (λ t l. c.requires.by_index k h t (rw e l)))); out_bound = rw long (omega (arith, c.requires.le_components)) }

pub returns : goal.returns
returns c =
    let a = c.args in
    let e = one a.n a.components c.if-n-gt1.false c.requires.n_value.1 in
    let room = last_in a.o a.components a.wide (length a.out.now) c.requires.le_components.0 (λ t l. c.requires.by_index_2 t (rw e l)) in
    pixel_put a.p a.ws.now a.src.now a.at a.components a.row a.o a.wide a.n a.out.now (length (take (a.o + a.components - a.o) (drop a.o a.out.now))) (a.o + a.components - a.o)
    (part_size a.out.now a.o a.components room) (omega arith) room e c.fill.ensures.written
