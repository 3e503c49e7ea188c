-- `ends::shifted` meets its contract: total and half are far below 2^63, so their sum does not wrap, and the shift rounds down. Assumes nothing.
use mathlib.Core.Path.{◌∙◌}
use Prim.Native.Nat.{◌^◌, ◌≤◌}
use native.Mathlib.Omega.{arith}
use lib.IntN.{nat_abs}
use mir.Facts.{to_z-of_z}
use Rattle.vertical.proofs.ReadBack.{back64 as back}
use Rattle.excesses.proofs.SumLaws.{add_fits, add_is}
use Rattle.story_ends.proofs.ends.shifted.Goals as goal

pub overflow_add-t : goal.overflow_add-t
overflow_add-t c =
    let total : nat_abs c.args.t ≤ 2 ^ 62 = omega (arith, c.requires.1) in
    let half : nat_abs c.args.h ≤ 2 ^ 46 = omega (arith, c.requires.2) in
    add_fits (to_z-of_z c.ranges.t) (to_z-of_z c.ranges.h) total half

pub returns : goal.returns
returns c =
    let total : nat_abs c.args.t ≤ 2 ^ 62 = omega (arith, c.requires.1) in
    let half : nat_abs c.args.h ≤ 2 ^ 46 = omega (arith, c.requires.2) in
    record { answer = back c.shift.type_inv ∙ c.shift.ensures.answer ∙ rw (add_is (to_z-of_z c.ranges.t) (to_z-of_z c.ranges.h) total half) }
