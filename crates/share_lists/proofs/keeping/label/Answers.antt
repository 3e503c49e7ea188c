-- `keeping::label` meets its contract: four stores in a row are a text laid (`laid_four`). Assumes nothing.
use Prim.Native.Nat.{◌+◌, ◌*◌}
use native.Mathlib.Omega.{arith}
use lib.ListN.{set, length-set}
use Rattle.share_lists.proofs.Laying.{laid_four, length_three}
use Rattle.share_lists.proofs.keeping.label.Goals as goal

pub bounds-numbers-at-2 : goal.bounds-numbers-at-2
bounds-numbers-at-2 c = omega (arith, length-set c.args.numbers.now (c.args.client * 5 + 1) c.args.lines, c.requires.fact_1)

pub bounds-numbers-at-3 : goal.bounds-numbers-at-3
bounds-numbers-at-3 c =
    let l = c.args.numbers.now in
    let a = c.args.client * 5 + 1 in
    omega (arith, length-set (set l a c.args.lines) (a + 1) c.args.held, length-set l a c.args.lines, c.requires.fact_1)

pub bounds-numbers-at-4 : goal.bounds-numbers-at-4
bounds-numbers-at-4 c =
    let l = c.args.numbers.now in
    let a = c.args.client * 5 + 1 in
    omega (arith, length_three l a (a + 1) (a + 2) c.args.lines c.args.held c.args.window, c.requires.fact_1)

pub returns : goal.returns
returns c = record { written = laid_four c.args.numbers.now (c.args.client * 5 + 1) c.args.lines c.args.held c.args.window c.args.precision }
