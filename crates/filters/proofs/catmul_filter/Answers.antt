-- `catmul_filter` meets its contract: a return for each line of `catmull_rom_of`, by the tests that led there. Assumes nothing.
use Rattle.filters.specs.Filters.{catmull_rom_of}
use Rattle.filters.proofs.catmul_filter.Goals as goal

pub returns-then-y : goal.returns-then-y
unfolding catmull_rom_of
returns-then-y c = record { answer = rw c.if-y.true }

pub returns-then-y-2 : goal.returns-then-y-2
unfolding catmull_rom_of
returns-then-y-2 c = record { answer = rw (c.if-y.false, c.if-y-2.true) }

pub returns : goal.returns
unfolding catmull_rom_of
returns c = record { answer = rw (c.if-y.false, c.if-y-2.false) }
