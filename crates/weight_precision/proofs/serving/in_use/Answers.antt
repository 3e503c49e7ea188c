-- `in_use`: slot k is in window k / window, which is there since k is below windows x window size. Assumes nothing.
use Rattle.std.proofs.Common.{◌/◌, length, arith, rules}
use Rattle.weight_precision.proofs.Slots.{window_of}
use Rattle.weight_precision.proofs.serving.in_use.Goals as goal

pub offset_bounds-sizes-k : goal.offset_bounds-sizes-k
offset_bounds-sizes-k c = let l = window_of c.args.k (length c.args.sizes.now) c.args.window_size c.requires.fact_1 c.requires.fact_2 in search rules

pub bounds-sizes-k : goal.bounds-sizes-k
bounds-sizes-k c = window_of c.args.k (length c.args.sizes.now) c.args.window_size c.requires.fact_1 c.requires.fact_2

pub overflow_cast-result : goal.overflow_cast-result
overflow_cast-result c = record { fits = omega (arith, (c.type_inv.sizes (c.args.k / c.args.window_size)).fits) }
