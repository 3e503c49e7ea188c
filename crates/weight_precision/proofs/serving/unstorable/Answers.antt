-- `unstorable`: where no weight is outside the bounds, none in use leaves its type (`none_leaves`). Assumes nothing.
use mathlib.Core.Bool.{not}
use mathlib.Core.Path.{ap}
use Rattle.std.proofs.Common.{refl, le-ltb, lt-ltb}
use Rattle.weight_precision.proofs.Bounds.{none_leaves}
use Rattle.weight_precision.proofs.serving.unstorable.Goals as goal

pub returns-then-p-lt4 : goal.returns-then-p-lt4
returns-then-p-lt4 c = rw (lt-ltb c.args.p 4 c.if-p-lt4.true) refl

pub returns-then-not-some_outside : goal.returns-then-not-some_outside
returns-then-not-some_outside c =
    let a = c.args in
    let none = none_leaves a.store c.requires.fact_1 a.p a.window_size a.weights.now a.sizes.now c.least.ensures c.most.ensures c.power.ensures c.some_outside.ensures (ap not c.if-not-some_outside.true) in
    rw (le-ltb a.p 4 c.if-p-lt4.false, none) refl

pub returns : goal.returns
returns c = rw (le-ltb c.args.p 4 c.if-p-lt4.false) c.some_leaves.ensures
