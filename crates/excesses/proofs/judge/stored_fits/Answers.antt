-- `judge::stored_fits` meets its contract: the shape is judged first, then the count of excesses, then each of them. Assumes nothing.
use mathlib.Core.Path.{ap, refl, ◌≡◌, ◌∙◌}
use mathlib.Core.Bool.{Bool, not}
use lib.ListN.{length}
use Rattle.lists.proofs.BoolLaws.{asked_good}
use Rattle.windows.specs.Set.{Stored, layout_of, set_of, stored_of}
use Rattle.windows.proofs.WeightLaws.{length_values}
use Rattle.excesses.specs.Slots.{bad_shape}
use Rattle.excesses.proofs.JudgeLaws.{in_their_slots}
use Rattle.excesses.proofs.judge.stored_fits.Goals as goal

pub some_differ-requires-clause-in_slots : goal.some_differ-requires-clause-in_slots
some_differ-requires-clause-in_slots g c =
    let weight = g.W.Weight in
    let set : Stored = stored_of (set_of (layout_of c.args.lines c.args.window_size c.args.starts.now c.args.sizes.now) (weight.values c.args.weights.now)) c.args.precision c.args.excesses.now in
    let shape : Bool = bad_shape weight.STORE set.set.layout (length set.set.weights) set.precision in
    let said : c.shape_fits.result ≡ not shape = c.shape_fits.ensures.answer ∙ rw (c.STORE.ensures, length_values g.met.W.Weight.each c.args.weights.now) refl in
    rw (length_values g.met.W.Weight.each c.args.weights.now) at (in_their_slots weight.STORE set (asked_good shape said (ap not c.if-not-shape_fits.false)))
