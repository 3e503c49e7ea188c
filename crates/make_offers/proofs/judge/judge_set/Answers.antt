-- `judge::judge_set` meets its contract: the ways are those of `Judged`. What No. 1 and No. 10 leave true of the set is what the walk asks, and the excesses beside the windows
-- are the windows' own. Assumes nothing.
use mathlib.Core.Path.{ap, refl, ◌≡◌, ◌∙◌}
use mathlib.Core.Bool.{not, Bool, true, false}
use native.Mathlib.Omega.{arith}
use lib.ListN.{length}
use Rattle.lists.specs.Ranges.{bad_sides_value}
use Rattle.lists.proofs.BoolLaws.{or_right, asked_bad, asked_good}
use Rattle.windows.specs.Set.{layout_of, set_of, Stored, stored_of}
use Rattle.windows.specs.Fit.{Fits, bad_stored, unfit}
use Rattle.windows.proofs.WeightLaws.{length_values}
use Rattle.excesses.proofs.StoredLaws.{excess_count}
use Rattle.repairs.specs.Answer.{first_lacking}
use Rattle.repairs.proofs.Judged.{answered_1, answered_7, answered_10, answered_14, answered_0, slots_fit, whole, inside, lacking_is}
use Rattle.make_offers.proofs.judge.judge_set.Goals as goal

pub returns-then-not-sides_fit : goal.returns-then-not-sides_fit
returns-then-not-sides_fit g c =
    let set : Stored = stored_of (set_of (layout_of c.args.lines c.args.window_size c.args.starts.now c.args.sizes.now) (g.W.Weight.values c.args.weights.now)) c.args.precision c.args.excesses.now in
    let wrongSides : Bool = bad_sides_value c.args.lines (length c.args.starts.now) in
    record { answer = answered_1 g.W.Weight.STORE set c.args.room (asked_bad wrongSides c.sides_fit.ensures.answer (ap not c.if-not-sides_fit.true)) }

pub overflow_mul-starts : goal.overflow_mul-starts
overflow_mul-starts g c =
    let wrongSides : Bool = bad_sides_value c.args.lines (length c.args.starts.now) in
    let sides : wrongSides ≡ false = asked_good wrongSides c.sides_fit.ensures.answer (ap not c.if-not-sides_fit.false) in
    record { fits = slots_fit c.args.lines (length c.args.starts.now) c.args.window_size sides c.ranges.window_size.fits }

pub returns-then-room-starts : goal.returns-then-room-starts
returns-then-room-starts g c =
    let set : Stored = stored_of (set_of (layout_of c.args.lines c.args.window_size c.args.starts.now c.args.sizes.now) (g.W.Weight.values c.args.weights.now)) c.args.precision c.args.excesses.now in
    let wrongSides : Bool = bad_sides_value c.args.lines (length c.args.starts.now) in
    let sides : wrongSides ≡ false = asked_good wrongSides c.sides_fit.ensures.answer (ap not c.if-not-sides_fit.false) in
    record { answer = answered_7 g.W.Weight.STORE set c.args.room sides c.if-room-starts.true }

pub returns-then-not-stored_fits : goal.returns-then-not-stored_fits
returns-then-not-stored_fits g c =
    let set : Stored = stored_of (set_of (layout_of c.args.lines c.args.window_size c.args.starts.now c.args.sizes.now) (g.W.Weight.values c.args.weights.now)) c.args.precision c.args.excesses.now in
    let wrong : Bool = bad_stored set g.W.Weight.STORE in
    let wrongSides : Bool = bad_sides_value c.args.lines (length c.args.starts.now) in
    let sides : wrongSides ≡ false = asked_good wrongSides c.sides_fit.ensures.answer (ap not c.if-not-sides_fit.false) in
    let good : wrongSides ≡ false = sides in
    let good = sides in
    let bad : wrong ≡ true = rw good at (asked_bad (unfit set g.W.Weight.STORE) c.stored_fits.ensures.answer (ap not c.if-not-stored_fits.true)) in
    record { answer = answered_10 g.W.Weight.STORE set c.args.room good c.if-room-starts.false bad }

pub first_lacking-line-requires : goal.first_lacking-line-requires
first_lacking-line-requires g c =
    let set : Stored = stored_of (set_of (layout_of c.args.lines c.args.window_size c.args.starts.now c.args.sizes.now) (g.W.Weight.values c.args.weights.now)) c.args.precision c.args.excesses.now in
    let wrongSides : Bool = bad_sides_value c.args.lines (length c.args.starts.now) in
    let sides : wrongSides ≡ false = asked_good wrongSides c.sides_fit.ensures.answer (ap not c.if-not-sides_fit.false) in
    let good : wrongSides ≡ false = sides in
    let wrong : Bool = bad_stored set g.W.Weight.STORE in
    let fine : wrong ≡ false = or_right wrongSides wrong (asked_good (unfit set g.W.Weight.STORE) c.stored_fits.ensures.answer (ap not c.if-not-stored_fits.false)) in
    let fits : Fits set.set.layout (length set.set.weights) = whole g.W.Weight.STORE set good fine in
    let slots = length_values g.met.W.Weight.each c.args.weights.now in
    record { limit_bound = (rw c.STORE.ensures g.met.W.Weight.limit_small, excess_count set g.W.Weight.STORE fine ∙ fits.pairs); in_slots = rw slots at (inside g.W.Weight.STORE set good fine) }

pub returns-then-line-starts : goal.returns-then-line-starts
returns-then-line-starts g c =
    let set : Stored = stored_of (set_of (layout_of c.args.lines c.args.window_size c.args.starts.now c.args.sizes.now) (g.W.Weight.values c.args.weights.now)) c.args.precision c.args.excesses.now in
    let wrongSides : Bool = bad_sides_value c.args.lines (length c.args.starts.now) in
    let sides : wrongSides ≡ false = asked_good wrongSides c.sides_fit.ensures.answer (ap not c.if-not-sides_fit.false) in
    let good : wrongSides ≡ false = sides in
    let wrong : Bool = bad_stored set g.W.Weight.STORE in
    let fine : wrong ≡ false = or_right wrongSides wrong (asked_good (unfit set g.W.Weight.STORE) c.stored_fits.ensures.answer (ap not c.if-not-stored_fits.false)) in
    let found : c.first_lacking-line.result ≡ first_lacking g.W.Weight.STORE set = c.first_lacking-line.ensures.answer ∙ rw c.STORE.ensures refl ∙ lacking_is g.W.Weight.STORE set good fine in
    record { answer = rw found (answered_14 g.W.Weight.STORE set c.args.room good c.if-room-starts.false fine (rw found at c.if-line-starts.true)) }

pub returns : goal.returns
returns g c =
    let set : Stored = stored_of (set_of (layout_of c.args.lines c.args.window_size c.args.starts.now c.args.sizes.now) (g.W.Weight.values c.args.weights.now)) c.args.precision c.args.excesses.now in
    let wrongSides : Bool = bad_sides_value c.args.lines (length c.args.starts.now) in
    let sides : wrongSides ≡ false = asked_good wrongSides c.sides_fit.ensures.answer (ap not c.if-not-sides_fit.false) in
    let good : wrongSides ≡ false = sides in
    let wrong : Bool = bad_stored set g.W.Weight.STORE in
    let fine : wrong ≡ false = or_right wrongSides wrong (asked_good (unfit set g.W.Weight.STORE) c.stored_fits.ensures.answer (ap not c.if-not-stored_fits.false)) in
    let found : c.first_lacking-line.result ≡ first_lacking g.W.Weight.STORE set = c.first_lacking-line.ensures.answer ∙ rw c.STORE.ensures refl ∙ lacking_is g.W.Weight.STORE set good fine in
    record { answer = answered_0 g.W.Weight.STORE set c.args.room good c.if-room-starts.false fine (rw found at c.if-line-starts.false) }

pub overflow_cast-result : goal.overflow_cast-result
overflow_cast-result g c =
    let set : Stored = stored_of (set_of (layout_of c.args.lines c.args.window_size c.args.starts.now c.args.sizes.now) (g.W.Weight.values c.args.weights.now)) c.args.precision c.args.excesses.now in
    let wrongSides : Bool = bad_sides_value c.args.lines (length c.args.starts.now) in
    let sides : wrongSides ≡ false = asked_good wrongSides c.sides_fit.ensures.answer (ap not c.if-not-sides_fit.false) in
    let good : wrongSides ≡ false = sides in
    let wrong : Bool = bad_stored set g.W.Weight.STORE in
    let fine : wrong ≡ false = or_right wrongSides wrong (asked_good (unfit set g.W.Weight.STORE) c.stored_fits.ensures.answer (ap not c.if-not-stored_fits.false)) in
    let fits : Fits set.set.layout (length set.set.weights) = whole g.W.Weight.STORE set good fine in
    record { fits = omega (arith, c.if-line-starts.true, fits.few_windows) }
