-- `story` meets its contract: each way out is one lemma of `Ways`, at the set that the lists make; what the tests said gives `tell` its premises. Assumes nothing.
use mathlib.Core.Path.{◌≡◌, sym, ap, ◌∙◌}
use mathlib.Core.Bool.{Bool, false, not}
use Prim.Native.Nat.{◌*◌, ◌<◌, ◌≤◌}
use native.Mathlib.Nat.{mul-le-mul}
use native.Mathlib.Omega.{arith}
use lib.Dec.{eqb}
use lib.ListN.{length}
use borrow.Author.Tests.{eqb-true, not-false}
use Rattle.lists.specs.Ranges.{outside, bad_sides_value}
use Rattle.lists.proofs.BoolLaws.{or_left, asked_bad, asked_good}
use Rattle.windows.specs.Set.{layout_of, set_of, Stored, stored_of, windows}
use Rattle.windows.specs.Store.{store32}
use Rattle.windows.specs.Fit.{bad_stored, Fits}
use Rattle.excesses.proofs.StoredLaws.{stored_fits, stored_precise}
use Rattle.vertical.specs.Frame.{bad_size, bad_frame}
use Rattle.vertical.proofs.Judges.{stored_bad, stored_good}
use Rattle.story.specs.Answer.{bad_place}
use Rattle.story.proofs.Ways.{side_refused, set_refused, frame_refused, place_refused, told, line_there, column_there, there}
use Rattle.story.proofs.story.Goals as goal

pub returns-then-not-size_fits : goal.returns-then-not-size_fits
returns-then-not-size_fits c =
    let asked : Stored = stored_of (set_of (layout_of c.args.lines c.args.window_size c.args.starts.now c.args.sizes.now) c.args.weights.now) c.args.precision c.args.excesses.now in
    let wrongSize : Bool = bad_size c.args.lines (windows asked.set.layout) c.args.row in
    let both = side_refused asked c.args.src.now c.args.row c.args.line.0 c.args.column c.args.out.now (asked_bad wrongSize c.size_fits.ensures.answer (ap not c.if-not-size_fits.true)) in record { answer = both.0; written = both.1 }

pub returns-then-not-stored_fits32 : goal.returns-then-not-stored_fits32
returns-then-not-stored_fits32 c =
    let asked : Stored = stored_of (set_of (layout_of c.args.lines c.args.window_size c.args.starts.now c.args.sizes.now) c.args.weights.now) c.args.precision c.args.excesses.now in
    let wrongSize : Bool = bad_size c.args.lines (windows asked.set.layout) c.args.row in
    let sized : wrongSize ≡ false = asked_good wrongSize c.size_fits.ensures.answer (ap not c.if-not-size_fits.false) in
    let size = sized in
    let both = set_refused asked c.args.src.now c.args.row c.args.line.0 c.args.column c.args.out.now size (stored_bad store32 asked c.args.row size c.stored_fits32.ensures.answer (ap not c.if-not-stored_fits32.true)) in record { answer = both.0; written = both.1 }

pub returns-then-not-fills : goal.returns-then-not-fills
returns-then-not-fills c =
    let asked : Stored = stored_of (set_of (layout_of c.args.lines c.args.window_size c.args.starts.now c.args.sizes.now) c.args.weights.now) c.args.precision c.args.excesses.now in
    let wrongSize : Bool = bad_size c.args.lines (windows asked.set.layout) c.args.row in
    let sized : wrongSize ≡ false = asked_good wrongSize c.size_fits.ensures.answer (ap not c.if-not-size_fits.false) in
    let stored : bad_stored asked store32 ≡ false = stored_good store32 asked c.args.row sized c.stored_fits32.ensures.answer (ap not c.if-not-stored_fits32.false) in
    let both = frame_refused asked c.args.src.now c.args.row c.args.line.0 c.args.column c.args.out.now sized stored (ap not (sym c.fills.ensures.answer) ∙ (ap not c.if-not-fills.true)) in record { answer = both.0; written = both.1 }

pub returns-then-misses : goal.returns-then-misses
returns-then-misses c =
    let asked : Stored = stored_of (set_of (layout_of c.args.lines c.args.window_size c.args.starts.now c.args.sizes.now) c.args.weights.now) c.args.precision c.args.excesses.now in
    let wrongSize : Bool = bad_size c.args.lines (windows asked.set.layout) c.args.row in
    let sized : wrongSize ≡ false = asked_good wrongSize c.size_fits.ensures.answer (ap not c.if-not-size_fits.false) in
    let stored : bad_stored asked store32 ≡ false = stored_good store32 asked c.args.row sized c.stored_fits32.ensures.answer (ap not c.if-not-stored_fits32.false) in
    let wrongFrame : Bool = bad_frame (length c.args.src.now) c.args.lines c.args.row in
    let framed : wrongFrame ≡ false = ap not (sym c.fills.ensures.answer) ∙ (ap not c.if-not-fills.false) in
    let both = place_refused asked c.args.src.now c.args.row c.args.line.0 c.args.column c.args.out.now sized stored framed (sym c.misses.ensures.answer ∙ c.if-misses.true) in record { answer = both.0; written = both.1 }

pub overflow_mul-from : goal.overflow_mul-from
overflow_mul-from c =
    let asked : Stored = stored_of (set_of (layout_of c.args.lines c.args.window_size c.args.starts.now c.args.sizes.now) c.args.weights.now) c.args.precision c.args.excesses.now in
    let wrongPlace : Bool = bad_place (windows asked.set.layout) c.args.row c.args.line.0 c.args.column in
    let placed : wrongPlace ≡ false = sym c.misses.ensures.answer ∙ c.if-misses.false in
    let line : c.args.line.0 < length c.args.starts.now = line_there (length c.args.starts.now) c.args.row c.args.line.0 c.args.column placed in
    let wrongSize : Bool = bad_size c.args.lines (windows asked.set.layout) c.args.row in
    let sized : wrongSize ≡ false = asked_good wrongSize c.size_fits.ensures.answer (ap not c.if-not-size_fits.false) in
    let stored : bad_stored asked store32 ≡ false = stored_good store32 asked c.args.row sized c.stored_fits32.ensures.answer (ap not c.if-not-stored_fits32.false) in
    let ready : Fits asked.set.layout (length c.args.weights.now) = stored_fits asked store32 stored (or_left (bad_sides_value c.args.lines (length c.args.starts.now)) (outside 1 32768 c.args.row) sized) in
    let f = ready in
    let few : c.args.line.0 ≤ 8192 = omega (arith, line, f.few_windows) in
    omega (arith, mul-le-mul few f.few_slots)

pub bounds-starts-i : goal.bounds-starts-i
bounds-starts-i c =
    let asked : Stored = stored_of (set_of (layout_of c.args.lines c.args.window_size c.args.starts.now c.args.sizes.now) c.args.weights.now) c.args.precision c.args.excesses.now in
    let wrongPlace : Bool = bad_place (windows asked.set.layout) c.args.row c.args.line.0 c.args.column in
    let placed : wrongPlace ≡ false = sym c.misses.ensures.answer ∙ c.if-misses.false in
    let line : c.args.line.0 < length c.args.starts.now = line_there (length c.args.starts.now) c.args.row c.args.line.0 c.args.column placed in
    line

pub bounds-sizes-i : goal.bounds-sizes-i
bounds-sizes-i c =
    let asked : Stored = stored_of (set_of (layout_of c.args.lines c.args.window_size c.args.starts.now c.args.sizes.now) c.args.weights.now) c.args.precision c.args.excesses.now in
    let wrongPlace : Bool = bad_place (windows asked.set.layout) c.args.row c.args.line.0 c.args.column in
    let placed : wrongPlace ≡ false = sym c.misses.ensures.answer ∙ c.if-misses.false in
    let line : c.args.line.0 < length c.args.starts.now = line_there (length c.args.starts.now) c.args.row c.args.line.0 c.args.column placed in
    let wrongSize : Bool = bad_size c.args.lines (windows asked.set.layout) c.args.row in
    let sized : wrongSize ≡ false = asked_good wrongSize c.size_fits.ensures.answer (ap not c.if-not-size_fits.false) in
    let stored : bad_stored asked store32 ≡ false = stored_good store32 asked c.args.row sized c.stored_fits32.ensures.answer (ap not c.if-not-stored_fits32.false) in
    let ready : Fits asked.set.layout (length c.args.weights.now) = stored_fits asked store32 stored (or_left (bad_sides_value c.args.lines (length c.args.starts.now)) (outside 1 32768 c.args.row) sized) in
    omega (arith, line, ready.pairs)

pub tell-requires : goal.tell-requires
tell-requires c =
    let asked : Stored = stored_of (set_of (layout_of c.args.lines c.args.window_size c.args.starts.now c.args.sizes.now) c.args.weights.now) c.args.precision c.args.excesses.now in
    let wrongSize : Bool = bad_size c.args.lines (windows asked.set.layout) c.args.row in
    let sized : wrongSize ≡ false = asked_good wrongSize c.size_fits.ensures.answer (ap not c.if-not-size_fits.false) in
    let stored : bad_stored asked store32 ≡ false = stored_good store32 asked c.args.row sized c.stored_fits32.ensures.answer (ap not c.if-not-stored_fits32.false) in
    let wrongFrame : Bool = bad_frame (length c.args.src.now) c.args.lines c.args.row in
    let framed : wrongFrame ≡ false = ap not (sym c.fills.ensures.answer) ∙ (ap not c.if-not-fills.false) in
    let wrongPlace : Bool = bad_place (windows asked.set.layout) c.args.row c.args.line.0 c.args.column in
    let placed : wrongPlace ≡ false = sym c.misses.ensures.answer ∙ c.if-misses.false in
    let line : c.args.line.0 < length c.args.starts.now = line_there (length c.args.starts.now) c.args.row c.args.line.0 c.args.column placed in
    let ready : Fits asked.set.layout (length c.args.weights.now) = stored_fits asked store32 stored (or_left (bad_sides_value c.args.lines (length c.args.starts.now)) (outside 1 32768 c.args.row) sized) in
    let p = stored_precise asked store32 stored in
    let frame = eqb-true (length c.args.src.now) (c.args.lines * c.args.row) (not-false (eqb (length c.args.src.now) (c.args.lines * c.args.row)) framed) in
    let column = column_there (length c.args.starts.now) c.args.row c.args.line.0 c.args.column placed in
    record { le_p = (omega (arith, p), p.most); there = there asked.set.layout (length c.args.weights.now) (length c.args.src.now) c.args.row c.args.line.0 c.args.column ready frame line column }

pub returns : goal.returns
returns c =
    let asked : Stored = stored_of (set_of (layout_of c.args.lines c.args.window_size c.args.starts.now c.args.sizes.now) c.args.weights.now) c.args.precision c.args.excesses.now in
    let wrongSize : Bool = bad_size c.args.lines (windows asked.set.layout) c.args.row in
    let sized : wrongSize ≡ false = asked_good wrongSize c.size_fits.ensures.answer (ap not c.if-not-size_fits.false) in
    let stored : bad_stored asked store32 ≡ false = stored_good store32 asked c.args.row sized c.stored_fits32.ensures.answer (ap not c.if-not-stored_fits32.false) in
    let wrongFrame : Bool = bad_frame (length c.args.src.now) c.args.lines c.args.row in
    let framed : wrongFrame ≡ false = ap not (sym c.fills.ensures.answer) ∙ (ap not c.if-not-fills.false) in
    let wrongPlace : Bool = bad_place (windows asked.set.layout) c.args.row c.args.line.0 c.args.column in
    let placed : wrongPlace ≡ false = sym c.misses.ensures.answer ∙ c.if-misses.false in
    let both = told asked c.args.src.now c.args.row c.args.line.0 c.args.column c.args.out.now sized stored framed placed (c.tell.ensures.answer, c.tell.ensures.written) in record { answer = both.0; written = both.1 }
