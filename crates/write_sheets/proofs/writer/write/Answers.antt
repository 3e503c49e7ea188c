-- `writer::write` meets its contract: the four ways are those of `WriterLaws`; a set that passed both tests has a text far below 2^64 bytes.
-- Assumes nothing.
use mathlib.Core.Path.{ap, ◌≡◌, ◌∙◌}
use mathlib.Core.Bool.{not, Bool, true, false}
use native.Mathlib.Omega.{arith}
use Rattle.lists.specs.Ranges.{bad_sides_value}
use Rattle.lists.proofs.BoolLaws.{or_right, asked_bad, asked_good}
use Rattle.windows.specs.Set.{layout_of, set_of, Stored, stored_of, windows}
use Rattle.windows.proofs.WeightLaws.{length_values}
use Rattle.windows.specs.declared.Store.{Store}
use Rattle.windows.specs.Fit.{bad_stored, unfit}
use Rattle.excesses.proofs.StoredLaws.{stored_fits, excess_count}
use Rattle.sheet.proofs.SheetLaws.{sheet_counted}
use Rattle.sheet.proofs.WriterLaws.{side_refused, misfit_refused, room_refused, all_written}
use Rattle.write_sheets.proofs.writer.write.Goals as goal

-- what the second test says where it passed
fitting_of : (asked : Stored) (store : Store) {fits : Bool} → fits ≡ not (unfit asked store) → not fits ≡ false → bad_stored asked store ≡ false
fitting_of asked store e h = or_right (bad_sides_value asked.set.layout.lines (windows asked.set.layout)) (bad_stored asked store) (asked_good (unfit asked store) e h)

pub returns-then-not-sides_fit : goal.returns-then-not-sides_fit
returns-then-not-sides_fit g c =
    let a = c.args in
    let store = g.W.Weight.STORE in
    let asked : Stored = stored_of (set_of (layout_of c.args.lines c.args.window_size c.args.starts.now c.args.sizes.now) (g.W.Weight.values c.args.weights.now)) c.args.precision c.args.excesses.now in
    let both = side_refused a.kind store asked a.out.now (asked_bad (bad_sides_value a.lines (windows asked.set.layout)) c.sides_fit.ensures.answer (ap not c.if-not-sides_fit.true)) in
    record { answer = both.0; written = both.1 }

pub returns-then-not-stored_fits : goal.returns-then-not-stored_fits
returns-then-not-stored_fits g c =
    let a = c.args in
    let store = g.W.Weight.STORE in
    let asked : Stored = stored_of (set_of (layout_of c.args.lines c.args.window_size c.args.starts.now c.args.sizes.now) (g.W.Weight.values c.args.weights.now)) c.args.precision c.args.excesses.now in
    let sides = asked_good (bad_sides_value a.lines (windows asked.set.layout)) c.sides_fit.ensures.answer (ap not c.if-not-sides_fit.false) in
    let bad : bad_stored asked store ≡ true = rw sides at (asked_bad (unfit asked store) c.stored_fits.ensures.answer (ap not c.if-not-stored_fits.true)) in
    let both = misfit_refused a.kind store asked a.out.now sides bad in
    record { answer = both.0; written = both.1 }

pub put_sheet-n-requires : goal.put_sheet-n-requires
put_sheet-n-requires g c =
    let a = c.args in
    let store = g.W.Weight.STORE in
    let asked : Stored = stored_of (set_of (layout_of c.args.lines c.args.window_size c.args.starts.now c.args.sizes.now) (g.W.Weight.values c.args.weights.now)) c.args.precision c.args.excesses.now in
    let sides = asked_good (bad_sides_value a.lines (windows asked.set.layout)) c.sides_fit.ensures.answer (ap not c.if-not-sides_fit.false) in
    let fitting = fitting_of asked store c.stored_fits.ensures.answer (ap not c.if-not-stored_fits.false) in
    rw (length_values g.met.W.Weight.each a.weights.now) at (stored_fits asked store fitting sides)

pub returns-then-out-n : goal.returns-then-out-n
returns-then-out-n g c =
    let a = c.args in
    let store = g.W.Weight.STORE in
    let asked : Stored = stored_of (set_of (layout_of c.args.lines c.args.window_size c.args.starts.now c.args.sizes.now) (g.W.Weight.values c.args.weights.now)) c.args.precision c.args.excesses.now in
    let sides = asked_good (bad_sides_value a.lines (windows asked.set.layout)) c.sides_fit.ensures.answer (ap not c.if-not-sides_fit.false) in
    let fitting = fitting_of asked store c.stored_fits.ensures.answer (ap not c.if-not-stored_fits.false) in
    let ready = stored_fits asked store fitting sides in
    let counted = sheet_counted a.kind store asked ready (excess_count asked store fitting) in
    let both = room_refused a.kind store asked a.out.now sides fitting (omega (arith, c.if-out-n.true, c.put_sheet-n.ensures.answer, counted)) in
    record { answer = both.0; written = both.1 }

pub put_sheet-requires : goal.put_sheet-requires
put_sheet-requires g c =
    let a = c.args in
    let store = g.W.Weight.STORE in
    let asked : Stored = stored_of (set_of (layout_of c.args.lines c.args.window_size c.args.starts.now c.args.sizes.now) (g.W.Weight.values c.args.weights.now)) c.args.precision c.args.excesses.now in
    let sides = asked_good (bad_sides_value a.lines (windows asked.set.layout)) c.sides_fit.ensures.answer (ap not c.if-not-sides_fit.false) in
    let fitting = fitting_of asked store c.stored_fits.ensures.answer (ap not c.if-not-stored_fits.false) in
    rw (length_values g.met.W.Weight.each a.weights.now) at (stored_fits asked store fitting sides)

pub returns : goal.returns
returns g c =
    let a = c.args in
    let store = g.W.Weight.STORE in
    let asked : Stored = stored_of (set_of (layout_of c.args.lines c.args.window_size c.args.starts.now c.args.sizes.now) (g.W.Weight.values c.args.weights.now)) c.args.precision c.args.excesses.now in
    let sides = asked_good (bad_sides_value a.lines (windows asked.set.layout)) c.sides_fit.ensures.answer (ap not c.if-not-sides_fit.false) in
    let fitting = fitting_of asked store c.stored_fits.ensures.answer (ap not c.if-not-stored_fits.false) in
    let ready = stored_fits asked store fitting sides in
    let counted = sheet_counted a.kind store asked ready (excess_count asked store fitting) in
    let length_is = c.put_sheet-n.ensures.answer ∙ counted in
    let both = all_written a.kind store asked a.out.now sides fitting (omega (arith, c.if-out-n.false, length_is)) length_is c.put_sheet.ensures.written in
    record { answer = both.0; written = both.1 }
