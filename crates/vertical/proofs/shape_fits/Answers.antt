-- The set is judged by `windows`, the rest by `frame_fits`, as in the definition. Assumes nothing.
use mathlib.Core.Bool.{not}
use mathlib.Core.Path.{ap}
use borrow.Author.Rules.{rules}
use Rattle.lists.proofs.BoolLaws.{asked_bad, asked_good}
use Rattle.windows.specs.Set.{layout_of}
use Rattle.windows.specs.Fit.{bad_set}
use Rattle.vertical.proofs.shape_fits.Goals as goal

pub returns-then-not-set_fits : goal.returns-then-not-set_fits
returns-then-not-set_fits c =
    let a = c.args in
    record { answer = rw (asked_bad (bad_set (layout_of a.frame.lines a.window_size a.starts.now a.sizes.now) a.slots) c.set_fits.ensures.answer (ap not c.if-not-set_fits.true)) }

pub returns : goal.returns
returns c =
    let a = c.args in
    record {
      answer = rw (asked_good (bad_set (layout_of a.frame.lines a.window_size a.starts.now a.sizes.now) a.slots) c.set_fits.ensures.answer (ap not c.if-not-set_fits.false))
          c.frame_fits.ensures.answer;
    }
