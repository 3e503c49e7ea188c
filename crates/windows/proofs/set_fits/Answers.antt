-- The counts are judged first, so that both lists are as long when the windows are looked at. Assumes nothing.
use mathlib.Core.Path.{sym, ap, ◌∙◌}
use mathlib.Core.Bool.{not}
use lib.ListN.{length}
use Rattle.windows.proofs.Fits.{pairs}
use Rattle.windows.proofs.set_fits.Goals as goal

-- src/lib.rt:32:8
-- src/lib.rt:33:9
pub returns-then-counts_misfit : goal.returns-then-counts_misfit
returns-then-counts_misfit c = record { answer = rw (sym c.counts_misfit.ensures.answer ∙ c.if-counts_misfit.true) }

-- src/lib.rt:35:6
pub some_misfits-requires : goal.some_misfits-requires
some_misfits-requires c =
    let a = c.args in
    pairs a.window_size a.slots (length a.starts.now) (length a.sizes.now) (sym c.counts_misfit.ensures.answer ∙ c.if-counts_misfit.false)

-- src/lib.rt:29:1
pub returns : goal.returns
returns c = record { answer = rw (sym c.counts_misfit.ensures.answer ∙ c.if-counts_misfit.false) (ap not c.some_misfits.ensures.answer) }
