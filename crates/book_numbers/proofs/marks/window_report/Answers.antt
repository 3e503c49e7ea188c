-- `window_report` meets its contract: one window is its own least and most. Assumes nothing.
use mathlib.Core.Path.{sym, ap, ◌∙◌}
use native.Mathlib.Nat.{add-zero}
use mir.Facts.{to_z-of_z}
use Rattle.book_numbers.specs.Marks.{bit, far_from_one}
use Rattle.book_numbers.proofs.marks.window_report.Goals as goal

pub returns : goal.returns
returns c =
    let same = to_z-of_z c.ranges.excess in
    let far = c.bit.ensures.answer ∙ ap bit (c.fails_flat.ensures.answer ∙ ap (far_from_one c.args.p) same) ∙ sym (add-zero _) in
    let neg = c.bit-2.ensures.answer ∙ sym (add-zero _) in
    record { answer = λ i. record { sheets = 0; windows = 1; least = same i; most = same i; notflat = far i; negative = neg i; stopped = 0; byte = 0 } }
