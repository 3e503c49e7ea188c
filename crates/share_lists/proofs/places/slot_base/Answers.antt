-- `places::slot_base` meets its contract: client 0 begins at 0, client 1 behind the share of client 0. Assumes nothing.
use borrow.Author.Rules.{rules}
use mathlib.Core.Path.{◌∙◌}
use native.Mathlib.Omega.{arith}
use lib.Dec.{lit<}
use lib.ListN.{get_or}
use Rattle.share_lists.proofs.Facts.{from_zero, from_one}
use Rattle.share_lists.proofs.places.slot_base.Goals as goal

pub returns-then-client-eq0 : goal.returns-then-client-eq0
returns-then-client-eq0 c = record { answer = (from_zero c.args.client (get_or c.args.numbers.now 0 0) (search rules), lit< tt) }

pub returns : goal.returns
returns c =
    let a = c.args in
    record { answer = (c.wide.ensures.answer.0 ∙ from_one a.client (get_or a.numbers.now 0 0) (search rules) (λ e. omega (arith, e)), c.wide.ensures.answer.1) }
