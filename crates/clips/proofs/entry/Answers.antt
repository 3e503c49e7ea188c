-- `entry`: an entry of the list of the rule's 1,280 values is the rule's value there. Assumes nothing.
use mathlib.Core.Path.{◌∙◌, ap}
use native.Mathlib.Nat.{zero-add}
use Rattle.lists.proofs.TabLaws.{get_d_tab, length_tab}
use Rattle.clips.specs.Table.{entry_of}
use Rattle.clips.proofs.entry.Goals as goal

pub bounds-table-k : goal.bounds-table-k
bounds-table-k c = rw (c.requires.fact_1, length_tab 0 1280 entry_of) c.requires.fact_2

pub returns : goal.returns
returns c = rw c.requires.fact_1 (get_d_tab 0 1280 entry_of c.args.k 0 c.requires.fact_2 ∙ ap entry_of (zero-add c.args.k))
