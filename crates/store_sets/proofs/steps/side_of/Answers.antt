-- `steps::side_of` meets its contract: each arm of the match is the line of `edge_of` for that axis. Assumes nothing.
use Rattle.plans.specs.Plan.{edge_of}
use Rattle.store_sets.proofs.steps.side_of.Goals as goal

pub returns-in-Across : goal.returns-in-Across
unfolding edge_of
returns-in-Across c = record { answer = rw c.in-Across.is }

pub returns-in-Down : goal.returns-in-Down
unfolding edge_of
returns-in-Down c = record { answer = rw c.in-Down.is }
