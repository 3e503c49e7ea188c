-- "What is made is a set that is taken."
-- A set that a request makes in a share passes the judge of a stored set: sides, windows, counts, precision, and each window's excess; so a pass does not refuse it for itself.
-- Statements only. Assumes nothing.
use Rattle.std.specs.Prelude.{◌≡◌, false, ℕ}
use Rattle.windows.specs.Set.{Stored}
use Rattle.windows.specs.Store.{store32}
use Rattle.windows.specs.Fit.{unfit}
use Rattle.plans.specs.declared.Request.{Request}
use Rattle.made_sets.specs.Made.{new, made_of}

abbrev pub MadeTaken : Type 0
MadeTaken = (q : Request) (share : ℕ) (stored : Stored) → made_of q share ≡ new stored → unfit stored store32 ≡ false
