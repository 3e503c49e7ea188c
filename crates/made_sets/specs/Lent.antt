-- The lists that are lent to the builder for a set, and the set's camera lines. Cited by the contracts of `store_sets` and by the machine of `shares`. Definitions only.
-- Assumes nothing.
use Rattle.std.specs.Prelude.{List, ◌++◌, ℕ, take, drop}
use Rattle.plans.specs.declared.Request.{Request}
use Rattle.plans.specs.Plan.{edge_of}

-- the image side along the axis: the camera lines of the set
abbrev pub side_of : Request → ℕ
side_of q = (edge_of q.axis q.width q.height q.crop).side

-- a list of which the first n places are lent: those as `left` leaves them, the rest unchanged
unfoldable pub lent_by : {A : Type 0} → ℕ → (List A → List A) → List A → List A
lent_by n left old = left (take n old) ++ drop n old
