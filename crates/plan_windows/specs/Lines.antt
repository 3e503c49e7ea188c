-- The window of each display line i of a plan: its range, start, size and weights, and whether it is blank. Cited by Request.antt and by the
-- promises. Definitions only. Assumes nothing.
use Rattle.std.specs.Prelude.{Bool, cond, List, ℕ, ◌-◌, ◌*◌, ltb, Float}
use Rattle.std.specs.Float.Ieee.{eq}
use Rattle.lists.specs.Tab.{first, front, grid}
use Rattle.numbers.specs.Window.{start, stop}
use Rattle.floats.specs.Doubles.{zero64, half64, ◌minus◌}
use Rattle.plans.specs.Plan.{centre}
use Rattle.line_weights.specs.Weights.{lead_of, weight_from, total_of, size_of, share_of}
use Rattle.plans.specs.declared.Plan.{Plan}

-- the range: from floor(centre - radius), at least 0, to ceiling(centre + radius), at most the side, end excluded
abbrev pub range_start : Plan → ℕ → ℕ
range_start p i = start (centre p i) p.radius

abbrev pub range_stop : Plan → ℕ → ℕ
range_stop p i = stop p.side (centre p i) p.radius

-- the centre less 0.5: a line is weighed at its middle
abbrev pub middle : Plan → ℕ → Float
middle p i = centre p i minus half64

-- the window's start, once leading zeros are dropped
unfoldable pub lead : Plan → ℕ → ℕ
unfolding centre
lead p i = lead_of p.filter (middle p i) p.recip (range_start p i) (range_stop p i)

-- the lines from there to the range's end
unfoldable pub held : Plan → ℕ → ℕ
held p i = range_stop p i - lead p i

-- their weights, added in line order
unfoldable pub total : Plan → ℕ → Float
total p i = total_of p.filter (middle p i) p.recip (lead p i) (held p i)

-- the window's size, once trailing zeros are dropped
unfoldable pub size : Plan → ℕ → ℕ
size p i = size_of p.filter (middle p i) p.recip (lead p i) (held p i)

-- the slot k of line i: every weight held is divided by the total, and +0 fills the window
unfoldable pub slot : Plan → ℕ → ℕ → Float
slot p i k = share_of (held p i) (total p i) k (weight_from p.filter (middle p i) p.recip (lead p i) k)

-- no weight other than 0, or a weight total of 0: one test, by the law `blank_is` (proofs/BlankLaws.antt)
abbrev pub blank : Plan → ℕ → Bool
blank p i = eq (total p i) zero64

-- the first blank line, or the number of lines
unfoldable pub first_blank : Plan → ℕ
first_blank p = first (blank p) 0 p.output

-- what No. 8 leaves in each asked slot, and in each start and size
abbrev pub zero_weight : ℕ → Float
zero_weight k = zero64

abbrev pub zero_line : ℕ → ℕ
zero_line k = 0

-- window size x output side slots are asked for
abbrev pub slots : Plan → ℕ
slots p = p.output * p.window

-- the lists afterwards: the asked slots, starts and sizes by the lines, or all 0 where a line is blank
unfoldable pub or_zero : {A : Type 0} → Plan → A → A → A
or_zero p zeros lines = cond (ltb (first_blank p) p.output) zeros lines

-- slot k of display line i is at i x window size + k
abbrev pub weights_in : Plan → List Float → List Float
weights_in p old = or_zero p (front (slots p) zero_weight old) (front (slots p) (grid p.window (slot p)) old)

-- a start is a camera line, a size a count of them
abbrev pub starts_in : Plan → List ℕ → List ℕ
starts_in p old = or_zero p (front p.output zero_line old) (front p.output (lead p) old)

abbrev pub sizes_in : Plan → List ℕ → List ℕ
sizes_in p old = or_zero p (front p.output zero_line old) (front p.output (size p) old)
