-- The four names that a sheet or a request has, and the filter that each picks. Mitchell is retired: its sheets are read, run and written back under that name, and no new
-- set is built with it. Cited by the contracts of `pick` and `retired`, by the plan of a request and by the codes of the C interface. Definitions only. Assumes nothing.
use Rattle.std.specs.Prelude.{Bool, true, false, Option, Some, None}
use Rattle.filters.specs.declared.FilterType.{FilterType}
use Rattle.filters.specs.declared.FilterType.TheVariants.{Box, Bilinear, CatmullRom, Mitchell}
use Rattle.filters.specs.declared.Filter.TheVariants as filter
use Rattle.filters.specs.declared.Filter.{Filter}

-- the filter that a set of this name is built with, or none
abbrev pub picked_of : FilterType → Option Filter
picked_of Box = Some filter.Box
picked_of Bilinear = Some filter.Bilinear
picked_of CatmullRom = Some filter.CatmullRom
picked_of Mitchell = None

-- No. 16: a name that no new set is built with
abbrev pub is_retired : FilterType → Bool
is_retired Box = false
is_retired Bilinear = false
is_retired CatmullRom = false
is_retired Mitchell = true
