-- What a name picks and whether it is retired say the same. Cited by the plan of a request and the rows of the builder. Assumes nothing.
use Rattle.std.specs.Prelude.{Some, None}
use mathlib.Core.Path.{◌≡◌, refl}
use mathlib.Core.Bool.{true, false}
use Prim.Native.Nat.{ℕ}
use native.Mathlib.Omega.{arith}
use Rattle.filters.specs.declared.FilterType.{FilterType}
use Rattle.filters.specs.declared.FilterType.TheVariants.{Box, Bilinear, CatmullRom, Mitchell}
use Rattle.filters.specs.declared.Filter.{Filter}
use Rattle.filters.specs.Names.{picked_of, is_retired}

-- a retired name picks no filter
pub retired_picks : (kind : FilterType) → is_retired kind ≡ true → picked_of kind ≡ None
retired_picks Box h = let z : ◌≡◌ {A = ℕ} 0 1 = cc in absurd (omega arith)
retired_picks Bilinear h = let z : ◌≡◌ {A = ℕ} 0 1 = cc in absurd (omega arith)
retired_picks CatmullRom h = let z : ◌≡◌ {A = ℕ} 0 1 = cc in absurd (omega arith)
retired_picks Mitchell h = refl

-- a name that picks none is retired
pub none_retired : (kind : FilterType) → picked_of kind ≡ None → is_retired kind ≡ true
none_retired Box h = let z : ◌≡◌ {A = ℕ} 0 1 = cc in absurd (omega arith)
none_retired Bilinear h = let z : ◌≡◌ {A = ℕ} 0 1 = cc in absurd (omega arith)
none_retired CatmullRom h = let z : ◌≡◌ {A = ℕ} 0 1 = cc in absurd (omega arith)
none_retired Mitchell h = refl

-- and one that picks a filter is not
pub picked_stays : (kind : FilterType) (f : Filter) → picked_of kind ≡ Some f → is_retired kind ≡ false
picked_stays Box f h = refl
picked_stays Bilinear f h = refl
picked_stays CatmullRom f h = refl
picked_stays Mitchell f h = let z : ◌≡◌ {A = ℕ} 0 1 = cc in absurd (omega arith)
