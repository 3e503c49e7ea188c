-- A name's code stands for that name, so what a reader tells can be handed to a writer; a retired name keeps its code. Cited by docs/CONTRACTS.md. Assumes nothing.
use mathlib.Core.Path.{◌≡◌, refl}
use Rattle.filters.specs.declared.FilterType.{FilterType}
use Rattle.filters.specs.declared.FilterType.TheVariants.{Box, Bilinear, CatmullRom, Mitchell}
use Rattle.codes.specs.Codes.{filter_of, code_of}

pub filter_of_code : (f : FilterType) → filter_of (code_of f) ≡ f
filter_of_code Box = refl
filter_of_code Bilinear = refl
filter_of_code CatmullRom = refl
filter_of_code Mitchell = refl
