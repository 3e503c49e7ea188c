-- Two sheets, computed: the sheet of docs/RULES.md, whose windows have the excess 0, and one of the 16-bit store with the excesses -50 and 16. Its second window has one line, and
-- a negative number in an idle slot, which does not count. Cited by nothing: it shows what the numbers are. Assumes nothing.
use mathlib.Core.Path.{◌≡◌, refl}
use mathlib.Core.List.{[], ◌∷◌}
use lib.IntN.{pos, negsuc}
use Rattle.filters.specs.declared.FilterType.TheVariants.{Box, Mitchell}
use Rattle.integers.specs.Sums.{sum}
use Rattle.windows.specs.Set.{layout_of, set_of, stored_of, excess}
use Rattle.sheet_scan.specs.Language.{Whole}
use Rattle.book_numbers.specs.Marks.{numbers_of}
use Rattle.book.specs.Book.{all_marks}

abbrev plain : Whole
plain = record {
  kind = Box;
  bits = 32;
  set =
      stored_of (set_of (layout_of 4 3 (0 ∷ 2 ∷ []) (2 ∷ 2 ∷ [])) (pos 1073741824 ∷ pos 1073741824 ∷ pos 0 ∷ pos 1073741824 ∷ pos 1073741824 ∷ pos 0 ∷ [])) 31
      (pos 0 ∷ pos 0 ∷ []);
}

abbrev uneven : Whole
uneven = record {
  kind = Mitchell;
  bits = 16;
  set = stored_of (set_of (layout_of 3 3 (0 ∷ 0 ∷ []) (3 ∷ 1 ∷ [])) (negsuc 99 ∷ pos 16384 ∷ pos 50 ∷ pos 16400 ∷ negsuc 0 ∷ pos 0 ∷ [])) 14 (negsuc 49 ∷ pos 16 ∷ []);
}

pub two_sheets : numbers_of 2 (all_marks (plain ∷ uneven ∷ [])) 0 224 ≡ record { sheets = 2; windows = 4; least = negsuc 49; most = pos 16; notflat = 2; negative = 1; stopped = 0; byte = 224 }
unfolding excess sum
two_sheets = refl
