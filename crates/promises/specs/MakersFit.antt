-- "What a maker leaves is a set that is taken."
-- What either normaliser, and either reader, leaves in the lists lent to it, where it answers 0, passes the judge of a stored set: sides, windows, counts, the store's
-- precision, and each window's excess. The normalisers over any store; `wide` is true for `read_sheet` and false for `read_sheet16`. Statements only. Assumes nothing.
use Rattle.std.specs.Prelude.{◌≡◌, Bool, false, List, ℕ, ℤ, Float, Ok}
use Rattle.windows.specs.declared.Store.{Store}
use Rattle.windows.specs.Set.{Set}
use Rattle.windows.specs.Fit.{unfit}
use Rattle.normalizer.specs.Answer.{number_of}
use Rattle.normalizer.specs.Left.{answer_for, left_set}
use Rattle.sheet_scan.specs.declared.Sizes.{Sizes}
use Rattle.sheet_scan.specs.declared.StoreLines.{StoreLines}
use Rattle.sheet_scan.specs.Language.{store_named_value}
use Rattle.reader.specs.Reading.{Lists, Reads}
use Rattle.promises.specs.ReadBack.{held_in}

abbrev pub NormalizedFits : Type 0
NormalizedFits = (store : Store) (s : Set Float) (out excesses : List ℤ) → number_of (answer_for store s out excesses) ≡ 0 → unfit (left_set store s out excesses) store ≡ false

abbrev pub ReadFits : Bool → Type 0
ReadFits wide =
    (text : List ℕ) (lent : Lists) (v : Sizes) (w : StoreLines) (left : Lists) → Reads wide text lent (Ok (v, w)) left → unfit (held_in v w left) (store_named_value w.bits) ≡ false
