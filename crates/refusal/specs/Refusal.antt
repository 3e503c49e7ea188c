-- The numbers of document 01's table of answers and of document 02's requests, a line each. Cited by `number`, and by `number_of` of every answer that holds a refusal.
-- Definitions only. Assumes nothing.
use Rattle.std.specs.Prelude.{ℕ, Result, Ok, Err}
use Rattle.refusal.specs.declared.Refusal.{Refusal}
use Rattle.refusal.specs.declared.Refusal.TheVariants.{BadSide, NotFinite, NegativeExtent, StartOutside, EndOutside, NoScale, TooFewSlots, BlankWindow, WeightOutside, DoesNotFit, NoRoom, SampleOutside, NotASheet, NoOffer, SharesDoNotFit, RetiredFilter}

abbrev pub number_of : Refusal → ℕ
number_of BadSide = 1
number_of NotFinite = 2
number_of NegativeExtent = 3
number_of StartOutside = 4
number_of EndOutside = 5
number_of NoScale = 6
number_of TooFewSlots = 7
number_of BlankWindow = 8
number_of WeightOutside = 9
number_of DoesNotFit = 10
number_of NoRoom = 11
number_of SampleOutside = 12
number_of NotASheet = 13
number_of NoOffer = 14
number_of SharesDoNotFit = 15
number_of RetiredFilter = 16

-- the number of an answer, over the number of its errors: 0 where the call did its work
abbrev pub answer_number : {A E : Type 0} → (E → ℕ) → Result A E → ℕ
answer_number number (Ok x) = 0
answer_number number (Err error) = number error

-- of an answer that a refusal keeps from its value
abbrev pub number_in : {A : Type 0} → Result A Refusal → ℕ
number_in = answer_number number_of
