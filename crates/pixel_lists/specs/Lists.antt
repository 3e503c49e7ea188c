-- Lists of pixels, four components each, alpha last: when they are refused, what the answer is, and what the lent list holds afterwards.
-- Over the components' width. Cited by the contracts of the list functions of `alpha` and `alpha_u16`. Definitions only. Assumes nothing.
use Rattle.std.specs.Prelude.{Bool, cond, not, ◌||◌, List, ℕ, ◌+◌, ◌*◌, ◌/◌, ◌%◌, eqb, length, get_or, set, Result, Ok, Err, ⊤}
use Rattle.lists.specs.Tab.{tab}
use Rattle.refusal.specs.declared.Refusal.TheVariants.{DoesNotFit}
use Rattle.refusal.specs.Refusal.{number_in}
use Rattle.refusal.specs.declared.Refusal.{Refusal}

-- the lists' lengths are unequal, or no multiple of 4
abbrev pub bad_lists_value : ℕ → ℕ → Bool
bad_lists_value src dst = not (eqb src dst) || not (eqb (src % 4) 0)

-- the answer: No. 10 for such lists, else done
abbrev pub applied_to : List ℕ → List ℕ → Result ⊤ Refusal
applied_to src dst = cond (bad_lists_value (length src) (length dst)) (Err DoesNotFit) (Ok tt)

-- 01's number of an answer; no answer has a number beside it
abbrev pub number_of : Result ⊤ Refusal → ℕ
number_of = number_in

-- component k of the result: alpha is kept, a colour goes with the alpha of its own pixel
abbrev pub component_at : (ℕ → ℕ → ℕ) → List ℕ → ℕ → ℕ
component_at op src k = cond (eqb (k % 4) 3) (get_or src k 0) (op (get_or src k 0) (get_or src (k / 4 * 4 + 3) 0))

-- the list with a pixel's four components written from i on
abbrev pub stored : List ℕ → ℕ → ℕ → ℕ → ℕ → ℕ → List ℕ
stored s i c0 c1 c2 alpha = set (set (set (set s i c0) (i + 1) c1) (i + 2) c2) (i + 3) alpha

-- the lent list afterwards, for an operation on colour and alpha: unchanged where refused, else every pixel of src
abbrev pub applied_list : (ℕ → ℕ → ℕ) → List ℕ → List ℕ → List ℕ
applied_list op src dst = cond (bad_lists_value (length src) (length dst)) dst (tab 0 (length src) (component_at op src))
