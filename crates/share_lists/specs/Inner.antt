-- What the functions of `share_lists` give. Cited by their contracts only. Definitions only. Assumes nothing.
use Rattle.std.specs.Prelude.{cond, ◌||◌, List, [], ◌∷◌, ℕ, ◌+◌, ◌*◌, ◌≤◌, get_or, Result, Ok, Err, Option, Some, None}
use Rattle.text.specs.Text.{laid}
use Rattle.plans.specs.declared.Request.{Request}
use Rattle.coefficients.specs.declared.NotBuilt.{NotBuilt}
use Rattle.made_sets.specs.Lent.{side_of}
use Rattle.shares.specs.Store.{closed_by, unset_by}
use Rattle.share_lists.specs.declared.Place.{Place}

-- where a client's set stands, by the store's numbers
module _ (numbers : List ℕ) where
  abbrev number : ℕ → ℕ → ℕ
  number c k = get_or numbers (c * 5 + k) 0

  abbrev pub place_of : ℕ → Place
  place_of c = record {
    lines = number c 1;
    window = number c 3;
    precision = number c 4;
    from = c * get_or numbers 0 0;
    to = c * get_or numbers 0 0 + number c 2 * number c 3;
    head = c * 8192;
    tail = c * 8192 + number c 2;
  }

  unfoldable pub found_in : ℕ → ℕ → ℕ → ℕ → ℕ → Option Place
  found_in slots starts sizes excesses c = cond (closed_by numbers slots starts sizes excesses c || unset_by (number c 0) (number c 2) (number c 3)) None (Some (place_of c))

-- a new set has at most 8,192 windows
abbrev pub Few : Result (ℕ × ℕ) NotBuilt → ℕ → Type 0
Few (Ok (window, precision)) n = n ≤ 8192
Few (Err error) n = Unit {0}

-- the answer of an outcome
abbrev pub answer_by : Result (ℕ × ℕ) NotBuilt → Result ℕ NotBuilt
answer_by (Ok (window, precision)) = Ok window
answer_by (Err error) = Err error

-- the numbers afterwards, and a list in which a new set's starts or sizes are laid
unfoldable pub numbers_by : Result (ℕ × ℕ) NotBuilt → ℕ → Request → List ℕ → List ℕ
numbers_by (Ok (window, precision)) c q old = laid old (c * 5 + 1) (side_of q ∷ q.output ∷ window ∷ precision ∷ [])
numbers_by (Err error) c q old = old

unfoldable pub laid_by : Result (ℕ × ℕ) NotBuilt → ℕ → List ℕ → List ℕ → List ℕ
laid_by (Ok (window, precision)) c lines old = laid old (c * 8192) lines
laid_by (Err error) c lines old = old
