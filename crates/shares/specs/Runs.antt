-- Runs of calls between two restarts, and what one client sees of them. Cited by the statements of Apart. Definitions only. Assumes nothing.
use Rattle.std.specs.Prelude.{cond, List, [], ◌∷◌, ℕ, eqb}
use Rattle.shares.specs.Store.{Store, Held, held_in}
use Rattle.shares.specs.Machine.{Call, Answer, by, answer_to, next}

-- calls of the clients in the order in which they come, each with the client that makes it
abbrev pub Run : Type 0
Run = List (ℕ × Call)

-- the store after a run
unfoldable pub at_end : Store → Run → Store
at_end s [] = s
at_end s (x ∷ xs) = at_end (next s (by x.0 x.1)) xs

-- the calls of client c, in their order
unfoldable pub own : ℕ → Run → List Call
own c [] = []
own c (x ∷ xs) = cond (eqb x.0 c) (x.1 ∷ own c xs) (own c xs)

-- something of each call of client c and of the store at which it makes it
unfoldable pub gathered : {A : Type 0} → (Store → Call → A) → ℕ → Store → Run → List A
gathered f c s [] = []
gathered f c s (x ∷ xs) = cond (eqb x.0 c) (f s x.1 ∷ gathered f c (next s (by x.0 x.1)) xs) (gathered f c (next s (by x.0 x.1)) xs)

-- the answers that client c gets in a run, outputs and refusals included
abbrev pub answers : ℕ → Store → Run → List Answer
answers c s xs = gathered (λ t x. answer_to t (by c x)) c s xs

-- the set that c holds at each of its calls: the weights that its passes use
abbrev pub used : ℕ → Store → Run → List Held
used c s xs = gathered (λ t x. held_in t c) c s xs
