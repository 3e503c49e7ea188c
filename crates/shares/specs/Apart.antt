-- "Neither client sees the other."
-- From one restart to the next, what a client gets back, refusals included, and the weights that its passes use, depend on its own calls, the lists that it lends with
-- them, and its share; and a call of one client leaves the other's part of every list as it was. For runs of any length. Statements only. Assumes nothing.
use Rattle.std.specs.Prelude.{◌≡◌, List, ℕ, zero, suc, ◌*◌, ◌≤◌, ltb, length}
use Rattle.windows.specs.Set.{Stored}
use Rattle.plans.specs.declared.Request.{Request}
use Rattle.coefficients.specs.Answer.{number_of as numberOfBuilt}
use Rattle.made_sets.specs.Made.{new}
use Rattle.vertical.specs.Passed.{number_of as numberOfPassed}
use Rattle.shares.specs.Restarted.{number_of}
use Rattle.shares.specs.Store.{Store, part, share, slot_base, line_base, held_in, nothing, holding, view_with, view_of}
use Rattle.shares.specs.Scratch.{Scratch}
use Rattle.shares.specs.Machine.{restarted_of, put_of, put_answer, pass_answer, pass_output, Call, puts, restarts, by, next}
use Rattle.shares.specs.Runs.{Run, at_end, own, answers, used}

-- two runs, from two stores, are the same to client c: the answers and outputs, the weights in use at each call, and the set that it holds at the end
pub record SameTo (c : ℕ) (s t : Store) (xs ys : Run) : Type 0 where
  pub answered : answers c s xs ≡ answers c t ys
  pub weights : used c s xs ≡ used c t ys
  pub holds : held_in (at_end s xs) c ≡ held_in (at_end t ys) c

-- the share of c, of the two that a restart gives; none where c is no client
abbrev pub share_of : ℕ → ℕ → ℕ → ℕ
share_of zero first second = first
share_of (suc zero) first second = second
share_of (suc (suc c)) first second = 0

-- after a restart that was not refused, whatever was before, and whatever the other's share is: the same calls of c are the same to c, whatever the other does
abbrev pub NeitherSeesTheOther : Type 0
NeitherSeesTheOther =
    (c : ℕ) (s t : Store) (a b a1 b1 : ℕ) (xs ys : Run)
    → number_of (restarted_of s a b) ≡ 0 → number_of (restarted_of t a1 b1) ≡ 0 → share_of c a b ≡ share_of c a1 b1 → own c xs ≡ own c ys
    → SameTo c (next s (restarts a b)) (next t (restarts a1 b1)) xs ys

-- the same from any two stores that look the same to c
abbrev pub SameFromTheSame : Type 0
SameFromTheSame = (c : ℕ) (s t : Store) (xs ys : Run) → view_of s c ≡ view_of t c → own c xs ≡ own c ys → SameTo c s t xs ys

-- the part of every list that is client c's in store s, in store t as in s
pub record PartsKept (c : ℕ) (s t : Store) : Type 0 where
  pub numbers : part (c * 5) 5 t.numbers ≡ part (c * 5) 5 s.numbers
  pub slots : part (slot_base s c) (share s c) t.slots ≡ part (slot_base s c) (share s c) s.slots
  pub starts : part (line_base c) 8192 t.starts ≡ part (line_base c) 8192 s.starts
  pub sizes : part (line_base c) 8192 t.sizes ≡ part (line_base c) 8192 s.sizes
  pub excesses : part (line_base c) 8192 t.excesses ≡ part (line_base c) 8192 s.excesses

-- a call of d, for either client c that d is not: any store, any call
abbrev pub OtherPartsKept : Type 0
OtherPartsKept = (s : Store) (d : ℕ) (x : Call) (c : ℕ) → c ≤ 1 → (c ≡ d → ⊥) → PartsKept c s (next s (by d x))

-- a restart that was not refused leaves each client its share and no set, whatever was before
abbrev pub RestartEmpties : Type 0
RestartEmpties = (c : ℕ) (s : Store) (a b : ℕ) → number_of (restarted_of s a b) ≡ 0 → view_of (next s (restarts a b)) c ≡ view_with (ltb 1 c) (share_of c a b) nothing

-- a set that was put in is the one that the client holds
abbrev pub PutHeld : Type 0
PutHeld = (s : Store) (c : ℕ) (q : Request) (lent : Scratch) (stored : Stored) → put_of (view_of s c) q lent ≡ new stored → held_in (next s (by c (puts q lent))) c ≡ holding stored

-- a refused call leaves the store as it was, No. 8 included, and a refused pass its output
pub record RefusedUnchanged : Type 0 where
  pub restart : (s : Store) (a b : ℕ) → (number_of (restarted_of s a b) ≡ 0 → ⊥) → next s (restarts a b) ≡ s
  pub put : (s : Store) (c : ℕ) (q : Request) (lent : Scratch) → (numberOfBuilt (put_answer (view_of s c) q lent) ≡ 0 → ⊥) → next s (by c (puts q lent)) ≡ s
  pub pass : (s : Store) (c : ℕ) (src : List ℕ) (row first count : ℕ) (out : List ℕ) → (numberOfPassed (pass_answer (view_of s c) src row first count (length out)) ≡ 0 → ⊥) → pass_output (view_of s c) src row first count out ≡ out
