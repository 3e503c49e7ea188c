-- The shared store as a machine: a store, a call, the store and the answer after it. What a client is answered is said of its view (`View`), so that it rests on
-- nothing else by form. Cited by the contracts of `restart`, `put` and `pass`, which are the steps. Definitions only. Assumes nothing.
use Rattle.std.specs.Prelude.{cond, ◌||◌, List, [], ◌∷◌, ℕ, ◌+◌, ◌*◌, ltb, length, Result, Ok, Err, ⊤}
use Rattle.text.specs.Text.{laid}
use Rattle.refusal.specs.declared.Refusal.{Refusal}
use Rattle.refusal.specs.declared.Refusal.TheVariants.{DoesNotFit, SharesDoNotFit, RetiredFilter}
use Rattle.filters.specs.Names.{is_retired}
use Rattle.windows.specs.Set.{Stored, windows}
use Rattle.plans.specs.declared.Request.{Request}
use Rattle.coefficients.specs.declared.NotBuilt.{NotBuilt}
use Rattle.made_sets.specs.Made.{Made, new, none, refused_by, made_of, answer_of}
use Rattle.vertical.specs.U16.{passed_u16, written_u16}
use Rattle.shares.specs.Store.{Store, store_of, slot_base, line_base, bad_lists_value, Held, nothing, holding, View, view_of}
use Rattle.shares.specs.Scratch.{Scratch, too_short, built_in}

-- ---- a restart
-- No. 10 of the lists, then No. 15: shares that are together larger than the store
unfoldable pub restarted_of : Store → ℕ → ℕ → Result ⊤ Refusal
restarted_of s first second =
    cond (bad_lists_value s) (Err DoesNotFit)
    (cond (ltb (length s.slots) (first + second)) (Err SharesDoNotFit)
    (Ok tt))

-- both shares anew, and no set
abbrev pub emptied : ℕ → ℕ → List ℕ
emptied first second = first ∷ 0 ∷ 0 ∷ 0 ∷ 0 ∷ second ∷ 0 ∷ 0 ∷ 0 ∷ 0 ∷ []

unfoldable pub numbers_by : Result ⊤ Refusal → ℕ → ℕ → List ℕ → List ℕ
numbers_by (Ok tt) first second old = emptied first second
numbers_by (Err refusal) first second old = old

-- ---- a set put in
-- what is judged of a call before anything is built: the choice that the answer and the lent lists make
unfoldable pub entered : {A : Type 0} → View → Request → Scratch → (Refusal → A) → A → A
entered v q lent refused built =
    cond (is_retired q.filter) (refused RetiredFilter)
    (cond (v.shut || too_short v.room lent) (refused DoesNotFit)
    built)

unfoldable pub put_of : View → Request → Scratch → Made
put_of v q lent = entered v q lent refused_by (made_of q v.room)

-- the store with a set of client c: each list written in the client's part, and nowhere else
unfoldable pub with_set : Store → ℕ → Stored → Store
with_set s c stored =
    store_of
    (laid s.numbers (c * 5 + 1) (stored.set.layout.lines ∷ windows stored.set.layout ∷ stored.set.layout.window_size_value ∷ stored.precision ∷ []))
    (laid s.slots (slot_base s c) stored.set.weights)
    (laid s.starts (line_base c) stored.set.layout.starts)
    (laid s.sizes (line_base c) stored.set.layout.sizes)
    (laid s.excesses (line_base c) stored.excesses)

-- after a refusal, No. 8 included, the former set stays
unfoldable pub after : Store → ℕ → Made → Store
after s c (new stored) = with_set s c stored
after s c (none answer) = s

-- ---- a pass: the u16 pass with the set that is held, or No. 10
unfoldable pub passed_with : Held → ℕ → ℕ → ℕ → ℕ → ℕ → Result ⊤ Refusal
passed_with nothing samples row first count room = Err DoesNotFit
passed_with (holding stored) samples row first count room = passed_u16 stored samples row first count room

unfoldable pub written_with : Held → List ℕ → ℕ → ℕ → ℕ → List ℕ → List ℕ
written_with nothing src row first count old = old
written_with (holding stored) src row first count old = written_u16 stored src row first count old

-- ---- what a client gets back
module _ (v : View) where
  abbrev pub put_answer : Request → Scratch → Result ℕ NotBuilt
  put_answer q lent = answer_of (put_of v q lent)

  abbrev pub scratch_after : Request → Scratch → Scratch
  scratch_after q lent = entered v q lent (λ refusal. lent) (built_in q v.room lent)

  abbrev pub pass_answer : List ℕ → ℕ → ℕ → ℕ → ℕ → Result ⊤ Refusal
  pass_answer src row first count room = passed_with v.has (length src) row first count room

  abbrev pub pass_output : List ℕ → ℕ → ℕ → ℕ → List ℕ → List ℕ
  pass_output src row first count out = written_with v.has src row first count out

-- ---- the machine
-- what a client calls: a set put in, with the lists lent to the builder; a pass over a frame, with its row length, first column and count of columns, and the list lent for the output
pub data Call : Type 0 where
  puts : Request → Scratch → Call
  passes : List ℕ → ℕ → ℕ → ℕ → List ℕ → Call

-- what comes back, with the lent lists as they are then
pub data Answer : Type 0 where
  restarted : Result ⊤ Refusal → Answer
  was_put : Result ℕ NotBuilt → Scratch → Answer
  passed : Result ⊤ Refusal → List ℕ → Answer

-- to a client, by what it sees
unfoldable pub reply_to : View → Call → Answer
reply_to v (puts q lent) = was_put (put_answer v q lent) (scratch_after v q lent)
reply_to v (passes src row first count out) = passed (pass_answer v src row first count (length out)) (pass_output v src row first count out)

-- a step: a restart, which is common to both, or a call by a client
pub data Step : Type 0 where
  restarts : ℕ → ℕ → Step
  by : ℕ → Call → Step

unfoldable pub answer_to : Store → Step → Answer
answer_to s (restarts first second) = restarted (restarted_of s first second)
answer_to s (by c x) = reply_to (view_of s c) x

unfoldable pub next : Store → Step → Store
next s (restarts first second) = store_of (numbers_by (restarted_of s first second) first second s.numbers) s.slots s.starts s.sizes s.excesses
next s (by c (puts q lent)) = after s c (put_of (view_of s c) q lent)
next s (by c (passes src row first count out)) = s
