-- `pass` meets its contract: a client that holds nothing gets No. 10; else the place that was found is inside the lists (`found_at`), and the pass is over the set held.
-- Assumes nothing.
use mathlib.Core.Path.{◌∙◌, sym, refl}
use Rattle.shares.specs.Store.{store_of, view_of}
use Rattle.shares.specs.Machine.{passed_with, written_with}
use Rattle.shared_store.proofs.Finding.{found_at, found_none}
use Rattle.shared_store.proofs.pass.Goals as goal

pub returns-in_default : goal.returns-in_default
unfolding view_of passed_with written_with
returns-in_default c =
    let a = c.args in
    let n = found_none (store_of a.numbers.now a.slots.now a.starts.now a.sizes.now a.excesses.now) a.client (sym c.find-found.ensures.answer ∙ c.in_default.is) in
    rw n (record { answer = refl; written = refl })

pub pass_at-requires : goal.pass_at-requires
pass_at-requires c =
    let a = c.args in
    let f = found_at (store_of a.numbers.now a.slots.now a.starts.now a.sizes.now a.excesses.now) a.client c.in-Some.p (sym c.find-found.ensures.answer ∙ c.in-Some.is) in
    record { from_le_to = (f.from_to, (f.in_slots, (f.head_tail, f.in_starts))); tail_in_bounds = (f.in_sizes, f.in_excesses) }

pub returns : goal.returns
unfolding view_of passed_with written_with
returns c =
    let a = c.args in
    let f = found_at (store_of a.numbers.now a.slots.now a.starts.now a.sizes.now a.excesses.now) a.client c.in-Some.p (sym c.find-found.ensures.answer ∙ c.in-Some.is) in
    rw f.holds (record { answer = c.pass_at.ensures.answer; written = c.pass_at.ensures.written })
