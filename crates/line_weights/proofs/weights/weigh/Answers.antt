-- `weights::weigh`: the goals that the check leaves; the argument stands in Invariants.antt. Assumes nothing.
use Prim.Native.Nat.{ℕ, ◌<◌}
use mathlib.Core.Path.{◌≡◌, refl, sym, ◌∙◌, ap}
use mathlib.Core.List.{List}
use native.Mathlib.Nat.{le_refl}
use lib.ListN.{length, set, length-set}
use lib.Ieee.{Float}
use Rattle.lists.specs.Tab.{front}
use Rattle.lists.proofs.TabLaws.{Written, written_none, written_more, front_none, front_over}
use Rattle.lists.proofs.TurnLaws.{turns_more}
use Rattle.floats.specs.Doubles.{zero64, ◌plus◌}
use Rattle.line_weights.specs.Weights.{weight_from, add_to, total_of}
use Rattle.line_weights.proofs.WeightLaws.{first_weight_fact}
use borrow.Author.Rules.{rules}
use native.Mathlib.Omega.{arith}
use Rattle.line_weights.proofs.weights.weigh.Goals as goal

-- the first slot, written before the loop: one slot of the list as it was, and written over by what follows
one : {A : Type 0} (f : ℕ → A) (old : List A) (v : A) → 0 < length old → v ≡ f 0 → set old 0 v ≡ front 1 f old
one f old v h e = (written_more {k = 0} {f = f} {old = old} {now = old} {v = v} written_none h e).is

over-one : {A : Type 0} (n : ℕ) (f : ℕ → A) (old : List A) (v : A) → 0 < n → 0 < length old → v ≡ f 0 → front n f (set old 0 v) ≡ front n f old
over-one n f old v l h e = ap (front n f) (one f old v h e) ∙ front_over n 1 f f old l

written_one : {A : Type 0} (f : ℕ → A) (old : List A) (v : A) → 0 < length old → v ≡ f 0 → Written 1 f (set old 0 v) (set old 0 v)
written_one f old v h e = record { long = refl; is = one f old v h e ∙ sym (over-one 1 f old v (le_refl 1) h e) }

pub returns-then-n-eq0 : goal.returns-then-n-eq0
unfolding total_of
returns-then-n-eq0 c =
    let none : c.args.n ≡ 0 = omega arith in
    rw none (record { answer = refl; written = front_none _ _ })

pub loop-k-init : goal.loop-k-init
loop-k-init c =
    let known : c.args.a.weight ≡ weight_from c.args.f c.args.c c.args.recip c.args.a.line.0 0 = c.requires.2 ∙ first_weight_fact c.args.f c.args.c c.args.recip c.args.a.line.0 c.args.n (omega arith) in
    let args = c.args in
    (omega arith, ap (λ (w : Float). zero64 plus w) known, written_one _ args.row.now args.a.weight (omega arith) known)

pub bounds-row-k : goal.bounds-row-k
bounds-row-k c =
    let args = c.args in
    let long = c.loop-k.invariant.2.long ∙ length-set args.row.now 0 args.a.weight in
    omega (arith, long)

pub loop-k-preserved : goal.loop-k-preserved
loop-k-preserved c =
    let args = c.args in
    let is : c.line_weight-w.result ≡ weight_from args.f args.c args.recip args.a.line.0 c.loop-k.k = c.line_weight-w.ensures.answer in
    let long = length-set args.row.now 0 args.a.weight in (
      omega arith,
      rw (c.loop-k.invariant.1, is) (turns_more (add_to args.f args.c args.recip args.a.line.0) zero64 c.loop-k.k),
      written_more c.loop-k.invariant.2 (omega (arith, long)) is,
    )

pub shape_of-row : goal.shape_of-row
shape_of-row c =
    let args = c.args in
    let long : length c.loop-k.row ≡ length args.row.now = c.loop-k.invariant.2.long ∙ length-set args.row.now 0 args.a.weight in
    search (rules, long)

pub returns : goal.returns
unfolding total_of
returns c =
    let known : c.args.a.weight ≡ weight_from c.args.f c.args.c c.args.recip c.args.a.line.0 0 = c.requires.2 ∙ first_weight_fact c.args.f c.args.c c.args.recip c.args.a.line.0 c.args.n (omega arith) in
    let args = c.args in
    let all : c.loop-k.k ≡ args.n = omega arith in
    let row : c.loop-k.row ≡ front args.n (weight_from args.f args.c args.recip args.a.line.0) args.row.now =
    c.loop-k.invariant.2.is ∙ rw all (over-one args.n _ args.row.now args.a.weight (omega arith) (omega arith) known) in
    record { answer = rw (← all) c.loop-k.invariant.1; written = row }
