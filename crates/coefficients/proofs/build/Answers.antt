-- `build` meets its contract. Each way out proves the four equations of `All` together (JudgeLaws): a refused plan, too few slots, a blank line, a built set.
-- That `all_windows` may be called is `plan_sound`. Assumes nothing.
use Rattle.std.specs.Prelude.{Ok, Err}
use mathlib.Core.Path.{◌≡◌, sym, ◌∙◌}
use Prim.Native.Nat.{◌*◌, ◌≤◌}
use native.Mathlib.Nat.{mul-le-mul}
use native.Mathlib.Omega.{arith}
use Rattle.std.proofs.Common.{rules}
use lib.ListN.{length}
use Rattle.plans.specs.Plan.{plan_of}
use Rattle.plans.proofs.PlanLaws.{plan_sound}
use Rattle.coefficients.specs.declared.NotBuilt.TheVariants.{Blank, Refused}
use Rattle.coefficients.proofs.JudgeLaws.{all_refused, all_short, all_ready, short_slots, short_starts, short_sizes, enough, built_blank, built_done}
use Rattle.coefficients.proofs.build.Goals as goal

pub returns-in_err-p : goal.returns-in_err-p
returns-in_err-p c =
    let q = c.args.request in
    let refusal = c.in_err-p.field-0.0 in
    let e : plan_of q ≡ Err refusal = sym c.prepare.ensures.answer ∙ c.in_err-p.was in
    let all = all_refused q c.args.weights.now c.args.starts.now c.args.sizes.now refusal e in
    let told : c.from_residual.result ≡ Err (Refused refusal) = search rules in
    record { answer = told ∙ all.0; written = all.1.0; written2 = all.1.1.0; written3 = all.1.1.1 }

pub overflow_mul-n : goal.overflow_mul-n
overflow_mul-n c =
    let p = c.in_ok-p.p in
    let q = c.args.request in
    let e : plan_of q ≡ Ok p = sym c.prepare.ensures.answer ∙ c.in_ok-p.was in
    let ok = plan_sound q p e in
    let b : p.output * p.window ≤ 8192 * 32769 = mul-le-mul ok.lines ok.narrow in
    omega arith

pub returns-then-weights-n : goal.returns-then-weights-n
returns-then-weights-n c =
    let p = c.in_ok-p.p in
    let q = c.args.request in
    let e : plan_of q ≡ Ok p = sym c.prepare.ensures.answer ∙ c.in_ok-p.was in
    let all = all_short q c.args.weights.now c.args.starts.now c.args.sizes.now p e (short_slots p (length c.args.weights.now) (length c.args.starts.now) (length c.args.sizes.now) c.if-weights-n.true) in
    record { answer = all.0; written = all.1.0; written2 = all.1.1.0; written3 = all.1.1.1 }

pub returns-then-starts-n : goal.returns-then-starts-n
returns-then-starts-n c =
    let p = c.in_ok-p.p in
    let q = c.args.request in
    let e : plan_of q ≡ Ok p = sym c.prepare.ensures.answer ∙ c.in_ok-p.was in
    let all = all_short q c.args.weights.now c.args.starts.now c.args.sizes.now p e (short_starts p (length c.args.weights.now) (length c.args.starts.now) (length c.args.sizes.now) c.if-weights-n.false c.if-starts-n.true) in
    record { answer = all.0; written = all.1.0; written2 = all.1.1.0; written3 = all.1.1.1 }

pub returns-then-sizes-n : goal.returns-then-sizes-n
returns-then-sizes-n c =
    let p = c.in_ok-p.p in
    let q = c.args.request in
    let e : plan_of q ≡ Ok p = sym c.prepare.ensures.answer ∙ c.in_ok-p.was in
    let all = all_short q c.args.weights.now c.args.starts.now c.args.sizes.now p e (short_sizes p (length c.args.weights.now) (length c.args.starts.now) (length c.args.sizes.now) c.if-weights-n.false c.if-starts-n.false c.if-sizes-n.true) in
    record { answer = all.0; written = all.1.0; written2 = all.1.1.0; written3 = all.1.1.1 }

pub all_windows-line-requires : goal.all_windows-line-requires
all_windows-line-requires c =
    let p = c.in_ok-p.p in
    let q = c.args.request in
    let e : plan_of q ≡ Ok p = sym c.prepare.ensures.answer ∙ c.in_ok-p.was in
    record { fact_1 = plan_sound q p e; fact_2 = record { slots_there = c.if-weights-n.false; starts_there = c.if-starts-n.false; sizes_there = c.if-sizes-n.false } }

pub returns-then-line-p : goal.returns-then-line-p
returns-then-line-p c =
    let p = c.in_ok-p.p in
    let q = c.args.request in
    let e : plan_of q ≡ Ok p = sym c.prepare.ensures.answer ∙ c.in_ok-p.was in
    let w = c.all_windows-line in
    let all = all_ready q c.args.weights.now c.args.starts.now c.args.sizes.now p e (Err (Blank w.result)) w.new.weights w.new.starts w.new.sizes
    (enough p (length c.args.weights.now) (length c.args.starts.now) (length c.args.sizes.now) c.if-weights-n.false c.if-starts-n.false c.if-sizes-n.false)
    (built_blank p w.result.0 w.ensures.answer c.if-line-p.true) w.ensures.written w.ensures.written2 w.ensures.written3 in
    record { answer = all.0; written = all.1.0; written2 = all.1.1.0; written3 = all.1.1.1 }

pub returns : goal.returns
returns c =
    let p = c.in_ok-p.p in
    let q = c.args.request in
    let e : plan_of q ≡ Ok p = sym c.prepare.ensures.answer ∙ c.in_ok-p.was in
    let w = c.all_windows-line in
    let all = all_ready q c.args.weights.now c.args.starts.now c.args.sizes.now p e (Ok p.window) w.new.weights w.new.starts w.new.sizes
    (enough p (length c.args.weights.now) (length c.args.starts.now) (length c.args.sizes.now) c.if-weights-n.false c.if-starts-n.false c.if-sizes-n.false)
    (built_done p w.result.0 w.ensures.answer c.if-line-p.false) w.ensures.written w.ensures.written2 w.ensures.written3 in
    record { answer = all.0; written = all.1.0; written2 = all.1.1.0; written3 = all.1.1.1 }
