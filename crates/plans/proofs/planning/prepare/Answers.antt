-- `prepare` meets its contract: what the request's name picks decides which line of `plan_by` applies. Assumes nothing.
use mathlib.Core.Path.{sym, ap, ◌∙◌}
use Rattle.plans.specs.Plan.{plan_by, plan_of}
use Rattle.plans.proofs.planning.prepare.Goals as goal

pub returns-in_default : goal.returns-in_default
unfolding plan_of
returns-in_default c = record { answer = ap (plan_by c.args.request) (sym c.in_default.is ∙ c.pick.ensures.answer) }

pub returns : goal.returns
unfolding plan_of
returns c =
    record {
      answer = c.plan_with.ensures.answer
          ∙ ap (plan_by c.args.request) (sym c.in-Some.is ∙ c.pick.ensures.answer);
    }
