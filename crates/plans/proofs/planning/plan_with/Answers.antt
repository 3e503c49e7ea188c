-- `plan_with` meets its contract: the refusals in their order, then the plan, which PlanLaws puts together from what the calls gave. Assumes nothing.
use mathlib.Core.Path.{refl, sym, ◌∙◌}
use Rattle.plans.specs.Plan.{plan_with_value, after_crop, scale_of}
use Rattle.plans.proofs.PlanLaws.{plan_flat, radius_ok, plan_is}
use Rattle.plans.proofs.planning.plan_with.Goals as goal

pub returns-then-output : goal.returns-then-output
unfolding plan_with_value
returns-then-output c = record { answer = rw c.if-output.true }

pub returns-in-Err : goal.returns-in-Err
unfolding plan_with_value after_crop
returns-in-Err c = record { answer = rw (c.if-output.false, sym c.crop-answer.ensures.answer ∙ c.in-Err.is) refl }

pub returns-then-scale : goal.returns-then-scale
unfolding scale_of
returns-then-scale c =
    let f = c.args.f in
    let q = c.args.request in
    let along = c.along-e in
    record { answer = plan_flat f q c.in-Ok.inside (sym c.crop-answer.ensures.answer ∙ c.in-Ok.is) c.if-output.false along.result along.ensures.answer c.if-scale.true }

pub window_size-size-requires : goal.window_size-size-requires
unfolding scale_of
window_size-size-requires c =
    let f = c.args.f in
    let q = c.args.request in
    let along = c.along-e in
    radius_ok f q c.in-Ok.inside (sym c.crop-answer.ensures.answer ∙ c.in-Ok.is) c.if-output.false along.result along.ensures.answer c.support.result c.filter_scale-wide.result c.if-scale.false c.support.ensures.answer c.filter_scale-wide.ensures.answer

pub returns : goal.returns
unfolding scale_of
returns c =
    let f = c.args.f in
    let q = c.args.request in
    let along = c.along-e in
    record { answer = plan_is f q c.in-Ok.inside (sym c.crop-answer.ensures.answer ∙ c.in-Ok.is) c.if-output.false along.result along.ensures.answer c.support.result c.filter_scale-wide.result c.window_size-size.result c.if-scale.false c.support.ensures.answer c.filter_scale-wide.ensures.answer c.window_size-size.ensures.answer.0 }
