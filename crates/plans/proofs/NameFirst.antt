-- For the customer: a request that names a retired filter is No. 16, whatever else it asks. Cited by docs/CONTRACTS.md. Assumes nothing.
use Rattle.std.specs.Prelude.{Err}
use mathlib.Core.Path.{◌≡◌, ap}
use mathlib.Core.Bool.{true}
use Rattle.refusal.specs.declared.Refusal.TheVariants.{RetiredFilter}
use Rattle.filters.specs.Names.{is_retired}
use Rattle.filters.proofs.NameLaws.{retired_picks}
use Rattle.plans.specs.declared.Request.{Request}
use Rattle.plans.specs.Plan.{plan_by, plan_of}

pub retired_refused : (q : Request) → is_retired q.filter ≡ true → plan_of q ≡ Err RetiredFilter
unfolding plan_of
retired_refused q h = ap (plan_by q) (retired_picks q.filter h)
