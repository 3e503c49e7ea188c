-- From a request to the plan of its windows, or its refusal. Cited by the contract of `build`, by `plan_windows` and by the promises.
-- Definitions only. Assumes nothing.
use Rattle.std.specs.Prelude.{Bool, cond, ℕ, Float, Result, Ok, Err, Option, Some, None}
use Rattle.std.specs.Float.Ieee.{lt, le}
use Rattle.lists.specs.Ranges.{outside}
use Rattle.numbers.specs.Window.{window}
use Rattle.refusal.specs.declared.Refusal.TheVariants.{BadSide, NoScale, RetiredFilter}
use Rattle.crop_box.specs.declared.CropBox.{CropBox}
use Rattle.refusal.specs.declared.Refusal.{Refusal}
use Rattle.crop_box.specs.Crop.{crop_of}
use Rattle.filters.specs.declared.Filter.{Filter}
use Rattle.filters.specs.Names.{picked_of}
use Rattle.filters.specs.Filters.{support_of}
use Rattle.floats.specs.Doubles.{zero64, half64, one64, double, ◌plus◌, ◌minus◌, ◌times◌, ◌over◌}
use Rattle.plans.specs.declared.Axis.{Axis}
use Rattle.plans.specs.declared.Axis.TheVariants.{Across, Down}
use Rattle.plans.specs.declared.Edge.{Edge}
use Rattle.plans.specs.declared.Request.{Request}
use Rattle.plans.specs.declared.Plan.{Plan}

-- the near edge is left (or top), the far edge left + width (or top + height), rounded once
unfoldable pub edge_of : Axis → ℕ → ℕ → CropBox → Edge
edge_of Across w h b = record { side = w; near = b.left; far = b.left plus b.width }
edge_of Down w h b = record { side = h; near = b.top; far = b.top plus b.height }

-- (far - near) / output size
unfoldable pub scale_of : Edge → ℕ → Float
scale_of e output = (e.far minus e.near) over double output

-- the larger of scale and 1 if the kernel adapts, else 1
unfoldable pub filter_scale_of : Bool → Float → Float
filter_scale_of adapts scale = cond adapts (cond (lt one64 scale) scale one64) one64

-- support x filter scale
unfoldable pub radius_of : Filter → Bool → Float → Float
radius_of f adapts scale = support_of f times filter_scale_of adapts scale

-- what all windows of a request share; the window size is 2 x ceiling(radius) + 1
abbrev pub plan_for : Filter → Bool → Edge → ℕ → Plan
plan_for f adapts e output = record {
  filter = f;
  side = e.side;
  output = output;
  near = e.near;
  scale = scale_of e output;
  recip = one64 over filter_scale_of adapts (scale_of e output);
  radius = radius_of f adapts (scale_of e output);
  window = window (radius_of f adapts (scale_of e output));
}

-- No. 1: an output side outside 1 to 8,192
abbrev pub bad_output : ℕ → Bool
bad_output output = outside 1 8192 output

-- No. 6: scale is 0 or less
abbrev pub no_scale : Edge → ℕ → Bool
no_scale e output = le (scale_of e output) zero64

-- the plan, or No. 6
unfoldable pub scaled : Filter → Bool → Edge → ℕ → Result Plan Refusal
scaled f adapts e output = cond (no_scale e output) (Err NoScale) (Ok (plan_for f adapts e output))

-- a refused crop ends the request with the crop's own number
unfoldable pub after_crop : Filter → Request → Result CropBox Refusal → Result Plan Refusal
after_crop f q (Ok b) = scaled f q.adapts (edge_of q.axis q.width q.height b) q.output
after_crop f q (Err refusal) = Err refusal

-- with a filter: No. 1 of the output side first, then the crop's 1 to 5, then 6
unfoldable pub plan_with_value : Filter → Request → Result Plan Refusal
plan_with_value f q = cond (bad_output q.output) (Err BadSide) (after_crop f q (crop_of q.width q.height q.crop))

-- with what its name picks: a retired name is No. 16, whatever else is asked
abbrev pub plan_by : Request → Option Filter → Result Plan Refusal
plan_by q None = Err RetiredFilter
plan_by q (Some f) = plan_with_value f q

-- No. 16 before every other number
unfoldable pub plan_of : Request → Result Plan Refusal
plan_of q = plan_by q (picked_of q.filter)

-- the centre of the display line i: near + (i + 0.5) x scale
unfoldable pub centre : Plan → ℕ → Float
centre p i = p.near plus (double i plus half64) times p.scale
