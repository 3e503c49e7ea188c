-- A plan made from a request that was not refused is `Sound`: from the crop's tests, through `Bounds`, to the radius, the window size and every centre.
-- And what `plan_with` gave is `plan_with_value`. Cited by the proofs of `plan_with` and `build`, and by BuiltLaws. Assumes nothing.
use Rattle.std.specs.Prelude.{Result, Ok, Err, Option, Some, None}
use mathlib.Core.Path.{◌≡◌, refl, ap, ◌∙◌, subst}
use mathlib.Core.Bool.{Bool, true, false, ◌||◌, cond}
use Prim.Native.Nat.{ℕ, ◌+◌, ◌*◌, ◌^◌, ◌≤◌, ◌<◌}
use native.Mathlib.Nat.{le_trans, le_of_eq, le_of_lt}
use native.Mathlib.Omega.{arith}
use lib.Dec.{ltb, lit≤, lit<}
use borrow.Author.Tests.{ltb-false}
use lib.Ieee.{Float, binary64, add, mul, div, lt, le, of_bits, of_int, to_unsigned}
use lib.Ieee.Positive.{num, den, den_pos}
use Rattle.lists.proofs.BoolLaws.{or_left, or_right, ladder}
use Rattle.numbers.specs.Whole.{ceil}
use Rattle.numbers.proofs.Sizes.{raised_le}
use Rattle.floats.specs.Within.{Within}
use Rattle.floats.proofs.Within.{within_value}
use Rattle.numbers.proofs.Window.{ceil_cast}
use Rattle.numbers.specs.Window.{window}
use Rattle.floats.proofs.Integers.{int, within_mul}
use Rattle.numbers.proofs.Ranges.{half_within}
use Rattle.refusal.specs.declared.Refusal.{Refusal}
use Rattle.refusal.specs.declared.Refusal.TheVariants.{BadSide, NoScale, RetiredFilter}
use Rattle.crop_box.specs.declared.CropBox.{CropBox}
use Rattle.crop_box.specs.Crop.{crop_of}
use Rattle.filters.specs.declared.Filter.{Filter}
use Rattle.filters.specs.declared.Filter.TheVariants.{Box, Bilinear, CatmullRom}
use Rattle.filters.specs.Names.{picked_of}
use Rattle.filters.specs.Filters.{support_of}
use Rattle.floats.specs.Doubles.{zero64, half64, one64}
use Rattle.plans.specs.declared.Axis.{Axis}
use Rattle.plans.specs.declared.Axis.TheVariants.{Across, Down}
use Rattle.plans.specs.declared.Edge.{Edge}
use Rattle.plans.specs.declared.Request.{Request}
use Rattle.plans.specs.declared.Plan.{Plan}
use Rattle.plans.specs.Plan.{centre}
use Rattle.plans.specs.Inner.{Sound}
use Rattle.plans.specs.Plan.{edge_of, scale_of, filter_scale_of, radius_of, plan_for, scaled, after_crop, plan_with_value, plan_by, plan_of, bad_output, no_scale}
use Rattle.plans.proofs.Bounds.{Clear, within_mono, clear_mono, add_within, near_is_clear, scale_within}
use Rattle.plans.proofs.CropLaws.{Both, crop_passed}

-- ---- along the axis
pub edge_scale : (axis : Axis) (w h n : ℕ) (b : CropBox) → Both w h b → 0 < n → n ≤ 8192 → le (scale_of (edge_of axis w h b) n) zero64 ≡ false → Within (scale_of (edge_of axis w h b) n) 8192
unfolding scale_of edge_of
edge_scale Across w h n b ok p l z = within_mono (scale_of (edge_of Across w h b) n) w 8192 ok.across.few (scale_within b.left b.width w ok.across n p l z)
edge_scale Down w h n b ok p l z = within_mono (scale_of (edge_of Down w h b) n) h 8192 ok.down.few (scale_within b.top b.height h ok.down n p l z)

pub edge_near : (axis : Axis) (w h : ℕ) (b : CropBox) → Both w h b → Clear (edge_of axis w h b).near 8192
unfolding edge_of
edge_near Across w h b ok = clear_mono b.left w 8192 ok.across.few (near_is_clear b.left b.width w ok.across)
edge_near Down w h b ok = clear_mono b.top h 8192 ok.down.few (near_is_clear b.top b.height h ok.down)

pub edge_side : (axis : Axis) (w h : ℕ) (b : CropBox) → Both w h b → (edge_of axis w h b).side ≤ 8192
unfolding edge_of
edge_side Across w h b ok = ok.across.few
edge_side Down w h b ok = ok.down.few

-- ---- the radius
one_within : Within one64 8192
unfolding of_bits
one_within = lit≤ tt

pub filter_within : (adapts : Bool) (scale : Float) → Within scale 8192 → Within (filter_scale_of adapts scale) 8192
unfolding filter_scale_of
filter_within false scale w = one_within
filter_within true scale w = go (lt one64 scale)
  where
    go : (t : Bool) → Within (cond t scale one64) 8192
    go true = w
    go false = one_within

support_within : (f : Filter) → Within (support_of f) 2
unfolding support_of of_bits
support_within Box = lit≤ tt
support_within Bilinear = lit≤ tt
support_within CatmullRom = lit≤ tt

pub radius_within : (f : Filter) (adapts : Bool) (scale : Float) → Within scale 8192 → Within (radius_of f adapts scale) (2 ^ 14)
unfolding radius_of
radius_within f adapts scale w = within_mul (support_of f) (filter_scale_of adapts scale) 2 8192 (support_within f) (filter_within adapts scale w) (lit≤ tt)

-- the ceiling of what is at most 2 ^ 14
pub ceil_small : (x y : Float) → Within x (2 ^ 14) → y ≡ ceil binary64 x → to_unsigned 32 y ≤ 2 ^ 14
ceil_small x y w e =
    le_trans (le_of_eq (ap (to_unsigned 32) e ∙ ceil_cast x (2 ^ 14) (lit< tt) w)) (raised_le (num x) (den x) (den_pos x) (2 ^ 14) (within_value x (2 ^ 14) w).1)

window_small : (r : Float) → Within r (2 ^ 14) → window r ≤ 32769
unfolding window
window_small r w = let l = ceil_small r (ceil binary64 r) w refl in omega arith

-- ---- the plan
pub sound : (f : Filter) (adapts : Bool) (e : Edge) (n : ℕ) → n ≤ 8192 → e.side ≤ 8192 → Clear e.near 8192 → Within (scale_of e n) 8192 → Sound (plan_for f adapts e n)
unfolding centre of_int
sound f adapts e n l s near w =
    let r = radius_within f adapts (scale_of e n) w in
    record {
      lines = l;
      within = s;
      wide = refl;
      narrow = window_small (radius_of f adapts (scale_of e n)) r;
      reach = within_mono (radius_of f adapts (scale_of e n)) (2 ^ 14) (2 ^ 30) (lit≤ tt) r;
      centred = λ i h. middle_within e.near (scale_of e n) i near w h;
    }
  where
    product : (i : ℕ) → i < 8192 → (i + 1) * 8192 ≤ 2 ^ 26
    product i h = omega arith

    all : (i : ℕ) → i < 8192 → 8192 + (i + 1) * 8192 ≤ 2 ^ 27
    all i h = omega arith

    middle_within : (near scale : Float) (i : ℕ) → Clear near 8192 → Within scale 8192 → i < 8192
        → Within (add binary64 near (mul binary64 (add binary64 (int i) half64) scale)) (2 ^ 30)
    middle_within near scale i N S h =
        within_mono (add binary64 near (mul binary64 (add binary64 (int i) half64) scale)) (8192 + (i + 1) * 8192) (2 ^ 30) (le_trans (all i h) (lit≤ tt))
        (add_within near (mul binary64 (add binary64 (int i) half64) scale) 8192 ((i + 1) * 8192) N
        (within_mul (add binary64 (int i) half64) scale (i + 1) 8192 (half_within i (le_of_lt h)) S (le_trans (product i h) (lit≤ tt))) (le_trans (all i h) (lit≤ tt)))

pub output_in : (n : ℕ) → ltb n 1 || ltb 8192 n ≡ false → (0 < n) × (n ≤ 8192)
output_in n e =
    let x : 1 ≤ n = ltb-false n 1 (or_left (ltb n 1) (ltb 8192 n) e) in
    let y : n ≤ 8192 = ltb-false 8192 n (or_right (ltb n 1) (ltb 8192 n) e) in
    (x, y)

unlike : (refusal : Refusal) (p : Plan) → ◌≡◌ {A = Result Plan Refusal} (Err refusal) (Ok p) → ⊥
unlike refusal p h = let z : ◌≡◌ {A = ℕ} 0 1 = cc in omega arith

ready : (x y : Plan) → ◌≡◌ {A = Result Plan Refusal} (Ok x) (Ok y) → x ≡ y
ready x y h = cc

after_by : (f : Filter) (q : Request) (p : Plan) (Good : Plan → Type 0) (c : Result CropBox Refusal) → crop_of q.width q.height q.crop ≡ c
    → ((b : CropBox) → Both q.width q.height b → no_scale (edge_of q.axis q.width q.height b) q.output ≡ false → Good (plan_for f q.adapts (edge_of q.axis q.width q.height b) q.output))
    → after_crop f q c ≡ Ok p → Good p
unfolding after_crop scaled
after_by f q p Good (Err refusal) e good h = absurd (unlike refusal p h)
after_by f q p Good (Ok b) e good h =
    let ed = edge_of q.axis q.width q.height b in
    let s = ladder (no_scale ed q.output) (unlike NoScale p) h in
    subst Good (ready (plan_for f q.adapts ed q.output) p s.1) (good b (crop_passed q.width q.height q.crop b e) s.0)

with_by : (f : Filter) (q : Request) (p : Plan) (Good : Plan → Type 0)
    → ((b : CropBox) → Both q.width q.height b → 0 < q.output → q.output ≤ 8192 → Within (scale_of (edge_of q.axis q.width q.height b) q.output) 8192 → Good (plan_for f q.adapts (edge_of q.axis q.width q.height b) q.output))
    → plan_with_value f q ≡ Ok p → Good p
unfolding plan_with_value
with_by f q p Good good e =
    let s1 = ladder (bad_output q.output) (unlike BadSide p) e in
    let o = output_in q.output s1.0 in
    after_by f q p Good (crop_of q.width q.height q.crop) refl (λ b ok z. good b ok o.0 o.1 (edge_scale q.axis q.width q.height q.output b ok o.0 o.1 z)) s1.1

-- a plan was made with the filter that the request's name picks, from a box that passed the crop, with a scale above 0 and an output side in its range: what holds of
-- every such plan holds of it
pub plan_by_fact : (q : Request) (p : Plan) (Good : Plan → Type 0)
    → ((f : Filter) → picked_of q.filter ≡ Some f → (b : CropBox) → Both q.width q.height b → 0 < q.output → q.output ≤ 8192 → Within (scale_of (edge_of q.axis q.width q.height b) q.output) 8192 → Good (plan_for f q.adapts (edge_of q.axis q.width q.height b) q.output))
    → plan_of q ≡ Ok p → Good p
unfolding plan_of
plan_by_fact q p Good good = go (picked_of q.filter) refl
  where
    go : (x : Option Filter) → picked_of q.filter ≡ x → plan_by q x ≡ Ok p → Good p
    go None is h = absurd (unlike RetiredFilter p h)
    go (Some f) is h = with_by f q p Good (good f is) h

pub plan_sound : (q : Request) (p : Plan) → plan_of q ≡ Ok p → Sound p
plan_sound q p =
    plan_by_fact q p Sound
    (λ f is b ok some few w.
    sound f q.adapts (edge_of q.axis q.width q.height b) q.output few
    (edge_side q.axis q.width q.height b ok) (edge_near q.axis q.width q.height b ok) w)

-- ---- what `plan_with` gave is `plan_with_value`
module _ (f : Filter) (q : Request) (b : CropBox) (inside : crop_of q.width q.height q.crop ≡ Ok b) (output : ltb q.output 1 || ltb 8192 q.output ≡ false) where
  to_scaled : scaled f q.adapts (edge_of q.axis q.width q.height b) q.output ≡ plan_with_value f q
  unfolding plan_with_value after_crop
  to_scaled = rw (output, inside)

  module _ (e : Edge) (edge : e ≡ edge_of q.axis q.width q.height b) where
    pub plan_flat : le (scale_of e q.output) zero64 ≡ true → Err NoScale ≡ plan_with_value f q
    unfolding scaled
    plan_flat l = let m = rw edge at l in rw (← to_scaled, m)

    pub radius_ok : (s k : Float) → le (scale_of e q.output) zero64 ≡ false → s ≡ support_of f → k ≡ filter_scale_of q.adapts (scale_of e q.output) → Within (mul binary64 s k) (2 ^ 14)
    unfolding radius_of
    radius_ok s k l es ek =
        let ok = crop_passed q.width q.height q.crop b inside in
        let m : le (scale_of (edge_of q.axis q.width q.height b) q.output) zero64 ≡ false = rw edge at l in
        let w = edge_scale q.axis q.width q.height q.output b ok (output_in q.output output).0 (output_in q.output output).1 m in
        rw (es, ek, edge) (radius_within f q.adapts (scale_of (edge_of q.axis q.width q.height b) q.output) w)

    pub plan_is : (s k : Float) (z : ℕ) → le (scale_of e q.output) zero64 ≡ false → s ≡ support_of f → k ≡ filter_scale_of q.adapts (scale_of e q.output) → z ≡ window (mul binary64 s k)
        → Ok (record {
          filter = f;
          side = e.side;
          output = q.output;
          near = e.near;
          scale = scale_of e q.output;
          recip = div binary64 one64 k;
          radius = mul binary64 s k;
          window = z;
        }) ≡ plan_with_value f q
    unfolding scaled radius_of
    plan_is s k z l es ek ez =
        let m : le (scale_of (edge_of q.axis q.width q.height b) q.output) zero64 ≡ false = rw edge at l in
        rw (ez, ek, es, edge, ← to_scaled, m)
