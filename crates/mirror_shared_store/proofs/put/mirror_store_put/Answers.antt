-- `mirror_store_put`: a code that names nothing takes the first arm of all eleven equations; else axis and filter are named (`asked`), and the values are those of `put`,
-- read through the answer's number, window size and line. Assumes nothing.
use mathlib.Core.Path.{◌≡◌, ◌∙◌, sym, ap, refl, subst}
use Prim.Native.Nat.{ℕ}
use lib.Dec.{eqb}
use lib.Ieee.{Float}
use Rattle.filters.specs.declared.FilterType.{FilterType}
use Rattle.plans.specs.declared.Axis.{Axis}
use Rattle.plans.specs.declared.Request.{Request}
use Rattle.coefficients.specs.Answer.{number_of, window_of, line_of}
use Rattle.codes.specs.Codes.{axis_of, filter_of, request_of}
use Rattle.shares.specs.Store.{store_of}
use Rattle.shares.specs.Scratch.{scratch_of}
use Rattle.shared_store.proofs.Entering.{Put}
use Rattle.mirror_shared_store.proofs.put.mirror_store_put.Goals as goal

-- the request of an axis and a filter that were named
asked : (w h : ℕ) (left top width height : Float) (axis output filter adapts : ℕ) (x : Axis) (k : FilterType) → x ≡ axis_of axis → k ≡ filter_of filter
    → ◌≡◌ {A = Request} (record { width = w; height = h; crop = record { left = left; top = top; width = width; height = height }; axis = x; output = output; filter = k; adapts = eqb adapts 1 }) (request_of w h left top width height axis output filter adapts)
asked w h left top width height axis output filter adapts x k e f = rw (e, f)

pub returns-then-names_nothing : goal.returns-then-names_nothing
returns-then-names_nothing c = rw (sym c.names_nothing.ensures.answer ∙ c.if-names_nothing.true) (record { answer = refl; written = refl; written2 = refl; written3 = refl; written4 = refl; written5 = refl; written6 = refl; written7 = refl; written8 = refl; written9 = refl; written10 = refl })

pub returns : goal.returns
returns c =
    let a = c.args in
    let p = c.put-answer in
    let made =
    subst
    (λ (q : Request). Put (store_of a.numbers.now a.slots.now a.starts.now a.sizes.now a.excesses.now) a.client q (scratch_of a.doubles.now a.firsts.now a.counts.now) p.result p.new.numbers p.new.slots p.new.starts p.new.sizes p.new.excesses p.new.doubles p.new.firsts p.new.counts)
    (asked a.image_width a.image_height a.left a.top a.width a.height a.axis a.out_side a.filter a.adapts c.axis_named.result c.filter_named.result c.axis_named.ensures.answer c.filter_named.ensures.answer)
    (p.ensures.answer, (p.ensures.written, (p.ensures.written2, (p.ensures.written3, (p.ensures.written4, (p.ensures.written5, (p.ensures.written6, (p.ensures.written7, p.ensures.written8)))))))) in
    rw (sym c.names_nothing.ensures.answer ∙ c.if-names_nothing.false) (record { answer = c.number.ensures.answer ∙ ap number_of made.0; written = made.1.0; written2 = made.1.1.0; written3 = made.1.1.1.0; written4 = made.1.1.1.1.0; written5 = made.1.1.1.1.1.0; written6 = made.1.1.1.1.1.1.0; written7 = made.1.1.1.1.1.1.1.0; written8 = made.1.1.1.1.1.1.1.1; written9 = c.window_size.ensures.answer ∙ ap window_of made.0; written10 = c.line.ensures.answer ∙ ap line_of made.0 })
