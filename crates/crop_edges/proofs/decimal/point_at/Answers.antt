-- `decimal::point_at`: the goals that the check leaves; the argument stands in Invariants.antt. Assumes nothing.
use Rattle.std.proofs.Common.{◌≡◌, ◌+◌, ◌-◌, length, sym, refl, ap, ◌∙◌, arith, rules, eq-eqb, ne_eqb}
use Rattle.lists.specs.Tab.{first}
use Rattle.lists.proofs.FirstLaws.{first_stop, first_on}
use Rattle.crop_edges.specs.Edge.{is_point, point_at_value}
use Rattle.crop_edges.proofs.EdgeLaws.{whole_in}
use Rattle.crop_edges.proofs.decimal.point_at.Goals as goal

pub loop-k-init : goal.loop-k-init
unfolding point_at_value
loop-k-init c =
    let text = c.args.text.now in
    rw c.whole_at-k.ensures.answer (whole_in text, refl)

pub returns-then-text-k-eq46 : goal.returns-then-text-k-eq46
returns-then-text-k-eq46 c =
    let s = c.loop-k in
    let text = c.args.text.now in
    record { answer = sym (s.invariant.1 ∙ first_stop (is_point text) s.k (length text - s.k) (search rules) (eq-eqb _ 46 c.if-text-k-eq46.true)) }

pub loop-k-preserved : goal.loop-k-preserved
loop-k-preserved c =
    let s = c.loop-k in
    let text = c.args.text.now in
    let less : length text - s.k - 1 ≡ length text - (s.k + 1) = omega arith in
    (search rules, s.invariant.1 ∙ first_on (is_point text) s.k (length text - s.k) (search rules) (ne_eqb _ 46 c.if-text-k-eq46.false) ∙ ap (first (is_point text) (s.k + 1)) less)

pub returns : goal.returns
returns c =
    let s = c.loop-k in
    let text = c.args.text.now in
    let end : length text ≡ s.k = omega arith in
    let all : length text - s.k ≡ 0 = omega arith in
    record { answer = end ∙ sym (s.invariant.1 ∙ ap (first (is_point text) s.k) all) }
