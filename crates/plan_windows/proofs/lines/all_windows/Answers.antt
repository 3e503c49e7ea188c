-- `lines::all_windows`: the goals that the check leaves; the argument stands in Invariants.antt. Assumes nothing.
use mathlib.Core.Path.{◌≡◌, sym, ap, ◌∙◌}
use mathlib.Core.Bool.{true, false}
use mathlib.Core.List.{◌++◌}
use Prim.Native.Nat.{ℕ, ◌≤◌, ◌<◌, ◌+◌, ◌-◌, ◌*◌}
use native.Mathlib.Nat.{sub-zero, zero-mul, mul-le-mul, le_trans, le_of_eq, lt_of_lt_of_le}
use lib.ListN.{length, take, drop}
use lib.Ieee.{eq}
use Rattle.floats.specs.Doubles.{zero64}
use Rattle.plan_windows.specs.declared.Span.{Span}
use Rattle.plan_windows.proofs.LineLaws.{or_zero_blank, or_zero_done}
use Rattle.lists.specs.Tab.{front, grid}
use Rattle.lists.proofs.TabLaws.{Written, written_none, written_more, written_row, row_end, row_next, front_over}
use Rattle.lists.proofs.FirstLaws.{first_stop, first_on}
use Rattle.plan_windows.specs.Lines.{slot, lead, size, blank, first_blank, zero_weight, zero_line}
use borrow.Author.Rules.{rules}
use native.Mathlib.Omega.{arith}
use Rattle.plan_windows.proofs.lines.all_windows.Goals as goal

pub overflow_mul-slots : goal.overflow_mul-slots
overflow_mul-slots c =
    let b : c.args.p.output * c.args.p.window ≤ 8192 * 32769 = mul-le-mul c.requires.fact_1.lines c.requires.fact_1.narrow in
    omega arith

pub loop-k-init : goal.loop-k-init
unfolding first_blank
loop-k-init c = (omega arith, rw zero-mul, written_none, written_none, written_none, rw sub-zero)

pub overflow_add-e : goal.overflow_add-e
overflow_add-e c =
    let ends : c.loop-k.a + c.args.p.window ≤ length c.args.weights.now = omega (arith, row_end c.loop-k.k c.args.p.output c.args.p.window c.loop-k-test.true, c.requires.fact_2.slots_there) in
    omega (arith, ends)

pub offset_bounds-weights-a : goal.offset_bounds-weights-a
offset_bounds-weights-a c =
    let ends : c.loop-k.a + c.args.p.window ≤ length c.args.weights.now = omega (arith, row_end c.loop-k.k c.args.p.output c.args.p.window c.loop-k-test.true, c.requires.fact_2.slots_there) in
    omega (arith, ends, c.well_formed.1.0.1)

pub slice_bounds-one_window-end : goal.slice_bounds-one_window-end
slice_bounds-one_window-end c =
    let ends : c.loop-k.a + c.args.p.window ≤ length c.args.weights.now = omega (arith, row_end c.loop-k.k c.args.p.output c.args.p.window c.loop-k-test.true, c.requires.fact_2.slots_there) in
    omega (arith, ends)

pub one_window-span-requires : goal.one_window-span-requires
one_window-span-requires c =
    let ok = c.requires.fact_1 in
    let back : c.loop-k.a + c.args.p.window - c.loop-k.a ≡ c.args.p.window = omega arith in
    let low : c.loop-k.k < 8192 = omega (arith, ok.lines) in
    record {
      room = sym c.one_window-arg-1.given.1 ∙ back;
      within = ok.within;
      wide = ok.wide;
      narrow = ok.narrow;
      reach = ok.reach;
      centred = ok.centred c.loop-k.k low;
    }

pub zero_weights-requires : goal.zero_weights-requires
zero_weights-requires c =
    let ends : c.loop-k.a + c.args.p.window ≤ length c.args.weights.now = omega (arith, row_end c.loop-k.k c.args.p.output c.args.p.window c.loop-k-test.true, c.requires.fact_2.slots_there) in
    let row_done : Written (c.loop-k.a + c.args.p.window) (grid c.args.p.window (slot c.args.p)) c.args.weights.now (take c.loop-k.a c.loop-k.weights ++ (c.one_window-span.new.row ++ drop (c.loop-k.a + c.args.p.window - c.loop-k.a) (drop c.loop-k.a c.loop-k.weights))) = let p = c.args.p in let back : c.loop-k.a + p.window - c.loop-k.a ≡ p.window = omega arith in written_row c.loop-k.k p.window c.loop-k.a (c.loop-k.a + p.window - c.loop-k.a) (slot p) c.loop-k.invariant.2 c.loop-k.invariant.1 back ends c.one_window-span.ensures.written in
    le_trans c.requires.fact_2.slots_there (le_of_eq (sym row_done.long))

pub returns-then-span : goal.returns-then-span
returns-then-span c =
    let ends : c.loop-k.a + c.args.p.window ≤ length c.args.weights.now = omega (arith, row_end c.loop-k.k c.args.p.output c.args.p.window c.loop-k-test.true, c.requires.fact_2.slots_there) in
    let row_done : Written (c.loop-k.a + c.args.p.window) (grid c.args.p.window (slot c.args.p)) c.args.weights.now (take c.loop-k.a c.loop-k.weights ++ (c.one_window-span.new.row ++ drop (c.loop-k.a + c.args.p.window - c.loop-k.a) (drop c.loop-k.a c.loop-k.weights))) = let p = c.args.p in let back : c.loop-k.a + p.window - c.loop-k.a ≡ p.window = omega arith in written_row c.loop-k.k p.window c.loop-k.a (c.loop-k.a + p.window - c.loop-k.a) (slot p) c.loop-k.invariant.2 c.loop-k.invariant.1 back ends c.one_window-span.ensures.written in
    let p = c.args.p in
    let k = c.loop-k.k in
    let is-blank : blank p k ≡ true = ap (λ (s : Span). eq s.total zero64) (sym c.one_window-span.ensures.answer) ∙ c.if-span.true in
    let place : first_blank p ≡ k = c.loop-k.invariant.5 ∙ first_stop (blank p) k (p.output - k) (omega arith) is-blank in
    let inside : k < p.output = omega arith in
    let all : c.loop-k.a + p.window ≤ p.output * p.window = omega (arith, row_end k p.output p.window inside) in
    record {
      answer = sym place;
      written = c.zero_weights.ensures.written ∙ ap (front (p.output * p.window) zero_weight) row_done.is
          ∙ front_over (p.output * p.window) (c.loop-k.a + p.window) zero_weight (grid p.window (slot p)) c.args.weights.now all
          ∙ or_zero_blank p k (front (p.output * p.window) zero_weight c.args.weights.now) _ place inside;
      written2 = c.zero_lines.ensures.written ∙ ap (front p.output zero_line) c.loop-k.invariant.3.is
          ∙ front_over p.output k zero_line (lead p) c.args.starts.now c.loop-k.invariant.0
          ∙ or_zero_blank p k (front p.output zero_line c.args.starts.now) _ place inside;
      written3 = c.zero_lines-then-span.ensures.written ∙ ap (front p.output zero_line) c.loop-k.invariant.4.is
          ∙ front_over p.output k zero_line (size p) c.args.sizes.now c.loop-k.invariant.0
          ∙ or_zero_blank p k (front p.output zero_line c.args.sizes.now) _ place inside;
    }

pub loop-k-preserved : goal.loop-k-preserved
loop-k-preserved c =
    let ends : c.loop-k.a + c.args.p.window ≤ length c.args.weights.now = omega (arith, row_end c.loop-k.k c.args.p.output c.args.p.window c.loop-k-test.true, c.requires.fact_2.slots_there) in
    let row_done : Written (c.loop-k.a + c.args.p.window) (grid c.args.p.window (slot c.args.p)) c.args.weights.now (take c.loop-k.a c.loop-k.weights ++ (c.one_window-span.new.row ++ drop (c.loop-k.a + c.args.p.window - c.loop-k.a) (drop c.loop-k.a c.loop-k.weights))) = let p = c.args.p in let back : c.loop-k.a + p.window - c.loop-k.a ≡ p.window = omega arith in written_row c.loop-k.k p.window c.loop-k.a (c.loop-k.a + p.window - c.loop-k.a) (slot p) c.loop-k.invariant.2 c.loop-k.invariant.1 back ends c.one_window-span.ensures.written in
    let p = c.args.p in
    let k = c.loop-k.k in
    let left : p.output - k - 1 ≡ p.output - (k + 1) = omega arith in
    let inside : k < p.output = omega arith in
    let sound : blank p k ≡ false = ap (λ (s : Span). eq s.total zero64) (sym c.one_window-span.ensures.answer) ∙ c.if-span.false in (
      search rules,
      row_next c.loop-k.a k p.window c.loop-k.invariant.1,
      row_done,
      written_more c.loop-k.invariant.3 (lt_of_lt_of_le inside c.requires.fact_2.starts_there) (ap (λ (s : Span). s.window.start.0) c.one_window-span.ensures.answer),
      written_more c.loop-k.invariant.4 (lt_of_lt_of_le inside c.requires.fact_2.sizes_there) (ap (λ (s : Span). s.window.size) c.one_window-span.ensures.answer),
      c.loop-k.invariant.5 ∙ first_on (blank p) k (p.output - k) (omega arith) sound ∙ rw left,
    )

pub returns : goal.returns
returns c =
    let p = c.args.p in
    let all : c.loop-k.k ≡ p.output = omega arith in
    let none : p.output - c.loop-k.k ≡ 0 = omega arith in
    let place : first_blank p ≡ c.loop-k.k = c.loop-k.invariant.5 ∙ rw none in
    let done : first_blank p ≡ p.output = place ∙ all in
    let whole : c.loop-k.a ≡ p.output * p.window = c.loop-k.invariant.1 ∙ ap (λ (x : ℕ). x * p.window) all in
    record { answer = sym done; written = c.loop-k.invariant.2.is ∙ ap (λ (x : ℕ). front x (grid p.window (slot p)) c.args.weights.now) whole ∙ or_zero_done p _ _ done; written2 = c.loop-k.invariant.3.is ∙ ap (λ (x : ℕ). front x (lead p) c.args.starts.now) all ∙ or_zero_done p _ _ done; written3 = c.loop-k.invariant.4.is ∙ ap (λ (x : ℕ). front x (size p) c.args.sizes.now) all ∙ or_zero_done p _ _ done }
