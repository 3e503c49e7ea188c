-- `ends_past` meets its contract: what the larger number leaves of the side decides (`left_over`), and the order of a sum does not matter. Assumes nothing.
use mathlib.Core.Path.{◌∙◌, sym, subst}
use Prim.Native.Nat.{◌≤◌, ◌^◌}
use native.Mathlib.Nat.{le_trans, le_of_lt}
use lib.Dec.{T, lit≤}
use lib.Ieee.{binary64, fits}
use Rattle.crop_box.proofs.EndLaws.{left_over, ends_turned, lt_not}
use Rattle.crop_box.proofs.checks.ends_past.Goals as goal

pub returns-then-start-extent : goal.returns-then-start-extent
returns-then-start-extent c =
    let start-held : T (fits binary64 c.args.start) = subst T (sym c.well_formed.0.1) tt in
    let extent-held : T (fits binary64 c.args.extent) = subst T (sym c.well_formed.1.0.1) tt in
    let small : c.args.side ≤ 2 ^ 53 = le_trans (le_of_lt c.ranges.side.fits) (lit≤ tt) in
    let x = c.args.start in
    let y = c.args.extent in
    record {
      answer = left_over c.args.side y x small extent-held start-held c.requires.fact_2 c.requires.fact_1 (lt_not x y c.requires.fact_1 c.requires.fact_2 c.if-start-extent.true)
          ∙ ends_turned x y c.args.side c.requires.fact_1 c.requires.fact_2;
    }

pub returns : goal.returns
returns c =
    let start-held : T (fits binary64 c.args.start) = subst T (sym c.well_formed.0.1) tt in
    let extent-held : T (fits binary64 c.args.extent) = subst T (sym c.well_formed.1.0.1) tt in
    let small : c.args.side ≤ 2 ^ 53 = le_trans (le_of_lt c.ranges.side.fits) (lit≤ tt) in
    record { answer = left_over c.args.side c.args.start c.args.extent small start-held extent-held c.requires.fact_1 c.requires.fact_2 c.if-start-extent.false }
