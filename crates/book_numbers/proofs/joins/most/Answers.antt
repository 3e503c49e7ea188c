-- `most` meets its contract: a part without windows has none, else the larger of the two. Assumes nothing.
use mathlib.Core.Path.{sym, ap}
use mathlib.Core.Bool.{Bool, cond}
use mir.Facts.{to_z-of_z}
use borrow.Author.Tests.{eq-eqb, ne_eqb}
use Rattle.book_numbers.proofs.joins.most.Goals as goal

pub returns-then-n-eq0 : goal.returns-then-n-eq0
returns-then-n-eq0 c = record { answer = rw (to_z-of_z c.ranges.y, eq-eqb _ 0 c.if-n-eq0.true) }

pub returns-then-m-eq0 : goal.returns-then-m-eq0
returns-then-m-eq0 c = record { answer = rw (to_z-of_z c.ranges.x, ne_eqb _ 0 c.if-n-eq0.false, eq-eqb _ 0 c.if-m-eq0.true) }

pub returns-then-x-y : goal.returns-then-x-y
returns-then-x-y c =
    let t = rw (to_z-of_z c.ranges.x, to_z-of_z c.ranges.y) at c.if-x-y.true in
    record { answer = rw (to_z-of_z c.ranges.y, ne_eqb _ 0 c.if-n-eq0.false, ne_eqb _ 0 c.if-m-eq0.false) (sym (ap (λ (b : Bool). cond b c.args.y c.args.x) t)) }

pub returns : goal.returns
returns c =
    let t = rw (to_z-of_z c.ranges.x, to_z-of_z c.ranges.y) at c.if-x-y.false in
    record { answer = rw (to_z-of_z c.ranges.x, ne_eqb _ 0 c.if-n-eq0.false, ne_eqb _ 0 c.if-m-eq0.false) (sym (ap (λ (b : Bool). cond b c.args.y c.args.x) t)) }
