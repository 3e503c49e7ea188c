-- `take_signed`: after a minus a number from 1 on, else one from 0 on; the two forms share no first byte. Assumes nothing.
use mathlib.Core.Path.{sym, ◌∙◌}
use lib.ListN.{get_or}
use mir.Facts.{to_z_pos, to_z-of_z}
use mir.Syntax.{w64}
use borrow.Author.Tests.{eqb-true, eqb-false}
use Prim.Native.Nat.{◌^◌, ◌<◌}
use Rattle.scan.proofs.SignLaws.{minus_within, minus_found, minus_stopped, plain_found, plain_stopped, minus_of}
use native.Mathlib.Omega.{arith}
use Rattle.scan.proofs.Handed.{handed}
use Rattle.scan.proofs.signs.take_signed.Goals as goal

pub take_number-requires : goal.take_number-requires
take_number-requires c =
    let t = c.args.text.now in
    (c.requires.0, c.requires.1, c.requires.2, minus_within t c.args.at (eqb-true (get_or t c.args.at 0) 45 (sym c.minus_at.ensures.answer ∙ c.if-minus_at.true)))

pub overflow_cast-result : goal.overflow_cast-result
overflow_cast-result c =
    let f = rw c.in_ok-n.was at c.take_number.ensures.answer in
    let high = f.good.1 in
    record { sfits = omega arith }

pub overflow_sub-result : goal.overflow_sub-result
overflow_sub-result c =
    let f = rw c.in_ok-n.was at c.take_number.ensures.answer in
    let low = f.good.0 in
    let high = f.good.1 in
    let m = minus_of c.in_ok-n.n low (omega arith) in
    rw m.gives m.fits

pub returns-then-minus_at : goal.returns-then-minus_at
returns-then-minus_at c =
    let t = c.args.text.now in
    let f = rw c.in_ok-n.was at c.take_number.ensures.answer in
    let minus = eqb-true (get_or t c.args.at 0) 45 (sym c.minus_at.ensures.answer ∙ c.if-minus_at.true) in
    let low = f.good.0 in
    let high = f.good.1 in
    let m = minus_of c.in_ok-n.n low (omega arith) in
    record { answer = rw (m.gives, to_z-of_z m.fits) (minus_found c.args.limit c.args.end t c.args.at minus m.m m.is f) }

pub returns-in_err-n : goal.returns-in_err-n
returns-in_err-n c =
    let t = c.args.text.now in
    let minus = eqb-true (get_or t c.args.at 0) 45 (sym c.minus_at.ensures.answer ∙ c.if-minus_at.true) in
    record { answer = rw (handed c.from_residual.result _ c.from_residual.ensures.1) (minus_stopped c.args.limit c.args.end t c.args.at minus c.in_err-n.ensures.answer) }

pub overflow_cast-result-2 : goal.overflow_cast-result-2
overflow_cast-result-2 c =
    let f = rw c.in_ok-n-2.was at c.take_number-2.ensures.answer in
    let high = f.good.1 in
    record { sfits = omega arith }

pub returns : goal.returns
returns c =
    let t = c.args.text.now in
    let f = rw c.in_ok-n-2.was at c.take_number-2.ensures.answer in
    let plain = eqb-false (get_or t c.args.at 0) 45 (sym c.minus_at.ensures.answer ∙ c.if-minus_at.false) in
    let high = f.good.1 in
    let small : c.in_ok-n-2.n < 2 ^ 63 = omega arith in
    record { answer = rw (to_z_pos w64 small) (plain_found c.args.limit c.args.end t c.args.at c.requires.0 plain f) }

pub returns-in_err-n-2 : goal.returns-in_err-n-2
returns-in_err-n-2 c =
    let t = c.args.text.now in
    let plain = eqb-false (get_or t c.args.at 0) 45 (sym c.minus_at.ensures.answer ∙ c.if-minus_at.false) in
    record { answer = rw (handed c.from_residual-in_err-n-2.result _ c.from_residual-in_err-n-2.ensures.1) (plain_stopped c.args.limit c.args.end t c.args.at c.requires.0 plain c.in_err-n-2.ensures.answer) }
