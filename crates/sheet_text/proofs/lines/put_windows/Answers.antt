-- `lines::put_windows`: the goals that the check leaves; the argument stands in Invariants.antt. Assumes nothing.
use mathlib.Core.Path.{◌≡◌, refl}
use Prim.Native.Nat.{◌≤◌, ◌<◌, ◌+◌, ◌*◌, ◌^◌}
use native.Mathlib.Omega.{arith}
use lib.ListN.{length}
use borrow.Author.Rules.{rules}
use Rattle.lists.proofs.TabLaws.{row_end}
use Rattle.text.proofs.TextLaws.{laid_none}
use Rattle.sheet.specs.Text.{windows_text}
use Rattle.sheet.proofs.SheetLaws.{line_more}
use Rattle.sheet_text.proofs.lines.put_windows.Goals as goal

pub loop-i-init : goal.loop-i-init
loop-i-init g c = (search rules, laid_none _ _ (search rules) (search rules))

pub overflow_mul-i : goal.overflow_mul-i
overflow_mul-i g c =
    let row : c.loop-i.i * c.args.window + c.args.window ≤ length c.args.weights.now = rw c.requires.full (row_end c.loop-i.i (length c.args.starts.now) c.args.window c.loop-i-test.true) in
    let room : length c.args.weights.now < 2 ^ 64 = search rules in
    record { fits = omega arith }

pub put_weights-b-requires : goal.put_weights-b-requires
put_weights-b-requires g c =
    let row : c.loop-i.i * c.args.window + c.args.window ≤ length c.args.weights.now = rw c.requires.full (row_end c.loop-i.i (length c.args.starts.now) c.args.window c.loop-i-test.true) in
    omega (arith, row, c.requires.small c.loop-i.i c.loop-i-test.true)

pub loop-i-preserved : goal.loop-i-preserved
loop-i-preserved g c =
    let a = c.args in (
      omega (arith, c.loop-i-test.true),
      line_more a.starts.now a.sizes.now a.window (g.W.Weight.values a.weights.now) c.loop-i.i (c.loop-i.i * a.window) refl c.loop-i.invariant.1 c.put_open-a.ensures.answer c.put_open-a.ensures.written c.put_weights-b.ensures.answer c.put_weights-b.ensures.written c.put_byte-p.ensures.answer c.put_byte-p.ensures.written,
    )

pub returns : goal.returns
unfolding windows_text
returns g c =
    let all : c.loop-i.i ≡ length c.args.starts.now = omega arith in
    rw (← all) (record { answer = c.loop-i.invariant.1.place; written = c.loop-i.invariant.1.is })
