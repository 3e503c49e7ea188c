-- `narrow_bits`: `narrow_size_value` of the pattern with its sign taken off is the narrowed pattern, and the sign is put back at bit 31. It is an infinity's exactly where
-- the size is the infinity's (`narrowed_code`). Assumes nothing.
use Rattle.std.proofs.Common.{◌+◌, ◌%◌, ◌^◌, true, false, sym, add_comm, zero-add, arith, rules}
use Rattle.numbers.proofs.Codes.{narrow_nan, narrow_plus, narrow_minus, narrow_size_le}
use Rattle.numbers.proofs.Infinite.{narrowed_nan, narrowed_code}
use Rattle.numbers.proofs.bits.narrow_bits.Goals as goal

pub returns-then-p-gt-INFINITY : goal.returns-then-p-gt-INFINITY
returns-then-p-gt-INFINITY c = record { answer = narrowed_nan c.args.b c.if-p-gt-INFINITY.true }

pub overflow_cast-y : goal.overflow_cast-y
overflow_cast-y c = omega (arith, narrow_size_le (c.args.b % 2 ^ 63) c.narrow_size-y.result c.narrow_size-y.ensures)

pub returns-then-b-lt-SIGN : goal.returns-then-b-lt-SIGN
returns-then-b-lt-SIGN c =
    let b = c.args.b in
    let n = c.narrow_size-y in
    record { answer = narrowed_code false b n.result n.result (narrow_size_le (b % 2 ^ 63) n.result n.ensures) (sym (zero-add n.result)) (narrow_plus b n.result (omega arith) n.ensures c.if-b-lt-SIGN.true) }

pub overflow_add-result : goal.overflow_add-result
overflow_add-result c = omega (arith, narrow_size_le (c.args.b % 2 ^ 63) c.narrow_size-y.result c.narrow_size-y.ensures)

pub returns : goal.returns
returns c =
    let b = c.args.b in
    let n = c.narrow_size-y in
    record { answer = narrowed_code true b n.result (n.result + 2 ^ 31) (narrow_size_le (b % 2 ^ 63) n.result n.ensures) (add_comm n.result (2 ^ 31)) (narrow_minus b n.result c.ranges.b.fits (omega arith) n.ensures (omega arith)) }
