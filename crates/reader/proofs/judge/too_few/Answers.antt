-- `too_few`: a product of two numbers below 2^32 fits 64 bits. Assumes nothing.
use borrow.Author.Rules.{rules}
use Prim.Native.Nat.{◌*◌, ◌^◌, ◌≤◌, ◌<◌}
use native.Mathlib.Nat.{mul-le-mul}
use native.Mathlib.Omega.{arith}
use Rattle.reader.proofs.judge.too_few.Goals as goal

pub overflow_mul-result : goal.overflow_mul-result
overflow_mul-result c =
    let v = c.args.v in
    let o : v.windows < 2 ^ 32 = search rules in
    let w : v.window_size < 2 ^ 32 = search rules in
    let l : v.windows ≤ 4294967295 = omega arith in
    let m : v.window_size ≤ 4294967295 = omega arith in
    let all : v.windows * v.window_size ≤ 4294967295 * 4294967295 = mul-le-mul l m in
    record { fits = omega arith }
