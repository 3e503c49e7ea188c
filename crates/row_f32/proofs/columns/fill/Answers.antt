-- `columns::fill`: the goals that the check leaves; the argument stands in Invariants.antt. Assumes nothing.
use mathlib.Core.Path.{◌≡◌, ◌∙◌, sym, refl, ap, subst}
use Prim.Native.Nat.{ℕ, ◌^◌, ◌≤◌, ◌<◌, ◌+◌, ◌*◌, ◌/◌, zero-le}
use native.Mathlib.Omega.{arith}
use native.Mathlib.Nat.{add_assoc, zero-add}
use lib.ListN.{length, get_or}
use lib.Ieee.{Float, nan}
use Rattle.floats.specs.Within.{AtMost}
use Rattle.lists.proofs.StoreLaws.{chunk, below_block}
use Rattle.row_f32.proofs.SumLaws.{good_bound, good_part}
use Rattle.row_f32.specs.Column.{column_value}
use Rattle.row_f32.proofs.columns.fill.Goals as goal

-- a chunk more, and what is past the chunks
room : (L q : ℕ) → q < L / 16 → q * 16 + 16 ≤ L
room L q h = omega arith

next : (q : ℕ) → q * 16 + 16 ≡ (q + 1) * 16
next q = omega arith

pub sums16-ss-requires : goal.sums16-ss-requires
sums16-ss-requires c =
    let a = c.args in
    good_part a.ws.now a.src.now a.at0 a.row (length a.out.now) c.requires.summable (c.loop-q.q * 16) 16 (room (length a.out.now) c.loop-q.q c.loop-q-test.true)

pub narrow16-ys-requires : goal.narrow16-ys-requires
narrow16-ys-requires c =
    let a = c.args in
    let g = good_part a.ws.now a.src.now a.at0 a.row (length a.out.now) c.requires.summable (c.loop-q.q * 16) 16 (room (length a.out.now) c.loop-q.q c.loop-q-test.true) in
    λ t h. subst (λ (z : Float). AtMost z (2 ^ 205)) (sym (c.sums16-ss.ensures t h)) (good_bound a.ws.now a.src.now (a.at0 + c.loop-q.q * 16) a.row 16 g t h)

pub loop-q-preserved : goal.loop-q-preserved
loop-q-preserved c =
    let a = c.args in
    let sums = c.sums16-ss in
    let made = c.narrow16-ys in
    let put = c.put16 in
    let new = put.new.out in
    let j = c.loop-q.q * 16 in
    let F : ℕ → Float = λ x. column_value a.ws.now a.src.now (a.at0 + x) a.row (length a.ws.now) in
    let value : (t : ℕ) → t < 16 → get_or made.result t nan ≡ F (j + t) = λ t k. made.ensures t k ∙ rw (sums.ensures t k, add_assoc a.at0 j t) refl in (
      put.auto.out ∙ c.loop-q.invariant.0,
      subst (λ (e : ℕ). (x : ℕ) → x < e → get_or new x nan ≡ F x) (next c.loop-q.q) (chunk
          nan
          new
          c.loop-q.out
          j
          16
          F
          put.ensures.by_index_2
          c.loop-q.invariant.1
          (λ t k. put.ensures.by_index t k ∙ value t k)),
      c.sixteen-more.ensures.result_len.0,
      c.sixteen-more.ensures.result_len.1,
      (λ z. c.loop-q.invariant.4 (c.sixteen-more.ensures.result_len.2 z)),
      (λ z. subst (λ (e : ℕ). (x : ℕ) → x < e → AtMost (F x) (2 ^ 128)) (next c.loop-q.q) (below_block
          (λ (x : ℕ). AtMost (F x) (2 ^ 128))
          j
          16
          (c.loop-q.invariant.5 (c.sixteen-more.ensures.result_len.2 z))
          (λ t k. subst (λ (v : Float). AtMost v (2 ^ 128)) (ap (λ (x : ℕ). get_or made.result x nan) (zero-add t) ∙ value t k) (c.sixteen-more.ensures.small z t zero-le k)))),
    )
