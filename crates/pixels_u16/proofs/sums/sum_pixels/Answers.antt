-- `sums::sum_pixels`: the goals that the check leaves; the argument stands in Invariants.antt. Assumes nothing.
use mathlib.Core.Path.{◌≡◌, ◌∙◌, ap, refl}
use Prim.Native.Nat.{ℕ, ◌^◌, ◌≤◌, ◌<◌, ◌*◌}
use native.Mathlib.Nat.{zero-add, mul-le-mul}
use native.Mathlib.Omega.{arith}
use lib.IntN.{pos}
use lib.Ieee.{Float, binary64, nan, of_int}
use lib.ListN.{length, get_or}
use lib.Signed.{mag}
use mir.Syntax.{w32}
use mir.Facts.{to_z-of_z}
use mathlib.Core.List.{List}
use Rattle.lists.specs.Tab.{tab}
use Rattle.lists.proofs.TabLaws.{row_next, get_d_tab}
use Rattle.row_u16.proofs.Exact.{half_none, size_none, half_next, size_next}
use Rattle.pixels_u16.specs.Places.{place_at, added_at}
use Rattle.pixels_u16.proofs.sums.sum_pixels.Goals as goal

-- one sum after the weight's turn
added_is : (src : List ℕ) (at components row : ℕ) (w : Float) (old : List Float) {new : List Float} → new ≡ tab 0 (length old) (added_at old w src at components row) → (t : ℕ) → t < length old → get_or new t nan ≡ added_at old w src at components row t
added_is src at components row w old e t h =
    ap (λ (l : List Float). get_or l t nan) e ∙ get_d_tab 0 (length old) (added_at old w src at components row) t nan h ∙ ap (added_at old w src at components row) (zero-add t)

pub loop-w-init : goal.loop-w-init
loop-w-init c =
    let a = c.args in (
      omega arith,
      refl,
      (λ t h. c.requires.by_index_2 t h ∙ half_none a.ws.now a.src.now (place_at a.at0 a.components a.row t) a.components),
      (λ t h. size_none a.ws.now a.src.now (place_at a.at0 a.components a.row t) a.components),
    )

pub add_pixels-requires : goal.add_pixels-requires
add_pixels-requires c =
    let a = c.args in
    record { le_components = c.requires.le_components.0; by_index = λ t h. rw c.loop-w.invariant.0 (c.requires.by_index c.loop-w.w-index c.loop-w-test.true t (rw c.loop-w.invariant.1 at h)) }

pub overflow_add-at : goal.overflow_add-at
overflow_add-at c =
    let turns : c.loop-w.w-index ≤ 32 = omega (arith, c.requires.ws_len_bound) in
    let few : c.loop-w.w-index * c.args.components ≤ 32 * 4 = mul-le-mul turns c.requires.le_components.1 in
    omega (arith, c.loop-w.invariant.0, c.requires.le_components)

pub loop-w-preserved : goal.loop-w-preserved
loop-w-preserved c =
    let a = c.args in
    let k = c.loop-w.w-index in
    let w : mag (get_or a.ws.now k (pos 0)) < 2 ^ 31 = c.weight-arg-1.given in
    let v : c.weight.result ≡ of_int binary64 (get_or a.ws.now k (pos 0)) = c.weight.ensures.answer ∙ ap (of_int binary64) (to_z-of_z {w = w32} (record { sfits = w })) in
    let long = c.loop-w.invariant.1 in
    let new = c.add_pixels in
    let place : ℕ → ℕ = place_at a.at0 a.components a.row in (
      omega (arith, row_next (k * a.components) k a.components refl),
      new.auto.ss ∙ long,
      (λ t h. half_next a.ws.now a.src.now (place t) a.components k {i = place_at c.loop-w.at a.components a.row t} (omega arith) w (c.type_inv.src (place_at c.loop-w.at a.components a.row t)).fits (c.loop-w.invariant.3 t h) (omega (arith, c.requires.ws_len_bound)) (added_is a.src.now c.loop-w.at a.components a.row c.weight.result c.loop-w.ss new.ensures t (rw long h)) v (c.loop-w.invariant.2 t h)),
      (λ t h. size_next a.ws.now a.src.now (place t) a.components k {i = place_at c.loop-w.at a.components a.row t} (omega arith) w (c.type_inv.src (place_at c.loop-w.at a.components a.row t)).fits (c.loop-w.invariant.3 t h)),
    )

pub shape_of-ss : goal.shape_of-ss
shape_of-ss c = c.loop-w.invariant.1

pub returns : goal.returns
returns c =
    let a = c.args in
    let e : c.loop-w.w-index ≡ length a.ws.now = omega arith in
    record { by_index_3 = (λ t h. rw (← e) (c.loop-w.invariant.2 t h)); by_index_4 = λ t h. rw (← e) (omega (arith, c.loop-w.invariant.3 t h, c.requires.ws_len_bound)) }
