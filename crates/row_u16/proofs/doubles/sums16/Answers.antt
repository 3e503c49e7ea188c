-- `doubles::sums16`: the goals that the check leaves; the argument stands in Invariants.antt. Assumes nothing.
use mathlib.Core.Path.{◌≡◌, ◌∙◌, ap, refl}
use Prim.Native.Nat.{◌^◌, ◌<◌, ◌*◌, ◌+◌}
use native.Mathlib.Omega.{arith}
use lib.IntN.{pos}
use lib.Ieee.{binary64, nan, of_int, of_bits}
use lib.ListN.{get_or, get_or-replicate}
use lib.Signed.{mag}
use mir.Syntax.{w32}
use mir.Facts.{to_z-of_z}
use Rattle.lists.proofs.TabLaws.{row_next}
use Rattle.row_u16.proofs.Exact.{half_none, size_none, half_next, size_next}
use Rattle.row_u16.proofs.doubles.sums16.Goals as goal

pub loop-w-init : goal.loop-w-init
loop-w-init c =
    let a = c.args in (
      omega arith,
      refl,
      (λ t h. get_or-replicate 16 t (of_bits binary64 0x3fe0_0000_0000_0000) nan h ∙ half_none a.ws.now a.src.now (a.at0 + t) a.row),
      (λ t h. size_none a.ws.now a.src.now (a.at0 + t) a.row),
    )

pub loop-w-preserved : goal.loop-w-preserved
loop-w-preserved c =
    let a = c.args in
    let w : mag (get_or a.ws.now c.loop-w.w-index (pos 0)) < 2 ^ 31 = c.weight-arg-1.given in
    let v : c.weight.result ≡ of_int binary64 (get_or a.ws.now c.loop-w.w-index (pos 0)) = c.weight.ensures.answer ∙ ap (of_int binary64) (to_z-of_z {w = w32} (record { sfits = w })) in (
      omega (arith, row_next (c.loop-w.w-index * a.row) c.loop-w.w-index a.row refl),
      c.add16-more.ensures.result_len,
      (λ t h. half_next a.ws.now a.src.now (a.at0 + t) a.row c.loop-w.w-index {i = c.loop-w.at + t} (omega arith) w (c.type_inv.src (c.loop-w.at + t)).fits (c.loop-w.invariant.3 t h) (omega arith) (c.add16-more.ensures.by_index t h) v (c.loop-w.invariant.2 t h)),
      (λ t h. size_next a.ws.now a.src.now (a.at0 + t) a.row c.loop-w.w-index {i = c.loop-w.at + t} (omega arith) w (c.type_inv.src (c.loop-w.at + t)).fits (c.loop-w.invariant.3 t h)),
    )
