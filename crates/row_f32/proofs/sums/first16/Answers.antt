-- `sums::first16`: the goals that the check leaves; the argument stands in Invariants.antt. Assumes nothing.
use mathlib.Core.Path.{◌∙◌, refl}
use Prim.Native.Nat.{◌+◌}
use lib.ListN.{get_or-replicate}
use lib.Ieee.{binary64, nan, of_bits}
use Rattle.row_f32.proofs.SumLaws.{sum_none}
use Rattle.row_f32.proofs.sums.first16.Goals as goal

pub loop-k-init : goal.loop-k-init
loop-k-init c =
    let a = c.args in
    (refl, λ t h. get_or-replicate 16 t (of_bits binary64 0) nan h ∙ sum_none a.ws.now a.src.now (a.at0 + t) a.row)
