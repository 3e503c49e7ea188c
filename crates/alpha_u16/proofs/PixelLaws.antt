-- A loop over the pixels of a list: one pixel more, and in place the pixel that a turn reads is not written yet. Over any operation. Cited by the loops. Assumes nothing.
use mathlib.Core.Path.{◌≡◌, refl, sym, ap, ◌∙◌}
use mathlib.Core.List.{List}
use Prim.Native.Nat.{ℕ, ◌+◌, ◌*◌, ◌≤◌}
use native.Mathlib.Omega.{arith}
use lib.ListN.{length}
use Rattle.lists.proofs.TabLaws.{Written}
use Rattle.pixel_lists.specs.Lists.{component_at, stored}
use Rattle.pixel_lists.proofs.PixelLaws.{colour, kept, pixel_more, still}
use Rattle.alpha_u16.specs.declared.pixels.Pixel.{Pixel}
use Rattle.alpha_u16.specs.Pixels.{pixel_at, on_colours}

module _ (op : ℕ → ℕ → ℕ) (src : List ℕ) (q : ℕ) where
  pub pixel_into : {old now : List ℕ} (x : Pixel) → x ≡ on_colours op (pixel_at src (q * 4)) → Written (q * 4) (component_at op src) old now → q * 4 + 4 ≤ length old
      → Written ((q + 1) * 4) (component_at op src) old (stored now (q * 4) x.c0 x.c1 x.c2 x.alpha)
  pixel_into x e wr h =
      pixel_more q x.c0 x.c1 x.c2 x.alpha
      (ap (λ (y : Pixel). y.c0) e ∙ sym (colour op src q (q * 4) (omega arith) (omega arith))) (ap (λ (y : Pixel). y.c1) e ∙ sym (colour op src q (q * 4 + 1) (omega arith) (omega arith)))
      (ap (λ (y : Pixel). y.c2) e ∙ sym (colour op src q (q * 4 + 2) (omega arith) (omega arith))) (ap (λ (y : Pixel). y.alpha) e ∙ sym (kept op src q)) wr h

-- in place, the pixel at q is still what it was
pub still_pixel : {f : ℕ → ℕ} {old now : List ℕ} (q : ℕ) → Written (q * 4) f old now → pixel_at now (q * 4) ≡ pixel_at old (q * 4)
still_pixel q w = rw (still q (q * 4) w (omega arith), still q (q * 4 + 1) w (omega arith), still q (q * 4 + 2) w (omega arith), still q (q * 4 + 3) w (omega arith)) refl
