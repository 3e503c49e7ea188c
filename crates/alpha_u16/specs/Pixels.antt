-- A pixel of a list, and what a change does to it. Cited by the contracts of the functions that load, store and change a pixel, and of the loops. Definitions only.
-- Assumes nothing.
use Rattle.std.specs.Prelude.{◌≡◌, List, ℕ, ◌+◌, get_or}
use Rattle.alpha_u16.specs.declared.pixels.Pixel.{Pixel}

-- the pixel whose first component is at i
abbrev pub pixel_at : List ℕ → ℕ → Pixel
pixel_at s i = record { c0 = get_or s i 0; c1 = get_or s (i + 1) 0; c2 = get_or s (i + 2) 0; alpha = get_or s (i + 3) 0 }

-- the pixel x, each colour changed by op with its alpha
abbrev pub on_colours : (ℕ → ℕ → ℕ) → Pixel → Pixel
on_colours op x = record { c0 = op x.c0 x.alpha; c1 = op x.c1 x.alpha; c2 = op x.c2 x.alpha; alpha = x.alpha }

-- `post` is what a change does to a pixel: `op` to each of its colours and the alpha
abbrev pub Changes : (ℕ → ℕ → ℕ) → (Pixel → Pixel → Type 0) → Type 0
Changes op post = (x y : Pixel) → post x y → y ≡ on_colours op x
