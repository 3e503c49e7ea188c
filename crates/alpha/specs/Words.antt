-- A pixel of bytes as one number, its first component lowest. Cited by the contracts of the functions that load, store and work on a pixel.
-- Definitions only. Assumes nothing.
use Rattle.std.specs.Prelude.{◌≡◌, List, ℕ, ◌+◌, ◌*◌, ◌/◌, ◌%◌, ◌<◌, get_or}
use Rattle.pixel_lists.specs.Lists.{stored}

abbrev pub word : ℕ → ℕ → ℕ → ℕ → ℕ
word c0 c1 c2 alpha = c0 + c1 * 256 + c2 * 65536 + alpha * 16777216

-- the pixel whose first component is at i
abbrev pub word_at : List ℕ → ℕ → ℕ
word_at s i = word (get_or s i 0) (get_or s (i + 1) 0) (get_or s (i + 2) 0) (get_or s (i + 3) 0)

-- the pixel x, each colour changed by f
abbrev pub on_colours : (ℕ → ℕ) → ℕ → ℕ
on_colours f x = word (f (x % 256)) (f (x / 256 % 256)) (f (x / 65536 % 256)) (x / 16777216)

-- the list with the pixel x written from i on
abbrev pub stored_word : List ℕ → ℕ → ℕ → List ℕ
stored_word s i x = stored s i (x % 256) (x / 256 % 256) (x / 65536 % 256) (x / 16777216)

-- `post` is what a change does to a pixel x with its alpha: `op` to each of its colours and the alpha. And of bytes `op` makes a byte
pub record Changes (op : ℕ → ℕ → ℕ) (post : ℕ → ℕ → ℕ → Type 0) : Type 0 where
  pub is : (x alpha y : ℕ) → x / 16777216 ≡ alpha → post x alpha y → y ≡ on_colours (λ c. op c alpha) x
  pub byte : (c alpha : ℕ) → c < 256 → alpha < 256 → op c alpha < 256
