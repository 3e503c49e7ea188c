-- A pixel of bytes as a word: its bytes, and a loop that stores one word more. Cited by the loops of `alpha`. Assumes nothing.
use mathlib.Core.Path.{◌≡◌, refl, ap, ◌∙◌}
use mathlib.Core.Bool.{Bool, true, false, cond}
use mathlib.Core.List.{List}
use Prim.Native.Nat.{ℕ, ◌+◌, ◌*◌, ◌/◌, ◌%◌, ◌<◌, ◌≤◌}
use native.Mathlib.Omega.{arith}
use lib.Dec.{eqb}
use lib.ListN.{length, get_or}
use Rattle.lists.proofs.TabLaws.{Written}
use Rattle.pixel_lists.specs.Lists.{component_at}
use Rattle.alpha.specs.Words.{word, word_at, on_colours, stored_word, Changes}
use Rattle.pixel_lists.proofs.PixelLaws.{colour, kept, pixel_more, still}

-- a word's bytes
pub record Bytes (w b0 b1 b2 b3 : ℕ) : Type 0 where
  pub first : w % 256 ≡ b0
  pub second : w / 256 % 256 ≡ b1
  pub third : w / 65536 % 256 ≡ b2
  pub last : w / 16777216 ≡ b3

pub bytes : (w b0 b1 b2 b3 : ℕ) → w ≡ word b0 b1 b2 b3 → b0 < 256 → b1 < 256 → b2 < 256 → b3 < 256 → Bytes w b0 b1 b2 b3
bytes w b0 b1 b2 b3 e h0 h1 h2 h3 = omega arith

pick_byte : (t : Bool) {x y : ℕ} → x < 256 → y < 256 → cond t x y < 256
pick_byte true h k = h
pick_byte false h k = k

-- a list of bytes: its pixel at q as a word
module _ (src : List ℕ) (small : (k : ℕ) → get_or src k 0 < 256) (q : ℕ) where
  pixel_bytes : Bytes (word_at src (q * 4)) (get_or src (q * 4) 0) (get_or src (q * 4 + 1) 0) (get_or src (q * 4 + 2) 0) (get_or src (q * 4 + 3) 0)
  pixel_bytes =
      bytes (word_at src (q * 4)) (get_or src (q * 4) 0) (get_or src (q * 4 + 1) 0) (get_or src (q * 4 + 2) 0) (get_or src (q * 4 + 3) 0) refl
      (small (q * 4)) (small (q * 4 + 1)) (small (q * 4 + 2)) (small (q * 4 + 3))

  -- the word that a change gives, said with the list
  pub changed_word : (op : ℕ → ℕ → ℕ) {post : ℕ → ℕ → ℕ → Type 0} {x y : ℕ} → Changes op post → x ≡ word_at src (q * 4) → post x (get_or src (q * 4 + 3) 0) y → y ≡ on_colours (λ c. op c (get_or src (q * 4 + 3) 0)) (word_at src (q * 4))
  changed_word op {x = x} {y = y} changes e p =
      let alpha = get_or src (q * 4 + 3) 0 in
      changes.is x alpha y (ap (λ (w : ℕ). w / 16777216) e ∙ pixel_bytes.last) p ∙ ap (on_colours (λ c. op c alpha)) e

  module _ (op : ℕ → ℕ → ℕ) (byte : (c a : ℕ) → c < 256 → a < 256 → op c a < 256) where
    component_byte : (k : ℕ) → component_at op src k < 256
    component_byte k = pick_byte (eqb (k % 4) 3) (small k) (byte (get_or src k 0) (get_or src (k / 4 * 4 + 3) 0) (small k) (small (k / 4 * 4 + 3)))

    -- the four bytes of the word that is stored
    stored_bytes : (w : ℕ) → w ≡ on_colours (λ c. op c (get_or src (q * 4 + 3) 0)) (word_at src (q * 4)) → Bytes w (component_at op src (q * 4)) (component_at op src (q * 4 + 1)) (component_at op src (q * 4 + 2)) (component_at op src (q * 4 + 3))
    stored_bytes w e =
        let b = pixel_bytes in
        let is : w ≡ word (component_at op src (q * 4)) (component_at op src (q * 4 + 1)) (component_at op src (q * 4 + 2)) (component_at op src (q * 4 + 3)) =
        e ∙ rw (b.first, b.second, b.third, b.last, colour op src q (q * 4) (omega arith) (omega arith), colour op src q (q * 4 + 1) (omega arith) (omega arith), colour op src q (q * 4 + 2) (omega arith) (omega arith), kept op src q) in
        bytes w _ _ _ _ is (component_byte (q * 4)) (component_byte (q * 4 + 1)) (component_byte (q * 4 + 2)) (component_byte (q * 4 + 3))

    -- one pixel more
    pub word_more : {old now : List ℕ} (w : ℕ) → w ≡ on_colours (λ c. op c (get_or src (q * 4 + 3) 0)) (word_at src (q * 4)) → Written (q * 4) (component_at op src) old now → q * 4 + 4 ≤ length old → Written ((q + 1) * 4) (component_at op src) old (stored_word now (q * 4) w)
    word_more w e wr h =
        let b = stored_bytes w e in
        pixel_more q (w % 256) (w / 256 % 256) (w / 65536 % 256) (w / 16777216) b.first b.second b.third b.last wr h

-- in place, the word at q is still what it was
pub still_word : {f : ℕ → ℕ} {old now : List ℕ} (q : ℕ) → Written (q * 4) f old now → word_at now (q * 4) ≡ word_at old (q * 4)
still_word q w = rw (still q (q * 4) w (omega arith), still q (q * 4 + 1) w (omega arith), still q (q * 4 + 2) w (omega arith), still q (q * 4 + 3) w (omega arith))
