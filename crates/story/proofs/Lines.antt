-- For the customer: cut at its newlines, a story is a line for each camera line of the window, in line order, and five lines more; the camera lines named are exactly the
-- window's; the products add up to the pass's total, and the final number comes from it. Cited by docs/CONTRACTS.md. Assumes nothing.
use mathlib.Core.Path.{◌≡◌, refl, ap, ◌∙◌}
use mathlib.Core.List.{List, [], ◌∷◌, ◌++◌}
use Prim.Native.Nat.{ℕ, ◌+◌, ◌-◌, ◌^◌, ◌≤◌, ◌<◌}
use native.Mathlib.Omega.{arith}
use lib.IntN.{ℤ, pos}
use Rattle.lists.specs.Ladder.{Exactly}
use Rattle.lists.specs.Tab.{tab}
use Rattle.integers.specs.Sums.{sum, shifted, clipped}
use Rattle.text.specs.Text.{signed, field_text, line_text}
use Rattle.windows.specs.Set.{Stored, start, size}
use Rattle.vertical.specs.Frame.{frame}
use Rattle.vertical.specs.U16.{value_at}
use Rattle.signed_lines.specs.Lines.{number_text}
use Rattle.story_text.specs.Keys.{key_total, key_half, key_shifted, key_clip, key_final}
use Rattle.story_text.specs.Text.{camera_text, lines_text, clip_word, clip_text, end_text, window_text}
use Rattle.story.specs.Answer.{text_of}
use Rattle.story.specs.Story.{rows_of, camera_row, Named, weight_of, sample_of, product_of, total_of, shifted_of, story_rows}
use Rattle.story.proofs.RowLaws.{cut_all, cut_five, plain_append, plain_signed, plain_field, plain_camera, plain_word}

-- the five lines after the camera lines
end_rows : (t : ℤ) (half : ℕ) (v : ℤ) (final : ℕ) → rows_of (end_text t half v final) ≡ (key_total ++ signed t) ∷ (key_half ++ signed (pos half)) ∷ (key_shifted ++ signed v) ∷ (key_clip ++ clip_word 65535 v) ∷ field_text key_final final ∷ []
unfolding end_text number_text clip_text line_text
end_rows t half v final =
    cut_five (key_total ++ signed t) (key_half ++ signed (pos half)) (key_shifted ++ signed v) (key_clip ++ clip_word 65535 v) (field_text key_final final)
    (plain_append key_total (signed t) refl (plain_signed t)) (plain_append key_half (signed (pos half)) refl (plain_signed (pos half))) (plain_append key_shifted (signed v) refl (plain_signed v))
    (plain_append key_clip (clip_word 65535 v) refl (plain_word 65535 v)) (plain_field key_final final refl)

module _ (s : Stored) (src : List ℕ) (row i j : ℕ) where
  -- the story line by line
  pub story_rows_fact : rows_of (text_of s src row i j) ≡ story_rows s src row i j (total_of s src row i j) (value_at 65535 s (frame 0 src row) i j)
  unfolding window_text lines_text camera_text
  story_rows_fact =
      let l = s.set.layout in
      let line : ℕ → List ℕ = λ k. camera_row (start l i + k) (weight_of s src row i j k) (sample_of s src row i j k) in
      let value = value_at 65535 s (frame 0 src row) i j in
      let end = end_text (total_of s src row i j) (2 ^ (s.precision - 1)) (shifted_of s src row i j) value in
      cut_all line (size l i) end (λ k. plain_camera (start l i + k) (weight_of s src row i j k) (sample_of s src row i j k))
      ∙ ap (λ (rest : List (List ℕ)). tab 0 (size l i) line ++ rest) (end_rows (total_of s src row i j) (2 ^ (s.precision - 1)) (shifted_of s src row i j) value)

  -- the camera lines named are those of the window and no others
  pub lines_named : (c : ℕ) → let l = s.set.layout in Exactly (Named (start l i) (size l i) c) ((start l i ≤ c) × (c < start l i + size l i))
  lines_named c = (
    λ n. (omega (arith, n.is), omega (arith, n.is, n.below)),
    λ h. record { k = c - start s.set.layout i; below = omega (arith, h); is = omega (arith, h) },
  )

  -- the products add up to the total of the pass's definition, and its value is that total, rounded and clipped
  pub products_add_up :
      (sum (product_of s src row i j) (size s.set.layout i) ≡ total_of s src row i j)
      × (value_at 65535 s (frame 0 src row) i j ≡ clipped 65535 (shifted s.precision (sum (product_of s src row i j) (size s.set.layout i))))
  products_add_up = (refl, refl)
