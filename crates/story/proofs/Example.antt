-- Document 02's example, computed: row 12 of document 01's table at samples 1 and 0 has the story of the paper, byte by byte; row 11's two clips, and where a place ends.
-- Cited by nothing: it shows that the definition is the paper's. Assumes nothing.
use Rattle.std.specs.Prelude.{Ok, Err}
use mathlib.Core.Path.{◌≡◌, refl}
use mathlib.Core.List.{List, [], ◌∷◌, ◌++◌}
use Prim.Native.Nat.{ℕ}
use lib.IntN.{pos}
use lib.ListN.{length}
use Rattle.integers.specs.Sums.{sum, shifted, rounded, clipped}
use Rattle.text.specs.Text.{digit_count_value, decimal, signed, field_text, line_text}
use Rattle.signed_lines.specs.Lines.{number_text}
use Rattle.windows.specs.Set.{excess, weight, sample}
use Rattle.vertical.specs.Example.{set4, sharp, even}
use Rattle.vertical.specs.Frame.{frame}
use Rattle.refusal.specs.declared.Refusal.TheVariants.{DoesNotFit, NoRoom}
use Rattle.story_text.specs.Keys.{word_low, word_high, word_none}
use Rattle.story_text.specs.Text.{part_text, camera_text, lines_text, clip_word, clip_text, end_text, window_text}
use Rattle.story.specs.Answer.{by_case, text_of, answer_of}

-- the paper's lines
abbrev paper : List ℕ
paper =
    (108 ∷ 105 ∷ 110 ∷ 101 ∷ 61 ∷ 48 ∷ 44 ∷ 56 ∷ 44 ∷ 49 ∷ 44 ∷ 56 ∷ 10 ∷ [])
    ++ (108 ∷ 105 ∷ 110 ∷ 101 ∷ 61 ∷ 49 ∷ 44 ∷ 56 ∷ 44 ∷ 48 ∷ 44 ∷ 48 ∷ 10 ∷ [])
    ++ (116 ∷ 111 ∷ 116 ∷ 97 ∷ 108 ∷ 61 ∷ 56 ∷ 10 ∷ [])
    ++ (104 ∷ 97 ∷ 108 ∷ 102 ∷ 61 ∷ 56 ∷ 10 ∷ [])
    ++ (115 ∷ 104 ∷ 105 ∷ 102 ∷ 116 ∷ 101 ∷ 100 ∷ 61 ∷ 49 ∷ 10 ∷ [])
    ++ (99 ∷ 108 ∷ 105 ∷ 112 ∷ 61 ∷ 110 ∷ 111 ∷ 110 ∷ 101 ∷ 10 ∷ [])
    ++ (102 ∷ 105 ∷ 110 ∷ 97 ∷ 108 ∷ 61 ∷ 49 ∷ 10 ∷ [])

pub example : text_of (set4 even 2) (1 ∷ 0 ∷ []) 1 0 0 ≡ paper
unfolding window_text lines_text end_text camera_text part_text number_text clip_text clip_word signed field_text line_text decimal digit_count_value sum shifted clipped
example = refl

-- it has 69 bytes; a byte less of room is refused, and so are the second display line and the second column
pub example_answers :
    (answer_of (set4 even 2) (1 ∷ 0 ∷ []) 1 0 0 69 ≡ Ok 69)
    × (answer_of (set4 even 2) (1 ∷ 0 ∷ []) 1 0 0 68 ≡ Err NoRoom)
    × (answer_of (set4 even 2) (1 ∷ 0 ∷ []) 1 1 0 69 ≡ Err DoesNotFit)
    × (answer_of (set4 even 2) (1 ∷ 0 ∷ []) 1 0 1 69 ≡ Err DoesNotFit)
unfolding by_case window_text lines_text end_text camera_text part_text number_text clip_text clip_word signed field_text line_text decimal digit_count_value sum excess shifted clipped
example_answers = (refl, refl, refl, refl)

-- the word of the clip for -4, 24, -4 at precision 4
abbrev word_of : List ℕ → List ℕ
word_of samples =
    let s = set4 sharp (length samples) in
    clip_word 65535 (rounded 4 (weight s.set (pos 0) 0) (sample s.set.layout (frame 0 samples 1) 0 0) 3)

-- cut off on each side, and not at all, at the last value that is none's
pub words : (word_of (65535 ∷ 0 ∷ 65535 ∷ []) ≡ word_low) × (word_of (0 ∷ 65535 ∷ 0 ∷ []) ≡ word_high) × (word_of (100 ∷ 200 ∷ 100 ∷ []) ≡ word_none) × (word_of (65535 ∷ 65535 ∷ 65535 ∷ []) ≡ word_none)
unfolding clip_word sum shifted
words = (refl, refl, refl, refl)
