-- A text of lines, cut at its newlines, gives the lines, since no number, key or word has a newline in it. Cited by `Lines`. Assumes nothing.
use mathlib.Core.Path.{◌≡◌, refl, sym, ap, ◌∙◌}
use mathlib.Core.Bool.{Bool, true, false, cond, not, ◌&&◌}
use mathlib.Core.List.{List, [], ◌∷◌, ◌++◌, append_assoc, append-nil}
use Prim.Native.Nat.{ℕ, zero, suc, ◌≤◌}
use native.Mathlib.Nat.{zero-add}
use native.Mathlib.Numerals.{add-one}
use native.Mathlib.Omega.{arith}
use lib.Dec.{eqb}
use lib.IntN.{ℤ, pos, negsuc}
use lib.Signed.{lt_z}
use borrow.Author.Tests.{ne_eqb}
use Rattle.lists.specs.Tab.{tab}
use Rattle.lists.proofs.BoolLaws.{and_left, and_right}
use Rattle.lists.proofs.TabLaws.{tab_add}
use Rattle.text.specs.Text.{joined, digit_count_value, digit_at_value, decimal, signed, field_text}
use Rattle.sheet.specs.Keys.{comma, newline}
use Rattle.story_text.specs.Keys.{key_line, word_low, word_high, word_none}
use Rattle.story_text.specs.Text.{product, part_text, clip_word}
use Rattle.story.specs.Story.{rows_of, camera_row}

-- no byte of it is a newline
abbrev pub plain : List ℕ → Bool
plain [] = true
plain (b ∷ r) = not (eqb b 10) && plain r

plain_first : (b : ℕ) (r : List ℕ) → plain (b ∷ r) ≡ true → eqb b 10 ≡ false
plain_first b r h = turned (eqb b 10) (and_left (not (eqb b 10)) (plain r) h)
  where
    turned : (e : Bool) → not e ≡ true → e ≡ false
    turned true h = sym h
    turned false h = refl

-- a plain line and a newline: the first line is cut off
pub cut : (r t : List ℕ) → plain r ≡ true → rows_of (r ++ newline ++ t) ≡ r ∷ rows_of t
cut r t h = ap rows_of (append_assoc r newline t) ∙ inner r h
  where
    inner : (r : List ℕ) → plain r ≡ true → rows_of (r ++ (10 ∷ t)) ≡ r ∷ rows_of t
    inner [] h = refl
    inner (b ∷ r) h = rw (plain_first b r h, inner r (and_right (not (eqb b 10)) (plain r) h))

-- plain lines one after the other
pub cut_all : (row : ℕ → List ℕ) (n : ℕ) (t : List ℕ) → ((k : ℕ) → plain (row k) ≡ true) → rows_of (joined (λ k. row k ++ newline) n ++ t) ≡ tab 0 n row ++ rows_of t
cut_all row zero t h = refl
cut_all row (suc n) t h =
    let more : tab 0 (suc n) row ≡ tab 0 n row ++ (row n ∷ []) = ap (λ (m : ℕ). tab 0 m row) (sym (add-one n)) ∙ tab_add 0 n 1 row ∙ ap (λ (m : ℕ). tab 0 n row ++ (row m ∷ [])) (zero-add n) in
    ap rows_of (append_assoc (joined (λ k. row k ++ newline) n) (row n ++ newline) t)
    ∙ cut_all row n (row n ++ newline ++ t) h
    ∙ ap (λ (rest : List (List ℕ)). tab 0 n row ++ rest) (cut (row n) t (h n))
    ∙ sym (ap (λ (rows : List (List ℕ)). rows ++ rows_of t) more ∙ append_assoc (tab 0 n row) (row n ∷ []) (rows_of t))

-- five plain lines
pub cut_five : (a b c d e : List ℕ) → plain a ≡ true → plain b ≡ true → plain c ≡ true → plain d ≡ true → plain e ≡ true → rows_of ((a ++ newline) ++ (b ++ newline) ++ (c ++ newline) ++ (d ++ newline) ++ (e ++ newline)) ≡ a ∷ b ∷ c ∷ d ∷ e ∷ []
cut_five a b c d e ha hb hc hd he =
    let last = e ++ newline in
    let fourth = d ++ newline ++ last in
    let third = c ++ newline ++ fourth in
    let second = b ++ newline ++ third in
    ap rows_of (grouped (a ++ newline) (b ++ newline) (c ++ newline) (d ++ newline) last)
    ∙ cut a second ha
    ∙ ap (λ (rows : List (List ℕ)). a ∷ rows) (cut b third hb)
    ∙ ap (λ (rows : List (List ℕ)). a ∷ b ∷ rows) (cut c fourth hc)
    ∙ ap (λ (rows : List (List ℕ)). a ∷ b ∷ c ∷ rows) (cut d last hd)
    ∙ ap (λ (rows : List (List ℕ)). a ∷ b ∷ c ∷ d ∷ rows) (ap rows_of (sym (append-nil last)) ∙ cut e [] he)
  where
    grouped : (v w x y z : List ℕ) → v ++ w ++ x ++ y ++ z ≡ v ++ (w ++ (x ++ (y ++ z)))
    grouped v w x y z = simp append_assoc

pub plain_append : (r t : List ℕ) → plain r ≡ true → plain t ≡ true → plain (r ++ t) ≡ true
plain_append [] t h g = g
plain_append (b ∷ r) t h g = rw (plain_first b r h, plain_append r t (and_right (not (eqb b 10)) (plain r) h) g)

plain_tab : (f : ℕ → ℕ) (i n : ℕ) → ((k : ℕ) → 11 ≤ f k) → plain (tab i n f) ≡ true
plain_tab f i zero h = refl
plain_tab f i (suc n) h = rw (ne_eqb (f i) 10 (λ e. omega (arith, h i)), plain_tab f (suc i) n h)

plain_decimal : (n : ℕ) → plain (decimal n) ≡ true
unfolding decimal
plain_decimal n = plain_tab (digit_at_value n (digit_count_value n)) 0 (digit_count_value n) (λ k. omega arith)

pub plain_signed : (z : ℤ) → plain (signed z) ≡ true
unfolding signed
plain_signed (pos n) = plain_decimal n
plain_signed (negsuc n) = plain_decimal (suc n)

pub plain_field : (key : List ℕ) (n : ℕ) → plain key ≡ true → plain (field_text key n) ≡ true
unfolding field_text
plain_field key n h = plain_append key (decimal n) h (plain_decimal n)

plain_part : (z : ℤ) → plain (part_text z) ≡ true
unfolding part_text
plain_part z = plain_append comma (signed z) refl (plain_signed z)

pub plain_camera : (line : ℕ) (w : ℤ) (s : ℕ) → plain (camera_row line w s) ≡ true
plain_camera line w s =
    let two = plain_append (field_text key_line line) (part_text w) (plain_field key_line line refl) (plain_part w) in
    let three = plain_append (field_text key_line line ++ part_text w) (field_text comma s) two (plain_field comma s refl) in
    plain_append (field_text key_line line ++ part_text w ++ field_text comma s) (part_text (product w s)) three (plain_part (product w s))

pub plain_word : (M : ℕ) (z : ℤ) → plain (clip_word M z) ≡ true
unfolding clip_word
plain_word M z = by (lt_z z (pos 0)) (lt_z (pos M) z)
  where
    by : (a b : Bool) → plain (cond a word_low (cond b word_high word_none)) ≡ true
    by true b = refl
    by false true = refl
    by false false = refl
