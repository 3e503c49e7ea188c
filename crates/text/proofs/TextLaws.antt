-- The laws of `laid` and `joined`: texts laid one after the other are one text, whatever room there is and wherever the places end; and how long
-- decimals are. Cited by every writer of text. Assumes nothing.
use mathlib.Core.Path.{◌≡◌, refl, sym, ap, ◌∙◌}
use mathlib.Core.Bool.{Bool, true, false}
use mathlib.Core.List.{List, [], ◌∷◌, ◌++◌}
use Prim.Native.Nat.{ℕ, zero, suc, ◌+◌, ◌-◌, ◌*◌, ◌/◌, ◌^◌, ◌≤◌, ◌<◌}
use native.Mathlib.Nat.{le_refl, le_trans, le-suc, add-zero, zero-add, add-suc, suc-add, zero-mul, suc-mul, add-le-add}
use native.Mathlib.Numerals.{add-one}
use native.Mathlib.Omega.{arith}
use lib.Dec.{eqb, ltb}
use lib.IntN.{ℤ, pos, negsuc}
use lib.ListN.{length, set, length-append}
use lib.Seq.{sets, length-sets, sets-eq, set_out}
use borrow.Author.Tests.{ltb-true, ltb-false}
use Rattle.lists.specs.Tab.{tab}
use Rattle.text.specs.Text.{laid, joined, over, reached, digit_count_value, digit_at_value, decimal, signed, field_text, line_text}
use Rattle.lists.proofs.FirstLaws.{first_le}
use Rattle.lists.proofs.TabLaws.{length_tab, tab_add}

-- a place below 2^64 is reached
reached_is : (at n : ℕ) → at + n < 2 ^ 64 → reached at n ≡ at + n
unfolding reached
reached_is at n h = omega (arith, h)

pub reached_whole : (n : ℕ) → n < 2 ^ 64 → reached 0 n ≡ n
unfolding reached
reached_whole n h = omega (arith, h)

reached_end : (at n : ℕ) → 2 ^ 64 ≤ at + n → reached at n ≡ 2 ^ 64 - 1
unfolding reached
reached_end at n h = omega (arith, h)

reached_below : (at n : ℕ) → reached at n < 2 ^ 64
unfolding reached
reached_below at n = omega arith

-- on from where a text ended
reached_on : (at n m : ℕ) → reached (reached at n) m ≡ reached at (n + m)
unfolding reached
reached_on at n m = omega arith

module _ {A : Type 0} where
  pub length_laid : (old : List A) (at : ℕ) (t : List A) → length (laid old at t) ≡ length old
  unfolding laid
  length_laid old at t = length-sets old at t

  sets_more : (old : List A) (at : ℕ) (s t : List A) → sets (sets old at s) (at + length s) t ≡ sets old at (s ++ t)
  sets_more old at [] t = rw add-zero
  sets_more old at (a ∷ s) t = rw (add-suc, ← suc-add) (sets_more (set old at a) (suc at) s t)

  pub laid_more : (old : List A) (at : ℕ) (s t : List A) → laid (laid old at s) (at + length s) t ≡ laid old at (s ++ t)
  unfolding laid
  laid_more old at s t = sets_more old at s t

  -- a text that there is room for, from the beginning
  pub laid_over : (old t : List A) → length t ≤ length old → laid old 0 t ≡ over t old
  unfolding laid over
  laid_over old t h = sets-eq t old 0 (rw zero-add h) ∙ rw zero-add

  -- nothing is laid past the end
  sets_past : (t old : List A) (at : ℕ) → length old ≤ at → sets old at t ≡ old
  sets_past [] old at h = refl
  sets_past (a ∷ t) old at h = rw (set_out old at a h) (sets_past t old (suc at) (le_trans h (le-suc at)))

  laid_past : (t old : List A) (at : ℕ) → length old ≤ at → laid old at t ≡ old
  unfolding laid
  laid_past t old at h = sets_past t old at h

  -- a text laid from where the last ended, though the places ended before that
  laid_on : (old : List A) (a : ℕ) (t s : List A) → length old < 2 ^ 64 → laid (laid old a t) (reached a (length t)) s ≡ laid old a (t ++ s)
  laid_on old a t s h = by (ltb (a + length t) (2 ^ 64)) refl
    where
      long : length (laid old a t) < 2 ^ 64
      long = rw (length_laid old a t) h

      by : (b : Bool) → ltb (a + length t) (2 ^ 64) ≡ b → laid (laid old a t) (reached a (length t)) s ≡ laid old a (t ++ s)
      by true q = rw (reached_is a (length t) (ltb-true (a + length t) (2 ^ 64) q)) (laid_more old a t s)
      by false q =
          let far = ltb-false (a + length t) (2 ^ 64) q in
          rw (reached_end a (length t) far) (laid_past s (laid old a t) (2 ^ 64 - 1) (omega (arith, long)))
          ∙ sym (laid_past s (laid old a t) (a + length t) (omega (arith, long, far)))
          ∙ laid_more old a t s

  -- a text laid from place a on, up to place p
  pub record Laid (a : ℕ) (t old : List A) (p : ℕ) (now : List A) : Type 0 where
    pub place : p ≡ reached a (length t)
    pub is : now ≡ laid old a t
    pub short : length old < 2 ^ 64

  pub laid_none : (a : ℕ) (old : List A) → a < 2 ^ 64 → length old < 2 ^ 64 → Laid a [] old a old
  unfolding laid
  laid_none a old h l = record { place = sym (reached_is a 0 (rw add-zero h) ∙ add-zero a); is = refl; short = l }

  pub laid_long : {a p : ℕ} {t old now : List A} → Laid a t old p now → length now ≡ length old
  laid_long {a} {p} {t} {old} l = ap length l.is ∙ length_laid old a t

  -- another text may begin where one ended
  pub laid_here : {a p : ℕ} {t old now : List A} → Laid a t old p now → Laid p [] now p now
  laid_here {a} {p} {t} {old} {now} l = laid_none p now (rw l.place (reached_below a (length t))) (rw (laid_long l) l.short)

  -- a piece more
  pub laid_then : {a p q : ℕ} {t old now new : List A} (s : List A) → Laid a t old p now → q ≡ reached p (length s) → new ≡ laid now p s → Laid a (t ++ s) old q new
  laid_then {a} {p} {q} {t} {old} {now} {new} s l e-q e = record {
    place = rw (e-q, l.place, length-append) (reached_on a (length t) (length s));
    is = rw (e, l.is, l.place) (laid_on old a t s l.short);
    short = l.short;
  }

  -- a byte more, by a store
  pub laid_byte : {a p q : ℕ} {t old now new : List A} (b : A) → Laid a t old p now → q ≡ reached p 1 → new ≡ set now p b → Laid a (t ++ (b ∷ [])) old q new
  unfolding laid
  laid_byte b l e-q e = laid_then (b ∷ []) l e-q e

  -- one slot of a run more
  pub laid_slot : {a p q : ℕ} {old now new : List A} (f : ℕ → A) (i : ℕ) → Laid a (tab 0 i f) old p now → q ≡ reached p 1 → new ≡ set now p (f i) → Laid a (tab 0 (i + 1) f) old q new
  laid_slot f i l e-q e = rw (tab_add 0 i 1 f, zero-add) (laid_byte (f i) l e-q e)

  -- one piece of a row of pieces more
  pub laid_piece : {a p q : ℕ} {old now new : List A} (piece : ℕ → List A) (k : ℕ) → Laid a (joined piece k) old p now → q ≡ reached p (length (piece k)) → new ≡ laid now p (piece k) → Laid a (joined piece (k + 1)) old q new
  laid_piece piece k l e-q e = rw add-one (laid_then (piece k) l e-q e)

  -- pieces of at most m each
  pub joined_small : (piece : ℕ → List A) (m n : ℕ) → ((k : ℕ) → k < n → length (piece k) ≤ m) → length (joined piece n) ≤ n * m
  joined_small piece m zero h = rw zero-mul (le_refl 0)
  joined_small piece m (suc n) h =
      rw (length-append, suc-mul) (add-le-add (joined_small piece m n (λ k l. h k (omega arith))) (h n (omega arith)))

pub decimal_long : (n : ℕ) → length (decimal n) ≡ digit_count_value n
unfolding decimal
decimal_long n = length_tab 0 (digit_count_value n) (digit_at_value n (digit_count_value n))

pub decimal_small : (n : ℕ) → length (decimal n) ≤ 20
unfolding digit_count_value
decimal_small n = rw (decimal_long n) (first_le (λ k. eqb (n / 10 ^ k) 0) 1 19)

pub signed_small : (v : ℤ) → length (signed v) ≤ 21
unfolding signed
signed_small (pos n) = omega (arith, decimal_small n)
signed_small (negsuc n) = omega (arith, decimal_small (suc n))

-- how long a key with its number is, and how long the line of it
pub field_small : (key : List ℕ) (n : ℕ) → length (field_text key n) ≤ length key + 20
unfolding field_text
field_small key n = omega (arith, length-append key (decimal n), decimal_small n)

pub line_small : (key : List ℕ) (n : ℕ) → length (line_text key n) ≤ length key + 21
unfolding line_text
line_small key n = omega (arith, length-append (field_text key n) (10 ∷ []), field_small key n)
