-- A run's text piece by piece, as the writer joins it; a run's values by their index. Cited by the laws that take a set to its lines and back. Assumes nothing.
use mathlib.Core.Path.{◌≡◌, refl, sym, ap, ◌∙◌, subst}
use mathlib.Core.List.{List, [], ◌∷◌, ◌++◌, append_assoc, append-nil}
use Prim.Native.Nat.{ℕ, zero, suc, ◌+◌, ◌≤◌, ◌<◌}
use native.Mathlib.Nat.{zero-add, add-zero, add-suc, suc-add, not-suc-le-zero, le_of_suc-le-suc}
use native.Mathlib.Omega.{arith}
use lib.ListN.{length, get_or, take}
use lib.Seq.{take-suc, take-length, length-take-le}
use Rattle.text.specs.Text.{joined}
use Rattle.scan.specs.Form.{Form}
use Rattle.scan.specs.Forms.{run_text, RunGood}

module _ {A : Type 0} (F : ℕ → Form A) where
  pub run_snoc : (i : ℕ) (l : List A) (a : A) → run_text F i (l ++ a ∷ []) ≡ run_text F i l ++ (F (i + length l)).text a
  run_snoc i [] a = append-nil ((F i).text a) ∙ ap (λ (k : ℕ). (F k).text a) (sym (add-zero i))
  run_snoc i (b ∷ l) a =
      ap (λ (t : List ℕ). (F i).text b ++ t) (run_snoc (suc i) l a ∙ ap (λ (k : ℕ). run_text F (suc i) l ++ (F k).text a) (suc-add i (length l) ∙ sym (add-suc i (length l))))
      ∙ sym (append_assoc ((F i).text b) (run_text F (suc i) l) ((F (i + suc (length l))).text a))

  -- one value more of a list's beginning
  pub run_take : (l : List A) (d : A) (n : ℕ) → n < length l → run_text F 0 (take (suc n) l) ≡ run_text F 0 (take n l) ++ (F n).text (get_or l n d)
  run_take l d n h =
      let long : 0 + length (take n l) ≡ n = zero-add (length (take n l)) ∙ length-take-le n l (omega arith) in
      ap (run_text F 0) (take-suc l n d h) ∙ run_snoc 0 (take n l) (get_or l n d) ∙ ap (λ (k : ℕ). run_text F 0 (take n l) ++ (F k).text (get_or l n d)) long

  joined_take : (piece : ℕ → List ℕ) (l : List A) (d : A) (n : ℕ) → n ≤ length l → ((i : ℕ) → i < n → piece i ≡ (F i).text (get_or l i d)) → joined piece n ≡ run_text F 0 (take n l)
  joined_take piece l d zero h same = refl
  joined_take piece l d (suc n) h same =
      ap (λ (t : List ℕ). t ++ piece n) (joined_take piece l d n (omega arith) (λ i k. same i (omega arith)))
      ∙ ap (λ (t : List ℕ). run_text F 0 (take n l) ++ t) (same n (omega arith)) ∙ sym (run_take l d n h)

  -- pieces joined are the run, where each is
  pub joined_run : (piece : ℕ → List ℕ) (l : List A) (d : A) → ((i : ℕ) → i < length l → piece i ≡ (F i).text (get_or l i d)) → joined piece (length l) ≡ run_text F 0 l
  joined_run piece l d same = joined_take piece l d (length l) (omega arith) same ∙ ap (run_text F 0) (take-length l)

  pub run_long : (i n : ℕ) (l : List A) → RunGood F i n l → length l ≡ n
  run_long i zero [] good = refl
  run_long i zero (a ∷ l) good = absurd good
  run_long i (suc n) [] good = absurd good
  run_long i (suc n) (a ∷ l) good = ap suc (run_long (suc i) n l good.1)

  pub run_each : (i n : ℕ) (l : List A) (d : A) → RunGood F i n l → (k : ℕ) → k < n → (F (i + k)).Good (get_or l k d)
  run_each i zero l d good k h = absurd (not-suc-le-zero h)
  run_each i (suc n) [] d good k h = absurd good
  run_each i (suc n) (a ∷ l) d good zero h = subst (λ (j : ℕ). (F j).Good a) (sym (add-zero i)) good.0
  run_each i (suc n) (a ∷ l) d good (suc k) h =
      subst (λ (j : ℕ). (F j).Good (get_or l k d)) (suc-add i k ∙ sym (add-suc i k)) (run_each (suc i) n l d good.1 k (le_of_suc-le-suc h))

  pub run_all : (i n : ℕ) (l : List A) (d : A) → length l ≡ n → ((k : ℕ) → k < n → (F (i + k)).Good (get_or l k d)) → RunGood F i n l
  run_all i zero [] d e each = tt
  run_all i zero (a ∷ l) d e each = absurd (omega arith)
  run_all i (suc n) [] d e each = absurd (omega arith)
  run_all i (suc n) (a ∷ l) d e each = (
    subst (λ (j : ℕ). (F j).Good a) (add-zero i) (each 0 (omega arith)),
    run_all (suc i) n l d (omega arith) (λ k h. subst (λ (j : ℕ). (F j).Good (get_or l k d)) (add-suc i k ∙ sym (suc-add i k)) (each (suc k) (omega arith))),
  )
