-- A piece and the one text that goes with its value: found where both are, stopped where the first is not there or the text after it is another. Cited by the laws of whole
-- sheets. Assumes nothing.
use mathlib.Core.Path.{◌≡◌, refl, sym, ◌∙◌}
use mathlib.Core.List.{List, ◌++◌, append_assoc}
use Prim.Native.Nat.{ℕ}
use Rattle.scan.specs.Form.{Form, Found, Stopped, Apart}
use Rattle.scan.specs.Forms.{fixed, and_then, tailed}
use Rattle.scan.proofs.FormLaws.{found_then, stopped_first, stopped_then, stopped_same}

module _ {A : Type 0} (F : Form A) (tail : A → List ℕ) where
  abbrev G : A → Form (Unit {0})
  G a = fixed (tail a)

  there : (p : A × Unit {0}) → (and_then F G).Good p → (a : A) × (tailed F tail).Good a × ((tailed F tail).text a ≡ (and_then F G).text p)
  there p good = (p.0, good.0, refl)

  back : (a : A) → (tailed F tail).Good a → (p : A × Unit {0}) × (and_then F G).Good p × ((and_then F G).text p ≡ (tailed F tail).text a)
  back a good = ((a, tt), (good, tt), refl)

  pub tail_found : {text : List ℕ} {at mid next : ℕ} {a : A} → Found F text at a mid → Found (fixed (tail a)) text mid tt next → Found (tailed F tail) text at a next
  tail_found f g = let both = found_then F G f g in record { good = f.good; place = both.place; begins = both.begins }

  pub tail_no_first : {text : List ℕ} {at stop : ℕ} → Stopped F text at stop → Stopped (tailed F tail) text at stop
  tail_no_first s = stopped_same (and_then F G) (tailed F tail) there back (stopped_first F G (λ a good. (tt, tt)) s)

  pub tail_other : Apart F → {text : List ℕ} {at mid stop : ℕ} {a : A} → Found F text at a mid → Stopped (fixed (tail a)) text mid stop → Stopped (tailed F tail) text at stop
  tail_other apart f s = stopped_same (and_then F G) (tailed F tail) there back (stopped_then F G apart f s)

  pub apart_tail : Apart F → Apart (tailed F tail)
  apart_tail apart a b good-a good-b t u e = apart a b good-a good-b (tail a ++ t) (tail b ++ u) (sym (append_assoc (F.text a) (tail a) t) ∙ e ∙ append_assoc (F.text b) (tail b) u)
