-- How finding and stopping go from pieces to what is made of them. Cited by the scanners of lines and of sheets. Assumes nothing.
use mathlib.Core.Path.{◌≡◌, refl, sym, ap, ◌∙◌, subst}
use mathlib.Core.Bool.{Bool, true, false}
use mathlib.Core.List.{List, [], ◌∷◌, ◌++◌, append_assoc, append-nil}
use Prim.Native.Nat.{ℕ, zero, suc, ◌+◌, ◌≤◌, ◌<◌}
use native.Mathlib.Nat.{add_assoc, add-zero, zero-add, add-suc, suc-add}
use native.Mathlib.Omega.{arith}
use lib.Dec.{ltb}
use lib.ListN.{length, drop, length-append}
use lib.Seq.{drop-drop}
use borrow.Author.Tests.{ltb-true, ltb-false}
use Rattle.text.specs.Words.{common}
use Rattle.scan.specs.Form.{Form, Found, Stopped, Apart}
use Rattle.scan.specs.Forms.{and_then, run_text, RunGood, run}
use Rattle.scan.proofs.CommonLaws.{common_append, common_right, common_short, common_whole, common_head, common_self}

module _ {A : Type 0} (F : Form A) where
  -- what is found is shared whole
  pub found_whole : {text : List ℕ} {at next : ℕ} {a : A} → Found F text at a next → common (drop at text) (F.text a) ≡ length (F.text a)
  found_whole {text} {at} {next} {a} f = rw f.begins (common_self (F.text a) (drop next text))

  -- a text does not both have a value and stop
  pub not_both : {text : List ℕ} {at next stop : ℕ} {a : A} → Found F text at a next → Stopped F text at stop → ⊥
  not_both {a = a} f s = let less = (s.most a f.good).1 in let whole = found_whole f in omega arith

  -- nor stops at two places
  pub one_stop : {text : List ℕ} {at stop other : ℕ} → Stopped F text at stop → Stopped F text at other → stop ≡ other
  one_stop s t =
      let s-some = s.some.2 in
      let t_some = t.some.2 in
      let l = (s.most t.some.0 t.some.1).0 in
      let m = (t.most s.some.0 s.some.1).0 in
      omega arith

  -- nor has two values
  pub one_value : Apart F → {text : List ℕ} {at next other : ℕ} {a b : A} → Found F text at a next → Found F text at b other → (a ≡ b) × (next ≡ other)
  one_value apart {text} {at} {next} {other} {a} {b} f g =
      let same : a ≡ b = apart a b f.good g.good (drop next text) (drop other text) (sym f.begins ∙ g.begins) in
      (same, f.place ∙ ap (λ (x : A). at + length (F.text x)) same ∙ sym g.place)

  -- a value found by its text
  pub found_at : (text : List ℕ) (at : ℕ) (a : A) (rest : List ℕ) → F.Good a → drop at text ≡ F.text a ++ rest → Found F text at a (at + length (F.text a))
  found_at text at a rest good e = record {
    good = good;
    place = refl;
    begins = e ∙ ap (λ (l : List ℕ). F.text a ++ l) (sym (rest_is (F.text a) rest text at e));
  }
    where
      rest_is : (u w t : List ℕ) (at : ℕ) → drop at t ≡ u ++ w → drop (at + length u) t ≡ w
      rest_is u w t at e = sym (drop-drop (length u) at t) ∙ ap (λ (l : List ℕ). drop (length u) l) e ∙ seam u w
        where
          seam : (u w : List ℕ) → drop (length u) (u ++ w) ≡ w
          seam [] w = refl
          seam (a ∷ u) w = seam u w

-- two forms with the same texts stop at the same places
pub stopped_same : {A B : Type 0} (F : Form A) (G : Form B) → ((a : A) → F.Good a → (b : B) × G.Good b × (G.text b ≡ F.text a)) → ((b : B) → G.Good b → (a : A) × F.Good a × (F.text a ≡ G.text b)) → {text : List ℕ} {at stop : ℕ} → Stopped F text at stop → Stopped G text at stop
stopped_same {A} {B} F G there back {text} {at} {stop} s = record {
  most = λ b good.
      let a = back b good in
      subst (λ (u : List ℕ). (at + common (drop at text) u ≤ stop) × (common (drop at text) u < length u)) a.2 (s.most a.0 a.1);
  some =
      let b = there s.some.0 s.some.1 in
      (b.0, b.1, ap (λ (u : List ℕ). at + common (drop at text) u) b.2 ∙ s.some.2);
}

module _ {A : Type 0} {B : A → Type 0} (F : Form A) (G : (a : A) → Form (B a)) where
  -- both pieces found
  pub found_then : {text : List ℕ} {at mid next : ℕ} {a : A} {b : B a} → Found F text at a mid → Found (G a) text mid b next → Found (and_then F G) text at (a, b) next
  found_then {text} {at} {mid} {next} {a} {b} f g = record {
    good = (f.good, g.good);
    place = g.place ∙ rw (f.place, length-append) (add_assoc at (length (F.text a)) (length ((G a).text b)));
    begins = f.begins ∙ ap (λ (l : List ℕ). F.text a ++ l) g.begins ∙ sym (append_assoc (F.text a) ((G a).text b) (drop next text));
  }

  -- the first piece is not there: whatever would have come after it
  pub stopped_first : ((a : A) → F.Good a → (b : B a) × (G a).Good b) → {text : List ℕ} {at stop : ℕ} → Stopped F text at stop → Stopped (and_then F G) text at stop
  stopped_first ends {text} {at} {stop} s = record {
    most = λ p good.
        let m = s.most p.0 good.0 in
        let is = common_short (drop at text) (F.text p.0) ((G p.0).text p.1) m.1 in
        let long = length-append (F.text p.0) ((G p.0).text p.1) in
        let less = m.1 in
        (rw is m.0, rw (is, long) (omega arith));
    some =
        let a = s.some.0 in
        let b = ends a s.some.1 in
        let part = (s.most a s.some.1).1 in
        ((a, b.0), (s.some.1, b.1), ap (λ (n : ℕ). at + n) (common_short (drop at text) (F.text a) ((G a).text b.0) part) ∙ s.some.2);
  }

  module _ (apart : Apart F) {text : List ℕ} {at mid stop : ℕ} {a : A} (f : Found F text at a mid) (s : Stopped (G a) text mid stop) where
    abbrev Bound : List ℕ → Type 0
    Bound u = (at + common (drop at text) u ≤ stop) × (common (drop at text) u < length u)

    own : (b : B a) → common (drop at text) (F.text a ++ (G a).text b) ≡ length (F.text a) + common (drop mid text) ((G a).text b)
    own b = rw f.begins (common_append (F.text a) (drop mid text) ((G a).text b))

    own_bound : (b : B a) → (G a).Good b → Bound (F.text a ++ (G a).text b)
    own_bound b good =
        let m = s.most b good in
        let e = own b in
        let place = f.place in
        let long = length-append (F.text a) ((G a).text b) in
        let l = m.0 in
        let less = m.1 in
        (omega arith, rw (e, long) (omega arith))

    -- another first piece parts from the text before `mid`
    other_bound : (x : A) (b : B x) → F.Good x → (G x).Good b → (t : Bool) → ltb (common (drop at text) (F.text x)) (length (F.text x)) ≡ t → Bound (F.text x ++ (G x).text b)
    other_bound x b good_x good-b false t =
        let l : length (F.text x) ≤ common (drop at text) (F.text x) = ltb-false (common (drop at text) (F.text x)) (length (F.text x)) t in
        let m = common_right (drop at text) (F.text x) in
        let all : common (drop at text) (F.text x) ≡ length (F.text x) = omega arith in
        let same : a ≡ x = apart a x f.good good_x (drop mid text) (drop (length (F.text x)) (drop at text)) (sym f.begins ∙ common_whole (drop at text) (F.text x) all) in
        subst (λ (y : A). (c : B y) → (G y).Good c → Bound (F.text y ++ (G y).text c)) same own_bound b good-b
    other_bound x b good_x good-b true t =
        let part : common (drop at text) (F.text x) < length (F.text x) = ltb-true _ _ t in
        let is = common_short (drop at text) (F.text x) ((G x).text b) part in
        let long = length-append (F.text x) ((G x).text b) in
        let some = s.some.2 in
        let place = f.place in
        (rw is (early (ltb (common (drop at text) (F.text x)) (length (F.text a))) refl part), rw (is, long) (omega arith))
      where
        early : (t : Bool) → ltb (common (drop at text) (F.text x)) (length (F.text a)) ≡ t → common (drop at text) (F.text x) < length (F.text x) → at + common (drop at text) (F.text x) ≤ stop
        early true t part = let l : common (drop at text) (F.text x) < length (F.text a) = ltb-true (common (drop at text) (F.text x)) (length (F.text a)) t in let some = s.some.2 in let place = f.place in omega arith
        early false t part =
            let l : length (F.text a) ≤ common (drop at text) (F.text x) = ltb-false _ _ t in
            let begins = common_head (F.text a) (drop mid text) (F.text x) (rw f.begins at l) in
            let same : a ≡ x = apart a x f.good good_x (drop (length (F.text a)) (F.text x)) [] (sym begins ∙ sym (append-nil (F.text x))) in
            let whole : common (drop at text) (F.text x) ≡ length (F.text x) = subst (λ (y : A). common (drop at text) (F.text y) ≡ length (F.text y)) same (found_whole F f) in
            absurd (omega arith)

    -- the first piece is there and the second is not
    pub stopped_then : Stopped (and_then F G) text at stop
    stopped_then = record {
      most = λ p good. other_bound p.0 p.1 good.0 good.1 (ltb (common (drop at text) (F.text p.0)) (length (F.text p.0))) refl;
      some =
          let e = own s.some.0 in
          let some = s.some.2 in
          let place = f.place in
          ((a, s.some.0), (f.good, s.some.1), omega arith);
    }

  pub apart_then : Apart F → ((a : A) → F.Good a → Apart (G a)) → Apart (and_then F G)
  apart_then apart-F apart-G p q good-p good-q t u e =
      let e2 : F.text p.0 ++ ((G p.0).text p.1 ++ t) ≡ F.text q.0 ++ ((G q.0).text q.1 ++ u) = sym (append_assoc (F.text p.0) ((G p.0).text p.1) t) ∙ e ∙ append_assoc (F.text q.0) ((G q.0).text q.1) u in
      let same : p.0 ≡ q.0 = apart-F p.0 q.0 good-p.0 good-q.0 ((G p.0).text p.1 ++ t) ((G q.0).text q.1 ++ u) e2 in
      subst (λ (x : A). (b : B x) → (G x).Good b → F.text p.0 ++ ((G p.0).text p.1 ++ t) ≡ F.text x ++ ((G x).text b ++ u) → ◌≡◌ {A = (a : A) × B a} (p.0, p.1) (x, b)) same
      (λ b good h. ap {B = (a : A) × B a} (λ (y : B p.0). (p.0, y)) (apart-G p.0 good-p.0 p.1 b good-p.1 good t u (cancel (F.text p.0) ((G p.0).text p.1 ++ t) ((G p.0).text b ++ u) h)))
      q.1 good-q.1 e2
    where
      tail : List ℕ → List ℕ
      tail [] = []
      tail (a ∷ l) = l

      cancel : (s t u : List ℕ) → s ++ t ≡ s ++ u → t ≡ u
      cancel [] t u h = h
      cancel (a ∷ s) t u h = cancel s t u (ap tail h)

module _ {A : Type 0} (F : ℕ → Form A) where
  -- a run is its first piece and then the rest of it
  pub run_stopped : (i n : ℕ) {text : List ℕ} {at stop : ℕ} → Stopped (and_then (F i) (λ (a : A). run F (suc i) n)) text at stop → Stopped (run F i (suc n)) text at stop
  run_stopped i n s = stopped_same (and_then (F i) (λ (a : A). run F (suc i) n)) (run F i (suc n)) there back s
    where
      there : (p : A × List A) → (F i).Good p.0 × RunGood F (suc i) n p.1 → (l : List A) × RunGood F i (suc n) l × (run_text F i l ≡ (F i).text p.0 ++ run_text F (suc i) p.1)
      there p good = (p.0 ∷ p.1, good, refl)

      back : (l : List A) → RunGood F i (suc n) l → (p : A × List A) × ((F i).Good p.0 × RunGood F (suc i) n p.1) × ((F i).text p.0 ++ run_text F (suc i) p.1 ≡ run_text F i l)
      back [] good = absurd good
      back (a ∷ l) good = ((a, l), good, refl)

  -- the pieces i, i + 1, .. found one after the other from one place to another
  abbrev pub FoundAll : List ℕ → ℕ → ℕ → List A → ℕ → Type 0
  FoundAll text i at [] next = at ≡ next
  FoundAll text i at (a ∷ l) next = (mid : ℕ) × Found (F i) text at a mid × FoundAll text (suc i) mid l next

  pub all_none : (text : List ℕ) (i at : ℕ) → FoundAll text i at [] at
  all_none text i at = refl

  -- one piece more
  pub all_more : (text : List ℕ) (i at : ℕ) (l : List A) (mid next : ℕ) (a : A) → FoundAll text i at l mid → Found (F (i + length l)) text mid a next → FoundAll text i at (l ++ a ∷ []) next
  all_more text i at [] mid next a found f =
      (next, subst (λ (x : ℕ). Found (F i) text x a next) (sym found) (subst (λ (k : ℕ). Found (F k) text mid a next) (add-zero i) f), refl)
  all_more text i at (b ∷ l) mid next a found f =
      (found.0, found.1, all_more text (suc i) found.0 l mid next a found.2 (subst (λ (k : ℕ). Found (F k) text mid a next) (add-suc i (length l) ∙ sym (suc-add i (length l))) f))

  -- all found: the run is found
  pub all_found : (text : List ℕ) (i at : ℕ) (l : List A) (next : ℕ) → FoundAll text i at l next → Found (run F i (length l)) text at l next
  all_found text i at [] next e = record { good = tt; place = sym e ∙ sym (add-zero at); begins = ap (λ (m : ℕ). drop m text) e }
  all_found text i at (a ∷ l) next found =
      let rest = all_found text (suc i) found.0 l next found.2 in
      let f = found_then (F i) (λ (a : A). run F (suc i) (length l)) found.1 rest in
      record { good = f.good; place = f.place; begins = f.begins }

  module _ (apart : (i : ℕ) → Apart (F i)) where
    -- some found, and the rest of the run stopped: the run stopped there
    pub all_stopped : (text : List ℕ) (i at : ℕ) (l : List A) (mid n stop : ℕ) → FoundAll text i at l mid → Stopped (run F (i + length l) n) text mid stop → Stopped (run F i (length l + n)) text at stop
    all_stopped text i at [] mid n stop e s =
        subst (λ (x : ℕ). Stopped (run F i (0 + n)) text x stop) (sym e)
        (subst (λ (m : ℕ). Stopped (run F i m) text mid stop) (sym (zero-add n)) (subst (λ (k : ℕ). Stopped (run F k n) text mid stop) (add-zero i) s))
    all_stopped text i at (a ∷ l) mid n stop found s =
        let rest = all_stopped text (suc i) found.0 l mid n stop found.2 (subst (λ (k : ℕ). Stopped (run F k n) text mid stop) (add-suc i (length l) ∙ sym (suc-add i (length l))) s) in
        subst (λ (m : ℕ). Stopped (run F i m) text at stop) (sym (suc-add (length l) n))
        (run_stopped i (length l + n) (stopped_then (F i) (λ (a : A). run F (suc i) (length l + n)) (apart i) found.1 rest))

    -- a piece that is not there, where each piece to come can be
    pub next_stopped : (i n : ℕ) → ((l : List A) × RunGood F (suc i) n l) → {text : List ℕ} {at stop : ℕ} → Stopped (F i) text at stop → Stopped (run F i (suc n)) text at stop
    next_stopped i n ends s = run_stopped i n (stopped_first (F i) (λ (a : A). run F (suc i) n) (λ a good. ends) s)

    pub apart_run : (i n : ℕ) → Apart (run F i n)
    apart_run i zero [] [] good-l good-m t u e = refl
    apart_run i zero [] (b ∷ m) good-l good-m t u e = absurd good-m
    apart_run i zero (a ∷ l) m good-l good-m t u e = absurd good-l
    apart_run i (suc n) [] m good-l good-m t u e = absurd good-l
    apart_run i (suc n) (a ∷ l) [] good-l good-m t u e = absurd good-m
    apart_run i (suc n) (a ∷ l) (b ∷ m) good-l good-m t u e =
        let same = apart_then (F i) (λ (a : A). run F (suc i) n) (apart i) (λ a good. apart_run (suc i) n) (a, l) (b, m) good-l good-m t u e in
        ap {B = List A} (λ (p : A × List A). p.0 ∷ p.1) same

  -- values that are good wherever they stand make a run
  pub run_of : ((i : ℕ) → (a : A) × (F i).Good a) → (i n : ℕ) → (l : List A) × RunGood F i n l
  run_of each i zero = ([], tt)
  run_of each i (suc n) = let rest = run_of each (suc i) n in ((each i).0 ∷ rest.0, ((each i).1, rest.1))
