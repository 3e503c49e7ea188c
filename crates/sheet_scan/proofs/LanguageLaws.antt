-- From the form of a sheet to the acceptable texts: the two facts about the refusal byte. Cited by the laws of the readers. Assumes nothing.
use mathlib.Core.Path.{◌≡◌, refl, sym, ap, ◌∙◌, subst}
use mathlib.Core.Bool.{Bool, true, false}
use mathlib.Core.List.{List, [], ◌++◌, append-nil}
use Prim.Native.Nat.{ℕ, ◌+◌, ◌≤◌, ◌<◌}
use native.Mathlib.Nat.{zero-add}
use native.Mathlib.Omega.{arith}
use lib.Dec.{ltb}
use borrow.Author.Tests.{ltb-true, ltb-false}
use lib.ListN.{length, take, drop, take-append-drop}
use lib.Seq.{length-take-le}
use Rattle.text.specs.Words.{common}
use Rattle.scan.specs.Form.{Found, Stopped}
use Rattle.scan.proofs.CommonLaws.{common_append, common_left, common_right, common_take, common_self, common_head}
use Rattle.sheet_scan.specs.Language.{Acceptable, Longest, Whole, sheets}
use Rattle.sheet_scan.proofs.SetLaws.{rows_of}
use Rattle.sheet_scan.proofs.WholeLaws.{whole_of_value, sizes_of, store_of, whole_good, whole_text, parts_good, parts_text, apart_sheets}

module _ (wide : Bool) where
  -- an acceptable text is that of a sheet whose slots past the windows' sizes are 0
  pub acceptable_sheet : (text : List ℕ) → Acceptable wide text → (x : Whole) × (sheets wide).Good x × (text ≡ (sheets wide).text x)
  acceptable_sheet text a =
      let x : Whole = record { kind = a.kind; bits = a.bits; set = a.set } in
      let good = parts_good wide x a.accepted in
      (whole_of_value (sizes_of x) (store_of x) (rows_of x.set), whole_good wide (sizes_of x) (store_of x) (rows_of x.set) good, a.is ∙ sym (parts_text wide x a.accepted) ∙ sym (whole_text wide (sizes_of x) (store_of x) (rows_of x.set) good))

  pub sheet_acceptable : (text : List ℕ) (x : Whole) → (sheets wide).Good x → text ≡ (sheets wide).text x → Acceptable wide text
  sheet_acceptable text x good e = record { kind = x.kind; bits = x.bits; set = x.set; accepted = good.0; is = e }

  -- a text shares with what goes on from its own beginning at least that
  shares : (text rest : List ℕ) (m : ℕ) → m ≤ length text → m ≤ common text (take m text ++ rest)
  shares text rest m l =
      let e : common text (take m text ++ rest) ≡ length (take m text) + common (drop m text) rest = ap (λ (t : List ℕ). common t (take m text ++ rest)) (sym (take-append-drop m text)) ∙ common_append (take m text) (drop m text) rest in
      let long = length-take-le m text l in
      omega arith

  -- the most that any acceptable text shares, and one that shares so much
  pub longest : (text : List ℕ) (n : ℕ) → ((y : Whole) → (sheets wide).Good y → common text ((sheets wide).text y) ≤ n) → (x : Whole) → (sheets wide).Good x → common text ((sheets wide).text x) ≡ n → Longest wide text n
  longest text n most x good e =
      let within = common_left text ((sheets wide).text x) in
      let t = (sheets wide).text x in
      record {
        within = omega arith;
        rest = drop n t;
        begins = sheet_acceptable (take n text ++ drop n t) x good (ap (λ (u : List ℕ). u ++ drop n t) (subst (λ (m : ℕ). take m text ≡ take m t) e (common_take text t)) ∙ take-append-drop n t);
        most = λ m l rest a.
            let y = acceptable_sheet (take m text ++ rest) a in
            let s = shares text rest m l in
            let b = most y.0 y.1 in
            let same = ap (λ (u : List ℕ). common text u) y.2 in
            omega arith;
      }

  -- no sheet there
  pub stopped_longest : (text : List ℕ) (stop : ℕ) → Stopped (sheets wide) text 0 stop → Longest wide text stop
  stopped_longest text stop s =
      longest text stop (λ y good. let b = (s.most y good).0 in omega arith) s.some.0 s.some.1 (let e = s.some.2 in omega arith)

  pub stopped_wrong : (text : List ℕ) (stop : ℕ) → Stopped (sheets wide) text 0 stop → Acceptable wide text → ⊥
  stopped_wrong text stop s a =
      let y = acceptable_sheet text a in
      let less = (s.most y.0 y.1).1 in
      let whole : common text ((sheets wide).text y.0) ≡ length ((sheets wide).text y.0) = ap (λ (t : List ℕ). common t ((sheets wide).text y.0)) (y.2 ∙ sym (append-nil ((sheets wide).text y.0))) ∙ common_self ((sheets wide).text y.0) [] in
      omega arith

  -- a sheet there, and bytes after it
  module _ (text : List ℕ) (x : Whole) (next : ℕ) (f : Found (sheets wide) text 0 x next) where
    begins : text ≡ (sheets wide).text x ++ drop next text
    begins = f.begins

    at_end : next ≡ length ((sheets wide).text x)
    at_end = f.place ∙ zero-add (length ((sheets wide).text x))

    -- a sheet that shares more than the one that is there begins with it, and is it
    no_more : (y : Whole) → (sheets wide).Good y → common text ((sheets wide).text y) ≤ next
    no_more y good = by_order (ltb next (common text ((sheets wide).text y))) refl
      where
        by_order : (b : Bool) → ltb next (common text ((sheets wide).text y)) ≡ b → common text ((sheets wide).text y) ≤ next
        by_order false h = ltb-false next (common text ((sheets wide).text y)) h
        by_order true h =
            let more = ltb-true next (common text ((sheets wide).text y)) h in
            let e = at_end in
            let e2 : common text ((sheets wide).text y) ≡ common ((sheets wide).text x ++ drop next text) ((sheets wide).text y) = ap (λ (t : List ℕ). common t ((sheets wide).text y)) begins in
            let head = common_head ((sheets wide).text x) (drop next text) ((sheets wide).text y) (omega arith) in
            let same : x ≡ y = apart_sheets wide x y f.good good (drop (length ((sheets wide).text x)) ((sheets wide).text y)) [] (sym head ∙ sym (append-nil ((sheets wide).text y))) in
            let long : length ((sheets wide).text x) ≡ length ((sheets wide).text y) = ap (λ (z : Whole). length ((sheets wide).text z)) same in
            let bound = common_right text ((sheets wide).text y) in
            omega arith

    pub found_longest : Longest wide text next
    found_longest = longest text next no_more x f.good (ap (λ (t : List ℕ). common t ((sheets wide).text x)) begins ∙ common_self ((sheets wide).text x) (drop next text) ∙ sym at_end)

    pub found_wrong : next < length text → Acceptable wide text → ⊥
    found_wrong l a =
        let y = acceptable_sheet text a in
        let whole : common text ((sheets wide).text y.0) ≡ length ((sheets wide).text y.0) = ap (λ (t : List ℕ). common t ((sheets wide).text y.0)) (y.2 ∙ sym (append-nil ((sheets wide).text y.0))) ∙ common_self ((sheets wide).text y.0) [] in
        let bound = no_more y.0 y.1 in
        let long = ap length y.2 in
        omega arith

  -- the byte is one
  pub one_byte : (text : List ℕ) (n m : ℕ) → Longest wide text n → Longest wide text m → n ≡ m
  one_byte text n m p q =
      let a = p.most m q.within q.rest q.begins in
      let b = q.most n p.within p.rest p.begins in
      omega arith
