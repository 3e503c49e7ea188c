-- Values put in their places of a list, one by one or as a part of it. Cited by the functions of `blocks` and `strips`. Assumes nothing.
use mathlib.Core.Path.{◌≡◌, refl, sym, ap, ◌∙◌, subst}
use mathlib.Core.Bool.{Bool, true, false}
use mathlib.Core.List.{List, ◌++◌}
use Prim.Native.Nat.{ℕ, ◌+◌, ◌-◌, ◌<◌, ◌≤◌}
use native.Mathlib.Nat.{not-suc-le-zero}
use native.Mathlib.Omega.{arith}
use lib.Dec.{eqb, ltb}
use lib.ListN.{length, get_or, set, take, drop, length-take}
use lib.Seq.{get_or-set_same, get_or-set_other, get_or-append-add, get_or-drop}
use borrow.Author.Count.{below_more}
use borrow.Author.Tests.{eqb-true, eqb-false, ltb-true, ltb-false}
use Rattle.lists.proofs.StoreLaws.{part_low, part_here, below_block}
use Rattle.pixels_u16.specs.Places.{behind, Put}

-- a store of f's value where it belongs spoils no other of f's
set_right : (f : ℕ → ℕ) (l : List ℕ) (i v x : ℕ) → i < length l → v ≡ f i → get_or l x 0 ≡ f x → get_or (set l i v) x 0 ≡ f x
set_right f l i v x h e old = go (eqb x i) refl
  where
    go : (d : Bool) → eqb x i ≡ d → get_or (set l i v) x 0 ≡ f x
    go true q =
        let s : x ≡ i = eqb-true x i q in
        ap (λ (y : ℕ). get_or (set l i v) y 0) s ∙ get_or-set_same l i v 0 h ∙ e ∙ ap f (sym s)
    go false q = get_or-set_other l i x v 0 (eqb-false x i q) ∙ old

pub put_none : {value place : ℕ → ℕ} {old : List ℕ} → Put value place 0 old old
put_none = record { to = λ f h. ((λ x e. e), λ t l. absurd (not-suc-le-zero l)) }

-- one more
pub put_more : {value place : ℕ → ℕ} {old now : List ℕ} (t i v : ℕ) → Put value place t old now → i < length now → i ≡ place t → v ≡ value t → Put value place (t + 1) old (set now i v)
put_more {value = value} {place = place} {old = old} {now = now} t i v p l ei ev = record { to = go }
  where
    go : (f : ℕ → ℕ) → ((x : ℕ) → x < t + 1 → value x ≡ f (place x)) → ((x : ℕ) → get_or old x 0 ≡ f x → get_or (set now i v) x 0 ≡ f x) × ((x : ℕ) → x < t + 1 → get_or (set now i v) (place x) 0 ≡ f (place x))
    go f h =
        let q = p.to f (λ x k. h x (omega arith)) in
        let e : v ≡ f i = ev ∙ h t (omega arith) ∙ ap f (sym ei) in (
          (λ x k. set_right f now i v x l e (q.0 x k)),
          below_more (λ (x : ℕ). get_or (set now i v) (place x) 0 ≡ f (place x)) t (λ x k. set_right f now i v (place x) l e (q.1 x k)) (ap (λ (y : ℕ). get_or (set now i v) y 0) (sym ei) ∙ get_or-set_same now i v 0 l ∙ e ∙ ap f ei),
        )

-- the same values, counted otherwise
pub put_as : {value value₂ place place₂ : ℕ → ℕ} {old new : List ℕ} (n : ℕ) → ((t : ℕ) → t < n → value₂ t ≡ value t) → ((t : ℕ) → t < n → place t ≡ place₂ t) → Put value place n old new → Put value₂ place₂ n old new
put_as {new = new} n ev ep p = record {
  to = λ f h.
      let q = p.to f (λ t l. sym (ev t l) ∙ h t l ∙ ap f (sym (ep t l))) in
      (q.0, λ t l. ap (λ (y : ℕ). get_or new y 0) (sym (ep t l)) ∙ q.1 t l ∙ ap f (ep t l));
}

-- some, and then some more
pub put_join : {value place value₂ place₂ : ℕ → ℕ} {old mid new : List ℕ} (m n : ℕ) → Put value place m old mid → Put value₂ place₂ n mid new → ((t : ℕ) → t < n → value (m + t) ≡ value₂ t) → ((t : ℕ) → t < n → place (m + t) ≡ place₂ t) → Put value place (m + n) old new
put_join {value = value} {place = place} {old = old} {new = new} m n p r ev ep = record { to = go }
  where
    go : (f : ℕ → ℕ) → ((t : ℕ) → t < m + n → value t ≡ f (place t)) → ((x : ℕ) → get_or old x 0 ≡ f x → get_or new x 0 ≡ f x) × ((t : ℕ) → t < m + n → get_or new (place t) 0 ≡ f (place t))
    go f h =
        let a = p.to f (λ t l. h t (omega arith)) in
        let b = r.to f (λ t l. sym (ev t l) ∙ h (m + t) (omega arith) ∙ ap f (ep t l)) in
        ((λ x e. b.0 x (a.0 x e)), below_block (λ (t : ℕ). get_or new (place t) 0 ≡ f (place t)) m n (λ t l. b.0 (place t) (a.1 t l)) (λ t l. ap (λ (y : ℕ). get_or new y 0) (ep t l) ∙ b.1 t l ∙ ap f (sym (ep t l))))

-- a part written back: places that follow one another
module _ (l part : List ℕ) (o k : ℕ) (fits : o + k ≤ length l) (same : length part ≡ k) where
  abbrev new : List ℕ
  new = take o l ++ (part ++ drop k (drop o l))

  part_high : (u : ℕ) → get_or new (o + (k + u)) 0 ≡ get_or l (o + (k + u)) 0
  part_high u =
      let long : length (take o l) ≡ o = simp length-take (omega arith) in
      ap (λ (x : ℕ). get_or new (x + (k + u)) 0) (sym long)
      ∙ get_or-append-add (take o l) (part ++ drop k (drop o l)) (k + u) 0
      ∙ ap (λ (x : ℕ). get_or (part ++ drop k (drop o l)) (x + u) 0) (sym same)
      ∙ get_or-append-add part (drop k (drop o l)) u 0
      ∙ get_or-drop k (drop o l) u 0
      ∙ get_or-drop o l (k + u) 0

  pub put_part : {value : ℕ → ℕ} → ((t : ℕ) → t < k → get_or part t 0 ≡ value t) → Put value (behind o) k l new
  put_part {value = value} each = record { to = go }
    where
      go : (f : ℕ → ℕ) → ((t : ℕ) → t < k → value t ≡ f (o + t)) → ((x : ℕ) → get_or l x 0 ≡ f x → get_or new x 0 ≡ f x) × ((t : ℕ) → t < k → get_or new (o + t) 0 ≡ f (o + t))
      go f h =
          let here : (t : ℕ) → t < k → get_or new (o + t) 0 ≡ f (o + t) = λ t q. part_here 0 l part o k fits same t q ∙ each t q ∙ h t q in
          ((λ x e. kept x e (ltb x o) (ltb x (o + k)) refl refl), here)
        where
          kept : (x : ℕ) → get_or l x 0 ≡ f x → (b c : Bool) → ltb x o ≡ b → ltb x (o + k) ≡ c → get_or new x 0 ≡ f x
          kept x e true c qb qc = part_low 0 l part o k fits same x (ltb-true x o qb) ∙ e
          kept x e false true qb qc =
              let lo : o ≤ x = ltb-false x o qb in
              let hi : x < o + k = ltb-true x (o + k) qc in
              let s : o + (x - o) ≡ x = omega arith in
              let q : x - o < k = omega arith in
              subst (λ (z : ℕ). get_or new z 0 ≡ f z) s (part_here 0 l part o k fits same (x - o) q ∙ each (x - o) q ∙ h (x - o) q)
          kept x e false false qb qc =
              let hi : o + k ≤ x = ltb-false x (o + k) qc in
              let s : o + (k + (x - o - k)) ≡ x = omega arith in
              ap (λ (z : ℕ). get_or new z 0) (sym s) ∙ part_high (x - o - k) ∙ ap (λ (z : ℕ). get_or l z 0) s ∙ e
