-- Loops that store one element a turn, chunks of elements, and parts of a list written back, said index by index. Cited by the passes, over u16 and f32 alike.
-- Assumes nothing.
use mathlib.Core.Path.{◌≡◌, refl, sym, ap, ◌∙◌, subst}
use mathlib.Core.Bool.{Bool, true, false}
use mathlib.Core.List.{List, ◌++◌}
use Prim.Native.Nat.{ℕ, ◌+◌, ◌-◌, ◌<◌, ◌≤◌}
use native.Mathlib.Omega.{arith}
use lib.Dec.{ltb}
use lib.ListN.{length, get_or, set, take, drop, length-take, length-drop, get_or-append}
use lib.Seq.{get_or-set_same, get_or-set_other, get_or-take, get_or-append-add}
use borrow.Author.Count.{below_more}
use borrow.Author.Tests.{ltb-true, ltb-false}

-- ---- a property of the indices of a loop

-- of those from b on, one more
pub from_more : (P : ℕ → Type 0) (b t : ℕ) → ((x : ℕ) → b ≤ x → x < t → P x) → P t → (x : ℕ) → b ≤ x → x < t + 1 → P x
from_more P b t old new x q k = below_more (λ (x : ℕ). b ≤ x → P x) t (λ x k q. old x q k) (λ q. new) x k q

-- those from a to b, and those from b to e
pub join : (P : ℕ → Type 0) (a b e : ℕ) → ((y : ℕ) → a ≤ y → y < b → P y) → ((y : ℕ) → b ≤ y → y < e → P y) → (y : ℕ) → a ≤ y → y < e → P y
join P a b e near far y h k = go (ltb y b) refl
  where
    go : (d : Bool) → ltb y b ≡ d → P y
    go true q = near y h (ltb-true y b q)
    go false q = far y (ltb-false y b q) k

-- those below j, and n more
pub below_block : (P : ℕ → Type 0) (j n : ℕ) → ((x : ℕ) → x < j → P x) → ((t : ℕ) → t < n → P (j + t)) → (x : ℕ) → x < j + n → P x
below_block P j n old new x h = go (ltb x j) refl
  where
    go : (b : Bool) → ltb x j ≡ b → P x
    go true e = old x (ltb-true x j e)
    go false e =
        let k : j ≤ x = ltb-false x j e in
        let s : j + (x - j) ≡ x = omega arith in
        subst P s (new (x - j) (omega arith))

-- ---- a store

module _ {A : Type 0} (l : List A) (t : ℕ) (v d : A) (f : ℕ → A) where
  pub set_below : t < length l → v ≡ f t → ((x : ℕ) → x < t → get_or l x d ≡ f x) → (x : ℕ) → x < t + 1 → get_or (set l t v) x d ≡ f x
  set_below h e old =
      below_more
      (λ (x : ℕ). get_or (set l t v) x d ≡ f x)
      t
      (λ x q. get_or-set_other l t x v d (λ (s : x ≡ t). omega arith) ∙ old x q)
      (get_or-set_same l t v d h ∙ e)

  pub set_above : ((x : ℕ) → t ≤ x → get_or l x d ≡ f x) → (x : ℕ) → t + 1 ≤ x → get_or (set l t v) x d ≡ f x
  set_above old x k = get_or-set_other l t x v d (λ (s : x ≡ t). omega arith) ∙ old x (omega arith)

  -- counted from j on, from b on, and what stands below b
  pub set_shift : (j : ℕ) → j + t < length l → v ≡ f t → ((x : ℕ) → x < t → get_or l (j + x) d ≡ f x) → (x : ℕ) → x < t + 1 → get_or (set l (j + t) v) (j + x) d ≡ f x
  set_shift j h e old =
      below_more
      (λ (x : ℕ). get_or (set l (j + t) v) (j + x) d ≡ f x)
      t
      (λ x q. get_or-set_other l (j + t) (j + x) v d (λ (s : j + x ≡ j + t). omega arith) ∙ old x q)
      (get_or-set_same l (j + t) v d h ∙ e)

  pub set_range : (b : ℕ) → t < length l → v ≡ f t → ((x : ℕ) → b ≤ x → x < t → get_or l x d ≡ f x) → (x : ℕ) → b ≤ x → x < t + 1 → get_or (set l t v) x d ≡ f x
  set_range b h e old =
      from_more
      (λ (x : ℕ). get_or (set l t v) x d ≡ f x)
      b
      t
      (λ x q k. get_or-set_other l t x v d (λ (s : x ≡ t). omega arith) ∙ old x q k)
      (get_or-set_same l t v d h ∙ e)

  pub set_low : (b : ℕ) → b ≤ t → ((x : ℕ) → x < b → get_or l x d ≡ f x) → (x : ℕ) → x < b → get_or (set l t v) x d ≡ f x
  set_low b h old x k = get_or-set_other l t x v d (λ (s : x ≡ t). omega arith) ∙ old x k

-- ---- a chunk of n elements behind j that are done

module _ {A : Type 0} (d : A) (new old : List A) (j n : ℕ) (f : ℕ → A)
    (kept : (x : ℕ) → x < j → get_or new x d ≡ get_or old x d)
    (done : (x : ℕ) → x < j → get_or old x d ≡ f x)
    (here : (t : ℕ) → t < n → get_or new (j + t) d ≡ f (j + t)) where
  pub chunk : (x : ℕ) → x < j + n → get_or new x d ≡ f x
  chunk = below_block (λ (x : ℕ). get_or new x d ≡ f x) j n (λ x h. kept x h ∙ done x h) here

-- ---- a part written back: the list after `&mut l[o..o + k]` is back

module _ {A : Type 0} (d : A) (l ys : List A) (o k : ℕ) (fits : o + k ≤ length l) (same : length ys ≡ k) where
  part_long : length (take o l) ≡ o
  part_long = simp length-take (omega arith)

  pub part_low : (x : ℕ) → x < o → get_or (take o l ++ (ys ++ drop k (drop o l))) x d ≡ get_or l x d
  part_low x h = get_or-append (take o l) (ys ++ drop k (drop o l)) d x (omega (arith, part_long)) ∙ get_or-take o l x d h

  pub part_here : (t : ℕ) → t < k → get_or (take o l ++ (ys ++ drop k (drop o l))) (o + t) d ≡ get_or ys t d
  part_here t h =
      ap (λ (x : ℕ). get_or (take o l ++ (ys ++ drop k (drop o l))) (x + t) d) (sym part_long)
      ∙ get_or-append-add (take o l) (ys ++ drop k (drop o l)) t d
      ∙ get_or-append ys (drop k (drop o l)) d t (omega arith)

-- the part of a list from a on, s elements
pub part_size : {A : Type 0} (l : List A) (a s : ℕ) → a + s ≤ length l → length (take (a + s - a) (drop a l)) ≡ s
part_size l a s h = simp (length-take, length-drop) (omega arith)
