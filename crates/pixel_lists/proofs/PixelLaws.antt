-- A loop over the pixels of a list: one pixel more is written, colours by an operation, alpha kept. Over any operation and width, so that multiply and divide, of 8 and
-- of 16 bits, cite the same laws. Assumes nothing.
use mathlib.Core.Path.{◌≡◌, sym, ap, subst, ◌∙◌}
use mathlib.Core.Bool.{false, not}
use mathlib.Core.List.{List}
use Prim.Native.Nat.{ℕ, ◌+◌, ◌*◌, ◌/◌, ◌%◌, ◌<◌, ◌≤◌}
use native.Mathlib.Omega.{arith}
use lib.Dec.{eqb}
use lib.ListN.{length, get_or, set}
use borrow.Author.Tests.{ne_eqb, eqb-true, not-false}
use Rattle.lists.specs.Tab.{tab, front}
use Rattle.lists.proofs.BoolLaws.{or_left, or_right}
use Rattle.lists.proofs.TabLaws.{Written, written_more, front_past, front_whole}
use Rattle.pixel_lists.specs.Lists.{bad_lists_value, component_at, stored}

module _ (op : ℕ → ℕ → ℕ) (src : List ℕ) (q : ℕ) where
  pub colour : (k : ℕ) → k / 4 ≡ q → k % 4 < 3 → component_at op src k ≡ op (get_or src k 0) (get_or src (q * 4 + 3) 0)
  colour k d h = rw (d, ne_eqb (k % 4) 3 (λ e. omega arith))

  pub kept : component_at op src (q * 4 + 3) ≡ get_or src (q * 4 + 3) 0
  kept = let m : (q * 4 + 3) % 4 ≡ 3 = omega arith in rw m

written_next : {f : ℕ → ℕ} {old now : List ℕ} {v : ℕ} (k m : ℕ) → k + 1 ≡ m → Written k f old now → k < length old → v ≡ f k → Written m f old (set now k v)
written_next {f} {old} {now} {v} k m e w h is = subst (λ (n : ℕ). Written n f old (set now k v)) e (written_more w h is)

-- one pixel more: its four components are those of the rule
pub pixel_more : {f : ℕ → ℕ} {old now : List ℕ} (q c0 c1 c2 alpha : ℕ) → c0 ≡ f (q * 4) → c1 ≡ f (q * 4 + 1) → c2 ≡ f (q * 4 + 2) → alpha ≡ f (q * 4 + 3)
    → Written (q * 4) f old now → q * 4 + 4 ≤ length old → Written ((q + 1) * 4) f old (stored now (q * 4) c0 c1 c2 alpha)
pixel_more q c0 c1 c2 alpha e0 e1 e2 e3 wr h =
    let w1 = written_next (q * 4) (q * 4 + 1) (omega arith) wr (omega arith) e0 in
    let w2 = written_next (q * 4 + 1) (q * 4 + 2) (omega arith) w1 (omega arith) e1 in
    let w3 = written_next (q * 4 + 2) (q * 4 + 3) (omega arith) w2 (omega arith) e2 in
    written_next (q * 4 + 3) ((q + 1) * 4) (omega arith) w3 (omega arith) e3

-- in place, the pixel at q is still what it was: only pixels before it are written
pub still : {f : ℕ → ℕ} {old now : List ℕ} (q k : ℕ) → Written (q * 4) f old now → q * 4 ≤ k → get_or now k 0 ≡ get_or old k 0
still {f} {old} {now} q k w h = ap (λ (l : List ℕ). get_or l k 0) w.is ∙ front_past (q * 4) f old k 0 h

-- every pixel
pub pixels_all : {f : ℕ → ℕ} {old now : List ℕ} (q n : ℕ) → Written (q * 4) f old now → q ≡ length old / 4 → length old % 4 ≡ 0 → n ≡ length old → now ≡ tab 0 n f
pixels_all {f} {old} {now} q n w e m l =
    let all : q * 4 ≡ length old = omega arith in
    w.is ∙ ap (λ (k : ℕ). front k f old) all ∙ front_whole f old ∙ ap (λ (k : ℕ). tab 0 k f) (sym l)

-- lists that are not refused
pub lists_fit : (src dst : ℕ) → bad_lists_value src dst ≡ false → (src ≡ dst) × (src % 4 ≡ 0)
lists_fit src dst h =
    let l = or_left (not (eqb src dst)) (not (eqb (src % 4) 0)) h in
    let m = or_right (not (eqb src dst)) (not (eqb (src % 4) 0)) h in
    (eqb-true src dst (not-false (eqb src dst) l), eqb-true (src % 4) 0 (not-false (eqb (src % 4) 0) m))
