-- From sums made samples to the values that are defined, and places of one pixel alone. Cited by the functions of `blocks`. Assumes nothing.
use mathlib.Core.Path.{◌≡◌, refl, sym, ap, ◌∙◌, subst}
use mathlib.Core.List.{List, ◌++◌}
use Prim.Native.Nat.{ℕ, ◌+◌, ◌-◌, ◌*◌, ◌/◌, ◌^◌, ◌<◌, ◌≤◌}
use native.Mathlib.Nat.{zero-add, mod-eq_of_lt, div-eq_of_lt, mod-lt, div-lt_iff_lt-mul}
use native.Mathlib.Omega.{arith}
use lib.Arith.{digits_lt, digits_div, digits_mod}
use lib.IntN.{ℤ, nat_abs}
use lib.Ieee.{Float, nan}
use lib.ListN.{length, get_or, take, drop}
use Rattle.lists.specs.Tab.{tab}
use Rattle.lists.proofs.TabLaws.{length_tab, get_d_tab, row_end, row_next}
use Rattle.floats.specs.Halves.{far}
use Rattle.vertical.specs.Column.{column_sum, row_value}
use Rattle.row_u16.specs.Chunks.{half_more, top_of, cut_at}
use Rattle.row_u16.proofs.Rounded.{cut_as}
use Rattle.pixels_u16.specs.Places.{place_at, value_of, sample_of, sample_from, behind, Put}
use Rattle.pixels_u16.proofs.PutLaws.{put_as, put_join, put_part}

-- the sums' samples are the values
pub put_values : (p : ℕ) (ws : List ℤ) (src : List ℕ) (at components row : ℕ) (ss : List Float) {top big : Float} {samples : List ℕ} {place : ℕ → ℕ} {old new : List ℕ} (n m : ℕ) → m ≡ n → 1 ≤ p → p ≤ 45
    → ((t : ℕ) → t < n → get_or ss t nan ≡ half_more (column_sum ws src (place_at at components row t) components (length ws)))
    → ((t : ℕ) → t < n → nat_abs (column_sum ws src (place_at at components row t) components (length ws)) < 2 ^ 52)
    → top ≡ top_of p → big ≡ far p → samples ≡ tab 0 m (cut_at ss top big) → Put (sample_of samples) place n old new → Put (value_of p ws src at components row) place n old new
unfolding column_sum
put_values p ws src at components row ss {top} {big} {samples} {place} {old} {new} n m em one few each small et eb es put =
    put_as n
    (λ t l.
    sym (ap (λ (xs : List ℕ). get_or xs t 0) es ∙ get_d_tab 0 m (cut_at ss top big) t 0 (rw em l) ∙ ap (cut_at ss top big) (zero-add t)
    ∙ cut_as p (column_sum ws src (place_at at components row t) components (length ws)) one few (small t l) (each t l) et eb))
    (λ t l. refl) put

-- a pixel of one row alone: its samples follow one another
pub alone : (at components row t : ℕ) → t < components → place_at at components row t ≡ at + t
alone at components row t l = rw (div-eq_of_lt l, mod-eq_of_lt l) (omega arith)

-- what has its last sample in the list ends in it
pub last_in : (at components row long : ℕ) → 1 ≤ components → ((t : ℕ) → t < components → place_at at components row t < long) → at + components ≤ long
last_in at components row long some h =
    let l : components - 1 < components = omega arith in
    omega (arith, h (components - 1) l, alone at components row (components - 1) l)

-- and the pixel that `row_u16` writes
pub row_values : (p : ℕ) (ws : List ℤ) (src : List ℕ) (at components row : ℕ) (m : ℕ) {part : List ℕ} → m ≡ components → part ≡ tab 0 m (row_value 65535 p ws src at components (length ws))
    → (t : ℕ) → t < components → get_or part t 0 ≡ value_of p ws src at components row t
row_values p ws src at components row m em e t l =
    ap (λ (xs : List ℕ). get_or xs t 0) e
    ∙ get_d_tab 0 m (row_value 65535 p ws src at components (length ws)) t 0 (rw em l)
    ∙ ap (row_value 65535 p ws src at components (length ws)) (zero-add t)
    ∙ rw (alone at components row t l)

-- written back, in its places
pub pixel_put : (p : ℕ) (ws : List ℤ) (src : List ℕ) (at components row o wide n : ℕ) (old : List ℕ) {part : List ℕ} (m k : ℕ) → m ≡ components → k ≡ components → o + components ≤ length old → n * components ≡ components
    → part ≡ tab 0 m (row_value 65535 p ws src at components (length ws)) → Put (value_of p ws src at components row) (place_at o components wide) (n * components) old (take o old ++ (part ++ drop k (drop o old)))
pixel_put p ws src at components row o wide n old {part} m k em ek room en e =
    let v : ℕ → ℕ = value_of p ws src at components row in
    let long : length part ≡ components = ap length e ∙ length_tab 0 m (row_value 65535 p ws src at components (length ws)) ∙ em in
    rw (en, ek)
    (put_as {value = v} {value₂ = v} {place = behind o} {place₂ = place_at o components wide} components (λ t l. refl) (λ t l. sym (alone o components wide t l))
    (put_part old part o components room long (row_values p ws src at components row m em e)))

-- a pixel that is inside a row of n rows has its samples in all of them
pub in_rows : (z at off components row n t long : ℕ) → z ≡ at + off → off + components ≤ row → at + n * row ≤ long → 1 ≤ components → t < n * components → place_at z components row t < long
in_rows z at off components row n t long e inside all some l =
    omega (arith, row_end (t / components) n row ((div-lt_iff_lt-mul some).1 l), mod-lt t some)

-- the pixel of row y: its samples and places are those from y x components on
module _ (samples : List ℕ) (o0 components wide y : ℕ) (some : 1 ≤ components) where
  pub row_place : (o k : ℕ) → o ≡ o0 + y * wide → k < components → place_at o0 components wide (y * components + k) ≡ o + k
  row_place o k eo l = rw (digits_div y l, digits_mod y l) (omega (arith, eo))

  -- the pixel's places are in the list, if all are
  pub row_room : (n o room : ℕ) → o ≡ o0 + y * wide → y < n → ((t : ℕ) → t < n * components → place_at o0 components wide t < room) → o + components ≤ room
  row_room n o room eo l h =
      let k : components - 1 < components = omega arith in
      omega (arith, row_place o (components - 1) eo k, h (y * components + (components - 1)) (digits_lt l k))

  pub row_put : {old mid new : List ℕ} (o from : ℕ) → o ≡ o0 + y * wide → from ≡ y * components → Put (sample_of samples) (place_at o0 components wide) (y * components) old mid → Put (sample_from samples from) (behind o) components mid new
      → Put (sample_of samples) (place_at o0 components wide) ((y + 1) * components) old new
  row_put {old = old} {new = new} o from eo ef done put =
      subst (λ (m : ℕ). Put (sample_of samples) (place_at o0 components wide) m old new) (row_next (y * components) y components refl)
      (put_join (y * components) components done put (λ k l. ap (λ (z : ℕ). get_or samples (z + k) 0) (sym ef)) (λ k l. row_place o k eo l))
