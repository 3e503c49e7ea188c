-- A strip of rows, window by window, and the strips one after the other. Cited by `strip` and `fill_rows`. Assumes nothing.
use mathlib.Core.Path.{◌≡◌, sym, ap, ◌∙◌}
use mathlib.Core.List.{List}
use Prim.Native.Nat.{ℕ, ◌+◌, ◌-◌, ◌*◌, ◌/◌, ◌%◌, ◌<◌, ◌≤◌}
use native.Mathlib.Nat.{not-suc-le-zero, mod-lt, div-lt_iff_lt-mul, div-add-mod', mul-add-div_right, mul-add-mod_self_right, add-mul}
use native.Mathlib.Omega.{arith}
use lib.Arith.{digits_lt, digits_div, digits_mod}
use lib.IntN.{ℤ}
use lib.ListN.{length, get_or, take, drop}
use borrow.Author.Count.{below_more}
use Rattle.lists.specs.Tab.{grid}
use Rattle.lists.proofs.StoreLaws.{part_size, below_block}
use Rattle.lists.proofs.TabLaws.{grid_at}
use Rattle.vertical.specs.Column.{window_value}
use Rattle.vertical.proofs.Columns.{some_column}
use Rattle.pixels_u16.specs.Places.{place_at, value_of, row_values, behind, Put}

module _ (src : List ℕ) (a components row : ℕ) (weights : List ℤ) (starts sizes : List ℕ) (window p : ℕ) (old : List ℕ) (b n : ℕ) where
  -- component k of window i in the y-th row, and its place
  abbrev cell : ℕ → ℕ → ℕ → ℕ
  cell y = window_value 65535 src components (a + y * row) starts sizes window weights p

  abbrev across : ℕ
  across = length starts * components

  abbrev place : ℕ → ℕ → ℕ → ℕ
  place y i k = b + (y * across + (i * components + k))

  -- a list that the strip's values belong to
  abbrev Agrees : (ℕ → ℕ) → Type 0
  Agrees f = (i : ℕ) → i < length starts → (y : ℕ) → y < n → (k : ℕ) → k < components → cell y i k ≡ f (place y i k)

  -- the first i windows are in their places
  pub record Windows (i : ℕ) (now : List ℕ) : Type 0 where
    pub to :
        (f : ℕ → ℕ) → Agrees f
        → ((x : ℕ) → get_or old x 0 ≡ f x → get_or now x 0 ≡ f x)
        × ((j : ℕ) → j < i → (y : ℕ) → y < n → (k : ℕ) → k < components → get_or now (place y j k) 0 ≡ f (place y j k))

  pub windows_none : Windows 0 old
  windows_none = record { to = λ f h. ((λ x e. e), λ j l. absurd (not-suc-le-zero l)) }

  -- a turn, which read the window's size and start
  module _ (i : ℕ) (now : List ℕ) (d : Windows i now) (l : i < length starts) (size start : ℕ) (ez : size ≡ get_or sizes i 0) (es : start ≡ get_or starts i 0)
      (inside : i * window + get_or sizes i 0 ≤ length weights) where
    abbrev slots : List ℤ
    slots = take (i * window + size - i * window) (drop (i * window) weights)

    pub slots_size : length slots ≡ get_or sizes i 0
    slots_size = part_size weights (i * window) size (omega (arith, ez)) ∙ ez

    slots_are : i * window + size - i * window ≡ get_or sizes i 0
    slots_are = omega (arith, ez)

    -- sample t of the window's pixels
    sample : (t : ℕ) → value_of p slots src (a + start * components) components row t ≡ cell (t / components) i (t % components)
    sample t =
        let e : a + start * components + t / components * row + t % components ≡ get_or starts i 0 * components + (a + t / components * row) + t % components = omega (arith, ap (λ (z : ℕ). z * components) es) in
        rw (slots_size, slots_are, e)

    pub windows_more : {new : List ℕ} → 1 ≤ components → (o : ℕ) → o ≡ b + i * components → Put (value_of p slots src (a + start * components) components row) (place_at o components across) (n * components) now new → Windows (i + 1) new
    windows_more {new = new} some o eo put = record { to = go }
      where
        go : (f : ℕ → ℕ) → Agrees f
            → ((x : ℕ) → get_or old x 0 ≡ f x → get_or new x 0 ≡ f x)
            × ((j : ℕ) → j < i + 1 → (y : ℕ) → y < n → (k : ℕ) → k < components → get_or new (place y j k) 0 ≡ f (place y j k))
        go f h =
            let q = put.to f (λ t m. sample t ∙ h i l (t / components) ((div-lt_iff_lt-mul some).1 m) (t % components) (mod-lt t some) ∙ ap f (omega (arith, eo))) in
            let r = d.to f h in (
              (λ x e. q.0 x (r.0 x e)),
              below_more (λ (j : ℕ). (y : ℕ) → y < n → (k : ℕ) → k < components → get_or new (place y j k) 0 ≡ f (place y j k)) i
                  (λ j m y hy k hk. q.0 (place y j k) (r.1 j m y hy k hk))
                  (λ y hy k hk.
                  let s : place_at o components across (y * components + k) ≡ place y i k = rw (digits_div y hk, digits_mod y hk) (omega (arith, eo)) in
                  ap (λ (z : ℕ). get_or new z 0) (sym s) ∙ q.1 (y * components + k) (digits_lt hy hk) ∙ ap f s),
            )

  -- all windows: the strip's values, one after the other
  pub windows_all : 1 ≤ components → (new : List ℕ) → Windows (length starts) new → Put (row_values src a components row starts sizes window weights p) (behind b) (n * across) old new
  windows_all some new d = record { to = go }
    where
      go : (f : ℕ → ℕ) → ((t : ℕ) → t < n * across → row_values src a components row starts sizes window weights p t ≡ f (b + t))
          → ((x : ℕ) → get_or old x 0 ≡ f x → get_or new x 0 ≡ f x) × ((t : ℕ) → t < n * across → get_or new (b + t) 0 ≡ f (b + t))
      go f h =
          let r = d.to f (λ i li y hy k hk.
          let m : i * components + k < across = digits_lt li hk in
          sym (grid_at across (λ y. grid components (cell y)) y (i * components + k) m ∙ grid_at components (cell y) i k hk) ∙ h (y * across + (i * components + k)) (digits_lt hy m)) in (
            r.0,
            λ t l.
                let wide : 0 < across = some_column n across t l in
                let c = t % across in
                let m : c < across = mod-lt t wide in
                let s : place (t / across) (c / components) (c % components) ≡ b + t = omega (arith, div-add-mod' t across, div-add-mod' c components) in
                ap (λ (z : ℕ). get_or new z 0) (sym s) ∙ r.1 (c / components) ((div-lt_iff_lt-mul some).1 m) (t / across) ((div-lt_iff_lt-mul wide).1 l) (c % components) (mod-lt c some) ∙ ap f s,
          )

-- a strip behind the rows that are done
module _ (src : List ℕ) (first components row : ℕ) (weights : List ℤ) (starts sizes : List ℕ) (window p : ℕ) where
  abbrev across' : ℕ
  across' = length starts * components

  abbrev all : ℕ → ℕ
  all = row_values src (first * row) components row starts sizes window weights p

  -- its values are those of the whole, from row y on
  strip_value : (a b y n t : ℕ) → a ≡ (first + y) * row → b ≡ y * across' → t < n * across' → row_values src a components row starts sizes window weights p t ≡ all (b + t)
  strip_value a b y n t ea eb l =
      let wide : 0 < across' = some_column n across' t l in
      let e : a + t / across' * row ≡ first * row + (y + t / across') * row = omega (arith, add-mul first y row, add-mul y (t / across') row) in
      rw (eb, mul-add-div_right wide y t, mul-add-mod_self_right y across' t) (ap (λ (z : ℕ). grid components (window_value 65535 src components z starts sizes window weights p) (t % across')) e)

  pub strip_more : (a b y n : ℕ) (now new : List ℕ) → a ≡ (first + y) * row → b ≡ y * across' → ((x : ℕ) → x < b → get_or now x 0 ≡ all x)
      → Put (row_values src a components row starts sizes window weights p) (behind b) (n * across') now new → (x : ℕ) → x < b + n * across' → get_or new x 0 ≡ all x
  strip_more a b y n now new ea eb done put =
      let q = put.to all (λ t l. strip_value a b y n t ea eb l) in
      below_block (λ (x : ℕ). get_or new x 0 ≡ all x) b (n * across') (λ x l. q.0 x (done x l)) q.1
