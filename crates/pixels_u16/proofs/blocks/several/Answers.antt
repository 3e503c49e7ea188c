-- Each arm knows its components; what is asked and what is written is said with the number in their place. Assumes nothing.
use mathlib.Core.Path.{◌≡◌, sym, ap, ◌∙◌, subst}
use mathlib.Core.List.{List}
use Prim.Native.Nat.{ℕ, ◌+◌, ◌*◌, ◌<◌}
use native.Mathlib.Omega.{arith}
use lib.IntN.{ℤ}
use lib.ListN.{length}
use Rattle.pixels_u16.specs.Places.{place_at, value_of, side_by_side, Put}
use Rattle.pixels_u16.proofs.blocks.several.Goals as goal

-- what is asked of the places of n rows of m components, and what is written
abbrev Read : (at row lines samples n m : ℕ) → Type 0
Read at row lines samples n m = (k : ℕ) → k < lines → (t : ℕ) → t < n * m → place_at (at + k * m) m row t < samples

abbrev Room : (o wide room n m : ℕ) → Type 0
Room o wide room n m = (t : ℕ) → t < n * m → place_at o m wide t < room

abbrev Wrote : (p : ℕ) (ws : List ℤ) (src : List ℕ) (at row o wide n : ℕ) (old new : List ℕ) (m : ℕ) → Type 0
Wrote p ws src at row o wide n old new m = Put (value_of p ws src at m row) (place_at o m wide) (n * m) old new

pub block-requires : goal.block-requires
block-requires c =
    let a = c.args in
    let q = c.requires.le_components in
    let e : a.components ≡ 1 = c.in-1.is in
    let full : a.n ≡ 8 = q.5 ∙ ap side_by_side e in
    record { le_p = c.requires.le_p; sums = (omega arith, omega arith, omega arith, omega arith, omega arith); places = (q.2, q.3, q.4); ws_len_bound = c.requires.ws_len_bound; by_index = subst (Read a.at a.row (length a.ws.now) (length a.src.now) a.n) e c.requires.by_index; by_index_2 = subst (Room a.o a.wide (length a.out.now) a.n) e c.requires.by_index_2 }

pub returns-in-1 : goal.returns-in-1
returns-in-1 c =
    let a = c.args in
    let e : a.components ≡ 1 = c.in-1.is in
    let w = c.block in
    subst (Wrote a.p a.ws.now a.src.now a.at a.row a.o a.wide a.n a.out.now w.new.out) (sym e) w.ensures

pub block-requires-in-2 : goal.block-requires-in-2
block-requires-in-2 c =
    let a = c.args in
    let q = c.requires.le_components in
    let e : a.components ≡ 2 = c.in-2.is in
    let full : a.n ≡ 8 = q.5 ∙ ap side_by_side e in
    record { le_p = c.requires.le_p; sums = (omega arith, omega arith, omega arith, omega arith, omega arith); places = (q.2, q.3, q.4); ws_len_bound = c.requires.ws_len_bound; by_index = subst (Read a.at a.row (length a.ws.now) (length a.src.now) a.n) e c.requires.by_index; by_index_2 = subst (Room a.o a.wide (length a.out.now) a.n) e c.requires.by_index_2 }

pub returns-in-2 : goal.returns-in-2
returns-in-2 c =
    let a = c.args in
    let e : a.components ≡ 2 = c.in-2.is in
    let w = c.block-in-2 in
    subst (Wrote a.p a.ws.now a.src.now a.at a.row a.o a.wide a.n a.out.now w.new.out) (sym e) w.ensures

pub block-requires-in-3 : goal.block-requires-in-3
block-requires-in-3 c =
    let a = c.args in
    let q = c.requires.le_components in
    let e : a.components ≡ 3 = c.in-3.is in
    let full : a.n ≡ 4 = q.5 ∙ ap side_by_side e in
    record { le_p = c.requires.le_p; sums = (omega arith, omega arith, omega arith, omega arith, omega arith); places = (q.2, q.3, q.4); ws_len_bound = c.requires.ws_len_bound; by_index = subst (Read a.at a.row (length a.ws.now) (length a.src.now) a.n) e c.requires.by_index; by_index_2 = subst (Room a.o a.wide (length a.out.now) a.n) e c.requires.by_index_2 }

pub returns-in-3 : goal.returns-in-3
returns-in-3 c =
    let a = c.args in
    let e : a.components ≡ 3 = c.in-3.is in
    let w = c.block-in-3 in
    subst (Wrote a.p a.ws.now a.src.now a.at a.row a.o a.wide a.n a.out.now w.new.out) (sym e) w.ensures

pub block-requires-in_default : goal.block-requires-in_default
block-requires-in_default c =
    let a = c.args in
    let q = c.requires.le_components in
    let e : a.components ≡ 4 = omega (arith, c.requires.le_components) in
    let full : a.n ≡ 4 = q.5 ∙ ap side_by_side e in
    record { le_p = c.requires.le_p; sums = (omega arith, omega arith, omega arith, omega arith, omega arith); places = (q.2, q.3, q.4); ws_len_bound = c.requires.ws_len_bound; by_index = subst (Read a.at a.row (length a.ws.now) (length a.src.now) a.n) e c.requires.by_index; by_index_2 = subst (Room a.o a.wide (length a.out.now) a.n) e c.requires.by_index_2 }

pub returns-in_default : goal.returns-in_default
returns-in_default c =
    let a = c.args in
    let e : a.components ≡ 4 = omega (arith, c.requires.le_components) in
    let w = c.block-in_default in
    subst (Wrote a.p a.ws.now a.src.now a.at a.row a.o a.wide a.n a.out.now w.new.out) (sym e) w.ensures
