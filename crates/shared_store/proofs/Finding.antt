-- What is known of a place that was found, and of a client that holds nothing. Cited by the proof of `pass`. Assumes nothing.
use Rattle.std.specs.Prelude.{Option, Some, None}
use mathlib.Core.Path.{◌≡◌, refl, ap, ◌∙◌, subst}
use mathlib.Core.Bool.{Bool, true, false, cond, ◌||◌}
use mathlib.Core.List.{List}
use Prim.Native.Nat.{ℕ, ◌+◌, ◌-◌, ◌*◌, ◌≤◌}
use native.Mathlib.Omega.{arith}
use lib.IntN.{ℤ}
use lib.ListN.{length}
use Rattle.lists.proofs.BoolLaws.{or_left, or_right}
use Rattle.windows.specs.Set.{layout_of, set_of, stored_of}
use Rattle.share_lists.specs.declared.Place.{Place}
use Rattle.share_lists.specs.Inner.{place_of, found_in}
use Rattle.shares.specs.Store.{Store, part, held, wide, slot_base, line_base, closed, unset, set_at, nothing, holding, held_in}
use Rattle.shares.proofs.Opened.{open_store, inside_part, in_slots}
use Rattle.share_passes.specs.Inner.{set_in}

pub record FoundAt (s : Store) (c : ℕ) (p : Place) : Type 0 where
  pub from_to : p.from ≤ p.to
  pub in_slots : p.to ≤ length s.slots
  pub head_tail : p.head ≤ p.tail
  pub in_starts : p.tail ≤ length s.starts
  pub in_sizes : p.tail ≤ length s.sizes
  pub in_excesses : p.tail ≤ length s.excesses
  pub holds : held_in s c ≡ holding (set_in p s.slots s.starts s.sizes s.excesses)

len : (a n : ℕ) → n ≡ a + n - a
len a n = omega arith

set_by : (l w p a b n m n1 m1 : ℕ) (slots : List ℤ) (starts sizes : List ℕ) (excesses : List ℤ) → m ≡ m1 → n ≡ n1
    → stored_of (set_of (layout_of l w (part b n starts) (part b n sizes)) (part a m slots)) p (part b n excesses) ≡ stored_of (set_of (layout_of l w (part b n1 starts) (part b n1 sizes)) (part a m1 slots)) p (part b n1 excesses)
set_by l w p a b n m n1 m1 slots starts sizes excesses e1 e2 = rw (e1, e2)

at_place : (s : Store) (c : ℕ) → closed s c || unset s c ≡ false → FoundAt s c (place_of s.numbers c)
unfolding held_in
at_place s c h =
    let o = open_store s c (or_left (closed s c) (unset s c) h) in
    let i = inside_part s c (or_right (closed s c) (unset s c) h) in
    record {
      from_to = omega arith;
      in_slots = in_slots s c (held s c * wide s c) o i.room;
      head_tail = omega arith;
      in_starts = omega (arith, o.all_starts, o.one_of_two, i.few);
      in_sizes = omega (arith, o.all_sizes, o.one_of_two, i.few);
      in_excesses = omega (arith, o.all_excesses, o.one_of_two, i.few);
      holds =
          ap (λ (b : Bool). cond b nothing (holding (set_at s c))) h
          ∙ ap holding (set_by _ _ _ (slot_base s c) (line_base c) (held s c) (held s c * wide s c) _ _ s.slots s.starts s.sizes s.excesses (len (slot_base s c) (held s c * wide s c)) (len (line_base c) (held s c)));
    }

abbrev pub found_for : Store → ℕ → Option Place
found_for s c = found_in s.numbers (length s.slots) (length s.starts) (length s.sizes) (length s.excesses) c

pub found_at : (s : Store) (c : ℕ) (p : Place) → found_for s c ≡ Some p → FoundAt s c p
unfolding found_in closed unset
found_at s c p h = go (closed s c || unset s c) refl h
  where
    go : (t : Bool) → closed s c || unset s c ≡ t → cond t None (Some (place_of s.numbers c)) ≡ Some p → FoundAt s c p
    go true e g = let z : ◌≡◌ {A = ℕ} 0 1 = cc in absurd (omega arith)
    go false e g = let same : place_of s.numbers c ≡ p = cc in subst (FoundAt s c) same (at_place s c e)

pub found_none : (s : Store) (c : ℕ) → found_for s c ≡ None → held_in s c ≡ nothing
unfolding found_in held_in closed unset
found_none s c h = go (closed s c || unset s c) h
  where
    go : (t : Bool) → cond t None (Some (place_of s.numbers c)) ≡ None → cond t nothing (holding (set_at s c)) ≡ nothing
    go true g = refl
    go false g = let z : ◌≡◌ {A = ℕ} 0 1 = cc in absurd (omega arith)
