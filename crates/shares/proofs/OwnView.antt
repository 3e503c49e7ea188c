-- The client that puts a set in holds that set: each list is read where it was laid. Cited by Apart. Assumes nothing.
use mathlib.Core.Path.{◌≡◌, sym, ap, ◌∙◌}
use mathlib.Core.Bool.{false}
use mathlib.Core.List.{List, [], ◌∷◌}
use Prim.Native.Nat.{ℕ, ◌+◌, ◌*◌, ◌≤◌, ◌<◌}
use native.Mathlib.Omega.{arith}
use lib.ListN.{length, get_or}
use Rattle.text.specs.Text.{laid}
use Rattle.windows.specs.Set.{Stored, windows}
use Rattle.made_sets.proofs.Made.{Fits, weights_room}
use Rattle.shares.specs.Store.{Store, part, line_base, share, held, wide, slot_base, closed, unset, set_at, nothing, holding, held_in, view_with, view_of}
use Rattle.shares.specs.Machine.{with_set}
use Rattle.shares.proofs.Parts.{part_laid, at_laid}
use Rattle.shares.proofs.Opened.{Open, is_set, in_slots}
use Rattle.shares.proofs.OtherView.{unset_ext, set_ext, cond_ext, part_ext, times, or_ext, view_ext, t, share_same, closed_same, base_same, few_sizes, few_excesses}

module _ (s : Store) (d : ℕ) (new : Stored) (fit : Fits (share s d) new) (open-d : Open s d) where
  abbrev text : List ℕ
  text = new.set.layout.lines ∷ windows new.set.layout ∷ new.set.layout.window_size_value ∷ new.precision ∷ []

  abbrev after : Store
  after = t s d new

  own_number : (i k : ℕ) → i ≡ d * 5 + 1 + k → k < 4 → get_or after.numbers i 0 ≡ get_or text k 0
  unfolding with_set
  own_number i k e h =
      ap (λ (j : ℕ). get_or (laid s.numbers (d * 5 + 1) text) j 0) e
      ∙ at_laid s.numbers text (d * 5 + 1) k 0 h (omega (arith, open-d.ten, open-d.one_of_two))

  own_lines : {A : Type 0} (n : ℕ) (l Laid-in : List A) → n ≡ length Laid-in → length Laid-in ≤ 8192 → length l ≡ 16384 → part (line_base d) n (laid l (line_base d) Laid-in) ≡ Laid-in
  own_lines n l Laid-in e k f =
      ap (λ (m : ℕ). part (line_base d) m (laid l (line_base d) Laid-in)) e ∙ part_laid l Laid-in (line_base d) (omega (arith, open-d.one_of_two))

  windows_are : held after d ≡ windows new.set.layout
  windows_are = own_number (d * 5 + 2) 1 (omega arith) (omega arith)

  size_is : wide after d ≡ new.set.layout.window_size_value
  size_is = own_number (d * 5 + 3) 2 (omega arith) (omega arith)

  own_set : set_at after d ≡ new
  unfolding with_set
  own_set =
      set_ext
      (own_number (d * 5 + 1) 0 (omega arith) (omega arith))
      size_is
      (own_lines _ s.starts new.set.layout.starts windows_are fit.few open-d.all_starts)
      (own_lines _ s.sizes new.set.layout.sizes (windows_are ∙ sym fit.pairs) (few_sizes s d new fit open-d) open-d.all_sizes)
      (part_ext _ (slot_base s d) _ (length new.set.weights) _ (base_same s d new d) (times windows_are size_is ∙ sym fit.full)
      ∙ part_laid s.slots new.set.weights (slot_base s d) (in_slots s d (length new.set.weights) open-d (weights_room fit)))
      (own_number (d * 5 + 4) 3 (omega arith) (omega arith))
      (own_lines _ s.excesses new.excesses (windows_are ∙ sym fit.each) (few_excesses s d new fit open-d) open-d.all_excesses)

  own_held : closed s d ≡ false → held_in after d ≡ holding new
  unfolding held_in unset
  own_held o =
      cond_ext _ false nothing _ (holding new)
      (or_ext (closed_same s d new d ∙ o)
      (unset_ext (windows new.set.layout) _ new.set.layout.window_size_value _ (share s d) _ windows_are size_is (share_same s d new d)
      ∙ is_set (windows new.set.layout) (windows new.set.layout * new.set.layout.window_size_value) (share s d) fit.some fit.few fit.room))
      (λ h. ap holding own_set)

  pub own_view : closed s d ≡ false → view_of after d ≡ view_with (closed s d) (share s d) (holding new)
  unfolding view_of
  own_view o = view_ext (closed_same s d new d) (share_same s d new d) (own_held o)
