-- The judge and the offerer agree, over any store: our own offer repairs every window that has a repair, so it is accepted; where some window has none nothing is; and no offer
-- changes fewer weights. Cited by the promises. Assumes nothing.
use Rattle.std.specs.Prelude.{Result, Ok, Err, ⊤}
use mathlib.Core.Path.{◌≡◌, refl, sym, ap, ◌∙◌, subst}
use mathlib.Core.Bool.{Bool, true, false, not}
use mathlib.Core.List.{List}
use Prim.Native.Nat.{ℕ, ◌+◌, ◌*◌, ◌^◌, ◌≤◌, ◌<◌}
use native.Mathlib.Omega.{arith}
use lib.Arith.{digits_lt}
use lib.Dec.{eqb}
use lib.IntN.{ℤ, pos}
use lib.ListN.{length, get_or, length-take}
use lib.Seq.{get_or-take}
use lib.Signed.{mag}
use borrow.Author.Tests.{ltb-true, ltb-false, lt-ltb, le-ltb, eq-eqb}
use Rattle.lists.specs.Ranges.{bad_sides_value}
use Rattle.lists.specs.Tab.{any, front, grid}
use Rattle.lists.proofs.AnyLaws.{none_any}
use Rattle.lists.proofs.BoolLaws.{or_left, or_right}
use Rattle.lists.proofs.FirstLaws.{first_none, first_passes}
use Rattle.lists.proofs.TabLaws.{length_front, front_below, grid_at}
use Rattle.integers.specs.Sums.{distance}
use Rattle.orders.specs.Count.{count}
use Rattle.orders.proofs.CountLaws.{count_ext}
use Rattle.orders.proofs.FirstOrders.{first_before}
use Rattle.windows.specs.declared.Store.{Store}
use Rattle.windows.specs.Set.{Stored, windows, size, weight, excess_of}
use Rattle.windows.specs.Fit.{Fits, differ, bad_stored}
use Rattle.excesses.proofs.SameExcess.{excess_ext}
use Rattle.offers.specs.Repair.{Repair, changed}
use Rattle.offers.specs.Own.{moved}
use Rattle.offers.proofs.RepairLaws.{of_repair, least_changed}
use Rattle.offers.proofs.OwnLaws.{none_there, own_repair, own_changed}
use Rattle.repairs.specs.Offer.{Offer, unlike, other_shape, other_set, offered_for, refused_at}
use Rattle.repairs.specs.Answer.{accepted_of, number_of, lacking, first_lacking, offered_at, too_few_slots, not_found, offered_of, offered_number, offered_line, written_by, written_of}
use Rattle.repairs.specs.Left.{left_offer}
use Rattle.repairs.specs.Agreement.{Typed, Repairs, Unwritten, OwnAccepted, Complete, FirstLine, LeastChanged}
use Rattle.repairs.specs.declared.NotOffered.{NotOffered}
use Rattle.repairs.specs.declared.NotOffered.TheVariants.{NotFound, Refused as NotMade}
use Rattle.repairs.proofs.Judged.{answered_0, offer_written, whole, or_none}
use Rattle.repairs.proofs.Rows.{accepted_exactly, offered_exactly}
use Rattle.repairs.proofs.Taken.{each_repaired, taken_over}

-- only the weights below n matter
repair_ext : (limit p : ℕ) (w v u : ℕ → ℤ) (n : ℕ) → ((k : ℕ) → k < n → v k ≡ u k) → Repair limit p w v n → Repair limit p w u n
repair_ext limit p w v u n h o = record {
  near = λ k l. subst (λ (z : ℤ). distance z (w k) ≤ 1) (h k l) (o.near k l);
  inside = λ k l. subst (λ (z : ℤ). mag z < 2 ^ limit) (h k l) (o.inside k l);
  exact = sym (excess_ext v u p n h) ∙ o.exact;
}

-- ---- an offer for the set itself has its shape

unlike_same : (a : List ℕ) → unlike a a ≡ false
unfolding unlike
unlike_same a =
    or_none (not (eqb (length a) (length a))) (any (length a) (λ k. not (eqb (get_or a k 0) (get_or a k 0)))) (alike (length a))
    (none_any (λ k. not (eqb (get_or a k 0) (get_or a k 0))) (length a) (λ k l. alike (get_or a k 0)))
  where
    alike : (n : ℕ) → not (eqb n n) ≡ false
    alike n = rw (eq-eqb n n refl)

same_shape : (window_size_value precision slots slots' : ℕ) (starts sizes : List ℕ) → slots' ≡ slots → other_shape window_size_value precision starts sizes slots window_size_value precision starts sizes slots' ≡ false
same_shape window_size_value precision slots slots' starts sizes e =
    rw (eq-eqb window_size_value window_size_value refl, eq-eqb precision precision refl, unlike_same starts, unlike_same sizes, eq-eqb slots' slots e) refl

-- ---- a set that fits

module _ (store : Store) (s : Stored) (sides : bad_sides_value s.set.layout.lines (windows s.set.layout) ≡ false) (fine : bad_stored s store ≡ false) where
  fits : Fits s.set.layout (length s.set.weights)
  fits = whole store s sides fine

  abbrev w : ℕ → ℕ → ℤ
  w = weight s.set (pos 0)

  -- a window that nothing repairs, and one that ours does
  unrepaired : (i : ℕ) → lacking store s i ≡ true → (v : ℕ → ℤ) → Repairs store s i v → ⊥
  unrepaired i h = none_there store.limit s.precision (w i) (size s.set.layout i) h

  typed_at : Typed store s → (i k : ℕ) → i < windows s.set.layout → k < size s.set.layout i → mag (w i k) < 2 ^ store.limit
  typed_at typed i k l m =
      let wide : k < s.set.layout.window_size_value = omega (arith, fits.small i l) in
      typed (i * s.set.layout.window_size_value + k) (rw fits.full (digits_lt l wide))

  repaired : Typed store s → (i : ℕ) → i < windows s.set.layout → lacking store s i ≡ false → Repairs store s i (moved store.limit (excess_of s i) (w i))
  repaired typed i l h = own_repair store.limit s.precision (w i) (size s.set.layout i) h (λ k m. typed_at typed i k l m)

  -- every window has an offer, or the search stops at one that has none
  none_lacking : windows s.set.layout ≤ first_lacking store s → (i : ℕ) → i < windows s.set.layout → lacking store s i ≡ false
  none_lacking h i l = first_none (lacking store s) 0 (windows s.set.layout) i (omega (arith, h)) (omega arith) (omega arith)

  one_lacking : first_lacking store s < windows s.set.layout → lacking store s (first_lacking store s) ≡ true
  one_lacking l = first_passes (lacking store s) 0 (windows s.set.layout) (omega (arith, l))

  -- ---- the offer is written

  module _ (old : List ℤ) (room : windows s.set.layout * s.set.layout.window_size_value ≤ length old) (all : windows s.set.layout ≤ first_lacking store s) where
    abbrev own : Offer
    own = left_offer store s old

    abbrev all_slots : ℕ
    all_slots = windows s.set.layout * s.set.layout.window_size_value

    written : written_of store s old ≡ front all_slots (grid s.set.layout.window_size_value (offered_at store s)) old
    written = sym (offer_written store s old (answered_0 store s (length old) sides room fine all))

    long : length own.weights ≡ length s.set.weights
    long =
        let same : length (written_of store s old) ≡ length old = ap length written ∙ length_front all_slots (grid s.set.layout.window_size_value (offered_at store s)) old room in
        let full = fits.full in
        simp length-take (omega (arith, same, room, full))

    own_slot : (i k : ℕ) → i < windows s.set.layout → k < size s.set.layout i → offered_for s own i k ≡ get_or (written_of store s old) (i * s.set.layout.window_size_value + k) (pos 0)
    own_slot i k l m =
        let wide : k < s.set.layout.window_size_value = omega (arith, fits.small i l) in
        get_or-take all_slots (written_of store s old) (i * s.set.layout.window_size_value + k) (pos 0) (digits_lt l wide)

    own_moved : (i k : ℕ) → i < windows s.set.layout → k < size s.set.layout i → offered_for s own i k ≡ moved store.limit (excess_of s i) (w i) k
    own_moved i k l m =
        let wide : k < s.set.layout.window_size_value = omega (arith, fits.small i l) in
        let place = i * s.set.layout.window_size_value + k in
        let f = grid s.set.layout.window_size_value (offered_at store s) in
        own_slot i k l m ∙ ap (λ (ws : List ℤ). get_or ws place (pos 0)) written ∙ front_below all_slots f old place (pos 0) (digits_lt l wide)
        ∙ grid_at s.set.layout.window_size_value (offered_at store s) i k wide ∙ rw (lt-ltb k (size s.set.layout i) m) refl

    accepted : Typed store s → number_of (accepted_of store s own) ≡ 0
    accepted typed =
        let each = none_any (refused_at s own store) (windows s.set.layout)
        (λ i l. of_repair store.limit s.precision (w i) (offered_for s own i) (size s.set.layout i)
        (repair_ext store.limit s.precision (w i) (moved store.limit (excess_of s i) (w i)) (offered_for s own i) (size s.set.layout i) (λ k m. sym (own_moved i k l m)) (repaired typed i l (none_lacking all i l)))) in
        let shape = same_shape s.set.layout.window_size_value s.precision (length s.set.weights) (length own.weights) s.set.layout.starts s.set.layout.sizes long in
        (accepted_exactly store s own 0).1 (sides, (fine, (or_none (other_set s own) (any (windows s.set.layout) (refused_at s own store)) shape each, refl)))

    -- ours changes as many weights as the excess asks, and no repair fewer
    least : (i : ℕ) → i < windows s.set.layout → (v : ℕ → ℤ) → Repairs store s i v → count (changed (w i) (offered_for s own i)) (size s.set.layout i) ≤ count (changed (w i) v) (size s.set.layout i)
    least i l v r =
        let n = size s.set.layout i in
        let same = count_ext (changed (w i) (offered_for s own i)) (changed (w i) (moved store.limit (excess_of s i) (w i))) n (λ k m. ap (λ (z : ℤ). differ z (w i k)) (own_moved i k l m)) in
        let ours = own_changed store.limit s.precision (w i) n (none_lacking all i l) in
        omega (arith, same, ours, least_changed store.limit s.precision (w i) v n r)

-- ---- the theorems

pub unwritten : (store : Store) → Unwritten store
unfolding written_of written_by
unwritten store s old other = go (offered_of store s (length old)) refl
  where
    go : (a : Result ⊤ NotOffered) → offered_of store s (length old) ≡ a → written_by store s a old ≡ old
    go (Ok tt) e = absurd (other (ap offered_number e))
    go (Err (NotFound line)) e = refl
    go (Err (NotMade refusal)) e = refl

-- what an answer of 0 says of the set and of the list
pub record Making (store : Store) (s : Stored) (room : ℕ) : Type 0 where
  pub sides : bad_sides_value s.set.layout.lines (windows s.set.layout) ≡ false
  pub fine : bad_stored s store ≡ false
  pub enough : windows s.set.layout * s.set.layout.window_size_value ≤ room
  pub all : windows s.set.layout ≤ first_lacking store s

pub making : (store : Store) (s : Stored) (room : ℕ) → offered_number (offered_of store s room) ≡ 0 → Making store s room
making store s room made =
    let due = (offered_exactly store s room 0).0 made in record {
      sides = due.0;
      fine = due.1.1.0;
      enough = ltb-false room (windows s.set.layout * s.set.layout.window_size_value) due.1.0;
      all = ltb-false (first_lacking store s) (windows s.set.layout) due.1.1.1.0;
    }

pub own_accepted : (store : Store) → OwnAccepted store
own_accepted store s old typed made =
    let m = making store s (length old) made in
    let taken = accepted store s m.sides m.fine old m.enough m.all typed in
    (taken, (λ i k l n. (taken_over store s (left_offer store s old) taken i l).0 k n ∙ own_slot store s m.sides m.fine old m.enough m.all i k l n))

pub complete : (store : Store) → Complete store
complete store s room typed fit enough = (none, some)
  where
    sides : bad_sides_value s.set.layout.lines (windows s.set.layout) ≡ false
    sides = or_left (bad_sides_value s.set.layout.lines (windows s.set.layout)) (bad_stored s store) fit

    fine : bad_stored s store ≡ false
    fine = or_right (bad_sides_value s.set.layout.lines (windows s.set.layout)) (bad_stored s store) fit

    -- an accepted offer would repair the window that nothing repairs
    none : offered_number (offered_of store s room) ≡ 14 → (o : Offer) → number_of (accepted_of store s o) ≡ 0 → ⊥
    none h o accepted =
        let l : first_lacking store s < windows s.set.layout = ltb-true (first_lacking store s) (windows s.set.layout) ((offered_exactly store s room 14).0 h).1.1.1 in
        unrepaired store s sides fine (first_lacking store s) (one_lacking store s sides fine l) (offered_for s o (first_lacking store s)) (each_repaired store s o accepted (first_lacking store s) l)

    -- and where every window has an offer, ours is accepted
    lacks : ((o : Offer) → number_of (accepted_of store s o) ≡ 0 → ⊥) → (b : Bool) → not_found store s ≡ b → b ≡ true
    lacks refused true q = refl
    lacks refused false q =
        let full = (fits store s sides fine).full in
        let all = ltb-false (first_lacking store s) (windows s.set.layout) q in
        absurd (refused (left_offer store s s.set.weights) (accepted store s sides fine s.set.weights (omega (arith, full)) all typed))

    some : ((o : Offer) → number_of (accepted_of store s o) ≡ 0 → ⊥) → offered_number (offered_of store s room) ≡ 14
    some refused =
        (offered_exactly store s room 14).1
        (sides, (le-ltb room (windows s.set.layout * s.set.layout.window_size_value) enough, (fine, lacks refused (not_found store s) refl)))

line_is : (store : Store) (s : Stored) (room : ℕ) → bad_sides_value s.set.layout.lines (windows s.set.layout) ≡ false → too_few_slots store s room ≡ false → bad_stored s store ≡ false → not_found store s ≡ true
    → offered_line (offered_of store s room) ≡ first_lacking store s
unfolding offered_of
line_is store s room a b c d = rw (a, b, c, d) refl

pub first_line : (store : Store) → FirstLine store
first_line store s room typed h =
    let due = (offered_exactly store s room 14).0 h in
    let sides = due.0 in
    let fine = due.1.1.0 in
    let n = windows s.set.layout in
    let l : first_lacking store s < windows s.set.layout = ltb-true (first_lacking store s) n due.1.1.1 in
    rw (line_is store s room sides due.1.0 fine due.1.1.1) (
      l,
      (
        unrepaired store s sides fine (first_lacking store s) (one_lacking store s sides fine l),
        λ i m. (moved store.limit (excess_of s i) (weight s.set (pos 0) i), repaired store s sides fine typed i (omega (arith, l, m)) (first_before (lacking store s) 0 n i (omega arith) m)),
      ),
    )

pub least_of_all : (store : Store) → LeastChanged store
least_of_all store s old o made taken i l =
    let m = making store s (length old) made in
    least store s m.sides m.fine old m.enough m.all i l (offered_for s o i) (each_repaired store s o taken i l)
