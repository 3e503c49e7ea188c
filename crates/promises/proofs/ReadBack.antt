-- The promises about both readers. The laws of the contract are proved in `reader`; here answers are by number, the writer is asked to write what was read, and the u16 pass to take
-- it: the pass asks of a set what the judge of a stored set asks with the 32-bit store. Assumes nothing.
use Rattle.std.specs.Prelude.{Result, Ok, Err}
use mathlib.Core.Path.{◌≡◌, refl, sym, ap, ◌∙◌, subst}
use mathlib.Core.Bool.{Bool, false, ◌||◌}
use mathlib.Core.List.{List}
use Prim.Native.Nat.{ℕ, ◌+◌, ◌*◌, ◌≤◌}
use native.Mathlib.Omega.{arith}
use lib.ListN.{length}
use borrow.Author.Tests.{le-ltb, eq-eqb}
use Rattle.lists.specs.Ranges.{outside, bad_sides_value}
use Rattle.lists.proofs.BoolLaws.{or_left, or_right}
use Rattle.text.specs.Text.{over}
use Rattle.windows.specs.declared.Store.{Store}
use Rattle.windows.specs.Set.{Stored, windows}
use Rattle.windows.specs.Store.{store32, bad_precision}
use Rattle.windows.specs.Fit.{bad_set, bad_excesses, bad_stored}
use Rattle.vertical.specs.Passed.{number_of as numberOfPassed}
use Rattle.vertical.specs.U16.{passed_u16}
use Rattle.vertical.proofs.Answers.{tests_u16}
use Rattle.sheet.specs.Answer.{by_case, number_of as numberOfSheet}
use Rattle.sheet.specs.Text.{sheet_text_value}
use Rattle.sheet_scan.specs.declared.Sizes.{Sizes}
use Rattle.sheet_scan.specs.declared.StoreLines.{StoreLines}
use Rattle.sheet_scan.specs.Language.{store_named_value, Accepted, Blank, Acceptable, Longest}
use Rattle.sheet_scan.proofs.BackLaws.{precise}
use Rattle.sheet_scan.proofs.StoreLaws.{most_most}
use Rattle.reader.specs.declared.Unread.{Unread}
use Rattle.reader.specs.declared.Unread.TheVariants.{TooFew, NotASheet}
use Rattle.reader.specs.Reading.{Room, room_of, too_few_slots, Reads, number_of, byte_of}
use Rattle.reader.proofs.ReadingLaws as laws
use Rattle.promises.specs.ReadBack.{held_in, sizes_in, Few, LoadedExactly, ReadOfWritten, WrittenOfRead, PlaceOfRefusal, PassTakes}
use Rattle.promises.proofs.Accepted.{passed_done}

-- enough is lent
enough : (v : Sizes) (room : Room) → v.windows * v.window_size ≤ room.slots → v.windows ≤ room.starts → v.windows ≤ room.sizes → v.windows ≤ room.excesses → too_few_slots v room ≡ false
enough v room a b c d = rw (le-ltb room.slots (v.windows * v.window_size) a, le-ltb room.starts v.windows b, le-ltb room.sizes v.windows c, le-ltb room.excesses v.windows d)

-- a set that one store's judge takes, with a precision of the other's
other_store : (s : Stored) (a b : Store) → bad_stored s a ≡ false → bad_precision b s.precision ≡ false → bad_stored s b ≡ false
other_store s a b h precision =
    let set = bad_set s.set.layout (length s.set.weights) in
    let shape = set || bad_precision a s.precision in
    rw (or_left set (bad_precision a s.precision) (or_left shape (bad_excesses s) h), precision) (or_right shape (bad_excesses s) h)

-- a pass whose tests all fail
passes : (s : Stored) (row first count : ℕ) → bad_sides_value s.set.layout.lines (windows s.set.layout) ≡ false → bad_stored s store32 ≡ false → 1 ≤ row → row ≤ 32768 → first + count ≤ row → passed_u16 s (s.set.layout.lines * row) row first count (windows s.set.layout * count) ≡ Ok tt
unfolding passed_u16
passes s row first count sides stored some few inside =
    let l = s.set.layout in
    rw (sides, stored, le-ltb row 1 some, le-ltb 32768 row few, le-ltb row (first + count) inside, eq-eqb (l.lines * row) (l.lines * row) refl, eq-eqb (windows l * count) (windows l * count) refl)

module _ (wide : Bool) where
  pub read_back_exactly : LoadedExactly wide
  read_back_exactly text lent r left reads = (done r reads, to_done r reads, few r reads, λ t. ap number_of (laws.seven_exactly wide text lent r left reads t))
    where
      done : (r : Result (Sizes × StoreLines) Unread) → Reads wide text lent r left → number_of r ≡ 0 → Acceptable wide text × (Few text lent → ⊥)
      done (Ok (v, w)) l h = (laws.loaded_acceptable wide text lent v w left l, λ t. loaded_not_seven v w (laws.seven_exactly wide text lent (Ok (v, w)) left l t))
        where
          loaded_not_seven : (v : Sizes) (w : StoreLines) → ◌≡◌ {A = Result (Sizes × StoreLines) Unread} (Ok (v, w)) (Err TooFew) → ⊥
          loaded_not_seven v w e = omega (arith, ap number_of e)
      done (Err TooFew) t h = absurd (omega (arith, h))
      done (Err (NotASheet n)) f h = absurd (omega (arith, h))

      to_done : (r : Result (Sizes × StoreLines) Unread) → Reads wide text lent r left → Acceptable wide text → (Few text lent → ⊥) → number_of r ≡ 0
      to_done r l a seven = let d = laws.acceptable_loaded wide text lent r left l a seven in ap number_of d.2

      few : (r : Result (Sizes × StoreLines) Unread) → Reads wide text lent r left → number_of r ≡ 7 → Few text lent
      few (Ok (v, w)) l h = absurd (omega (arith, h))
      few (Err TooFew) t h = t.0
      few (Err (NotASheet n)) f h = absurd (omega (arith, h))

  pub read_back_of_written : ReadOfWritten wide
  read_back_of_written kind bits s lent r left a blank slots starts sizes excesses reads =
      laws.read_of_written wide (record { kind = kind; bits = bits; set = s }) lent r left a blank (enough (sizes_in kind s) (room_of lent) slots starts sizes excesses) reads

  -- what is accepted is written where there is room
  module _ (bits : ℕ) (s : Stored) (a : Accepted wide bits s) (n room : ℕ) (enough_room : n ≤ room) where
    by_done : {A : Type 0} (refused : _ → A) (d : A) → by_case (store_named_value bits) s room n refused d ≡ d
    unfolding by_case
    by_done refused d = rw (a.sides, a.fits, le-ltb room n enough_room)

  pub written_of_read_back : WrittenOfRead wide
  written_of_read_back text lent v w left l =
      let held = laws.set_held wide l in
      let good = subst (λ (s : Stored). Accepted wide w.bits s) (sym held) l.accepted in
      let same = laws.written_of_read wide text lent v w left l in
      let s = held_in v w left in
      let store = store_named_value w.bits in
      let t = sheet_text_value v.kind store s in (
        good,
        subst Blank (sym held) l.blank,
        same,
        λ old room.
            let fits : length t ≤ length old = rw same room in (
              ap numberOfSheet (by_done w.bits s good (length t) (length old) fits Err (Ok (length t))),
              by_done w.bits s good (length t) (length old) fits (λ refusal. old) (over t old) ∙ ap (λ (u : List ℕ). over u old) same,
            ),
      )

  pub place_of_refusal : PlaceOfRefusal wide
  place_of_refusal text lent r left reads = (place r reads, kept r reads)
    where
      place : (r : Result (Sizes × StoreLines) Unread) → Reads wide text lent r left → number_of r ≡ 13 → Longest wide text (byte_of r) × (Acceptable wide text → ⊥)
      place (Ok (v, w)) l h = absurd (omega (arith, h))
      place (Err TooFew) t h = absurd (omega (arith, h))
      place (Err (NotASheet n)) f h = (f.0.byte, f.0.wrong)

      kept : (r : Result (Sizes × StoreLines) Unread) → Reads wide text lent r left → (number_of r ≡ 0 → ⊥) → left ≡ lent
      kept (Ok (v, w)) l h = absurd (h refl)
      kept (Err TooFew) t h = t.1
      kept (Err (NotASheet n)) f h = f.1

  -- the pass asks for the precision of the 32-bit store, and each store's is one of those
  precise_32 : (bits : ℕ) (s : Stored) → Accepted wide bits s → bad_precision store32 s.precision ≡ false
  precise_32 bits s a =
      let p = precise wide bits s a in
      let most = most_most bits in
      let low = p.least in
      let high = p.most in
      rw (le-ltb s.precision 4 low, le-ltb 45 s.precision (omega arith))

  pub pass_takes : PassTakes wide
  pass_takes bits s = (
    λ a row first count some few inside. ap numberOfPassed (passes s row first count a.sides (other_store s (store_named_value bits) store32 a.fits (precise_32 bits s a)) some few inside),
    λ samples row first count room done taken precision inside.
        let t = tests_u16 s samples row first count room (passed_done (passed_u16 s samples row first count room) done) in
        let l = s.set.layout in
        record {
          taken = taken;
          sides = or_left (bad_sides_value l.lines (windows l)) (outside 1 32768 row) t.size;
          fits = other_store s store32 (store_named_value bits) t.stored precision;
          inside = inside;
        },
  )
