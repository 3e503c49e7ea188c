-- The ways of the readers, over the text and what is lent: how a text is judged, and the lists that are left. Cited by `judge` and both readers. Assumes nothing.
use Rattle.std.specs.Prelude.{Err}
use mathlib.Core.Path.{◌≡◌, refl, sym, ap, ◌∙◌, subst}
use mathlib.Core.Bool.{Bool, true, false, cond, ◌||◌}
use mathlib.Core.List.{List, ◌++◌, append-nil}
use mathlib.Core.Logic.{inl, inr}
use Prim.Native.Nat.{ℕ, ◌*◌, ◌≤◌, ◌<◌, ◌^◌}
use native.Mathlib.Nat.{le_refl}
use lib.Dec.{ltb, eqb, lit≤}
use lib.ListN.{length, drop, drop_of_length-le}
use borrow.Author.Tests.{ltb-false}
use Rattle.lists.specs.Tab.{tab, front, grid}
use Rattle.text.specs.Text.{over}
use Rattle.lists.proofs.TabLaws.{length_tab}
use Rattle.lists.proofs.BoolLaws.{never, or_left, or_right}
use Rattle.windows.specs.Store.{store16, store32}
use Rattle.scan.specs.Form.{Found, Stopped}
use Rattle.scan.proofs.FormLaws.{not_both, one_value, found_then}
use Rattle.scan.specs.Forms.{fixed}
use Rattle.scan.proofs.TailLaws.{tail_found}
use Rattle.scan.proofs.RunText.{run_long}
use Rattle.sheet_scan.specs.declared.Sizes.{Sizes}
use Rattle.sheet_scan.specs.declared.StoreLines.{StoreLines}
use Rattle.sheet_scan.specs.Language.{Taken, limit_of_value, sheets}
use Rattle.sheet_scan.specs.Lines.{Row, size_lines, store_lines, window_line}
use Rattle.sheet_scan.specs.Rows.{start_at, size_at, slot_at, excess_at}
use Rattle.sheet_scan.specs.Whole.{lines_of, excess_line, body_lines, rest_lines}
use Rattle.reader.specs.declared.Unread.{Unread}
use Rattle.reader.specs.declared.Unread.TheVariants.{TooFew, NotASheet}
use Rattle.reader.specs.Reading.{Lists, Room, room_of, too_few_slots, TooLittle, NotOfThisForm, NotRead, Readable, Loads, Reads}
use Rattle.sheet_scan.proofs.HeadLaws.{apart_sizes}
use Rattle.sheet_scan.proofs.WholeLaws.{whole_of_value, outs_is, sheet_no_sizes, rest_no_excess, sheet_no_rest, sheet_found}
use Rattle.sheet_scan.proofs.LanguageLaws.{stopped_longest, stopped_wrong, found_longest, found_wrong}

-- a run from the front is that run laid over the beginning
front_over : {A : Type 0} (n : ℕ) (f : ℕ → A) (old : List A) → front n f old ≡ over (tab 0 n f) old
unfolding front over
front_over n f old = ap (λ (k : ℕ). tab 0 n f ++ drop k old) (sym (length_tab 0 n f))

-- enough is lent: four bounds
module _ (v : Sizes) (room : Room) (h : too_few_slots v room ≡ false) where
  abbrev few_slots : Bool
  few_slots = ltb room.slots (v.windows * v.window_size)

  abbrev few_two : Bool
  few_two = few_slots || ltb room.starts v.windows

  abbrev few_three : Bool
  few_three = few_two || ltb room.sizes v.windows

  three : few_three ≡ false
  three = or_left few_three (ltb room.excesses v.windows) h

  two : few_two ≡ false
  two = or_left few_two (ltb room.sizes v.windows) three

  pub enough_slots : v.windows * v.window_size ≤ room.slots
  enough_slots = ltb-false room.slots (v.windows * v.window_size) (or_left few_slots (ltb room.starts v.windows) two)

  pub enough_starts : v.windows ≤ room.starts
  enough_starts = ltb-false room.starts v.windows (or_right few_slots (ltb room.starts v.windows) two)

  pub enough_sizes : v.windows ≤ room.sizes
  enough_sizes = ltb-false room.sizes v.windows (or_right few_two (ltb room.sizes v.windows) three)

  pub enough_excesses : v.windows ≤ room.excesses
  enough_excesses = ltb-false room.excesses v.windows (or_right few_three (ltb room.excesses v.windows) h)

-- weights of the stores that a reader takes fit its list
pub limit_31 : (bits : ℕ) → limit_of_value bits ≤ 2 ^ 31
limit_31 bits = by_store (eqb bits 16)
  where
    by_store : (b : Bool) → 2 ^ (cond b store16 store32).limit ≤ 2 ^ 31
    by_store true = lit≤ tt
    by_store false = lit≤ tt

pub limit_15 : (bits : ℕ) → Taken false bits → limit_of_value bits ≤ 2 ^ 15
limit_15 bits (inl e) = rw e (lit≤ tt)
limit_15 bits (inr t) = never (sym t.0)

module _ (wide : Bool) (text : List ℕ) (room : Room) where
  -- the size lines are not right
  pub judged_no_sizes : (stop : ℕ) → Stopped size_lines text 0 stop → NotOfThisForm wide text room stop
  judged_no_sizes stop s = record {
    not_seven = λ t. not_both size_lines t.right s;
    wrong = stopped_wrong wide text stop (sheet_no_sizes wide s);
    byte = stopped_longest wide text stop (sheet_no_sizes wide s);
  }

  module _ {v : Sizes} {a : ℕ} (f : Found size_lines text 0 v a) where
    -- they are, and too little is lent
    pub judged_short : too_few_slots v room ≡ true → TooLittle text room
    judged_short h = record { says = v; next = a; right = f; less = h }

    module _ (enough : too_few_slots v room ≡ false) where
      seven_not : TooLittle text room → ⊥
      seven_not t =
          let same : t.says ≡ v = (one_value size_lines apart_sizes t.right f).0 in
          never (sym t.less ∙ ap (λ (x : Sizes). too_few_slots x room) same ∙ enough)

      -- what comes after the size lines is not right
      pub judged_no_rest : (stop : ℕ) → Stopped (rest_lines wide v) text a stop → NotOfThisForm wide text room stop
      judged_no_rest stop s = record {
        not_seven = seven_not;
        wrong = stopped_wrong wide text stop (sheet_no_rest wide f s);
        byte = stopped_longest wide text stop (sheet_no_rest wide f s);
      }

      module _ {w : StoreLines} {b c : ℕ} {rows : List Row} (g : Found (store_lines wide) text a w b) (h : Found (lines_of v w) text b rows c) where
        -- the line of the excesses is not right
        pub judged_no_excess : (stop : ℕ) → Stopped (fixed (excess_line w.precision rows)) text c stop → NotOfThisForm wide text room stop
        judged_no_excess stop s = judged_no_rest stop (rest_no_excess wide v g f.good.0.1 h s)

        module _ {next : ℕ} (x : Found (fixed (excess_line w.precision rows)) text c tt next) where
          -- a sheet and something after it
          pub judged_more : next < length text → NotOfThisForm wide text room next
          judged_more l =
              let found = sheet_found wide f g h x in
              record {
                not_seven = seven_not;
                wrong = found_wrong wide text (whole_of_value v w rows) next found l;
                byte = found_longest wide text (whole_of_value v w rows) next found;
              }

          -- a sheet and nothing after it
          pub judged_right : next ≡ length text → Readable wide text room v w b
          judged_right e = record {
            first = a;
            sized = f;
            stored = g;
            rows = rows;
            tail = c;
            lined = h;
            excess = subst (λ (k : ℕ). Found (fixed (excess_line w.precision rows)) text c tt k) e x;
            enough = enough;
          }

-- a text that is not read leaves the lists as they were
pub unread : (wide : Bool) (text : List ℕ) (lent : Lists) (r : Unread) → NotRead wide text (room_of lent) r → Reads wide text lent (Err r) lent
unread wide text lent TooFew h = (h, refl)
unread wide text lent (NotASheet n) h = (h, refl)

module _ {wide : Bool} (text : List ℕ) (lent : Lists) {v : Sizes} {w : StoreLines} {mid : ℕ} (r : Readable wide text (room_of lent) v w mid) where
  abbrev rows : List Row
  rows = r.rows

  found : Found (sheets wide) text 0 (whole_of_value v w rows) (length text)
  found = sheet_found wide r.sized r.stored r.lined r.excess

  long : length rows ≡ v.windows
  long = run_long (window_line v.lines v.window_size (limit_of_value w.bits)) 0 v.windows rows r.lined.good

  -- the lines are in the lists: the set is loaded
  pub loads : (left : Lists) → left.weights ≡ front (v.windows * v.window_size) (grid v.window_size (slot_at rows)) lent.weights → left.starts ≡ front v.windows (start_at rows) lent.starts → left.sizes ≡ front v.windows (size_at rows) lent.sizes → left.excesses ≡ front v.windows (excess_at w.precision rows) lent.excesses → Loads wide text lent v w left
  loads left e-w e-s e-z e-e =
      let all = found_then size_lines (rest_lines wide) r.sized (found_then (store_lines wide) (body_lines v) r.stored (tail_found (lines_of v w) (excess_line w.precision) r.lined r.excess)) in
      record {
        set = (whole_of_value v w rows).set;
        accepted = found.good.0;
        blank = found.good.1;
        is = found.begins ∙ ap (λ (t : List ℕ). (sheets wide).text (whole_of_value v w rows) ++ t) (drop_of_length-le text (le_refl (length text))) ∙ append-nil ((sheets wide).text (whole_of_value v w rows));
        lines = refl;
        count = outs_is wide v w rows all.good;
        window_size_value = refl;
        precision = refl;
        enough = r.enough;
        weights = e-w ∙ front_over (v.windows * v.window_size) (grid v.window_size (slot_at rows)) lent.weights ∙ ap (λ (n : ℕ). over (tab 0 (n * v.window_size) (grid v.window_size (slot_at rows))) lent.weights) (sym long);
        starts = e-s ∙ front_over v.windows (start_at rows) lent.starts ∙ ap (λ (n : ℕ). over (tab 0 n (start_at rows)) lent.starts) (sym long);
        sizes = e-z ∙ front_over v.windows (size_at rows) lent.sizes ∙ ap (λ (n : ℕ). over (tab 0 n (size_at rows)) lent.sizes) (sym long);
        excesses = e-e ∙ front_over v.windows (excess_at w.precision rows) lent.excesses ∙ ap (λ (n : ℕ). over (tab 0 n (excess_at w.precision rows)) lent.excesses) (sym long);
      }
