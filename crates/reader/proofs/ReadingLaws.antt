-- What the contract `Reads` says of any answer: what was written is read, what was read is written, what is loaded and when No. 7 is due; and that it decides the answer and
-- the lists. Cited by `Sure` and by the promises. Assumes nothing.
use Rattle.std.specs.Prelude.{Result, Ok, Err}
use mathlib.Core.Path.{◌≡◌, refl, sym, ap, ◌∙◌, subst}
use mathlib.Core.Bool.{Bool, true, false}
use mathlib.Core.List.{List, [], ◌++◌}
use Prim.Native.Nat.{ℕ, ◌+◌, ◌*◌}
use lib.ListN.{length, take, drop}
use lib.Seq.{take-append_seam}
use Rattle.text.specs.Text.{over}
use Rattle.lists.proofs.BoolLaws.{never}
use Rattle.windows.specs.Set.{Stored, layout_of, set_of, stored_of, windows}
use Rattle.windows.specs.Fit.{unfit}
use Rattle.sheet.specs.Text.{sheet_text_value}
use Rattle.scan.specs.Form.{Found}
use Rattle.scan.proofs.FormLaws.{found_at, one_value}
use Rattle.sheet_scan.specs.declared.Sizes.{Sizes}
use Rattle.sheet_scan.specs.declared.StoreLines.{StoreLines}
use Rattle.sheet_scan.specs.Language.{store_named_value, Accepted, Blank, Acceptable, Whole, sheets}
use Rattle.sheet_scan.specs.Lines.{size_lines}
use Rattle.sheet_scan.specs.Whole.{rest_lines}
use Rattle.excesses.proofs.StoredLaws.{excess_count}
use Rattle.sheet_scan.proofs.SetLaws.{rows_of}
use Rattle.sheet_scan.proofs.BackLaws.{fit}
use Rattle.sheet_scan.proofs.HeadLaws.{apart_sizes}
use Rattle.sheet_scan.proofs.WholeLaws.{sizes_of, store_of, parts_good, parts_text, apart_sheets}
use Rattle.sheet_scan.proofs.LanguageLaws.{one_byte}
use Rattle.reader.specs.declared.Unread.{Unread}
use Rattle.reader.specs.declared.Unread.TheVariants.{TooFew, NotASheet}
use Rattle.reader.specs.Reading.{Lists, lists, room_of, too_few_slots, TooLittle, Loads, Reads}

-- the same of lists
abbrev short : Sizes → Lists → Bool
short v lent = too_few_slots v (room_of lent)

abbrev Little : List ℕ → Lists → Type 0
Little text lent = TooLittle text (room_of lent)

-- what the lists hold once a set is in them
abbrev pub left_by : Stored → Lists → Lists
left_by s lent = lists (over s.set.weights lent.weights) (over s.set.layout.starts lent.starts) (over s.set.layout.sizes lent.sizes) (over s.excesses lent.excesses)

-- the set that lists hold, of so many windows
abbrev pub held_set : Sizes → StoreLines → Lists → Stored
held_set v w left = stored_of (set_of (layout_of v.lines v.window_size (take v.windows left.starts) (take v.windows left.sizes)) (take (v.windows * v.window_size) left.weights)) w.precision (take v.windows left.excesses)

take_over : {A : Type 0} (t old : List A) (n : ℕ) → length t ≡ n → take n (over t old) ≡ t
unfolding over
take_over t old n e = ap (λ (k : ℕ). take k (t ++ drop (length t) old)) (sym e) ∙ take-append_seam t (drop (length t) old)

module _ (wide : Bool) where
  -- the size lines of a sheet are right
  sizes_there : (x : Whole) → Accepted wide x.bits x.set → Found size_lines ((sheets wide).text x) 0 (sizes_of x) (0 + length (size_lines.text (sizes_of x)))
  sizes_there x a = found_at size_lines ((sheets wide).text x) 0 (sizes_of x) ((rest_lines wide (sizes_of x)).text (store_of x, rows_of x.set)) (parts_good wide x a).0 (sym (parts_text wide x a))

  -- No. 7 is due for a sheet exactly where too little is lent for its own sizes
  too_little : (x : Whole) (lent : Lists) → Accepted wide x.bits x.set → Little ((sheets wide).text x) lent → short (sizes_of x) lent ≡ true
  too_little x lent a t =
      let same : t.says ≡ sizes_of x = (one_value size_lines apart_sizes t.right (sizes_there x a)).0 in
      sym (ap (λ (v : Sizes). short v lent) same) ∙ t.less

  module _ {text : List ℕ} {lent left : Lists} {v : Sizes} {w : StoreLines} (l : Loads wide text lent v w left) where
    -- the sheet that was read
    abbrev whole_read : Whole
    whole_read = record { kind = v.kind; bits = w.bits; set = l.set }

    says_sizes : v ≡ sizes_of whole_read
    says_sizes = λ i. record { kind = v.kind; lines = l.lines i; windows = l.count i; window_size = l.window_size_value i }

    says_store : w ≡ store_of whole_read
    says_store = λ i. record { bits = w.bits; precision = l.precision i }

    -- is what was written, where the slots past the windows' sizes are 0
    same_whole : (x : Whole) → Accepted wide x.bits x.set → Blank x.set → text ≡ (sheets wide).text x → whole_read ≡ x
    same_whole x a blank e = apart_sheets wide whole_read x (l.accepted, l.blank) (a, blank) [] [] (ap (λ (t : List ℕ). t ++ []) (sym l.is ∙ e))

    left_is : left ≡ left_by l.set lent
    left_is = λ i. lists (l.weights i) (l.starts i) (l.sizes i) (l.excesses i)

    -- a loaded text is not one that No. 7 is due for
    no_seven : Little text lent → ⊥
    no_seven t =
        let t2 : Little ((sheets wide).text whole_read) lent = subst (λ (u : List ℕ). Little u lent) l.is t in
        never (sym (too_little whole_read lent l.accepted t2) ∙ sym (ap (λ (u : Sizes). short u lent) says_sizes) ∙ l.enough)

    is_acceptable : Acceptable wide text
    is_acceptable = record { kind = v.kind; bits = w.bits; set = l.set; accepted = l.accepted; is = l.is }

    -- the set that the lists hold
    pub set_held : held_set v w left ≡ l.set
    set_held =
        let s = l.set.set in
        let f = fit wide w.bits l.set l.accepted in
        let e-w : take (v.windows * v.window_size) left.weights ≡ s.weights = rw (l.weights, l.count, l.window_size_value) (take_over s.weights lent.weights (windows s.layout * s.layout.window_size_value) f.full) in
        let e-s : take v.windows left.starts ≡ s.layout.starts = rw (l.starts, l.count) (take_over s.layout.starts lent.starts (windows s.layout) refl) in
        let e-z : take v.windows left.sizes ≡ s.layout.sizes = rw (l.sizes, l.count) (take_over s.layout.sizes lent.sizes (windows s.layout) (sym f.pairs)) in
        let e-e : take v.windows left.excesses ≡ l.set.excesses = rw (l.excesses, l.count) (take_over l.set.excesses lent.excesses (windows s.layout) (excess_count l.set (store_named_value w.bits) l.accepted.fits)) in
        λ i. stored_of (set_of (layout_of (l.lines i) (l.window_size_value i) (e-s i) (e-z i)) (e-w i)) (l.precision i) (e-e i)

  -- READ OF WRITTEN: reading a sheet that was written of an accepted set, whose slots past the windows' sizes are 0, with enough lent, loads that set
  pub read_of_written : (x : Whole) (lent : Lists) (r : Result (Sizes × StoreLines) Unread) (left : Lists) → Accepted wide x.bits x.set → Blank x.set → short (sizes_of x) lent ≡ false → Reads wide ((sheets wide).text x) lent r left → (r ≡ Ok ((sizes_of x), (store_of x))) × (left ≡ left_by x.set lent)
  read_of_written x lent (Ok (v, w)) left a blank enough l =
      let same = same_whole l x a blank refl in (
        ap {B = Result (Sizes × StoreLines) Unread} (λ (u : Sizes). Ok (u, w)) (says_sizes l ∙ ap sizes_of same) ∙ ap {B = Result (Sizes × StoreLines) Unread} (λ (u : StoreLines). Ok (sizes_of x, u)) (says_store l ∙ ap store_of same),
        left_is l ∙ ap (λ (y : Whole). left_by y.set lent) same,
      )
  read_of_written x lent (Err TooFew) left a blank enough t = never (sym (too_little x lent a t.0) ∙ enough)
  read_of_written x lent (Err (NotASheet n)) left a blank enough f = absurd (f.0.wrong (record { kind = x.kind; bits = x.bits; set = x.set; accepted = a; is = refl }))

  module _ (text : List ℕ) (lent : Lists) where
    -- WRITTEN OF READ: the sheet of the set that the lists hold is the text that was read
    pub written_of_read : (v : Sizes) (w : StoreLines) (left : Lists) → Reads wide text lent (Ok (v, w)) left → sheet_text_value v.kind (store_named_value w.bits) (held_set v w left) ≡ text
    written_of_read v w left l = ap (sheet_text_value v.kind (store_named_value w.bits)) (set_held l) ∙ sym l.is

    -- WHAT IS LEFT PASSES THE JUDGE of a stored set: the set that the lists hold is neither of No. 1 nor of No. 10
    pub left_fits : (v : Sizes) (w : StoreLines) (left : Lists) → Reads wide text lent (Ok (v, w)) left → unfit (held_set v w left) (store_named_value w.bits) ≡ false
    left_fits v w left l =
        let own : unfit l.set (store_named_value w.bits) ≡ false = rw l.accepted.sides l.accepted.fits in
        subst (λ (s : Stored). unfit s (store_named_value w.bits) ≡ false) (sym (set_held l)) own

    -- LOADED EXACTLY WHEN ACCEPTABLE, where No. 7 is not due
    pub loaded_acceptable : (v : Sizes) (w : StoreLines) (left : Lists) → Reads wide text lent (Ok (v, w)) left → Acceptable wide text
    loaded_acceptable v w left l = is_acceptable l

    pub acceptable_loaded : (r : Result (Sizes × StoreLines) Unread) (left : Lists) → Reads wide text lent r left → Acceptable wide text → (Little text lent → ⊥) → (v : Sizes) × (w : StoreLines) × (r ≡ Ok (v, w))
    acceptable_loaded (Ok (v, w)) left l a seven = (v, w, refl)
    acceptable_loaded (Err TooFew) left t a seven = absurd (seven t.0)
    acceptable_loaded (Err (NotASheet n)) left f a seven = absurd (f.0.wrong a)

    -- No. 7 EXACTLY when the four lines are right and too little is lent
    pub seven_exactly : (r : Result (Sizes × StoreLines) Unread) (left : Lists) → Reads wide text lent r left → Little text lent → r ≡ Err TooFew
    seven_exactly (Ok (v, w)) left l t = absurd (no_seven l t)
    seven_exactly (Err TooFew) left u t = refl
    seven_exactly (Err (NotASheet n)) left f t = absurd (f.0.not_seven t)

    -- THE CONTRACT DECIDES: the answer and the lists are the same, whatever meets it
    pub read_decides : (r q : Result (Sizes × StoreLines) Unread) (left right : Lists) → Reads wide text lent r left → Reads wide text lent q right → (r ≡ q) × (left ≡ right)
    read_decides (Ok (v, w)) (Ok (u, y)) left right l m =
        let same = same_whole l (whole_read m) m.accepted m.blank m.is in (
          ap {B = Result (Sizes × StoreLines) Unread} (λ (s : Sizes). Ok (s, w)) (says_sizes l ∙ ap sizes_of same ∙ sym (says_sizes m)) ∙ ap {B = Result (Sizes × StoreLines) Unread} (λ (s : StoreLines). Ok (u, s)) (says_store l ∙ ap store_of same ∙ sym (says_store m)),
          left_is l ∙ ap (λ (x : Whole). left_by x.set lent) same ∙ sym (left_is m),
        )
    read_decides (Ok (v, w)) (Err TooFew) left right l m = absurd (no_seven l m.0)
    read_decides (Ok (v, w)) (Err (NotASheet n)) left right l m = absurd (m.0.wrong (is_acceptable l))
    read_decides (Err TooFew) (Ok (u, y)) left right l m = absurd (no_seven m l.0)
    read_decides (Err TooFew) (Err TooFew) left right l m = (refl, l.1 ∙ sym m.1)
    read_decides (Err TooFew) (Err (NotASheet n)) left right l m = absurd (m.0.not_seven l.0)
    read_decides (Err (NotASheet n)) (Ok (u, y)) left right l m = absurd (l.0.wrong (is_acceptable m))
    read_decides (Err (NotASheet n)) (Err TooFew) left right l m = absurd (l.0.not_seven m.0)
    read_decides (Err (NotASheet n)) (Err (NotASheet k)) left right l m = (ap (λ x. Err (NotASheet x)) (one_byte wide text n k l.0.byte m.0.byte), l.1 ∙ sym m.1)
