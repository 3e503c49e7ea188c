-- The proof of `RefusedUnchanged`: each list at exit is chosen by the same tests as the answer, case by case. The builder's plan is refused with 16 and 1 to 6 only, so No. 8
-- is a blank line. Assumes nothing.
use Rattle.std.specs.Prelude.{Result, Ok, Err, Option, Some, None, ⊤}
use mathlib.Core.Path.{◌≡◌, refl}
use mathlib.Core.Bool.{Bool, true, false, cond}
use mathlib.Core.List.{List}
use Prim.Native.Nat.{ℕ}
use native.Mathlib.Omega.{arith}
use lib.Dec.{ltb}
use lib.IntN.{ℤ}
use lib.Ieee.{Float}
use lib.ListN.{length}
use Rattle.lists.specs.Ranges.{bad_sides_value}
use Rattle.refusal.specs.declared.Refusal.TheVariants.{BadSide, NotFinite, NegativeExtent, StartOutside, EndOutside, NoScale, TooFewSlots, DoesNotFit, NoRoom}
use Rattle.refusal.specs.Refusal.{number_of}
use Rattle.pixel_lists.specs.Lists.{bad_lists_value, number_of as numberOfApplied}
use Rattle.alpha.specs.Lists.{multiplied_list, divided_list}
use Rattle.alpha_u16.specs.Lists.{multiplied_list as multipliedList16, divided_list as dividedList16}
use Rattle.filters.specs.declared.Filter.{Filter}
use Rattle.filters.specs.Names.{picked_of}
use Rattle.crop_box.specs.Crop.{not_finite_value, negative_extent_value, start_outside_value, end_outside_value, crop_of}
use Rattle.windows.specs.declared.Store.{Store}
use Rattle.windows.specs.Set.{Set, windows}
use Rattle.windows.specs.Fit.{bad_stored}
use Rattle.plans.specs.declared.Edge.{Edge}
use Rattle.plans.specs.declared.Request.{Request}
use Rattle.plans.specs.declared.Plan.{Plan}
use Rattle.refusal.specs.declared.Refusal.{Refusal}
use Rattle.coefficients.specs.declared.NotBuilt.TheVariants as built
use Rattle.coefficients.specs.Answer.{number_of as numberOfBuilt}
use Rattle.plan_windows.specs.Lines.{first_blank, or_zero, weights_in, starts_in, sizes_in}
use Rattle.plans.specs.Plan.{bad_output, no_scale, edge_of, plan_for, scaled, after_crop, plan_with_value, plan_by, plan_of}
use Rattle.coefficients.specs.Request.{too_few_slots, judged, kept, built as builtBy}
use Rattle.normalizer.specs.Answer.{normalized_of, written_by, excesses_by, written_of, excesses_of, number_of as numberOfNormalized}
use Rattle.vertical.specs.Passed.{after, number_of as numberOfPassed}
use Rattle.sideways.specs.Sideways.{passed_sideways, written_sideways}
use Rattle.vertical.specs.PassedF32.{after as after-f32, number_of as numberOfPassedF32}
use Rattle.vertical.specs.U16.{passed_u16, written_u16}
use Rattle.vertical.specs.F32.{passed_f32, written_f32}
use Rattle.vertical_u8.specs.U8.{passed_u8, written_u8}
use Rattle.repairs.proofs.Taken.{untouched}
use Rattle.repairs.proofs.Own.{unwritten}
use Rattle.sheet.specs.Answer.{no_room, by_case, number_of as numberOfSheet}
use Rattle.sheet.specs.Text.{sheet_text_value}
use Rattle.vertical.specs.Frame.{bad_size, bad_frame}
use Rattle.windows.specs.Store.{store32}
use Rattle.book_text.specs.Text.{report_text}
use Rattle.story.specs.Answer.{bad_place, by_case as storyByCase, text_of, number_of as numberOfStory}
use Rattle.promises.specs.RefusedUnchanged.{Not, Zeroed, RefusedUnchanged}

-- ---- the builder: a plan is refused with a number other than 8
abbrev NotEight : Result Plan Refusal → Type 0
NotEight (Ok p) = Not 8 0
NotEight (Err r) = Not 8 (number_of r)

scaled_not_8 : (f : Filter) (adapts : Bool) (e : Edge) (output : ℕ) → NotEight (scaled f adapts e output)
unfolding scaled
scaled_not_8 f adapts e output = go (no_scale e output)
  where
    go : (t : Bool) → NotEight (cond t (Err NoScale) (Ok (plan_for f adapts e output)))
    go true = λ h. absurd (omega (arith, h))
    go false = λ h. absurd (omega (arith, h))

crop_not_8 : (f : Filter) (q : Request) (a b c d e : Bool) → NotEight (after_crop f q (cond a (Err BadSide) (cond b (Err NotFinite) (cond c (Err NegativeExtent) (cond d (Err StartOutside) (cond e (Err EndOutside) (Ok q.crop)))))))
unfolding after_crop
crop_not_8 f q true b c d e = λ h. absurd (omega (arith, h))
crop_not_8 f q false true c d e = λ h. absurd (omega (arith, h))
crop_not_8 f q false false true d e = λ h. absurd (omega (arith, h))
crop_not_8 f q false false false true e = λ h. absurd (omega (arith, h))
crop_not_8 f q false false false false true = λ h. absurd (omega (arith, h))
crop_not_8 f q false false false false false = scaled_not_8 f q.adapts (edge_of q.axis q.width q.height q.crop) q.output

with_not_8 : (f : Filter) (q : Request) → NotEight (plan_with_value f q)
unfolding plan_with_value crop_of
with_not_8 f q = go (bad_output q.output)
  where
    go : (t : Bool) → NotEight (cond t (Err BadSide) (after_crop f q (crop_of q.width q.height q.crop)))
    go true = λ h. absurd (omega (arith, h))
    go false = crop_not_8 f q (bad_sides_value q.width q.height) (not_finite_value q.crop) (negative_extent_value q.crop) (start_outside_value q.width q.height q.crop) (end_outside_value q.width q.height q.crop)

plan_not_8 : (q : Request) → NotEight (plan_of q)
unfolding plan_of
plan_not_8 q = go (picked_of q.filter)
  where
    go : (x : Option Filter) → NotEight (plan_by q x)
    go None = λ h. absurd (omega (arith, h))
    go (Some f) = with_not_8 f q

-- a list that the builder is lent, where the answer is neither 0 nor 8
kept_as : {A : Type 0} (old : A) (f : Plan → A) (a b c : ℕ) (pl : Result Plan Refusal) → Not 0 (numberOfBuilt (judged pl a b c (λ x. Err (built.Refused x)) builtBy)) → Not 8 (numberOfBuilt (judged pl a b c (λ x. Err (built.Refused x)) builtBy)) → judged pl a b c (kept old) f ≡ old
unfolding judged or_zero
kept_as old f a b c (Err r) n0 n8 = refl
kept_as old f a b c (Ok p) n0 n8 = go (too_few_slots p a b c) (ltb (first_blank p) p.output) n0 n8
  where
    go : (s z : Bool) → Not 0 (numberOfBuilt (cond s (Err (built.Refused TooFewSlots)) (cond z (Err (built.Blank (record { 0 = first_blank p }))) (Ok p.window)))) → Not 8 (numberOfBuilt (cond s (Err (built.Refused TooFewSlots)) (cond z (Err (built.Blank (record { 0 = first_blank p }))) (Ok p.window)))) → cond s old (f p) ≡ old
    go true z n0 n8 = refl
    go false true n0 n8 = absurd (n8 refl)
    go false false n0 n8 = absurd (n0 refl)

-- and where it is 8
zeroed_ready : (q : Request) (ws : List Float) (ss zs : List ℕ) (p : Plan) → plan_of q ≡ Ok p → numberOfBuilt (judged (Ok p) (length ws) (length ss) (length zs) (λ x. Err (built.Refused x)) builtBy) ≡ 8 → Zeroed q ws ss zs
unfolding judged or_zero
zeroed_ready q ws ss zs p is h = go (too_few_slots p (length ws) (length ss) (length zs)) (ltb (first_blank p) p.output) refl refl
  where
    go : (s z : Bool) → too_few_slots p (length ws) (length ss) (length zs) ≡ s → ltb (first_blank p) p.output ≡ z → Zeroed q ws ss zs
    go true z es ez = absurd (omega (arith, rw es at h))
    go false true es ez = record {
      plan = p;
      planned = is;
      weights = rw (is, es, ez);
      starts = rw (is, es, ez);
      sizes = rw (is, es, ez);
    }
    go false false es ez = absurd (omega (arith, rw (es, ez) at h))

zeroed_at : (q : Request) (ws : List Float) (ss zs : List ℕ) (pl : Result Plan Refusal) → plan_of q ≡ pl → NotEight pl → numberOfBuilt (judged pl (length ws) (length ss) (length zs) (λ x. Err (built.Refused x)) builtBy) ≡ 8 → Zeroed q ws ss zs
unfolding judged
zeroed_at q ws ss zs (Err r) is other h = absurd (other h)
zeroed_at q ws ss zs (Ok p) is other h = zeroed_ready q ws ss zs p is h

-- ---- the normalisers' two lists
normalized_kept : (store : Store) (s : Set Float) (a : Result ℕ Refusal) (out excesses : List ℤ) → Not 0 (numberOfNormalized a) → (written_by store s a out ≡ out) × (excesses_by store s a excesses ≡ excesses)
unfolding written_by excesses_by
normalized_kept store s (Ok p) out excesses n0 = absurd (n0 refl)
normalized_kept store s (Err r) out excesses n0 = (refl, refl)

-- ---- the others: one list each
passed_kept : (a : Result ⊤ Refusal) (written old : List ℕ) → Not 0 (numberOfPassed a) → after a written old ≡ old
passed_kept (Ok tt) written old n0 = absurd (n0 refl)
passed_kept (Err r) written old n0 = refl

passed_kept_f32 : (a : Result ℕ Refusal) (written old : List Float) → Not 0 (numberOfPassedF32 a) → after-f32 a written old ≡ old
passed_kept_f32 (Ok n) written old n0 = absurd (n0 refl)
passed_kept_f32 (Err r) written old n0 = refl

applied_kept : (t : Bool) (written old : List ℕ) → Not 0 (numberOfApplied (cond t (Err DoesNotFit) (Ok tt))) → cond t old written ≡ old
applied_kept true written old n0 = refl
applied_kept false written old n0 = absurd (n0 refl)

sheet_kept : (a b c : Bool) (n : ℕ) (written old : List ℕ) → Not 0 (numberOfSheet (cond a (Err BadSide) (cond b (Err DoesNotFit) (cond c (Err NoRoom) (Ok n))))) → cond a old (cond b old (cond c old written)) ≡ old
sheet_kept true b c n written old n0 = refl
sheet_kept false true c n written old n0 = refl
sheet_kept false false true n written old n0 = refl
sheet_kept false false false n written old n0 = absurd (n0 refl)

story_kept : (a b c d e : Bool) (n : ℕ) (written old : List ℕ) → Not 0 (numberOfStory (cond a (Err BadSide) (cond b (Err DoesNotFit) (cond c (Err DoesNotFit) (cond d (Err DoesNotFit) (cond e (Err NoRoom) (Ok n))))))) → cond a old (cond b old (cond c old (cond d old (cond e old written)))) ≡ old
story_kept true b c d e n written old n0 = refl
story_kept false true c d e n written old n0 = refl
story_kept false false true d e n written old n0 = refl
story_kept false false false true e n written old n0 = refl
story_kept false false false false true n written old n0 = refl
story_kept false false false false false n written old n0 = absurd (n0 refl)

pub refused_unchanged : RefusedUnchanged
unfolding written_of excesses_of written_u16 written_u8 written_sideways written_f32 multiplied_list divided_list multipliedList16 dividedList16 by_case storyByCase
refused_unchanged = record {
  build = λ q ws ss zs n0 n8. (
    kept_as ws (λ p. weights_in p ws) (length ws) (length ss) (length zs) (plan_of q) n0 n8,
    kept_as ss (λ p. starts_in p ss) (length ws) (length ss) (length zs) (plan_of q) n0 n8,
    kept_as zs (λ p. sizes_in p zs) (length ws) (length ss) (length zs) (plan_of q) n0 n8,
  );
  build_8 = λ q ws ss zs h. zeroed_at q ws ss zs (plan_of q) refl (plan_not_8 q) h;
  normalize = λ store s out excesses n0. normalized_kept store s (normalized_of store s (length out) (length excesses)) out excesses n0;
  pass_u16 = λ s src row first count out n0. passed_kept (passed_u16 s (length src) row first count (length out)) _ out n0;
  pass_u8 = λ s src row first count out n0. passed_kept (passed_u8 s (length src) row first count (length out)) _ out n0;
  pass_sideways = λ s src components rows row first count out n0. passed_kept (passed_sideways s (length src) components rows row first count (length out)) _ out n0;
  pass_f32 = λ s src row first count out n0. passed_kept_f32 (passed_f32 s src row first count (length out)) _ out n0;
  multiply = λ src out n0. applied_kept (bad_lists_value (length src) (length out)) _ out n0;
  divide = λ src out n0. applied_kept (bad_lists_value (length src) (length out)) _ out n0;
  multiply_u16 = λ src out n0. applied_kept (bad_lists_value (length src) (length out)) _ out n0;
  divide_u16 = λ src out n0. applied_kept (bad_lists_value (length src) (length out)) _ out n0;
  sheet = λ kind store s out n0. sheet_kept (bad_sides_value s.set.layout.lines (windows s.set.layout)) (bad_stored s store) (no_room (length out) (length (sheet_text_value kind store s))) (length (sheet_text_value kind store s)) _ out n0;
  accept = untouched;
  offer = unwritten;
  story = λ s src row i j out n0. story_kept (bad_size s.set.layout.lines (windows s.set.layout) row) (bad_stored s store32) (bad_frame (length src) s.set.layout.lines row) (bad_place (windows s.set.layout) row i j) (no_room (length out) (length (text_of s src row i j))) (length (text_of s src row i j)) _ out n0;
  report = λ r out n0. sheet_kept false false (no_room (length out) (length (report_text r))) (length (report_text r)) _ out n0;
}
