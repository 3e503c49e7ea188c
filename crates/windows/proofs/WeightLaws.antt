-- Lists of weights as lists of the numbers that they stand for: as long, slot by slot, and after a write. Cited where a function over a `Weight` reads or writes a list.
-- `values` and its law `each` are the trait's. Assumes nothing.
use Rattle.std.proofs.Common.{◌≡◌, ℕ, ◌+◌, ◌<◌, List, ◌++◌, length, get_or, take, drop, map, set, min, ◌-◌, ◌^◌, ◌≤◌, ℤ, nat_abs, sym, ap, ◌∙◌, arith, le_trans, pow_mono}
use lib.Signed.{mag, nat_abs-le}
use Rattle.std.proofs.lemmas.List.{length-map, get_or-map, map-set, map-append, take-map, drop-map, length-take, length-drop, get_or-take, get_or-drop}
use Rattle.lists.proofs.TabLaws.{Written, written_more}

module _ {W : Type 0} {value : W → ℤ} {values : List W → List ℤ} (each : (weights : List W) → values weights ≡ map value weights) where
  pub length_values : (weights : List W) → length (values weights) ≡ length weights
  length_values weights = ap length (each weights) ∙ length-map weights value

  -- slot k; d and e stand for a slot that is not there
  pub value_at : (weights : List W) (k : ℕ) (d : W) (e : ℤ) → k < length weights → get_or (values weights) k e ≡ value (get_or weights k d)
  value_at weights k d e h = ap (λ (xs : List ℤ). get_or xs k e) (each weights) ∙ get_or-map value weights k d e h

  -- w was read at slot k
  pub value_read : (weights : List W) (k : ℕ) (w : W) (e : ℤ) → w ≡ get_or weights k w → k < length weights → value w ≡ get_or (values weights) k e
  value_read weights k w e is h = ap value is ∙ sym (value_at weights k w e h)

  pub values_set : (weights : List W) (k : ℕ) (w : W) → values (set weights k w) ≡ set (values weights) k (value w)
  values_set weights k w = each (set weights k w) ∙ map-set value weights k w ∙ ap (λ (xs : List ℤ). set xs k (value w)) (sym (each weights))

  -- a loop that fills a list of weights from the front: one slot more
  pub values_more : {k : ℕ} {f : ℕ → ℤ} {old now : List W} {w : W} → Written k f (values old) (values now) → k < length old → value w ≡ f k → Written (k + 1) f (values old) (values (set now k w))
  values_more {k} {f} {old} {now} {w} written h e =
      rw (values_set now k w) (written_more written (rw (length_values old) h) e)

  -- a part from slot a on, lent and come back, k slots long
  pub values_part : (weights part : List W) (a k : ℕ) → values (take a weights ++ (part ++ drop k (drop a weights))) ≡ take a (values weights) ++ (values part ++ drop k (drop a (values weights)))
  values_part weights part a k = simp (each, map-append, take-map, drop-map)

  -- w was read at place k of a part that begins at slot a
  pub value_in : (weights : List W) (a m k : ℕ) (w : W) (e : ℤ) → w ≡ get_or (take m (drop a weights)) k w → k < length (take m (drop a weights)) → value w ≡ get_or (values weights) (a + k) e
  value_in weights a m k w e is h =
      let there : k < min m (length weights - a) = rw (length-take, length-drop) at h in
      let same : w ≡ get_or weights (a + k) w = is ∙ get_or-take m (drop a weights) k w (omega arith) ∙ get_or-drop a weights k w in
      ap value same ∙ sym (value_at weights (a + k) w e (omega arith))

-- a weight of a store, of at most 31 bits and a sign
pub small_weight : (z : ℤ) (limit : ℕ) → mag z < 2 ^ limit → limit ≤ 31 → nat_abs z ≤ 2 ^ 31
small_weight z limit h most = le_trans (nat_abs-le z h) (pow_mono most)
