-- Reading a number digit by digit: what k digits that read v say of every number's text, where that goes on and where it stops. Cited by `take_number`.
-- Assumes nothing.
use mathlib.Core.Path.{◌≡◌, refl, sym, ap, ◌∙◌}
use mathlib.Core.Bool.{Bool, true, false}
use mathlib.Core.List.{List, [], ◌∷◌, ◌++◌}
use mathlib.Core.Logic.{◌⊎◌, inl, inr}
use Prim.Native.Nat.{ℕ, zero, suc, ◌+◌, ◌-◌, ◌*◌, ◌/◌, ◌%◌, ◌^◌, ◌≤◌, ◌<◌, max}
use native.Mathlib.Nat.{zero-add, add-zero, pow-suc, pow-zero, one-le-pow, div-one, div-div-eq-div-mul, div-eq_of_lt, div-le_self, zero-div, div-eq_of_lt-le, div-mul-le_self, lt-div-mul-add, mul-le-mul, le_refl, pow-le-pow_right, le-max_left, le-max_right}
use native.Mathlib.Omega.{arith}
use lib.Dec.{eqb, leb, lit<}
use lib.ListN.{length, drop, length-append}
use lib.Seq.{drop-drop}
use lib.Arith.{digits_div, digits_mod}
use borrow.Author.Tests.{eqb-true, eqb-false, leb-true, leb-false}
use Rattle.text.specs.Text.{digit_count_value, decimal}
use Rattle.text.specs.Words.{common}
use Rattle.scan.specs.Form.{Found, Stopped}
use Rattle.scan.specs.Number.{Opens, GoesOn, numbers}
use Rattle.text.proofs.WordLaws.{common_same, common_other}
use Rattle.scan.proofs.CommonLaws.{common_whole}
use Rattle.scan.proofs.DecimalLaws.{lower, decimal_lower, length_lower, count_least, count_below, count_top, count_is, div_pow_add, digit_more, opens_count}

-- the number's text
abbrev written : ℕ → ℕ → List ℕ
written end n = decimal n ++ end ∷ []

pub written_long : (end n : ℕ) → length (written end n) ≡ digit_count_value n + 1
written_long end n = length-append (decimal n) (end ∷ []) ∙ ap (λ (k : ℕ). k + 1) (ap length (decimal_lower n) ∙ length_lower (digit_count_value n) n)

-- n's text and t part before the place k
pub record Behind (t : List ℕ) (end k n : ℕ) : Type 0 where
  pub less : common t (decimal n ++ end ∷ []) < k
  pub part : common t (decimal n ++ end ∷ []) < length (decimal n ++ end ∷ [])

-- t begins with k digits that read v: a number that opens with them goes on at the place k, any other is behind
pub record Digits (t : List ℕ) (end k v : ℕ) : Type 0 where
  pub opens : (n : ℕ) (o : Opens k v n) → common t (decimal n ++ end ∷ []) ≡ k + common (drop k t) (lower o.more n ++ end ∷ [])
  pub other : (n : ℕ) → n < 10 ^ 20 → Opens k v n ⊎ Behind t end k n

pub digits_none : (t : List ℕ) (end : ℕ) → Digits t end 0 0
digits_none t end = record {
  opens = λ n o.
      let all : lower o.more n ≡ decimal n = ap (λ (k : ℕ). lower k n) (sym (zero-add o.more) ∙ sym o.digits) ∙ sym (decimal_lower n) in
      rw (all, zero-add);
  other = λ n small. inl (record { more = digit_count_value n; digits = sym (zero-add (digit_count_value n)); opening = count_top n small });
}

-- where a next byte is or is not the one that a number has there
next_same : (t r : List ℕ) (k b c : ℕ) (u : List ℕ) → drop k t ≡ b ∷ r → b ≡ c → common (drop k t) (c ∷ u) ≡ suc (common r u)
next_same t r k b c u e h = rw e (common_same b c r u h)

next_other : (t r : List ℕ) (k b c : ℕ) (u : List ℕ) → drop k t ≡ b ∷ r → (b ≡ c → ⊥) → common (drop k t) (c ∷ u) ≡ 0
next_other t r k b c u e h = rw e (common_other b c r u h)

module _ (t : List ℕ) (end k v d : ℕ) (g : Digits t end k v) (r : List ℕ) (e : drop k t ≡ (48 + d) ∷ r) (small-d : d < 10) (not_end : 48 + d ≡ end → ⊥) where
  -- a number that opens with one digit more opened with the digits before
  before : (n : ℕ) (o : Opens (k + 1) (v * 10 + d) n) → Opens k v n
  before n o = record {
    more = suc o.more;
    digits = let e-d = o.digits in omega arith;
    opening = rw (pow-suc, ← div-div-eq-div-mul, o.opening) (digits_div v small-d);
  }

  more_opens : (n : ℕ) (o : Opens (k + 1) (v * 10 + d) n) → common t (decimal n ++ end ∷ []) ≡ k + 1 + common r (lower o.more n ++ end ∷ [])
  unfolding before
  more_opens n o =
      let digit : n / 10 ^ o.more % 10 ≡ d = rw o.opening (digits_mod v small-d) in
      let same = next_same t r k (48 + d) (48 + n / 10 ^ o.more % 10) (lower o.more n ++ end ∷ []) e (ap (λ (x : ℕ). 48 + x) (sym digit)) in
      let c = common r (lower o.more n ++ end ∷ []) in
      g.opens n (before n o) ∙ ap (λ (x : ℕ). k + x) same ∙ (omega arith)

  -- a number whose text parts from t at the place k
  parts : (n m : ℕ) → digit_count_value n ≡ k + m → common t (decimal n ++ end ∷ []) ≡ k + 0 → Behind t end (k + 1) n
  parts n m e-n h =
      let long = written_long end n in
      record { less = omega arith; part = rw (h, long) (omega arith) }

  by_digit : (n j : ℕ) → digit_count_value n ≡ k + suc j → n / 10 ^ suc j ≡ v → common t (decimal n ++ end ∷ []) ≡ k + common (drop k t) (lower (suc j) n ++ end ∷ []) → (s : Bool) → eqb (n / 10 ^ j % 10) d ≡ s → Opens (k + 1) (v * 10 + d) n ⊎ Behind t end (k + 1) n
  by_digit n j e-n e-v h true s =
      inl (record { more = j; digits = omega arith; opening = digit_more n j v e-v ∙ ap (λ (x : ℕ). v * 10 + x) (eqb-true (n / 10 ^ j % 10) d s) })
  by_digit n j e-n e-v h false s =
      let differ : 48 + d ≡ 48 + n / 10 ^ j % 10 → ⊥ = λ z. eqb-false (n / 10 ^ j % 10) d s (omega arith) in
      inr (parts n (suc j) e-n (h ∙ ap (λ (x : ℕ). k + x) (next_other t r k (48 + d) (48 + n / 10 ^ j % 10) (lower j n ++ end ∷ []) e differ)))

  by_more : (n m : ℕ) → digit_count_value n ≡ k + m → n / 10 ^ m ≡ v → common t (decimal n ++ end ∷ []) ≡ k + common (drop k t) (lower m n ++ end ∷ []) → Opens (k + 1) (v * 10 + d) n ⊎ Behind t end (k + 1) n
  by_more n zero e-n e-v h = inr (parts n 0 e-n (h ∙ ap (λ (x : ℕ). k + x) (next_other t r k (48 + d) end [] e not_end)))
  by_more n (suc j) e-n e-v h = by_digit n j e-n e-v h (eqb (n / 10 ^ j % 10) d) refl

  either : (n : ℕ) → Opens k v n ⊎ Behind t end k n → Opens (k + 1) (v * 10 + d) n ⊎ Behind t end (k + 1) n
  either n (inl o) = by_more n o.more o.digits o.opening (g.opens n o)
  either n (inr b) = inr (record { less = let l = b.less in omega arith; part = b.part })

  -- one digit more
  pub digits_more : drop (k + 1) t ≡ r → Digits t end (k + 1) (v * 10 + d)
  digits_more rest = record {
    opens = λ n o. rw rest (more_opens n o);
    other = λ n small. either n (g.other n small);
  }

-- no number from low to high goes on as t does at the place k
abbrev pub Blocked : (t : List ℕ) (low high end k v : ℕ) → Type 0
Blocked t low high end k v = (n : ℕ) → low ≤ n → n ≤ high → (o : Opens k v n) → common (drop k t) (lower o.more n ++ end ∷ []) ≡ 0

pub blocked_end : (t : List ℕ) (low high end k v : ℕ) → drop k t ≡ [] → Blocked t low high end k v
blocked_end t low high end k v e n l h o = rw e

block_more : (t r : List ℕ) (low high end k v b n m : ℕ) → low ≤ n → n ≤ high → drop k t ≡ b ∷ r → (b ≡ end → 1 ≤ k → low ≤ v → ⊥) → ((d : ℕ) → d < 10 → b ≡ 48 + d → GoesOn low high (k + 1) (v * 10 + d) → ⊥) → digit_count_value n ≡ k + m → n / 10 ^ m ≡ v → common (drop k t) (lower m n ++ end ∷ []) ≡ 0
block_more t r low high end k v b n zero l h e ended goes e-n e-v =
    let is : n ≡ v = sym (div-one n) ∙ ap (λ (x : ℕ). n / x) (sym (pow-zero 10)) ∙ e-v in
    let least = count_least n in
    next_other t r k b end [] e (λ z. ended z (omega arith) (omega arith))
block_more t r low high end k v b n (suc j) l h e ended goes e-n e-v =
    let x = n / 10 ^ j % 10 in
    let small : x < 10 = omega arith in
    next_other t r k b (48 + n / 10 ^ j % 10) (lower j n ++ end ∷ []) e
    (λ z. goes x small z (record { n = n; from = l; to = h; opens = record { more = j; digits = omega arith; opening = digit_more n j v e-v } }))

pub blocked_byte : (t r : List ℕ) (low high end k v b : ℕ) → drop k t ≡ b ∷ r → (b ≡ end → 1 ≤ k → low ≤ v → ⊥) → ((d : ℕ) → d < 10 → b ≡ 48 + d → GoesOn low high (k + 1) (v * 10 + d) → ⊥) → Blocked t low high end k v
blocked_byte t r low high end k v b e ended goes n l h o = block_more t r low high end k v b n o.more l h e ended goes o.digits o.opening

-- some number opens with no digits
pub goes_first : (low high : ℕ) → low ≤ high → high < 10 ^ 20 → GoesOn low high 0 0
goes_first low high l small = record {
  n = low;
  from = le_refl low;
  to = l;
  opens = record { more = digit_count_value low; digits = sym (zero-add (digit_count_value low)); opening = count_top low (omega arith) };
}

pub goes_high : (low high k v : ℕ) → GoesOn low high k v → v ≤ high
goes_high low high k v on = let l = div-le_self on.n (10 ^ on.opens.more) in let e = on.opens.opening in let h = on.to in omega arith

module _ (text : List ℕ) (at low high end k v : ℕ) (g : Digits (drop at text) end k v) (on : GoesOn low high k v) (small : high < 10 ^ 20) where
  stop_case : (n : ℕ) → low ≤ n → n ≤ high → Blocked (drop at text) low high end k v → Opens k v n ⊎ Behind (drop at text) end k n → (at + common (drop at text) (decimal n ++ end ∷ []) ≤ at + k) × (common (drop at text) (decimal n ++ end ∷ []) < length (decimal n ++ end ∷ []))
  stop_case n l h b (inl o) =
      let is : common (drop at text) (decimal n ++ end ∷ []) ≡ k = g.opens n o ∙ ap (λ (x : ℕ). k + x) (b n l h o) ∙ add-zero k in
      let count = o.digits in
      let long = written_long end n in
      (omega arith, rw (is, long) (omega arith))
  stop_case n l h b (inr d) = let less = d.less in (omega arith, d.part)

  -- the digits go on no further
  pub number_stopped : Blocked (drop at text) low high end k v → Stopped (numbers low high end) text at (at + k)
  number_stopped b = record {
    most = λ n in_range. stop_case n in_range.0 in_range.1 b (g.other n (let h = in_range.1 in omega arith));
    some = (
      on.n,
      (on.from, on.to),
      ap (λ (x : ℕ). at + x) (g.opens on.n on.opens ∙ ap (λ (x : ℕ). k + x) (b on.n on.from on.to on.opens) ∙ add-zero k),
    );
  }

  -- the digits are followed by the byte that ends them
  pub number_found : (r : List ℕ) → drop k (drop at text) ≡ end ∷ r → 1 ≤ k → low ≤ v → Found (numbers low high end) text at v (at + k + 1)
  number_found r e some-digit l =
      let h = on.to in
      let count : digit_count_value v ≡ k = opens_count k v on.n some-digit (omega arith) on.opens in
      let own : Opens k v v = record { more = 0; digits = count ∙ sym (add-zero k); opening = ap (λ (x : ℕ). v / x) (pow-zero 10) ∙ div-one v } in
      let shared : common (drop at text) (decimal v ++ end ∷ []) ≡ k + 1 = g.opens v own ∙ ap (λ (x : ℕ). k + x) (next_same (drop at text) r k end end [] e refl ∙ ap suc (nothing r)) in
      let long : length (decimal v ++ end ∷ []) ≡ k + 1 = written_long end v ∙ ap (λ (x : ℕ). x + 1) count in
      let all = common_whole (drop at text) (decimal v ++ end ∷ []) (shared ∙ sym long) in
      let place : at + k + 1 ≡ at + length (decimal v ++ end ∷ []) = rw long (omega arith) in
      record {
        good = (l, goes_high low high k v on);
        place = place;
        begins = all ∙ ap (λ (w : List ℕ). (decimal v ++ end ∷ []) ++ w) (drop-drop (length (decimal v ++ end ∷ [])) at text ∙ ap (λ (m : ℕ). drop m text) (sym place));
      }
    where
      nothing : (w : List ℕ) → common w [] ≡ 0
      nothing [] = refl
      nothing (a ∷ w) = refl

-- a number that reads v after its last j digits are dropped has j digits more than v
left_over : (n v j i : ℕ) → 1 ≤ v → n / 10 ^ j ≡ v → i < digit_count_value v + j → n / 10 ^ i ≡ 0 → ⊥
left_over n v j i l e h z = by_order (leb j i) refl
  where
    past : (m : ℕ) → j + m ≡ i → (b : Bool) → eqb m 0 ≡ b → ⊥
    past m e-m true s =
        let none = eqb-true m 0 s in
        let is : n / 10 ^ j ≡ n / 10 ^ i = ap (λ (x : ℕ). n / 10 ^ x) (omega arith) in
        let zero-v : v ≡ 0 = sym e ∙ is ∙ z in
        absurd (omega arith)
    past m e-m false s =
        let some = eqb-false m 0 s in
        count_below v m (omega arith) (omega arith) (ap (λ (x : ℕ). x / 10 ^ m) (sym e) ∙ div_pow_add n j m ∙ ap (λ (x : ℕ). n / 10 ^ x) e-m ∙ z)

    by_order : (b : Bool) → leb j i ≡ b → ⊥
    by_order true s = let le = leb-true j i s in past (i - j) (omega arith) (eqb (i - j) 0) refl
    by_order false s =
        let lt = leb-false j i s in
        let parts : i + (j - i) ≡ j = omega arith in
        let none : n / 10 ^ j ≡ 0 = ap (λ (x : ℕ). n / 10 ^ x) (sym parts) ∙ sym (div_pow_add n i (j - i)) ∙ ap (λ (x : ℕ). x / 10 ^ (j - i)) z ∙ zero-div (10 ^ (j - i)) in
        let zero-v : v ≡ 0 = sym e ∙ none in
        absurd (omega arith)

pub count_with : (n v j : ℕ) → 1 ≤ v → n < 10 ^ 20 → n / 10 ^ j ≡ v → digit_count_value n ≡ digit_count_value v + j
count_with n v j l small e =
    count_is n (digit_count_value v + j) (let least = count_least v in omega arith) (short (leb (digit_count_value v + j) 20) refl) top (λ i l1 l2. left_over n v j i l e l2)
  where
    short : (b : Bool) → leb (digit_count_value v + j) 20 ≡ b → digit_count_value v + j ≤ 20
    short true s = leb-true (digit_count_value v + j) 20 s
    short false s = absurd (left_over n v j 20 l e (leb-false (digit_count_value v + j) 20 s) (div-eq_of_lt small))

    v_small : v < 10 ^ 20
    v_small = let le = div-le_self n (10 ^ j) in omega arith

    top : n / 10 ^ (digit_count_value v + j) ≡ 0
    top = ap (λ (x : ℕ). n / 10 ^ x) (omega arith) ∙ sym (div_pow_add n j (digit_count_value v)) ∙ ap (λ (x : ℕ). x / 10 ^ digit_count_value v) e ∙ count_top v v_small

pub opens_with : (n v j : ℕ) → 1 ≤ v → n < 10 ^ 20 → n / 10 ^ j ≡ v → Opens (digit_count_value v) v n
opens_with n v j l small e = record { more = j; digits = count_with n v j l small e; opening = e }

-- some number from low to high lies among those with j digits more than v
pub goes_with : (low high v j : ℕ) → 1 ≤ v → low ≤ high → high < 10 ^ 20 → v * 10 ^ j ≤ high → low < v * 10 ^ j + 10 ^ j → GoesOn low high (digit_count_value v) v
goes_with low high v j l range small least most =
    let n = max low (v * 10 ^ j) in
    let some = one-le-pow j 10 (lit< tt) in
    let n-low : low ≤ n = le-max_left low (v * 10 ^ j) in
    let n-v : v * 10 ^ j ≤ n = le-max_right low (v * 10 ^ j) in
    let n-high : n ≤ high = omega arith in
    let n_most : n < v * 10 ^ j + 10 ^ j = omega arith in
    let above : n < (v + 1) * 10 ^ j = omega arith in
    record { n = n; from = n-low; to = n-high; opens = opens_with n v j l (omega arith) (div-eq_of_lt-le (10 ^ j) n-v above) }

-- none does: those with fewer digits more are below low, the others are above high
pub goes_none : (low high v j : ℕ) → 1 ≤ v → high < v * 10 ^ j → ((i : ℕ) → i < j → v * 10 ^ i + 10 ^ i ≤ low) → GoesOn low high (digit_count_value v) v → ⊥
goes_none low high v j l least most on = by_order (leb j on.opens.more) refl
  where
    by_order : (b : Bool) → leb j on.opens.more ≡ b → ⊥
    by_order true s =
        let n = on.n in
        let i = on.opens.more in
        let le = leb-true j i s in
        let to = on.to in
        let down : n / 10 ^ i * 10 ^ i ≤ n = div-mul-le_self n (10 ^ i) in
        let is : v * 10 ^ i ≤ n = rw on.opens.opening at down in
        let grows : v * 10 ^ j ≤ v * 10 ^ i = mul-le-mul (le_refl v) (pow-le-pow_right (lit< tt) le) in
        absurd (omega arith)
    by_order false s =
        let n = on.n in
        let i = on.opens.more in
        let lt = leb-false j i s in
        let from = on.from in
        let up : n < n / 10 ^ i * 10 ^ i + 10 ^ i = lt-div-mul-add (one-le-pow i 10 (lit< tt)) in
        let is : n < v * 10 ^ i + 10 ^ i = rw on.opens.opening at up in
        let below = most i lt in
        absurd (omega arith)
