-- Floor, ceiling and rounding on patterns: for a size p with either sign, `whole_size` of p is the pattern of the value that `whole` gives, for each direction. A direction
-- is its size of a fraction, what it adds for a unit, and what it gives below 1. Cited by the functions on patterns. Assumes nothing.
use Rattle.std.proofs.Common.{◌≡◌, ℕ, zero, suc, ◌+◌, ◌-◌, ◌*◌, ◌/◌, ◌%◌, ◌^◌, ◌<◌, ◌≤◌, Bool, true, false, cond, not, T, eqb, ltb, leb, ◌⊎◌, sym, refl, ap, ◌∙◌, subst, inl, inr, le_trans, mod-lt, div-lt_iff_lt-mul, eq-or-lt_of_le, div-add-mod', le-div_iff_mul-le, div-mul-le_self, arith, eqb→eq, ltb→lt, leb→le, nltb→le, pow_pos, pow_mono}
use native.Mathlib.Nat.{pow-succ'}
use lib.Dec.{nleb→lt}
use lib.Ieee.{binary64, round, of_bits}
use Rattle.numbers.specs.Whole.{whole, cut, raised}
use Rattle.integers.specs.Nearest.{nearest}
use Rattle.numbers.specs.Inner.{unit_of, whole_size, cut_below, raised_below, nearest_below, cut_more, raised_more, nearest_more}
use Rattle.numbers.proofs.Sizes.{Fair, cut_fair, raised_fair, nearest_fair, cut_none, raised_none, raised_one, nearest_none, nearest_one, cut_step, nearest_step}
use Rattle.numbers.proofs.WholeLaws.{whole_value, middle, high, infinite, Below, below_one, zero_is, one_is}

-- ---- a direction: its size h, what it adds for a unit, and what it gives below 1
pub record Direction (h : ℕ → ℕ → ℕ) (below more : ℕ → ℕ) : Type 0 where
  pub fair : Fair h
  pub one : (a : ℕ) → h a 1 ≡ a
  pub less : (i : ℕ) → 1 ≤ i → more (2 ^ i) < 2 ^ i
  pub step : (d i : ℕ) → 1 ≤ i → h d (2 ^ i) ≡ (d + more (2 ^ i)) / 2 ^ i
  pub under : (s : Bool) (p : ℕ) → p < 0x3ff0_0000_0000_0000 → (b : Below s p) → of_bits binary64 (cond s (2 ^ 63) 0 + below p) ≡ round binary64 s (h b.size (2 ^ 1074)) 1
  pub bounded : (p : ℕ) → below p ≤ 0x3ff0_0000_0000_0000

module _ (g : Bool → ℕ → ℕ → ℕ) (s : Bool) (h : ℕ → ℕ → ℕ) (is : (a c : ℕ) → g s a c ≡ h a c) (below more : ℕ → ℕ) (d : Direction h below more) where
  at_field : (X t : ℕ) → t < 2 ^ 52 → 1023 ≤ X → X < 1075
      → of_bits binary64 (cond s (2 ^ 63) 0 + (X * 2 ^ 52 + t + more (2 ^ (1075 - X))) / 2 ^ (1075 - X) * 2 ^ (1075 - X)) ≡ whole g binary64 (of_bits binary64 (cond s (2 ^ 63) 0 + (X * 2 ^ 52 + t)))
  at_field zero t b l u = absurd (omega arith)
  at_field (suc k) t b l u =
      middle g s h is d.fair k (1075 - suc k) t (more (2 ^ (1075 - suc k))) (omega arith) (omega arith) (omega arith) b (d.less (1075 - suc k) (omega arith)) (d.step (2 ^ 52 + t) (1075 - suc k) (omega arith))

  pub whole_size_fact : (p : ℕ) → p ≤ 0x7ff0_0000_0000_0000 → of_bits binary64 (cond s (2 ^ 63) 0 + whole_size below more p) ≡ whole g binary64 (of_bits binary64 (cond s (2 ^ 63) 0 + p))
  whole_size_fact p l = go (leb 0x4330_0000_0000_0000 p) (leb 0x3ff0_0000_0000_0000 p) (leb→le 0x4330_0000_0000_0000 p) (nleb→lt 0x4330_0000_0000_0000 p) (leb→le 0x3ff0_0000_0000_0000 p) (nleb→lt 0x3ff0_0000_0000_0000 p)
    where
      X : ℕ
      X = p / 2 ^ 52

      t : ℕ
      t = p % 2 ^ 52

      past : (p ≡ 0x7ff0_0000_0000_0000) ⊎ (p < 0x7ff0_0000_0000_0000) → 0x4330_0000_0000_0000 ≤ p → of_bits binary64 (cond s (2 ^ 63) 0 + p) ≡ whole g binary64 (of_bits binary64 (cond s (2 ^ 63) 0 + p))
      past (inl e) b = subst (λ (z : ℕ). of_bits binary64 (cond s (2 ^ 63) 0 + z) ≡ whole g binary64 (of_bits binary64 (cond s (2 ^ 63) 0 + z))) (sym e) (infinite g s)
      past (inr u) b =
          subst (λ (z : ℕ). of_bits binary64 (cond s (2 ^ 63) 0 + z) ≡ whole g binary64 (of_bits binary64 (cond s (2 ^ 63) 0 + z))) (div-add-mod' p (2 ^ 52))
          (high g s h is d.one (p / 2 ^ 52) (p % 2 ^ 52) (mod-lt p (pow_pos 52)) ((le-div_iff_mul-le {k = 2 ^ 52} {x = 1075} {y = p} (pow_pos 52)).1 b) ((div-lt_iff_lt-mul (pow_pos 52)).1 u))

      go : (a b : Bool) → (T a → 0x4330_0000_0000_0000 ≤ p) → (T (not a) → p < 0x4330_0000_0000_0000) → (T b → 0x3ff0_0000_0000_0000 ≤ p) → (T (not b) → p < 0x3ff0_0000_0000_0000)
          → of_bits binary64 (cond s (2 ^ 63) 0 + cond a p (cond b ((p + more (unit_of p)) / unit_of p * unit_of p) (below p))) ≡ whole g binary64 (of_bits binary64 (cond s (2 ^ 63) 0 + p))
      go true b w x y z = past (eq-or-lt_of_le l) (w tt)
      go false true w x y z =
          subst (λ (q : ℕ). of_bits binary64 (cond s (2 ^ 63) 0 + (q + more (unit_of p)) / unit_of p * unit_of p) ≡ whole g binary64 (of_bits binary64 (cond s (2 ^ 63) 0 + q))) (div-add-mod' p (2 ^ 52))
          (at_field (p / 2 ^ 52) (p % 2 ^ 52) (mod-lt p (pow_pos 52)) ((le-div_iff_mul-le {k = 2 ^ 52} {x = 1023} {y = p} (pow_pos 52)).1 (y tt)) ((div-lt_iff_lt-mul (pow_pos 52)).1 (x tt)))
      go false false w x y z =
          let b = below_one s p (z tt) in
          d.under s p (z tt) b ∙ sym (whole_value g s h is d.fair (of_bits binary64 (cond s (2 ^ 63) 0 + p)) b.size (2 ^ 1074) (pow_pos 1074) b.value)

-- ---- the result is a pattern up to the infinity's
pub size_bounded : (h : ℕ → ℕ → ℕ) (below more : ℕ → ℕ) → Direction h below more → (p : ℕ) → p ≤ 0x7ff0_0000_0000_0000 → whole_size below more p ≤ 0x7ff0_0000_0000_0000
size_bounded h below more d p l = go (leb 0x4330_0000_0000_0000 p) (leb 0x3ff0_0000_0000_0000 p) (nleb→lt 0x4330_0000_0000_0000 p) (leb→le 0x3ff0_0000_0000_0000 p)
  where
    room : (p m u q : ℕ) → p < 0x4330_0000_0000_0000 → m < u → u ≤ 2 ^ 52 → q ≤ p + m → q ≤ 0x7ff0_0000_0000_0000
    room p m u q a b c e = omega arith

    go : (a b : Bool) → (T (not a) → p < 0x4330_0000_0000_0000) → (T b → 0x3ff0_0000_0000_0000 ≤ p) → cond a p (cond b ((p + more (unit_of p)) / unit_of p * unit_of p) (below p)) ≤ 0x7ff0_0000_0000_0000
    go true b x y = l
    go false true x y =
        let X : 1023 ≤ p / 2 ^ 52 = (le-div_iff_mul-le {k = 2 ^ 52} {x = 1023} {y = p} (pow_pos 52)).1 (y tt) in
        let Y : p / 2 ^ 52 < 1075 = (div-lt_iff_lt-mul (pow_pos 52)).1 (x tt) in
        let m = d.less (1075 - p / 2 ^ 52) (omega arith) in
        let u : unit_of p ≤ 2 ^ 52 = pow_mono {i = 1075 - p / 2 ^ 52} {j = 52} (omega arith) in
        room p (more (unit_of p)) (unit_of p) ((p + more (unit_of p)) / unit_of p * unit_of p) (x tt) m u (div-mul-le_self (p + more (unit_of p)) (unit_of p))
    go false false x y = le_trans (d.bounded p) (omega arith)

-- ---- the three
above_none : (p : ℕ) → T (not (eqb p 0)) → 0 < p
above_none zero t = absurd t
above_none (suc p) t = omega arith

pub cutting : Direction cut cut_below cut_more
cutting = record {
  fair = cut_fair;
  one = (λ a. omega arith);
  less = (λ i l. pow_pos i);
  step = (λ n i l. cut_step n (2 ^ i));
  under = (λ s p l b. zero_is s ∙ ap (λ (n : ℕ). round binary64 s n 1) (sym (cut_none b.size (2 ^ 1074) b.less)));
  bounded = (λ p. omega arith);
}

pub raising : Direction raised raised_below raised_more
raising = record {
  fair = raised_fair;
  one = (λ a. omega arith);
  less = (λ i l. let u = pow_pos i in omega arith);
  step = (λ n i l. refl);
  under = (λ s p l b. pick s p b (eqb p 0) (eqb→eq p 0) (above_none p));
  bounded = (λ p. cap (eqb p 0));
}
  where
    pick : (s : Bool) (p : ℕ) (b : Below s p) (t : Bool) → (T t → p ≡ 0) → (T (not t) → 0 < p) → of_bits binary64 (cond s (2 ^ 63) 0 + cond t 0 0x3ff0_0000_0000_0000) ≡ round binary64 s (raised b.size (2 ^ 1074)) 1
    pick s p b true e n = zero_is s ∙ ap (λ (n : ℕ). round binary64 s n 1) (sym (raised_none b.size (2 ^ 1074) (pow_pos 1074) (b.none (e tt))))
    pick s p b false e n = one_is s ∙ ap (λ (n : ℕ). round binary64 s n 1) (sym (raised_one b.size (2 ^ 1074) (b.some (n tt)) b.less))

    cap : (t : Bool) → cond t 0 0x3ff0_0000_0000_0000 ≤ 0x3ff0_0000_0000_0000
    cap true = omega arith
    cap false = omega arith

nearest_pow : (n i : ℕ) → 1 ≤ i → nearest n (2 ^ i) ≡ (n + 2 ^ i / 2) / 2 ^ i
nearest_pow n zero l = absurd (omega arith)
nearest_pow n (suc i) l = subst (λ (u : ℕ). nearest n u ≡ (n + u / 2) / u) (sym (pow-succ' 2 i)) (nearest_step n (2 ^ i) (pow_pos i))

pub nearing : Direction nearest nearest_below nearest_more
nearing = record {
  fair = nearest_fair;
  one = (λ a. omega arith);
  less = (λ i l. let u = pow_pos i in omega arith);
  step = nearest_pow;
  under = (λ s p l b. pick s p b (ltb p 0x3fe0_0000_0000_0000) (ltb→lt p 0x3fe0_0000_0000_0000) (nltb→le p 0x3fe0_0000_0000_0000));
  bounded = (λ p. cap (ltb p 0x3fe0_0000_0000_0000));
}
  where
    pick : (s : Bool) (p : ℕ) (b : Below s p) (t : Bool) → (T t → p < 0x3fe0_0000_0000_0000) → (T (not t) → 0x3fe0_0000_0000_0000 ≤ p)
        → of_bits binary64 (cond s (2 ^ 63) 0 + cond t 0 0x3ff0_0000_0000_0000) ≡ round binary64 s (nearest b.size (2 ^ 1074)) 1
    pick s p b true e n = zero_is s ∙ ap (λ (n : ℕ). round binary64 s n 1) (sym (nearest_none b.size (2 ^ 1074) (pow_pos 1074) (b.under (e tt))))
    pick s p b false e n = one_is s ∙ ap (λ (n : ℕ). round binary64 s n 1) (sym (nearest_one b.size (2 ^ 1074) b.less (b.over (n tt))))

    cap : (t : Bool) → cond t 0 0x3ff0_0000_0000_0000 ≤ 0x3ff0_0000_0000_0000
    cap true = omega arith
    cap false = omega arith
