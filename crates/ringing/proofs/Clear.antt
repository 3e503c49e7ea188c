-- Doubles whose sign is clear stay so under the operations that make a weight and store it: sums, quotients, products, differences from something larger, rounding; and what is cast of one is not negative.
-- Then the filters: the values of Box and Bilinear are such. Cited by NeverNegative. Assumes nothing.
use mathlib.Core.Path.{◌≡◌, refl, sym, subst}
use mathlib.Core.Logic.{◌⊎◌, inl, inr}
use mathlib.Core.Bool.{Bool, true, false, cond, ◌&&◌}
use Prim.Native.Nat.{ℕ, ◌-◌, ◌*◌, ◌/◌, ◌^◌, ◌<◌, zero-le, min}
use native.Mathlib.Nat.{le_of_lt}
use lib.Dec.{eqb}
use lib.IntN.{pos}
use lib.Ieee.{Float, nan, inf, fin, Format, binary64, up, down, round, sum, add, sub, neg, mul, div, lt, le, of_int, of_bits, to_signed}
use borrow.Author.Tests.{le-ltb, ltb-true}
use Rattle.lists.proofs.BoolLaws.{never}
use Rattle.floats.specs.Doubles.{zero64, half64, one64, double}
use Rattle.floats.proofs.Laws.{round_as}
use Rattle.numbers.specs.Whole.{abs, whole}
use Rattle.numbers.proofs.Ranges.{minus_sign}
use Rattle.filters.specs.declared.Filter.{Filter}
use Rattle.filters.specs.declared.Filter.TheVariants.{Box, Bilinear}
use Rattle.filters.specs.Literals.{minus_half}
use Rattle.filters.specs.Filters.{box_of, bilinear_of, value_of}
use Rattle.orders.specs.Negative.{negative}

-- no minus sign: a number from +0 on, infinity, or the NaN, which has no sign
abbrev pub Clear : Float → Type 0
Clear x = minus_sign x ≡ false

pub either : (b : Bool) (x y : Float) → Clear x → Clear y → Clear (cond b x y)
either true x y p q = p
either false x y p q = q

round_clear : (f : Format) (a c : ℕ) → Clear (round f false a c)
round_clear f a c = round_as (λ (x : Float). minus_sign x ≡ false) f false a c (λ m e. refl) refl

pub int_clear : (n : ℕ) → Clear (double n)
unfolding of_int
int_clear n = round_clear binary64 n 1

pub zero_clear : Clear zero64
unfolding of_bits
zero_clear = refl

one_clear : Clear one64
unfolding of_bits
one_clear = refl

pub add_clear : (f : Format) (x y : Float) → Clear x → Clear y → Clear (add f x y)
unfolding add sum
add_clear f nan y p q = refl
add_clear f (inf true) y p q = never p
add_clear f (inf false) nan p q = refl
add_clear f (inf false) (inf true) p q = never q
add_clear f (inf false) (inf false) p q = refl
add_clear f (inf false) (fin t n d) p q = refl
add_clear f (fin true m e) y p q = never p
add_clear f (fin false m e) nan p q = refl
add_clear f (fin false m e) (inf true) p q = never q
add_clear f (fin false m e) (inf false) p q = refl
add_clear f (fin false m e) (fin true n d) p q = never q
add_clear f (fin false m e) (fin false n d) p q = round_clear f _ _

-- a / c less b / c, where b is below a
less : (f : Format) (a b c : ℕ) → b < a → Clear (sum f false a true b c)
unfolding sum
less f a b c h = rw (le-ltb a b (le_of_lt h)) (round_clear f (a - b) c)

sub_clear : (f : Format) (x y : Float) → Clear x → Clear y → lt y x ≡ true → Clear (sub f x y)
unfolding sub add neg lt
sub_clear f nan y p q h = refl
sub_clear f (inf true) y p q h = never p
sub_clear f (inf false) nan p q h = refl
sub_clear f (inf false) (inf true) p q h = never q
sub_clear f (inf false) (inf false) p q h = refl
sub_clear f (inf false) (fin t n d) p q h = refl
sub_clear f (fin true m e) y p q h = never p
sub_clear f (fin false m e) nan p q h = refl
sub_clear f (fin false m e) (inf true) p q h = never q
sub_clear f (fin false m e) (inf false) p q h = never (sym h)
sub_clear f (fin false m e) (fin true n d) p q h = never q
sub_clear f (fin false m e) (fin false n d) p q h =
    less f (m * up e * down d) (n * up d * down e) (down e * down d) (ltb-true (n * up d * down e) (m * up e * down d) h)

pub mul_clear : (f : Format) (x y : Float) → Clear x → Clear y → Clear (mul f x y)
unfolding mul
mul_clear f nan y p q = refl
mul_clear f (inf true) y p q = never p
mul_clear f (inf false) nan p q = refl
mul_clear f (inf false) (inf true) p q = never q
mul_clear f (inf false) (inf false) p q = refl
mul_clear f (inf false) (fin true n d) p q = never q
mul_clear f (inf false) (fin false n d) p q = either (eqb n 0) nan (inf false) refl refl
mul_clear f (fin true m e) y p q = never p
mul_clear f (fin false m e) nan p q = refl
mul_clear f (fin false m e) (inf true) p q = never q
mul_clear f (fin false m e) (inf false) p q = either (eqb m 0) nan (inf false) refl refl
mul_clear f (fin false m e) (fin true n d) p q = never q
mul_clear f (fin false m e) (fin false n d) p q = round_clear f _ _

pub div_clear : (f : Format) (x y : Float) → Clear x → Clear y → Clear (div f x y)
unfolding div
div_clear f nan y p q = refl
div_clear f (inf true) y p q = never p
div_clear f (inf false) nan p q = refl
div_clear f (inf false) (inf t) p q = refl
div_clear f (inf false) (fin true n d) p q = never q
div_clear f (inf false) (fin false n d) p q = refl
div_clear f (fin true m e) y p q = never p
div_clear f (fin false m e) nan p q = refl
div_clear f (fin false m e) (inf true) p q = never q
div_clear f (fin false m e) (inf false) p q = refl
div_clear f (fin false m e) (fin true n d) p q = never q
div_clear f (fin false m e) (fin false n d) p q = either (eqb n 0) _ _ (either (eqb m 0) nan (inf false) refl refl) (round_clear f _ _)

pub whole_clear : (g : Bool → ℕ → ℕ → ℕ) (f : Format) (x : Float) → Clear x → Clear (whole g f x)
unfolding whole
whole_clear g f nan p = refl
whole_clear g f (inf s) p = p
whole_clear g f (fin true m e) p = never p
whole_clear g f (fin false m e) p = round_clear f _ _

-- a whole number from 0 on is not negative
natural : (n : ℕ) → negative (pos n) ≡ false
natural n = le-ltb n 0 zero-le

pub cast_clear : (h : ℕ) (x : Float) → Clear x → negative (to_signed h x) ≡ false
unfolding to_signed
cast_clear h nan p = natural 0
cast_clear h (inf true) p = never p
cast_clear h (inf false) p = natural (2 ^ h - 1)
cast_clear h (fin true m e) p = never p
cast_clear h (fin false m e) p = natural (min (m * up e / down e) (2 ^ h - 1))

-- ---- the two filters
abs_clear : (x : Float) → Clear (abs x)
unfolding abs
abs_clear nan = refl
abs_clear (inf s) = refl
abs_clear (fin s m e) = refl

box_clear : (x : Float) → Clear (box_of x)
unfolding box_of
box_clear x = either (lt minus_half x && le x half64) one64 zero64 one_clear zero_clear

bilinear_clear : (y : Float) → Clear y → Clear (bilinear_of y)
unfolding bilinear_of
bilinear_clear y p = go (lt y one64) refl
  where
    go : (t : Bool) → lt y one64 ≡ t → Clear (cond t (sub binary64 one64 y) zero64)
    go true h = sub_clear binary64 one64 y one_clear p h
    go false h = zero_clear

pub value_clear : (f : Filter) (x : Float) → (f ≡ Box) ⊎ (f ≡ Bilinear) → Clear (value_of f x)
unfolding value_of
value_clear f x (inl e) = subst (λ (g : Filter). Clear (value_of g x)) (sym e) (box_clear x)
value_clear f x (inr e) = subst (λ (g : Filter). Clear (value_of g x)) (sym e) (bilinear_clear (abs x) (abs_clear x))
