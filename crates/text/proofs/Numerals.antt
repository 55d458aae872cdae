-- Digits are read one at a time, and the number that they write is within a limit or is not. Assumes nothing.
use mathlib.Core.Path.{◌≡◌, refl, ap, subst, ◌∙◌}
use mathlib.Core.List.{List, [], ◌∷◌}
use Prim.Native.Nat.{ℕ, suc, ◌+◌, ◌*◌, ◌≤◌, ◌<◌}
use native.Mathlib.Nat.{le-mul_of_pos_right}
use native.Mathlib.Omega.{arith}
use lib.ListN.{length, get_or, drop, drop_of_length-le}
use lib.Seq.{drop-cons}
use Rattle.std.specs.Char.{digit_value}
use Rattle.std.proofs.lemmas.Bool.{false≢true}
use Rattle.std.specs.Prelude.{Option, Some, None, Result, Ok, Err, IsErr}
use Rattle.std.specs.Option.{SomeIff}
use Rattle.std.specs.Str.Parse.{AllDigits, IsNumeral, ParsesUpTo, digits_value_after, digits_value}
use Rattle.text.specs.declared.Radix.{Radix}
use Rattle.text.specs.declared.Radix.TheVariants.{Decimal, Hex}
use Rattle.text.specs.Base.{base}

pub some_base : (radix : Radix) → 0 < base radix
some_base Decimal = omega arith
some_base Hex = omega arith

-- of the digits `all`, those before `rest` write n
pub record SoFar (radix : ℕ) (all rest : List ℕ) (n : ℕ) : Type 0 where
  pub same : digits_value_after radix n rest ≡ digits_value radix all
  pub back : AllDigits radix rest → AllDigits radix all
  pub on : AllDigits radix all → AllDigits radix rest

pub begun : (radix : ℕ) (all : List ℕ) → SoFar radix all all 0
begun radix all = record { same = refl; back = λ h. h; on = λ h. h }

grows : (radix n : ℕ) (ds : List ℕ) → 0 < radix → n ≤ digits_value_after radix n ds
grows radix n [] h = omega arith
grows radix n (c ∷ cs) h = omega (arith, grows radix (n * radix + digit_value c) cs h, le-mul_of_pos_right n h)

module _ (radix : ℕ) (all : List ℕ) (at n : ℕ) (s : SoFar radix all (drop at all) n) where
  module _ (h : at < length all) where
    opened : SoFar radix all (get_or all at 0 ∷ drop (at + 1) all) n
    opened = let e : suc at ≡ at + 1 = omega arith in subst (λ l. SoFar radix all l n) (drop-cons all at 0 h ∙ ap (λ k. get_or all at 0 ∷ drop k all) e) s

    pub one_more : (m : ℕ) → digit_value (get_or all at 0) < radix → m ≡ n * radix + digit_value (get_or all at 0) → SoFar radix all (drop (at + 1) all) m
    one_more m d e = record { same = ap (λ k. digits_value_after radix k (drop (at + 1) all)) e ∙ opened.same; back = λ r. opened.back (d, r); on = λ r. (opened.on r).1 }

    pub no_digit : (most : ℕ) → (digit_value (get_or all at 0) < radix → ⊥) → IsNumeral radix all × (digits_value radix all ≤ most) → ⊥
    no_digit most d p = d (opened.on p.0.1).0

    pub too_large : (most : ℕ) → 0 < radix → most < n * radix + digit_value (get_or all at 0) → IsNumeral radix all × (digits_value radix all ≤ most) → ⊥
    too_large most z d p = omega (arith, opened.same, grows radix (n * radix + digit_value (get_or all at 0)) (drop (at + 1) all) z)

  pub all_read : (most : ℕ) → length all ≤ at → 0 < length all → n ≤ most → (IsNumeral radix all × (digits_value radix all ≤ most)) × (n ≡ digits_value radix all)
  all_read most h some fits =
      let t : SoFar radix all [] n = subst (λ l. SoFar radix all l n) (drop_of_length-le all h) s in
      (((some, t.back tt), omega (arith, t.same)), t.same)

-- what is known of an option, where its variant is
pub was_none : {P : Type 0} (o : Option ℕ) (v : ℕ) → o ≡ None → SomeIff o P v → P → ⊥
was_none {P} o v e h = subst (λ r. SomeIff r P v) e h

pub was_some : {P : Type 0} {v : ℕ} (o : Option ℕ) (w : ℕ) → o ≡ Some w → SomeIff o P v → P × (w ≡ v)
was_some {P} {v} o w e h = subst (λ r. SomeIff r P v) e h

pub no_number : {E : Type 0} (r : Result ℕ E) (most radix : ℕ) (ds : List ℕ) → IsErr r → (IsNumeral radix ds × (digits_value radix ds ≤ most) → ⊥) → ParsesUpTo most radix ds r
no_number (Ok n) most radix ds e h = absurd (false≢true e)
no_number (Err x) most radix ds e h = h
