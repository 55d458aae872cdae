-- The operations of a group, one after the other: their number, their immediates, and the values of these. Assumes nothing.
use mathlib.Core.Path.{◌≡◌, refl, sym, ap, ◌∙◌}
use mathlib.Core.Bool.{Bool, true, false, cond}
use mathlib.Core.List.{List, [], ◌∷◌}
use Prim.Native.Nat.{ℕ, ◌+◌, ◌*◌, ◌≤◌, ◌<◌}
use native.Mathlib.Numerals.{add-one}
use native.Mathlib.Omega.{arith}
use borrow.Author.Tests.{eq-eqb, ne_eqb}
use lib.ListN.{length, get_or, drop, drop_of_length-le}
use lib.Seq.{drop-cons}
use lib.Dec.{eqb}
use Rattle.std.specs.Prelude.{count_by}
use Rattle.std.proofs.lemmas.List.Sums.{sum_by-cons}
use Rattle.rules.specs.Digits.{number}
use Rattle.rules.specs.Operations.{Op, operations, codes, kind_of, has_immediate}
use Rattle.rules.specs.Record.{codes_number, immediates}
use Rattle.rules.specs.Checks.{begins}
use Rattle.rules.proofs.Operations.{length_operations, operations_turn, operations_end}

-- whether an opcode's value is placed in a group
abbrev pub is_placed : List ℕ → ℕ → Bool
is_placed t c = eqb (kind_of t c) 1

-- ---- from the i-th operation on

abbrev pub from_on : List ℕ → List ℕ → ℕ → List Op
from_on cs vs i = operations (drop i cs) (drop i vs)

module _ (cs vs : List ℕ) (i : ℕ) where
  module _ (e : length cs ≡ length vs) (h : i < length cs) where
    pub number_turn : codes_number (from_on cs vs i) ≡ get_or cs i 0 + 128 * codes_number (from_on cs vs (i + 1))
    unfolding codes_number codes number
    number_turn = rw (operations_turn cs vs i h (omega arith))

    module _ (t : List ℕ) where
      placed_turn : is_placed t (get_or cs i 0) ≡ true → immediates t (from_on cs vs i) ≡ get_or vs i 0 ∷ immediates t (from_on cs vs (i + 1))
      unfolding immediates has_immediate
      placed_turn p = rw (operations_turn cs vs i h (omega arith), p)

      plain_turn : is_placed t (get_or cs i 0) ≡ false → immediates t (from_on cs vs i) ≡ immediates t (from_on cs vs (i + 1))
      unfolding immediates has_immediate
      plain_turn p = rw (operations_turn cs vs i h (omega arith), p)

  module _ (h : length cs ≤ i) where
    pub number_none : codes_number (from_on cs vs i) ≡ 0
    unfolding codes_number codes number
    number_none = rw (operations_end cs vs i h)

    immediates_none : (t : List ℕ) → immediates t (from_on cs vs i) ≡ []
    unfolding immediates
    immediates_none t = rw (operations_end cs vs i h)

pub counted : (t cs vs : List ℕ) → length cs ≡ length vs → count_by (is_placed t) cs ≡ length (immediates t (operations cs vs))
unfolding operations immediates has_immediate
counted t [] vs e = refl
counted t (c ∷ cs) [] e = absurd (omega arith)
counted t (c ∷ cs) (v ∷ vs) e = sum_by-cons _ c cs ∙ go (is_placed t c) (counted t cs vs (omega arith))
  where
    go : (b : Bool) → count_by (is_placed t) cs ≡ length (immediates t (operations cs vs))
        → cond b 1 0 + count_by (is_placed t) cs ≡ length (cond b (v ∷ immediates t (operations cs vs)) (immediates t (operations cs vs)))
    go true h = omega arith
    go false h = omega arith

-- no operations where there are no opcodes
pub no_ops : (cs vs : List ℕ) → length cs ≡ 0 → operations cs vs ≡ []
unfolding operations
no_ops [] vs h = refl
no_ops (c ∷ cs) vs h = absurd (omega arith)

pub no_codes : (cs vs : List ℕ) → length cs ≡ length vs → operations cs vs ≡ [] → length cs ≡ 0
no_codes cs vs e h = sym (length_operations cs vs e) ∙ ap length h

-- ---- values against the numbers from the j-th on

module _ (ns : List ℕ) (j v : ℕ) (vs : List ℕ) where
  past : length ns ≤ j → begins (drop j ns) (v ∷ vs) ≡ false
  unfolding begins
  past h = rw (drop_of_length-le ns {i = j} h)

  module _ (h : j < length ns) where
    differs : (get_or ns j 0 ≡ v → ⊥) → begins (drop j ns) (v ∷ vs) ≡ false
    unfolding begins
    differs d = rw (drop-cons ns j 0 h, ne_eqb (get_or ns j 0) v d)

    pub agrees : get_or ns j 0 ≡ v → begins (drop (j + 1) ns) vs ≡ begins (drop j ns) (v ∷ vs)
    unfolding begins
    agrees d = rw (add-one j, drop-cons ns j 0 h, eq-eqb (get_or ns j 0) v d)

pub all_agree : (ns : List ℕ) → begins ns [] ≡ true
unfolding begins
all_agree ns = refl

-- the i-th operation's immediate would belong in the j-th group
module _ (t cs vs ns : List ℕ) (e : length cs ≡ length vs) (i j : ℕ) where
  pub agree_done : length cs ≤ i → begins (drop j ns) (immediates t (from_on cs vs i)) ≡ true
  agree_done h = ap (begins (drop j ns)) (immediates_none cs vs i h t) ∙ all_agree (drop j ns)

  module _ (h : i < length cs) where
    pub agree_plain : is_placed t (get_or cs i 0) ≡ false → begins (drop j ns) (immediates t (from_on cs vs (i + 1))) ≡ begins (drop j ns) (immediates t (from_on cs vs i))
    agree_plain p = ap (begins (drop j ns)) (sym (plain_turn cs vs i e h t p))

    module _ (p : is_placed t (get_or cs i 0) ≡ true) where
      here : begins (drop j ns) (immediates t (from_on cs vs i)) ≡ begins (drop j ns) (get_or vs i 0 ∷ immediates t (from_on cs vs (i + 1)))
      here = ap (begins (drop j ns)) (placed_turn cs vs i e h t p)

      pub agree_past : length ns ≤ j → begins (drop j ns) (immediates t (from_on cs vs i)) ≡ false
      agree_past l = here ∙ past ns j (get_or vs i 0) _ l

      module _ (l : j < length ns) where
        pub agree_not : (get_or ns j 0 ≡ get_or vs i 0 → ⊥) → begins (drop j ns) (immediates t (from_on cs vs i)) ≡ false
        agree_not d = here ∙ differs ns j (get_or vs i 0) _ l d

        pub agree_next : get_or ns j 0 ≡ get_or vs i 0 → begins (drop (j + 1) ns) (immediates t (from_on cs vs (i + 1))) ≡ begins (drop j ns) (immediates t (from_on cs vs i))
        agree_next d = agrees ns j (get_or vs i 0) _ l d ∙ sym here
