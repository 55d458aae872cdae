-- What a function answers: its result, or a refusal's number and place (document 01, "Numbers of refusal").
use Rattle.std.specs.Prelude.{Bool, true, false, List, [], ◌∷◌, ℕ, zero, suc, ◌+◌}

pub data Answer (A : Type 0) : Type 0 where
  good : A → Answer A
  refused : ℕ → ℕ → Answer A

-- where the test holds, refusal n with place p; otherwise what follows
abbrev pub refuse : {A : Type 0} → Bool → ℕ → ℕ → Answer A → Answer A
refuse true n p r = refused n p
refuse false n p r = r

-- a fault is a number of refusal, or 0 for none: the first of two
abbrev pub or_else : ℕ → ℕ → ℕ
or_else zero n = n
or_else (suc m) n = suc m

-- Each element's fault, 0 where it has none: the first fault refuses, and its place is the element's ("A place counts from 0 and names the first at fault").
-- The first element here is the i-th.
unfoldable pub refuse_first : {A : Type 0} → ℕ → List ℕ → Answer A → Answer A
refuse_first i [] r = r
refuse_first i (zero ∷ faults) r = refuse_first (i + 1) faults r
refuse_first i (suc n ∷ faults) r = refused (suc n) i

-- ---- reading: an item, and the place after it

pub record Item (A : Type 0) : Type 0 where
  pub item : A
  pub next : ℕ

abbrev pub Read : Type 0 → Type 0
Read A = Answer (Item A)

abbrev pub found : {A : Type 0} → A → ℕ → Read A
found a n = good (record { item = a; next = n })

-- what was read, without the place after it
abbrev pub item_of : {A : Type 0} → Read A → Answer A
item_of (good a) = good a.item
item_of (refused n p) = refused n p

-- "Each decoding step ends at the first refusal": read, then go on with the item and the place after it
infixr 10 ◌then◌
abbrev pub ◌then◌ : {A B : Type 0} → Read A → (A → ℕ → Answer B) → Answer B
good a then f = f a.item a.next
refused n p then f = refused n p

-- n items in a row, each read at the place where the one before ended; the first of them is the i-th
unfoldable pub row : {A : Type 0} → (ℕ → ℕ → Read A) → ℕ → ℕ → ℕ → Read (List A)
row read zero at i = found [] at
row read (suc n) at i = read at i then λ x next. row read n next (i + 1) then λ xs end. found (x ∷ xs) end
