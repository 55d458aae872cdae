-- Laws of answers: what a good answer says of the guards and stages before it, and the walk to the first fault. Assumes nothing.
use mathlib.Core.Path.{◌≡◌, refl, sym, ap, ◌∙◌}
use mathlib.Core.Bool.{Bool, true, false, cond, not}
use mathlib.Core.List.{List, [], ◌∷◌, ◌++◌}
use Prim.Native.Nat.{ℕ, zero, suc, ◌+◌, ◌<◌}
use native.Mathlib.Omega.{arith}
use lib.ListN.{length, get_or}
use Rattle.rules.specs.Answer.{Answer, good, refused, refuse, refuse_first, Item, Read, found, ◌then◌}

module _ {A : Type 0} where
  pub clash : (n p : ℕ) (a : A) → ◌≡◌ {A = Answer A} (refused n p) (good a) → ⊥
  clash n p a h = let z : ◌≡◌ {A = ℕ} 0 1 = cc in omega arith

  pub value : (a b : A) → ◌≡◌ {A = Answer A} (good a) (good b) → a ≡ b
  value a b h = cc

  -- ---- guards

  pub passed : (b : Bool) (n p : ℕ) (r : Answer A) (a : A) → refuse b n p r ≡ good a → (b ≡ false) × (r ≡ good a)
  passed true n p r a h = absurd (clash n p a h)
  passed false n p r a h = (refl, h)

  -- ---- the first fault

  -- an element with no fault is passed over
  pub first_turn : (i n : ℕ) (ns : List ℕ) (r : Answer A) → n ≡ 0 → refuse_first i (n ∷ ns) r ≡ refuse_first (i + 1) ns r
  unfolding refuse_first
  first_turn i n ns r h = rw h

  -- one with a fault refuses
  pub first_stop : (i n : ℕ) (ns : List ℕ) (r : Answer A) → (n ≡ 0 → ⊥) → refuse_first i (n ∷ ns) r ≡ refused n i
  unfolding refuse_first
  first_stop i zero ns r h = absurd (h refl)
  first_stop i (suc n) ns r h = refl

  pub first_done : (i : ℕ) (r : Answer A) → refuse_first i [] r ≡ r
  unfolding refuse_first
  first_done i r = refl

  -- a single one is a guard
  pub first_guard : (b : Bool) (n i : ℕ) (r : Answer A) → refuse_first i (cond b 0 (suc n) ∷ []) r ≡ refuse (not b) (suc n) i r
  unfolding refuse_first
  first_guard true n i r = refl
  first_guard false n i r = refl

  -- no fault in a good answer
  pub no_fault : (i : ℕ) (ns : List ℕ) (r : Answer A) (a : A) → refuse_first i ns r ≡ good a → ((k : ℕ) → k < length ns → get_or ns k 0 ≡ 0) × (r ≡ good a)
  unfolding refuse_first
  no_fault i [] r a h = (λ k l. absurd (omega arith), h)
  no_fault i (zero ∷ ns) r a h = let ih = no_fault (i + 1) ns r a h in (λ k l. at k l ih.0, ih.1)
    where
      at : (k : ℕ) → k < suc (length ns) → ((k : ℕ) → k < length ns → get_or ns k 0 ≡ 0) → get_or (0 ∷ ns) k 0 ≡ 0
      at zero l f = refl
      at (suc k) l f = f k (omega arith)
  no_fault i (suc n ∷ ns) r a h = absurd (clash (suc n) i a h)

  -- and where there is none, what follows is the answer
  pub all_passed : (i : ℕ) (ns : List ℕ) (r : Answer A) → ((k : ℕ) → k < length ns → get_or ns k 0 ≡ 0) → refuse_first i ns r ≡ r
  unfolding refuse_first
  all_passed i [] r f = refl
  all_passed i (n ∷ ns) r f = first_turn i n ns r (f 0 (omega arith)) ∙ all_passed (i + 1) ns r (λ k l. f (suc k) (omega arith))

  -- the faults of a list and of one more
  pub first_append : (i : ℕ) (ns ms : List ℕ) (r : Answer A) → refuse_first i (ns ++ ms) r ≡ refuse_first i ns (refuse_first (i + length ns) ms r)
  unfolding refuse_first
  first_append i [] ms r = let e : i + 0 ≡ i = omega arith in rw e
  first_append i (zero ∷ ns) ms r = let e : i + suc (length ns) ≡ i + 1 + length ns = omega arith in rw e (first_append (i + 1) ns ms r)
  first_append i (suc n ∷ ns) ms r = refl

  -- ---- reading

  pub item : (a b : A) (m n : ℕ) → found a m ≡ found b n → a ≡ b
  item a b m n h = ap (λ (i : Item A). i.item) (same (record { item = a; next = m }) (record { item = b; next = n }) h)
    where
      same : (x y : Item A) → ◌≡◌ {A = Answer (Item A)} (good x) (good y) → x ≡ y
      same x y h = cc

  pub next : (a b : A) (m n : ℕ) → found a m ≡ found b n → m ≡ n
  next a b m n h = ap (λ (i : Item A). i.next) (same (record { item = a; next = m }) (record { item = b; next = n }) h)
    where
      same : (x y : Item A) → ◌≡◌ {A = Answer (Item A)} (good x) (good y) → x ≡ y
      same x y h = cc

-- what holds of an item and its place holds of what the reply says
pub settle : {A : Type 0} (P : A → ℕ → Type 0) (a x : A) (m n : ℕ) → found a m ≡ found x n → P a m → P x n
settle P a x m n h p = rw (sym (item a x m n h), sym (next a x m n h)) p

pub record Came (A B : Type 0) (r : Read A) (f : A → ℕ → Answer B) (b : B) : Type 0 where
  pub got : A
  pub to : ℕ
  pub first : r ≡ found got to
  pub rest : f got to ≡ good b

pub came : {A B : Type 0} (r : Read A) (f : A → ℕ → Answer B) (b : B) → (r then f) ≡ good b → Came A B r f b
came (good a) f b h = record { got = a.item; to = a.next; first = refl; rest = h }
came (refused n p) f b h = absurd (clash n p b h)
