-- What a stage's reply says of what was found, and what holds of whatever a stage finds. Assumes nothing.
use mathlib.Core.Path.{◌≡◌, refl, sym, ap, ◌∙◌}
use mathlib.Core.Bool.{Bool, true, false}
use mathlib.Core.List.{List, [], ◌∷◌, ◌++◌, append-nil}
use Prim.Native.Nat.{ℕ}
use lib.Seq.{append_snoc}
use Rattle.rules.specs.Answer as answer
use Rattle.rules.specs.Answer.{good, refused, Read, found, refuse, ◌then◌}
use Rattle.std.specs.Prelude.{Result, Ok, Err}
use Rattle.refusal.specs.declared.Refusal.{Refusal}
use Rattle.refusal.specs.Told.{number_of, place_of, told}
use Rattle.wire.specs.declared.Item.{Item}
use Rattle.wire.specs.Replies.{count_told}
use Rattle.wire.specs.Stages.{counted, after, IfFound, Staged, Passed}

pub record Got {A : Type 0} (f : A → ℕ) (P : A → ℕ → Type 0) (d : Read A) (v next : ℕ) : Type 0 where
  pub item : A
  pub is : d ≡ found item next
  pub number : f item ≡ v
  pub holds : P item next

module _ {A : Type 0} (f : A → ℕ) (P : A → ℕ → Type 0) where
  got : (d : Read A) (v next : ℕ) → found v next ≡ counted f d → IfFound P d → Got f P d v next
  got (good i) v next h p =
      let k : record { item = v; next = next } ≡ record { item = f i.item; next = i.next } = cc in
      let e : next ≡ i.next = ap (λ (x : answer.Item ℕ). x.next) k in
      record { item = i.item; is = rw e; number = sym (ap (λ (x : answer.Item ℕ). x.item) k); holds = rw e p }
  got (refused n p) v next h q = cc

  lost : (d : Read A) (n p : ℕ) → refused n p ≡ counted f d → d ≡ refused n p
  lost (good i) n p h = cc
  lost (refused m q) n p h = cc

module _ {A : Type 0} {f : A → ℕ} {P : A → ℕ → Type 0} {d : Read A} {r : Result (Item ℕ) Refusal} (s : Staged f P d r) where
  pub found_by : {i : Item ℕ} → r ≡ Ok i → Got f P d i.item i.next
  found_by {i} e = got f P d i.item i.next (ap count_told (sym e) ∙ s.reply) s.left

  pub refused_by_lem : {e : Refusal} → r ≡ Err e → d ≡ refused (number_of e) (place_of e)
  refused_by_lem {e} h = lost f P d (number_of e) (place_of e) (ap count_told (sym h) ∙ s.reply)

-- the same where the place alone is answered
pub record Went {A : Type 0} (P : A → ℕ → Type 0) (d : Read A) (next : ℕ) : Type 0 where
  pub item : A
  pub is : d ≡ found item next
  pub holds : P item next

module _ {A : Type 0} (P : A → ℕ → Type 0) where
  went : (d : Read A) (next : ℕ) → good next ≡ after d → IfFound P d → Went P d next
  went (good i) next h p = let e : next ≡ i.next = cc in record { item = i.item; is = rw e; holds = rw e p }
  went (refused n p) next h q = cc

  stuck : (d : Read A) (n p : ℕ) → refused n p ≡ after d → d ≡ refused n p
  stuck (good i) n p h = cc
  stuck (refused m q) n p h = cc

module _ {A : Type 0} {P : A → ℕ → Type 0} {d : Read A} {r : Result ℕ Refusal} (s : Passed P d r) where
  pub went_by : {next : ℕ} → r ≡ Ok next → Went P d next
  went_by {next} e = went P d next (ap told (sym e) ∙ s.reply) s.left

  pub stuck_by : {e : Refusal} → r ≡ Err e → d ≡ refused (number_of e) (place_of e)
  stuck_by {e} h = stuck P d (number_of e) (place_of e) (ap told (sym h) ∙ s.reply)

-- ---- a stage whose answer is known

module _ {A : Type 0} {f : A → ℕ} {P : A → ℕ → Type 0} {d : Read A} {r : Result (Item ℕ) Refusal} where
  pub staged_lost : {n p : ℕ} → d ≡ refused n p → count_told r ≡ refused n p → Staged f P d r
  staged_lost e h = rw e (record { reply = h; left = tt })

  pub staged_found : {a : A} {next : ℕ} → d ≡ found a next → count_told r ≡ found (f a) next → P a next → Staged f P d r
  staged_found e h l = rw e (record { reply = h; left = l })

module _ {A : Type 0} {P : A → ℕ → Type 0} {d : Read A} {r : Result ℕ Refusal} where
  pub passed_lost : {n p : ℕ} → d ≡ refused n p → told r ≡ refused n p → Passed P d r
  passed_lost e h = rw e (record { reply = h; left = tt })

  pub passed_found : {a : A} {next : ℕ} → d ≡ found a next → told r ≡ good next → P a next → Passed P d r
  passed_found e h l = rw e (record { reply = h; left = l })

-- ---- what holds of whatever is found

pub held : {A : Type 0} (P : A → ℕ → Type 0) (d : Read A) (a : A) (next : ℕ) → d ≡ found a next → IfFound P d → P a next
held P d a next h p = rw h at p

module _ {A B : Type 0} (P : B → ℕ → Type 0) where
  pub if_then : (r : Read A) (f : A → ℕ → Read B) → ((a : A) (next : ℕ) → r ≡ found a next → IfFound P (f a next)) → IfFound P (r then f)
  if_then (good i) f h = h i.item i.next refl
  if_then (refused n p) f h = tt

pub if_refuse : {B : Type 0} (P : B → ℕ → Type 0) (b : Bool) (n p : ℕ) (r : Read B) → (b ≡ false → IfFound P r) → IfFound P (refuse b n p r)
if_refuse P true n p r h = tt
if_refuse P false n p r h = h refl

-- ---- a list found element by element

-- those found so far, in front of those found of what is left
abbrev pub onto : {A : Type 0} → List A → Read (List A) → Read (List A)
onto xs (good i) = found (xs ++ i.item) i.next
onto xs (refused n p) = refused n p

module _ {A : Type 0} where
  pub onto_nil : (r : Read (List A)) → onto [] r ≡ r
  onto_nil (good i) = refl
  onto_nil (refused n p) = refl

  pub onto_then : (xs : List A) (x : A) (r : Read (List A)) → onto xs (r then λ ys end. found (x ∷ ys) end) ≡ onto (xs ++ (x ∷ [])) r
  onto_then xs x (good i) = rw (append_snoc xs x i.item)
  onto_then xs x (refused n p) = refl

  pub onto_found : (xs : List A) (next : ℕ) → onto xs (found [] next) ≡ found xs next
  onto_found xs next = rw append-nil
