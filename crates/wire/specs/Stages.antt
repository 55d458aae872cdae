-- What a stage of reading answers and leaves: cited by the contracts of the private functions of those that read a block.
use Rattle.std.specs.Prelude.{◌≡◌, ℕ, Result}
use Rattle.rules.specs.Answer.{Answer, good, refused, Read, found}
use Rattle.refusal.specs.declared.Refusal.{Refusal}
use Rattle.refusal.specs.Told.{told}
use Rattle.wire.specs.declared.Item.{Item}
use Rattle.wire.specs.Replies.{count_told}

-- a number of what was found, and the place after it
abbrev pub counted : {A : Type 0} → (A → ℕ) → Read A → Read ℕ
counted f (good i) = found (f i.item) i.next
counted f (refused n p) = refused n p

-- the place after what was found
abbrev pub after : {A : Type 0} → Read A → Answer ℕ
after (good i) = good i.next
after (refused n p) = refused n p

-- what holds of what was found and the place after it; of a refusal nothing is said
abbrev pub IfFound : {A : Type 0} → (A → ℕ → Type 0) → Read A → Type 0
IfFound P (good i) = P i.item i.next
IfFound P (refused n p) = Unit {0}

-- what a stage answers, and what it leaves in lent runs: where it answers a number of what was found and the place after it
pub record Staged {A : Type 0} (f : A → ℕ) (P : A → ℕ → Type 0) (d : Read A) (r : Result (Item ℕ) Refusal) : Type 0 where
  pub reply : count_told r ≡ counted f d
  pub left : IfFound P d

-- where it answers the place alone
pub record Passed {A : Type 0} (P : A → ℕ → Type 0) (d : Read A) (r : Result ℕ Refusal) : Type 0 where
  pub reply : told r ≡ after d
  pub left : IfFound P d
