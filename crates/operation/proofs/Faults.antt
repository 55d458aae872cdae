-- What the answer of one fault says of it; and which kind is unassigned. Assumes nothing.
use mathlib.Core.Path.{◌≡◌, refl, sym, ap, subst, ◌∙◌}
use Prim.Native.Nat.{ℕ, zero, suc, ◌≤◌, ◌<◌}
use native.Mathlib.Omega.{arith}
use lib.Dec.{ltb}
use borrow.Author.Tests.{le-ltb}
use mathlib.Core.Bool.{Bool, not}
use mathlib.Core.Logic.{◌⊎◌, inl, inr}
use denote.Enum.Bare.{sameb}
use Rattle.operation.specs.contracts.Kind.{the_type}
use Rattle.operation.specs.declared.Kind.{Kind}
use Rattle.operation.specs.declared.Kind.TheVariants.{Plain, Placed, Carried, Unassigned}
use Rattle.rules.specs.Answer.{Answer, good, refused}
use Rattle.operation.specs.Verdict.{one_fault, kind_named}

pub faultless : (n p : ℕ) → good tt ≡ one_fault n p → n ≡ 0
faultless zero p e = refl
faultless (suc n) p e = cc

-- a fault that refuses is the refusal's number, and its place the refusal's
pub record Faulted (n p m q : ℕ) : Type 0 where
  pub number : n ≡ m
  pub place : p ≡ q
  pub some : n ≡ 0 → ⊥

pub faulted : (n p m q : ℕ) → ◌≡◌ {A = Answer Unit} (refused m q) (one_fault n p) → Faulted n p m q
faulted zero p m q e = cc
faulted (suc n) p m q e = record { number = cc; place = cc; some = λ h. omega arith }

-- what the test for it says of a kind's number
pub assigned_by : (k : ℕ) (kind : Kind) (b : Bool) → kind ≡ kind_named k → b ≡ sameb the_type kind Unassigned → ltb k 3 ≡ not b
assigned_by k kind b n e = go k ∙ ap not (sym (e ∙ ap (λ (x : Kind). sameb the_type x Unassigned) n))
  where
    go : (k : ℕ) → ltb k 3 ≡ not (sameb the_type (kind_named k) Unassigned)
    go zero = refl
    go (suc zero) = refl
    go (suc (suc zero)) = refl
    go (suc (suc (suc k))) = let h : 3 ≤ suc (suc (suc k)) = omega arith in le-ltb _ _ h

-- what a kind's name says of its number
abbrev pub Numbered : ℕ → Kind → Type 0
Numbered k Plain = k ≡ 0
Numbered k Placed = k ≡ 1
Numbered k Carried = k ≡ 2
Numbered k Unassigned = 3 ≤ k

pub numbered : (k : ℕ) (kind : Kind) → kind ≡ kind_named k → Numbered k kind
numbered k kind e = subst (Numbered k) (sym e) (go k)
  where
    go : (k : ℕ) → Numbered k (kind_named k)
    go zero = refl
    go (suc zero) = refl
    go (suc (suc zero)) = refl
    go (suc (suc (suc k))) = omega arith

pub valued_named : (k : ℕ) (kind : Kind) → kind ≡ kind_named k → (kind ≡ Placed) ⊎ (kind ≡ Carried) → (k < 3) × (k ≡ 0 → ⊥)
valued_named k kind e (inl h) = let one : k ≡ 1 = numbered k Placed (sym h ∙ e) in (omega arith, λ z. omega arith)
valued_named k kind e (inr h) = let two : k ≡ 2 = numbered k Carried (sym h ∙ e) in (omega arith, λ z. omega arith)
