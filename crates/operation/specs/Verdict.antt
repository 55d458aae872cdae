-- An operation by its two numbers, what a fault answers, and a kind by its number.
use Rattle.std.specs.Prelude.{ℕ, zero, suc}
use Rattle.rules.specs.Answer.{Answer, good, refused}
use Rattle.rules.specs.Operations.{Op}
use Rattle.operation.specs.declared.Kind.{Kind}
use Rattle.operation.specs.declared.Kind.TheVariants.{Plain, Placed, Carried, Unassigned}

abbrev pub op : ℕ → ℕ → Op
op c v = record { code = c; value = v }

-- a fault, 0 for none, of what is at a place
abbrev pub one_fault : ℕ → ℕ → Answer Unit
one_fault zero p = good tt
one_fault (suc n) p = refused (suc n) p

-- "0 no value; 1 an immediate, placed in a group; 2 a value carried but never placed; 3 unassigned"
abbrev pub kind_named : ℕ → Kind
kind_named zero = Plain
kind_named (suc zero) = Placed
kind_named (suc (suc zero)) = Carried
kind_named (suc (suc (suc n))) = Unassigned
