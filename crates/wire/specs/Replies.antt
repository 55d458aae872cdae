-- What the answers of the readers say: an item and the place after it, or a refusal.
use Rattle.std.specs.Prelude.{ℕ, Result}
use Rattle.rules.specs.Answer as rules
use Rattle.rules.specs.Operations.{Op}
use Rattle.refusal.specs.declared.Refusal.{Refusal}
use Rattle.refusal.specs.Told.{told_by}
use Rattle.operation.specs.Verdict.{op}
use Rattle.wire.specs.declared.Item.{Item}
use Rattle.wire.specs.declared.Op as wire

abbrev pub count_told : Result (Item ℕ) Refusal → rules.Read ℕ
count_told = told_by (λ (i : Item ℕ). record { item = i.item; next = i.next })

abbrev pub op_told : Result (Item wire.Op) Refusal → rules.Read Op
op_told = told_by (λ (i : Item wire.Op). record { item = op i.item.code i.item.value; next = i.next })
