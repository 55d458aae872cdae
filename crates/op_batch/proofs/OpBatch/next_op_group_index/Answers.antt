use Rattle.std.proofs.Common.{◌≡◌, ℕ, ◌+◌, length, take, sym, ap, ◌∙◌, arith, rules}
use mathlib.Core.Option.{Option}
use Rattle.rules.specs.Answer.{good}
use Rattle.rules.specs.Record.{differences}
use Rattle.rules.specs.Lookups.{next_group}
use Rattle.rules.specs.Functions.{next_lookup}
use Rattle.op_batch.specs.OpBatch.{record_in, next_in}
use Rattle.op_batch.proofs.Right.{sound}
use Rattle.op_batch.proofs.Places.{full_end, next_after}
use Rattle.op_batch.proofs.OpBatch.next_op_group_index.Goals as goal

pub returns-then-not-right : goal.returns-then-not-right
unfolding next_lookup
returns-then-not-right c = rw (sym c.right.ensures ∙ c.if-not-right.true)

pub returns-then-group-ge7 : goal.returns-then-group-ge7
unfolding next_lookup next_group
returns-then-group-ge7 c =
    let a = c.args in
    let b = a.self in
    let s : length b.starts ≡ 9 = search rules in
    let r = sym c.right.ensures ∙ c.if-not-right.false in
    let k = (sound 8 (record_in b) r).count in
    rw r (ap (λ (o : Option ℕ). good (next_in o)) (sym (next_after (take b.count (differences b.starts)) a.group ∙ full_end b.count b.starts (omega arith) (a.group + 1) (omega arith))))

pub next_from-requires : goal.next_from-requires
next_from-requires c =
    let b = c.args.self in
    let s : length b.starts ≡ 9 = search rules in
    let k = (sound 8 (record_in b) (sym c.right.ensures ∙ c.if-not-right.false)).count in
    omega arith

pub returns : goal.returns
unfolding next_lookup next_group
returns c =
    let a = c.args in
    let b = a.self in
    rw (sym c.right.ensures ∙ c.if-not-right.false) (ap good (c.next_from.ensures ∙ rw c.from.ensures (ap next_in (sym (next_after (take b.count (differences b.starts)) a.group)))))
