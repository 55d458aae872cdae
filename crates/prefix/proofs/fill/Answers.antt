use Rattle.prefix.proofs.Entries.{marks_next, marks_none, last_entry}
use Rattle.prefix.specs.Tables.{ahead}
use Rattle.rules.specs.Lookups.{marks}
use Rattle.rules.specs.Record.{record_size, records_from, records_in}
use lib.ListN.{length, replicate, length-replicate}
use native.Mathlib.Omega.{arith}
use Prim.Native.Nat.{◌+◌, ◌-◌, ◌/◌}
use mathlib.Core.Path.{◌≡◌, ap, ◌∙◌}
use Rattle.prefix.proofs.fill.Goals as goal

pub loop-b-preserved : goal.loop-b-preserved
loop-b-preserved c =
    let s = c.args.records.now in
    let l = c.loop-b in
    let i = l.invariant in
    let e = c.batch_entries-done.ensures in
    let more = marks (records_from (length s / record_size - (l.b + 1)) s (l.b + 1)) in
    let next = marks_next (length s / record_size) s l.b (omega arith) in
    record { waiting = e.waiting_bound_2.0; paddings = e.waiting_bound_2.1; run = e.goes.run more ∙ (rw next at i.run); entries = e.goes.entries more ∙ (rw next at i.entries) }

pub returns : goal.returns
unfolding records_in
returns c =
    let a = c.args in
    let s = a.records.now in
    let l = c.loop-b in
    let i = l.invariant in
    let w = l.done.waiting in
    let k = l.done.paddings in
    let z : ahead a.which w k (marks (records_from (length s / record_size - l.b) s l.b)) ≡ replicate (w + 1) k = ap (ahead a.which w k) (marks_none (length s / record_size) s l.b (omega arith)) ∙ last_entry a.which w k in
    record { entries = omega (arith, ap length z, i.entries, length-replicate (w + 1) k); run = c.fill.ensures ∙ (rw z at i.run) }
