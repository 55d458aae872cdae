use mathlib.Core.Path.{sym, ◌∙◌}
use Prim.Native.Nat.{◌+◌, ◌*◌}
use native.Mathlib.Nat.{add-zero}
use native.Mathlib.Omega.{arith}
use Rattle.encoder.proofs.Items.{deltas_turn, deltas_end, all_records}
use Rattle.checks.proofs.Groups.{right_starts}
use Rattle.encoder.proofs.input.Input.write_deltas.Goals as goal

pub loop-b-init : goal.loop-b-init
loop-b-init c = rw (add-zero, c.batches-n.ensures, all_records)

pub pack_indptr_deltas-requires : goal.pack_indptr_deltas-requires
pack_indptr_deltas-requires c = right_starts _ (record { width = 8; room = omega arith; right = c.args.self.right c.loop-b.b (omega arith) })

pub loop-b-preserved : goal.loop-b-preserved
loop-b-preserved c =
    let l = c.loop-b in
    let a = c.args in
    rw (c.put.ensures, c.pack_indptr_deltas.ensures) (deltas_turn a.self.arena.records.now _ l.b l.out a.at (omega arith)) ∙ l.invariant

pub returns-clause-bytes : goal.returns-clause-bytes
returns-clause-bytes c =
    let l = c.loop-b in
    let a = c.args in
    sym (deltas_end a.self.arena.records.now _ l.b l.out (a.at + 4 * l.b) (omega arith)) ∙ l.invariant
