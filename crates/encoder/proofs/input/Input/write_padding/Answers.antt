use mathlib.Core.Path.{sym, ◌∙◌}
use Prim.Native.Nat.{◌+◌}
use native.Mathlib.Nat.{add-zero}
use native.Mathlib.Omega.{arith}
use Rattle.encoder.proofs.Items.{flags_turn, flags_end, all_records}
use Rattle.checks.proofs.Groups.{right_flags}
use Rattle.encoder.proofs.input.Input.write_padding.Goals as goal

pub loop-b-init : goal.loop-b-init
loop-b-init c = rw (add-zero, c.batches-b-end.ensures, all_records)

pub pack_padding-requires : goal.pack_padding-requires
pack_padding-requires c = right_flags _ (record { width = 8; room = omega arith; right = c.args.self.right c.loop-b.b (omega arith) })

pub loop-b-preserved : goal.loop-b-preserved
loop-b-preserved c =
    let l = c.loop-b in
    let a = c.args in
    rw c.pack_padding.ensures (flags_turn a.self.arena.records.now _ l.b l.out a.at (omega arith)) ∙ l.invariant

pub returns : goal.returns
returns c =
    let l = c.loop-b in
    let a = c.args in
    sym (flags_end a.self.arena.records.now _ l.b l.out (a.at + l.b) (omega arith)) ∙ l.invariant
