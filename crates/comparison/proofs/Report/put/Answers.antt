use mathlib.Core.Path.{refl, ap, ◌∙◌}
use Prim.Native.Nat.{◌+◌, ◌*◌}
use native.Mathlib.Omega.{arith}
use mir.Syntax.{w32}
use Rattle.std.proofs.Common.{SFits, rules}
use mir.ValLaws.{to_z_pos, to_z-of_z}
use lib.ListN.{set}
use Rattle.comparison.proofs.Entries.{kind_stored, entry_run}
use Rattle.comparison.proofs.Report.put.Goals as goal

pub returns : goal.returns
returns c =
    let a = c.args in
    let s = a.self.now.numbers.now in
    let d : SFits w32 a.entry.difference = search rules in
    let at = 4 * a.self.now.entries in
    record {
      lent = refl;
      count = refl;
      run = entry_run s c.store.new.out c.store-2.new.out c.store-3.new.out c.store-4.new.out at _ a.entry.batch a.entry.place a.entry.difference
          (c.store.ensures ∙ ap (set s at) (kind_stored a.entry.kind))
          (c.store-2.ensures ∙ ap (set c.store.new.out (at + 1)) (to_z_pos w32 a.entry.batch (omega arith)))
          (c.store-3.ensures ∙ ap (set c.store-2.new.out (at + 2)) (to_z_pos w32 a.entry.place (omega arith)))
          (c.store-4.ensures ∙ ap (set c.store-3.new.out (at + 3)) (to_z-of_z w32 a.entry.difference d));
    }
