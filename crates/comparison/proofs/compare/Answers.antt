use mathlib.Core.Path.{refl, ap, ◌∙◌}
use Rattle.rules.specs.Record.{Block}
use Rattle.rules.specs.Functions.{Arena, arena, block_in, room_in, decoded, compared}
use Rattle.decoder.proofs.Taken.{refused_left}
use Rattle.comparison.specs.Replies.{room_for}
use Rattle.comparison.specs.Model.{against_first}
use Rattle.comparison.proofs.Ways.{first_written, settled, written_as, taken_begins, goes_on, emptied, cleared}
use Rattle.comparison.proofs.compare.Goals as goal

pub returns-in-Err : goal.returns-in-Err
unfolding compared
returns-in-Err c =
    record {
      reports = rw c.zero_after.ensures (settled _ c.args.report.now _ _ refl (first_written _ _ _ _ _ _ c.decode.ensures _ c.args.report.now _ c.in-Err.is));
      first = refused_left _ _ _ _ _ _ c.decode.ensures _ c.in-Err.is;
      second = cleared _ _ c.clear_after.ensures;
    }

pub at_front-block-requires : goal.at_front-block-requires
at_front-block-requires c = taken_begins _ _ _ _ _ _ c.decode.ensures _ c.in-Ok.is

pub empty-requires : goal.empty-requires
empty-requires c = let x = taken_begins _ _ _ _ _ _ c.decode.ensures _ c.in-Ok.is in (x.codes, x.values, x.records)

pub returns : goal.returns
unfolding compared
returns c =
    let a = c.args in
    let before = a.report.now in
    let g = λ (b : Block). against_first (room_for before) b (decoded 8 a.second_table.now a.second.now a.second_at (room_in (arena a.second_codes.now a.second_values.now a.second_records.now))) in
    let same = ap (λ (z : Arena). g (block_in z)) c.at_front-block.ensures ∙ goes_on _ _ _ _ _ _ c.decode.ensures _ c.in-Ok.is 1 g in
    record {
      reports = rw (c.zero_after-2.ensures, c.unwrap_or.ensures) (settled _ before _ _ c.compare-r.auto.report (written_as _ _ _ _ same c.compare-r.ensures.written));
      first = emptied _ _ _ _ _ _ c.decode.ensures _ c.in-Ok.is _ c.empty.ensures;
      second = c.compare-r.ensures.room;
    }
