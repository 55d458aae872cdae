use mathlib.Core.Path.{◌∙◌}
use Rattle.rules.specs.Functions.{arena}
use Rattle.decoder.proofs.Kept.{Even, reading_kept}
use Rattle.decoder.proofs.decode.Goals as goal

pub returns : goal.returns
returns c =
    let a = c.args in
    let w = c.decode_checked-r in
    let b = arena a.out_codes.now a.out_values.now a.records.now in
    let m = arena w.new.out_codes w.new.out_values w.new.records in
    let e : Even m b = record { codes = w.auto.out_codes; values = w.auto.out_values; records = w.auto.records } in
    record { reply = w.ensures.reply; runs = c.clear_after.ensures ∙ reading_kept a.at b m e _ (λ x h. (h.1.0, h.0)) _ w.result c.unwrap_or_default-made.result w.ensures c.unwrap_or_default-made.ensures }
