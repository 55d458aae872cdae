use mathlib.Core.Path.{refl, ap, ◌∙◌}
use Rattle.rules.specs.Answer.{good}
use Rattle.refusal.proofs.Told.{handed}
use Rattle.encoder.proofs.Ways.{encodes_lost, encodes_found, no_room, room}
use Rattle.encoder.proofs.encode.Goals as goal

pub returns-in_err-input : goal.returns-in_err-input
returns-in_err-input c = encodes_lost c.in_err-input.ensures.err (handed _ _ c.from_residual.ensures.1)

pub returns-then-out-at : goal.returns-then-out-at
returns-then-out-at c =
    let l = c.in_ok-input.ensures.ok in
    encodes_lost (l.1 ∙ no_room _ l.0 (rw c.basic_block_data_len-length.ensures at c.if-out-at.true)) refl

pub returns : goal.returns
returns c =
    let l = c.in_ok-input.ensures.ok in
    encodes_found (l.1 ∙ room _ l.0 (rw c.basic_block_data_len-length.ensures at c.if-out-at.false)) (ap good c.basic_block_data_len-length.ensures) c.encode_basic_block.ensures
