-- One answer for each input. Assumes nothing.
use mathlib.Core.Path.{sym, ◌∙◌}
use Rattle.claims.proofs.One.{equal}
use Rattle.exports.specs.OneAnswer.{OneAnswer}

pub one_answer : OneAnswer
one_answer =
    record {
      oli_build = λ answer before r q x y h k. (h.reply ∙ sym k.reply, h.runs ∙ sym k.runs);
      oli_encode = λ answer at before r q x y h k. (h.reply ∙ sym k.reply, h.bytes ∙ sym k.bytes);
      oli_decode = λ answer at before r q x y h k. (h.reply ∙ sym k.reply, h.runs ∙ sym k.runs);
      oli_decode_strict = λ answer at before r q x y h k. (h.reply ∙ sym k.reply, h.runs ∙ sym k.runs);
      oli_compare = λ answer a c out r q x y h k. (h.reply ∙ sym k.reply, λ i. ((h.first ∙ sym k.first) i, (h.second ∙ sym k.second) i, (h.report ∙ sym k.report) i));
      oli_raw_table = λ answer before r q x y h k. (h.reply ∙ sym k.reply, h.left ∙ sym k.left);
      oli_padded_table = λ answer before r q x y h k. (h.reply ∙ sym k.reply, h.left ∙ sym k.left);
      oli_build_le = λ answer before r q x y h k. (h.reply ∙ sym k.reply, h.runs ∙ sym k.runs);
      oli_decode_le = λ answer at before r q x y h k. (h.reply ∙ sym k.reply, h.runs ∙ sym k.runs);
      oli_decode_strict_le = λ answer at before r q x y h k. (h.reply ∙ sym k.reply, h.runs ∙ sym k.runs);
      oli_raw_table_le = λ answer before r q x y h k. (h.reply ∙ sym k.reply, h.left ∙ sym k.left);
      oli_padded_table_le = λ answer before r q x y h k. (h.reply ∙ sym k.reply, h.left ∙ sym k.left);
      oli_head = λ t s at. equal _;
      oli_structure = λ a. equal _;
      oli_padding = λ a. equal _;
      oli_commitment = λ t a. equal _;
      oli_structure_le = λ values a. equal _;
      oli_padding_le = λ values a. equal _;
      oli_commitment_le = λ t values a. equal _;
      oli_padded_index = λ table i. equal _;
      oli_raw_index = λ table i. equal _;
      oli_padded_index_le = λ table i. equal _;
      oli_raw_index_le = λ table i. equal _;
      oli_group = λ s i. equal _;
      oli_next_group = λ s g. equal _;
    }
