-- The exports' answers at a named input, computed. Assumes nothing.
use mathlib.Core.Path.{refl}
use Rattle.rules.specs.Open.{document}
use Rattle.crossing.specs.Words.{words_in}
use Rattle.exports.specs.Replies.{room_bytes, filled_bytes, in_whole, whole_words, one_record}
use Rattle.exports.specs.ShutOut.{ShutOut}

pub shut_out : ShutOut
unfolding document room_bytes filled_bytes in_whole whole_words one_record words_in
shut_out =
    record {
      oli_build = λ r after h. (h.reply, h.runs);
      oli_encode = λ r after h. (h.reply, h.bytes);
      oli_decode = λ r after h. (h.reply, h.runs);
      oli_raw_table = λ r after h. (h.reply, h.left);
      oli_padded_table = λ r after h. (h.reply, h.left);
      oli_build_le = λ r after h. (h.reply, h.runs);
      oli_decode_le = λ r after h. (h.reply, h.runs);
      oli_encode_le = λ r after h. (h.reply, h.bytes);
      oli_raw_table_le = λ r after h. (h.reply, h.left);
      oli_padded_table_le = λ r after h. (h.reply, h.left);
      oli_head = (refl, refl);
      value_build = λ r after h. (h.reply, h.runs);
      value_encode = λ r after h. (h.reply, h.bytes);
      value_decode = λ r after h. (h.reply, h.runs);
      value_head = refl;
      value_commitment = refl;
      oli_decode_strict = λ r after h. (h.reply, h.runs);
      oli_decode_strict_le = λ r after h. (h.reply, h.runs);
      unfinished_decode = λ r after h. h.reply;
      unfinished_strict = λ r after h. (h.reply, h.runs);
      unfinished_strict_le = λ r after h. (h.reply, h.runs);
      kept_decode = λ r after h. h.reply;
      kept_strict = λ r after h. (h.reply, h.runs);
      kept_strict_le = λ r after h. (h.reply, h.runs);
      oli_compare = λ r a c out h. (h.reply, h.first, h.second, h.report);
      compare_swapped = λ r a c out h. (h.reply, h.report);
      compare_same = λ r a c out h. (h.reply, h.report);
      compare_short = λ r a c out h. (h.reply, h.first, h.second, h.report);
      compare_second = λ r a c out h. (h.reply, h.first, h.second, h.report);
      compare_first = λ r a c out h. (h.reply, h.first, h.second, h.report);
      passed = (refl, refl, refl);
      oli_structure = refl;
      oli_padding = refl;
      oli_commitment = refl;
      oli_structure_le = refl;
      oli_padding_le = refl;
      oli_commitment_le = refl;
      oli_padded_index = (refl, refl);
      oli_raw_index = (refl, refl);
      oli_padded_index_le = refl;
      oli_raw_index_le = refl;
      oli_group = refl;
      oli_next_group = refl;
    }
