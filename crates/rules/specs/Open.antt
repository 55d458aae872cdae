-- A name that opens all of document 01's definitions at once: with the line `unfolding document` the checker computes any of them.
use Rattle.std.specs.Prelude.{ℕ}
use Rattle.std.specs.Int.Count.{count_trailing_zeros}
use Rattle.rules.specs.Lists.{fitted, total, every, in_row}
use Rattle.rules.specs.Digits.{digits, number, le_at}
use Rattle.rules.specs.Answer.{refuse_first, row}
use Rattle.rules.specs.Operations.{operations, codes, values, good_table, noop, assigned, valued, has_immediate, value_right, admissible, code_fault, value_fault, op_fault}
use Rattle.rules.specs.Batching.{empty, next_free, fits, wants_noop, close_group, groups, turned, full, ready, joined, added, target, turned_times, ended, start, end_batch, room, step, steps, batches_of}
use Rattle.rules.specs.Record.{starts_from, differences, cut, immediates, record_by, ops_in, size_of, flag_of, codes_number, number_of, record_of, block_of, no_block, record_bytes, bytes_at, words_at, record_at, records_from, records_in}
use Rattle.rules.specs.Bytes.{count_by, count_at, more, count_bytes, value_at, op_at, op_bytes, batch_count_at, sizes_at, bits_at}
use Rattle.rules.specs.Block.{block_bytes, placings_fault, numbers_from, count_from, batch_at, batches_at, head_at, layout_at, batches_by, block_at}
use Rattle.rules.specs.Checks.{starts_right, record_right, structure_faults, held_from, held, ends_in_noop, padding_right, padding_fault, padding_faults, placing_fault, begins, groups_fault, empty_zero, commitment_fault, commitment_faults}
use Rattle.rules.specs.Lookups.{group_from, group_of, next_from, next_group, marks_in, marks_of, marks, raw_entries, padded_entries, raw_table, padded_table, padded_index, raw_index}
use Rattle.rules.specs.Strict.{listable, same, same_batch, differing, refuse_unfinished}
use Rattle.rules.specs.Compare.{batch_total, padded_total, flags_set, paddings_in, padding_total, raw_total, unless, wholes_of, same_op, first_apart, batch_apart, batches_apart, total_apart, totals_apart, blocks_apart, entry_numbers}
use Rattle.rules.specs.Functions.{block_in, within, room_in, filled, room_for, built, encoded, written, decoded, strictly_decoded, compared, report_left, headed, count_here, op_here, structure_checked, padding_checked, commitment_checked, table_of, table_left, group_lookup, next_lookup}

unfoldable pub document : ℕ
unfolding count_trailing_zeros fitted total every digits number le_at refuse_first operations codes values good_table noop assigned valued has_immediate value_right admissible code_fault value_fault op_fault empty next_free fits wants_noop close_group groups turned full ready joined added target turned_times ended start end_batch room step steps batches_of starts_from differences cut immediates record_by ops_in size_of flag_of codes_number number_of record_of in_row block_of no_block record_bytes bytes_at words_at record_at records_from records_in count_by count_at more count_bytes value_at op_at row op_bytes batch_count_at sizes_at bits_at block_bytes placings_fault numbers_from count_from batch_at batches_at head_at layout_at batches_by block_at starts_right record_right structure_faults held_from held ends_in_noop padding_right padding_fault padding_faults placing_fault begins groups_fault empty_zero commitment_fault commitment_faults group_from group_of next_from next_group marks_in marks_of marks raw_entries padded_entries raw_table padded_table padded_index raw_index listable same same_batch differing refuse_unfinished batch_total padded_total flags_set paddings_in padding_total raw_total unless wholes_of same_op first_apart batch_apart batches_apart total_apart totals_apart blocks_apart entry_numbers block_in within room_in filled room_for built encoded written decoded strictly_decoded compared report_left headed count_here op_here structure_checked padding_checked commitment_checked table_of table_left group_lookup next_lookup
document = 1
