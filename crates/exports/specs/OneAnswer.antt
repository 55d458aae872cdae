-- One answer for each exported function, by its contract: the reply and every lent output.
use Rattle.std.specs.Prelude.{◌≡◌, List, ℕ, ℤ}
use Rattle.rules.specs.Answer.{Answer, Read}
use Rattle.rules.specs.Record.{Block, record_at}
use Rattle.rules.specs.Block.{Room}
use Rattle.rules.specs.Lookups.{raw_at, padded_at, padded_index, raw_index}
use Rattle.rules.specs.Functions.{Arena, Compared, headed, structure_checked, padding_checked, commitment_checked, group_lookup, next_lookup}
use Rattle.claims.specs.One.{One, Only}
use Rattle.crossing.specs.Words.{words_in}
use Rattle.exports.specs.Replies.{Builds, Writes, Reads, Tables, BuildsBytes, ReadsBytes, TablesBytes, head_reply, Compares, check_reply, padded_reply, raw_reply, one_record, whole_words, in_whole, group_reply, next_reply}

-- `answer` is what the definitions answer: `built 8 ..`, `encoded 8 ..`, `decoded 8 ..`, `strictly_decoded 8 ..`, `compared 8 ..`, `raw_tabled 8 ..`, `padded_tabled 8 ..`
pub record OneAnswer : Type 0 where
  pub oli_build : (answer : Room → Answer Block) (before : Arena) → One (λ r after. Builds answer r before after)
  -- over numbers and over bytes
  pub oli_encode : (answer : Answer (List ℕ)) (at : ℕ) (before : List ℕ) → One (λ r after. Writes answer at r before after)
  pub oli_decode : (answer : Room → Read Block) (at : ℕ) (before : Arena) → One (λ r after. Reads answer at r before after)
  pub oli_decode_strict : (answer : Room → Read Block) (at : ℕ) (before : Arena) → One (λ r after. Reads answer at r before after)
  -- both rooms and the report
  pub oli_compare : (answer : Compared) (a c : Arena) (out : List ℤ) → One (λ r (after : Arena × Arena × List ℤ). Compares answer r a after.0 c after.1 out after.2)
  pub oli_raw_table : (answer : Answer (List ℕ)) (before : List ℕ) → One (λ r after. Tables answer r before after)
  pub oli_padded_table : (answer : Answer (List ℕ)) (before : List ℕ) → One (λ r after. Tables answer r before after)
  pub oli_build_le : (answer : Room → Answer Block) (before : Arena) → One (λ r after. BuildsBytes answer r before after)
  pub oli_decode_le : (answer : Room → Read Block) (at : ℕ) (before : Arena) → One (λ r after. ReadsBytes answer at r before after)
  pub oli_decode_strict_le : (answer : Room → Read Block) (at : ℕ) (before : Arena) → One (λ r after. ReadsBytes answer at r before after)
  pub oli_raw_table_le : (answer : Answer (List ℕ)) (before : List ℕ) → One (λ r after. TablesBytes answer r before after)
  pub oli_padded_table_le : (answer : Answer (List ℕ)) (before : List ℕ) → One (λ r after. TablesBytes answer r before after)
  pub oli_head : (t s : List ℕ) (at : ℕ) → Only (λ r. r ≡ head_reply (headed t s at))
  pub oli_structure : (a : Arena) → Only (λ r. r ≡ check_reply (structure_checked 8 a))
  pub oli_padding : (a : Arena) → Only (λ r. r ≡ check_reply (padding_checked 8 a))
  pub oli_commitment : (t : List ℕ) (a : Arena) → Only (λ r. r ≡ check_reply (commitment_checked 8 t a))
  pub oli_structure_le : (values : List ℕ) (a : Arena) → Only (λ r. r ≡ check_reply (whole_words values (structure_checked 8 a)))
  pub oli_padding_le : (values : List ℕ) (a : Arena) → Only (λ r. r ≡ check_reply (whole_words values (padding_checked 8 a)))
  pub oli_commitment_le : (t values : List ℕ) (a : Arena) → Only (λ r. r ≡ check_reply (whole_words values (commitment_checked 8 t a)))
  pub oli_padded_index : (table : List ℕ) (i : ℕ) → Only (λ r. r ≡ padded_reply (padded_index table (raw_at i)))
  pub oli_raw_index : (table : List ℕ) (i : ℕ) → Only (λ r. r ≡ raw_reply (raw_index table (padded_at i)))
  pub oli_padded_index_le : (table : List ℕ) (i : ℕ) → Only (λ r. r ≡ padded_reply (in_whole table (padded_index (words_in table) (raw_at i))))
  pub oli_raw_index_le : (table : List ℕ) (i : ℕ) → Only (λ r. r ≡ raw_reply (in_whole table (raw_index (words_in table) (padded_at i))))
  pub oli_group : (s : List ℕ) (i : ℕ) → Only (λ r. r ≡ group_reply (one_record s (group_lookup 8 (record_at s 0) i)))
  pub oli_next_group : (s : List ℕ) (g : ℕ) → Only (λ r. r ≡ next_reply (one_record s (next_lookup 8 (record_at s 0) g)))
