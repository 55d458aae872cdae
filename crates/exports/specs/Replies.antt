-- The replies that cross to Rust, by the definitions' answers: number 0 where nothing is refused, every length and total 0 where something is.
use Rattle.std.specs.Prelude.{◌≡◌, not, cond, List, [], ℕ, ◌/◌, ℤ, length, eqb}
use Rattle.std.proofs.Math.Option.{Option, none, some}
use Rattle.rules.specs.Answer.{Answer, good, refused, refuse, Read, item_of}
use Rattle.rules.specs.Refusals.{over_limit₃}
use Rattle.rules.specs.Lists.{fitted}
use Rattle.rules.specs.Operations.{codes, values}
use Rattle.rules.specs.Record.{Block, record_size, word_bytes, records_bytes, no_block}
use Rattle.rules.specs.Block.{Room, Head}
use Rattle.rules.specs.Lookups.{Place, Raw, raw_at, Padded, padded_at}
use Rattle.rules.specs.Functions.{Arena, arena, room_in, filled, written, table_left, totals, length_told, used, leaves, Compared, reported, refused_by, report_left}
use Rattle.crossing.specs.Words.{whole}
use Rattle.exports.specs.declared.BuildReply.{BuildReply}
use Rattle.exports.specs.declared.EncodeReply.{EncodeReply}
use Rattle.exports.specs.declared.DecodeReply.{DecodeReply}
use Rattle.exports.specs.declared.HeadReply.{HeadReply}
use Rattle.exports.specs.declared.CompareReply.{CompareReply}
use Rattle.exports.specs.declared.CheckReply.{CheckReply}
use Rattle.exports.specs.declared.TableReply.{TableReply}
use Rattle.exports.specs.declared.IndexReply.{IndexReply}
use Rattle.exports.specs.declared.GroupReply.{GroupReply}
use Rattle.exports.specs.declared.NextReply.{NextReply}

-- a refusal's number and place; 0 and 0 where nothing is refused
abbrev pub number_in : {A : Type 0} → Answer A → ℕ
number_in (good a) = 0
number_in (refused n p) = n

abbrev pub place_in : {A : Type 0} → Answer A → ℕ
place_in (good a) = 0
place_in (refused n p) = p

abbrev pub build_reply : Answer Block → BuildReply
build_reply d = let t = totals (leaves no_block d) in record { number = number_in d; place = place_in d; batches = t.batches; operations = t.operations }

-- build's reply and what it leaves in the lent runs; `answer` is what the rules answer for a room
pub record Builds (answer : Room → Answer Block) (r : BuildReply) (before after : Arena) : Type 0 where
  pub reply : r ≡ build_reply (answer (room_in before))
  pub runs : after ≡ filled before (leaves no_block (answer (room_in before)))

abbrev pub encode_reply : Answer (List ℕ) → EncodeReply
encode_reply d = record { number = number_in d; place = place_in d; length = length_told d }

-- encode's reply and what it leaves in the lent buffer
pub record Writes (answer : Answer (List ℕ)) (at : ℕ) (r : EncodeReply) (before after : List ℕ) : Type 0 where
  pub reply : r ≡ encode_reply answer
  pub bytes : after ≡ written before at answer

abbrev pub decode_reply : ℕ → Read Block → DecodeReply
decode_reply at d = let t = totals (leaves no_block (item_of d)) in record { number = number_in d; place = place_in d; batches = t.batches; operations = t.operations; used = used at d }

-- decode's reply and what it leaves in the lent runs; `answer` is what the rules answer for a room
pub record Reads (answer : Room → Read Block) (at : ℕ) (r : DecodeReply) (before after : Arena) : Type 0 where
  pub reply : r ≡ decode_reply at (answer (room_in before))
  pub runs : after ≡ filled before (leaves no_block (item_of (answer (room_in before))))

-- how many operations and batches the block needs room for
abbrev pub head_reply : Read Head → HeadReply
head_reply (good h) = record { number = 0; place = 0; batches = h.item.batches; operations = length h.item.ops }
head_reply (refused n p) = record { number = n; place = p; batches = 0; operations = 0 }

-- how many entries the report has; the mark is 0 where nothing is refused
abbrev pub compare_reply : Compared → CompareReply
compare_reply (reported es) = record { mark = 0; number = 0; place = 0; entries = length es }
compare_reply (refused_by m n p) = record { mark = m; number = n; place = p; entries = 0 }

-- compare's reply and what it leaves in the lent report; both working rooms end zeroed, whatever the answer is
pub record Compares (answer : Compared) (r : CompareReply) (a a' c c' : Arena) (out out' : List ℤ) : Type 0 where
  pub reply : r ≡ compare_reply answer
  pub first : a' ≡ filled a no_block
  pub second : c' ≡ filled c no_block
  pub report : out' ≡ report_left (length out) answer

abbrev pub check_reply : Answer Unit → CheckReply
check_reply d = record { number = number_in d; place = place_in d }

abbrev pub table_reply : Answer (List ℕ) → TableReply
table_reply d = record { number = number_in d; place = place_in d; entries = length_told d }

pub record Tables (answer : Answer (List ℕ)) (r : TableReply) (out out' : List ℕ) : Type 0 where
  pub reply : r ≡ table_reply answer
  pub left : out' ≡ table_left out answer

abbrev pub padded_reply : Option Padded → IndexReply
padded_reply none = record { found = 0; index = 0 }
padded_reply (some (padded_at i)) = record { found = 1; index = i }

abbrev pub raw_reply : Option Raw → IndexReply
raw_reply none = record { found = 0; index = 0 }
raw_reply (some (raw_at i)) = record { found = 1; index = i }

-- ---- lookups in one batch: a run of bytes that is not one record is refused with 3

unfoldable pub one_record : {A : Type 0} → List ℕ → Answer A → Answer A
one_record s r = refuse (not (eqb (length s) record_size)) over_limit₃ 0 r

abbrev pub group_reply : Answer (Option Place) → GroupReply
group_reply (good none) = record { number = 0; place = 0; found = 0; group = 0; position = 0 }
group_reply (good (some p)) = record { number = 0; place = 0; found = 1; group = p.group; position = p.place }
group_reply (refused n p) = record { number = n; place = p; found = 0; group = 0; position = 0 }

abbrev pub next_reply : Answer (Option ℕ) → NextReply
next_reply (good none) = record { number = 0; place = 0; found = 0; group = 0 }
next_reply (good (some g)) = record { number = 0; place = 0; found = 1; group = g }
next_reply (refused n p) = record { number = n; place = p; found = 0; group = 0 }

-- ---- runs of 64-bit numbers that cross as little-endian bytes

-- an input that is not whole numbers is refused with 3, before everything else
unfoldable pub whole_words : {A : Type 0} → List ℕ → Answer A → Answer A
whole_words s r = refuse (not (whole s)) over_limit₃ 0 r

-- and an index lookup in one finds nothing
unfoldable pub in_whole : {A : Type 0} → List ℕ → Option A → Option A
in_whole s r = cond (whole s) r none

-- the room of an arena whose values are bytes: whole numbers
unfoldable pub room_bytes : Arena → Room
room_bytes a = record { codes = length a.codes; values = length a.values / 8; records = length a.records / record_size }

-- such an arena with a block in it: content, then zeros
unfoldable pub filled_bytes : Arena → Block → Arena
filled_bytes a b =
    arena
    (fitted (length a.codes) (codes b.ops))
    (fitted (length a.values) (word_bytes (values b.ops)))
    (fitted (length a.records) (records_bytes b.records))

-- build's reply and what it leaves in the lent runs; `answer` is what the rules answer for a room
pub record BuildsBytes (answer : Room → Answer Block) (r : BuildReply) (before after : Arena) : Type 0 where
  pub reply : r ≡ build_reply (answer (room_bytes before))
  pub runs : after ≡ filled_bytes before (leaves no_block (answer (room_bytes before)))

-- decode's
pub record ReadsBytes (answer : Room → Read Block) (at : ℕ) (r : DecodeReply) (before after : Arena) : Type 0 where
  pub reply : r ≡ decode_reply at (answer (room_bytes before))
  pub runs : after ≡ filled_bytes before (leaves no_block (item_of (answer (room_bytes before))))

-- a table's
pub record TablesBytes (answer : Answer (List ℕ)) (r : TableReply) (out out' : List ℕ) : Type 0 where
  pub reply : r ≡ table_reply answer
  pub left : out' ≡ fitted (length out) (word_bytes (leaves [] answer))
