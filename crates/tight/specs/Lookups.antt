-- Wrong tables, lookups, heads and readers that the contracts shut out, each at a named input.
use Rattle.std.specs.Prelude.{◌≡◌, List, [], ◌∷◌, ℕ, Option, Some, None, Result, Ok, Err, replicate}
use Rattle.rules.specs.Lookups.{raw_at, padded_at, padded_index, raw_index}
use Rattle.rules.specs.Functions.{raw_tabled, padded_tabled, group_lookup, next_lookup, headed, count_here, op_here}
use Rattle.rules.specs.Examples.{table_t, lent, p1, p2}
use Rattle.refusal.specs.declared.Refusal.{Refusal}
use Rattle.refusal.specs.Told.{number_of, told}
use Rattle.op_batch.specs.declared.OpBatch.{OpBatch}
use Rattle.op_batch.specs.declared.Place.{Place}
use Rattle.op_batch.specs.OpBatch.{record_in, lookup_of, next_of}
use Rattle.prefix.specs.declared.PaddedIndex.{PaddedIndex}
use Rattle.prefix.specs.declared.RawIndex.{RawIndex}
use Rattle.prefix.specs.Tables.{Answered, padded_found, raw_found}
use Rattle.head.specs.declared.Headed.{Headed}
use Rattle.head.specs.Replies.{head_of}
use Rattle.wire.specs.declared.Item.{Item}
use Rattle.wire.specs.declared.Op.{Op}
use Rattle.wire.specs.Replies.{count_told, op_told}

-- the two tables of P1 (raw 0 1; padded 0 0 1), into ten numbers
abbrev pub RawTable : Result ℕ Refusal → List ℕ → Type 0
RawTable r after = Answered (raw_tabled 8 (lent p1) 10) r (replicate 10 0) after

abbrev pub PaddedTable : Result ℕ Refusal → List ℕ → Type 0
PaddedTable r after = Answered (padded_tabled 8 (lent p1) 10) r (replicate 10 0) after

-- lookups in these tables
abbrev pub ToPadded : ℕ → Option PaddedIndex → Type 0
ToPadded i r = r ≡ padded_found (padded_index (0 ∷ 1 ∷ []) (raw_at i))

abbrev pub ToRaw : ℕ → Option RawIndex → Type 0
ToRaw i r = r ≡ raw_found (raw_index (0 ∷ 0 ∷ 1 ∷ []) (padded_at i))

-- a batch of three groups, the second without operations: nine, none and one; and one whose count is over 8
abbrev pub three_groups : OpBatch
three_groups = record { starts = 0 ∷ 9 ∷ 9 ∷ replicate 6 10; flags = replicate 8 0; groups = replicate 8 0; count = 3 }

abbrev pub wrong_count : OpBatch
wrong_count = record { starts = replicate 9 0; flags = replicate 8 0; groups = replicate 8 0; count = 9 }

abbrev pub GroupOf : OpBatch → ℕ → Result (Option Place) Refusal → Type 0
GroupOf b i r = told r ≡ lookup_of (group_lookup 8 (record_in b) i)

abbrev pub NextOf : OpBatch → ℕ → Result (Option ℕ) Refusal → Type 0
NextOf b g r = told r ≡ next_of (next_lookup 8 (record_in b) g)

-- the head of P2's block, and the reader's steps on its bytes
abbrev pub HeadOf : ℕ → Result Headed Refusal → Type 0
HeadOf at r = told r ≡ head_of (headed table_t p2 at)

abbrev pub CountOf : ℕ → Result (Item ℕ) Refusal → Type 0
CountOf at r = count_told r ≡ count_here p2 at

abbrev pub OpOf : ℕ → ℕ → Result (Item Op) Refusal → Type 0
OpOf at i r = op_told r ≡ op_here table_t p2 at i

pub record ShutOut : Type 0 where
  -- tables: "one that refuses everything", one that leaves the table empty, "one that replies with an invented length"
  pub table_refuses : (e : Refusal) (after : List ℕ) → (RawTable (Err e) after → ⊥) × (PaddedTable (Err e) after → ⊥)
  pub table_left_empty : (r : Result ℕ Refusal) → (RawTable r (replicate 10 0) → ⊥) × (PaddedTable r (replicate 10 0) → ⊥)
  pub table_length : (n : ℕ) (after : List ℕ) → (RawTable (Ok n) after → n ≡ 2) × (PaddedTable (Ok n) after → n ≡ 3)
  -- index lookups: one that finds nothing, one that finds past the last entry, one that leaves the entry out
  pub index_none : (ToPadded 1 None → ⊥) × (ToRaw 2 None → ⊥)
  pub index_past : (i : ℕ) → (ToPadded 2 (Some (record { 0 = i })) → ⊥) × (ToRaw 3 (Some (record { 0 = i })) → ⊥)
  pub index_entry : (i : ℕ) → (ToPadded 1 (Some (record { 0 = i })) → i ≡ 2) × (ToRaw 2 (Some (record { 0 = i })) → i ≡ 1)
  -- lookups in one batch: one that finds nothing, one that takes an empty group, one that passes everything, one that refuses everything
  pub lookup_none : (GroupOf three_groups 9 (Ok None) → ⊥) × (NextOf three_groups 0 (Ok None) → ⊥)
  pub lookup_group : (p : Place) → GroupOf three_groups 9 (Ok (Some p)) → (p.group ≡ 2) × (p.place ≡ 0)
  pub lookup_next : (g : ℕ) → NextOf three_groups 0 (Ok (Some g)) → g ≡ 2
  pub lookup_passes : (p : Option Place) → (GroupOf wrong_count 0 (Ok p) → ⊥) × (NextOf wrong_count 0 (Ok None) → ⊥)
  pub lookup_refuses : (e : Refusal) → (GroupOf three_groups 0 (Err e) → ⊥) × (NextOf three_groups 0 (Err e) → ⊥)
  -- the head: one that refuses everything, one that passes everything, one that tells invented totals
  pub head_refuses : (e : Refusal) → HeadOf 0 (Err e) → ⊥
  pub head_passes : (h : Headed) → HeadOf 20 (Ok h) → ⊥
  pub head_totals : (h : Headed) → HeadOf 0 (Ok h) → (h.operations ≡ 2) × (h.batches ≡ 1) × (h.next ≡ 15)
  -- the reader's steps: one that refuses everything, one that reads past the end, one that reads elsewhere
  pub reader_refuses : (e : Refusal) → (CountOf 0 (Err e) → ⊥) × (OpOf 1 0 (Err e) → ⊥)
  pub reader_past : (i : Item ℕ) (e : Refusal) → (CountOf 20 (Ok i) → ⊥) × (CountOf 21 (Err e) → number_of e ≡ 1)
  pub reader_reads : (i : Item ℕ) (j : Item Op) → (CountOf 0 (Ok i) → (i.item ≡ 2) × (i.next ≡ 1)) × (OpOf 1 0 (Ok j) → (j.item.code ≡ 1) × (j.item.value ≡ 5) × (j.next ≡ 10))
