-- No public contract cites this page: what the inner functions find and write, between the code and the rules.
use Rattle.std.specs.Prelude.{◌≡◌, Bool, cond, not, List, [], ◌∷◌, ◌++◌, ℕ, zero, suc, ◌+◌, ◌*◌, ◌≤◌, ◌<◌, ℤ, length, take, drop, replicate, ltb, eqb, Option, None, Some, MatchOption, IfSome, Result}
use Rattle.std.proofs.lemmas.List.Edits.{sets}
use Rattle.rules.specs.Lists.{in_row}
use Rattle.rules.specs.Refusals.{no_room₁₃}
use Rattle.rules.specs.Answer.{good, Read}
use Rattle.rules.specs.Operations.{operations}
use Rattle.rules.specs.Record.{Block, differences, part, record_size, record_at}
use Rattle.rules.specs.Checks.{ninth}
use Rattle.rules.specs.Compare.{batch_total, padded_total, raw_total, padding_total, Entry, other_number₁, other_flag₂, other_length₃, other_operation₄, other_count₅, missing₆, batches₇, padded₈, raw₉, paddings₁₀, entry_at, Whole, same_op, batch_apart, total_apart, blocks_apart, entry_size, entry_numbers}
use Rattle.rules.specs.Functions as rule
use Rattle.rules.specs.Functions.{Arena, arena, block_in, structure_checked, marked, reported, refused_by, entries_of}
use Rattle.comparison.specs.declared.Apart.{Apart}
use Rattle.comparison.specs.declared.Totals.{Totals}
use Rattle.comparison.specs.declared.Report.{Report}
use Rattle.comparison.specs.declared.Refused.{Refused}
use Rattle.comparison.specs.Replies.{told, compared_of}

-- ---- one batch

-- the first of n places where it does not hold, if there is one
abbrev pub FirstApart : ℕ → (ℕ → Type 0) → Option ℕ → Type 0
FirstApart n P r = MatchOption r ((k : ℕ) → k < n → P k) (λ i. (i < n) × ((k : ℕ) → k < i → P k) × (P i → ⊥))

-- the first place that both lists have and where they differ; their first elements are the i-th
unfoldable pub apart_from : {A : Type 0} → (A → A → Bool) → ℕ → List A → List A → Option ℕ
apart_from same i [] ys = None
apart_from same i (x ∷ xs) [] = None
apart_from same i (x ∷ xs) (y ∷ ys) = cond (same x y) (apart_from same (i + 1) xs ys) (Some i)

-- the b-th batch of an arena, where its operations begin at a place
abbrev pub whole_at : Arena → ℕ → ℕ → Whole
whole_at a b from = record { batch = record_at a.records b; ops = part (ninth (record_at a.records b)) (operations a.codes a.values) from }

unfoldable pub apart_of : Whole → Whole → Apart
apart_of p q =
    record {
      number = apart_from eqb 0 p.batch.numbers q.batch.numbers;
      flag = apart_from eqb 0 p.batch.flags q.batch.flags;
      length = apart_from eqb 0 (differences p.batch.starts) (differences q.batch.starts);
      operation = apart_from same_op 0 p.ops q.ops;
      count = not (eqb p.batch.count q.batch.count);
    }

-- a group has one of eight places, and an operation one of 72
pub record Near (a : Apart) : Type 0 where
  pub number : IfSome a.number (λ i. i < 72)
  pub flag : IfSome a.flag (λ i. i < 72)
  pub length : IfSome a.length (λ i. i < 72)
  pub operation : IfSome a.operation (λ i. i < 72)

-- ---- entries

-- an entry where there is a place
abbrev pub noted : ℕ → ℕ → Option ℕ → List Entry
noted k b None = []
noted k b (Some i) = entry_at k b i ∷ []

unfoldable pub entries_for : ℕ → Apart → List Entry
entries_for b a =
    noted other_number₁ b a.number ++
    (noted other_flag₂ b a.flag ++
    (noted other_length₃ b a.length ++
    (noted other_operation₄ b a.operation ++
    cond a.count (entry_at other_count₅ b 0 ∷ []) [])))

-- ---- all batches

-- k batches that both have, from the b-th on, whose operations begin at two places
unfoldable pub common_from : ℕ → Arena → ℕ → Arena → ℕ → ℕ → List Entry
common_from zero a from c at b = []
common_from (suc k) a from c at b = batch_apart b (whole_at a b from) (whole_at c b at) ++ common_from k a (from + ninth (record_at a.records b)) c (at + ninth (record_at c.records b)) (b + 1)

-- k batches that a side lacks, from the b-th on
unfoldable pub missing_from : ℕ → ℕ → ℕ → List Entry
missing_from zero b m = []
missing_from (suc k) b m = entry_at missing₆ b m ∷ missing_from k (b + 1) m

-- ---- totals

abbrev pub totals_of : Block → Totals
totals_of b = record { batches = batch_total b; padded = padded_total b; raw = raw_total b; paddings = padding_total b }

unfoldable pub totals_for : Totals → Totals → List Entry
totals_for x y =
    total_apart batches₇ x.batches y.batches ++
    (total_apart padded₈ x.padded y.padded ++
    (total_apart raw₉ x.raw y.raw ++
    total_apart paddings₁₀ x.paddings y.paddings))

-- as many as a block can have
pub record Few (x : Totals) : Type 0 where
  pub batches : x.batches ≤ 16384
  pub padded : x.padded ≤ 65535
  pub raw : x.raw ≤ 65535
  pub paddings : x.paddings ≤ 65535

-- ---- the report

-- entries more; those for which the run has no room fall away
pub record Adds (es : List Entry) (x y : Report) : Type 0 where
  pub lent : y.numbers.ghost_name ≡ x.numbers.ghost_name
  pub count : y.entries ≡ x.entries + length es
  pub run : y.numbers.now ≡ sets x.numbers.now (entry_size * x.entries) (in_row entry_numbers es)

-- the answer, where both blocks are taken
abbrev pub answer_in : ℕ → List Entry → rule.Compared
answer_in room es = cond (ltb room (length es)) (refused_by 0 no_room₁₃ 0) (reported es)

-- a block that is refused, or its differences from the first
abbrev pub against_first : ℕ → Block → Read Block → rule.Compared
against_first room a d = marked 2 d (λ b. answer_in room (blocks_apart a b))

-- the reply, and a run that begins with the entries
pub record Written (answer : rule.Compared) (after : List ℤ) (r : Result ℕ Refused) : Type 0 where
  pub reply : told r ≡ compared_of answer
  pub front : take (entry_size * length (entries_of answer)) after ≡ in_row entry_numbers (entries_of answer)

-- ---- what is asked of an arena

-- it holds a block that decode took: the structure check passes, and no more paddings than operations
pub record Taken (a : Arena) : Type 0 where
  pub structured : structure_checked 8 a ≡ good tt
  pub paddings : padding_total (block_in a) ≤ length a.codes

-- its first n operations and k records
abbrev pub front : ℕ → ℕ → Arena → Arena
front n k a = arena (take n a.codes) (take n a.values) (take (record_size * k) a.records)

-- they do
pub record Begins (a : Arena) (n k : ℕ) : Type 0 where
  pub codes : n ≤ length a.codes
  pub values : n ≤ length a.values
  pub records : record_size * k ≤ length a.records
  pub taken : Taken (front n k a)

-- with zeros in their place
abbrev pub zeros_over : ℕ → List ℕ → List ℕ
zeros_over n s = replicate n 0 ++ drop n s

abbrev pub headless : ℕ → ℕ → Arena → Arena
headless n k a = arena (zeros_over n a.codes) (zeros_over n a.values) (zeros_over (record_size * k) a.records)
