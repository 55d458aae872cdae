-- Of a block that decode took, what the walk says is what strict reading says. Assumes nothing.
use mathlib.Core.Path.{◌≡◌, refl, sym, ap, ◌∙◌}
use mathlib.Core.Bool.{Bool, true, false, not, ◌&&◌, ◌||◌}
use mathlib.Core.List.{List, [], ◌∷◌, map}
use Prim.Native.Nat.{ℕ, zero, suc, ◌*◌, ◌/◌, ◌<◌}
use native.Mathlib.Nat.{sub-zero, zero-add}
use native.Mathlib.Omega.{arith}
use borrow.Author.Tests.{ne_eqb, le-leb, lt-leb, lt-ltb, le-ltb}
use Rattle.std.specs.Prelude.{Ok}
use lib.ListN.{length, get_or}
use lib.Dec.{leb, ltb, eqb}
use Rattle.rules.specs.Lists.{All}
use Rattle.rules.specs.Answer.{Answer, good, found, refuse, refuse_first}
use Rattle.rules.specs.Refusals.{unfinished₁₈}
use Rattle.rules.specs.Operations.{Op, codes, values}
use Rattle.rules.specs.Batching.{Group, start, end_batch, steps, batches_of}
use Rattle.rules.specs.Record.{Record, Block, record_of, record_size, records_bytes, records_from, records_in, record_at}
use Rattle.rules.specs.Block.{Room}
use Rattle.rules.specs.Lookups.{marks}
use Rattle.rules.specs.Functions.{decoded}
use Rattle.rules.specs.Strict.{unmarked, own_list, listable, differing, refuse_unfinished}
use Rattle.rules.proofs.Digits.{split}
use Rattle.rules.proofs.Operations.{noop_plain, table_128}
use Rattle.rules.proofs.Records.{records_length, records_back}
use Rattle.claims.proofs.Shape.{RightBatch, RightBatches}
use Rattle.claims.proofs.Right.{Width, right_batches}
use Rattle.claims.proofs.ReadThenChecked.{Encodable, encodable, codes_below}
use Rattle.claims.proofs.Passes.{decode_passes}
use Rattle.checks.proofs.Passed.{checked}
use Rattle.rules.proofs.Sizes.{length_codes}
use Rattle.claims.proofs.OwnList.{unmarked_all}
use Rattle.claims.proofs.Shapes.{shapes_differing, shapes}
use Rattle.strict.specs.declared.Work.{Work}
use Rattle.strict.specs.Model.{new_work, fed, judged, batches_judged, Judged, verdict_in}
use Rattle.strict.proofs.Records.{right_within}
use Rattle.strict.proofs.Judged.{seen, work_of, work_start, work_ended, work_fed}
use Rattle.strict.proofs.Apart.{said_is}

-- the length's test, as the code has it
length_test : (n : ℕ) → (eqb n 0 || ltb 16384 n) ≡ not (leb 1 n && leb n 16384)
length_test zero = refl
length_test (suc n) =
    rw (ne_eqb (suc n) 0 (λ z. omega arith), le-leb 1 (suc n) (omega arith))
    (split 16384 (suc n) (λ h. rw (lt-ltb 16384 (suc n) h, lt-leb (suc n) 16384 h)) (λ h. rw (le-ltb 16384 (suc n) h, le-leb (suc n) 16384 h)))

unmarked_codes : (ms : List Bool) (xs : List Op) → unmarked ms (codes xs) ≡ codes (unmarked ms xs)
unfolding codes
unmarked_codes [] xs = refl
unmarked_codes (m ∷ ms) [] = refl
unmarked_codes (true ∷ ms) (x ∷ xs) = unmarked_codes ms xs
unmarked_codes (false ∷ ms) (x ∷ xs) = ap (λ (l : List ℕ). x.code ∷ l) (unmarked_codes ms xs)

each_batch : (w : ℕ) (t : List ℕ) (bs : List (List Group)) → RightBatches w t bs → All (RightBatch w t) bs
each_batch w t [] h = tt
each_batch w t (gs ∷ []) h = (h, tt)
each_batch w t (gs ∷ hs ∷ bs) h = (h.1, each_batch w t (hs ∷ bs) h.2)

-- ---- the walk over a list's operations

module _ (s : List ℕ) (k : ℕ) (w : ℕ) (t : List ℕ) where
  walked : (xs : List Op) → All (λ x. x.code < length t) xs → (r : Answer Unit)
      → judged s k (fed w t s k (codes xs) new_work) r ≡ refuse (not (listable xs)) unfinished₁₈ 0 (batches_judged k (seen s k (Ok 0) (batches_of w t xs)) r)
  unfolding judged listable batches_of work_of end_batch
  walked xs h r =
      let d = steps w t xs start in
      let e : fed w t s k (codes xs) new_work ≡ work_of s k t (length xs) d = ap (fed w t s k (codes xs)) (work_start s k t) ∙ work_fed s k w t 0 xs start h ∙ ap (λ (n : ℕ). work_of s k t n d) (zero-add (length xs)) in
      ap (λ (q : Work). judged s k q r) e ∙ rw (work_ended s k t (length xs) d, length_test (length xs))

-- ---- a block that decode took

all_at : (cs : List ℕ) → All (λ c. c < 128) cs → (i : ℕ) → i < length cs → get_or cs i 0 < 128
all_at [] h i l = absurd (omega arith)
all_at (c ∷ cs) h zero l = h.0
all_at (c ∷ cs) h (suc i) l = all_at cs h.1 i (omega arith)

codes_all : (P : ℕ → Type 0) (xs : List Op) → All P (codes xs) → All (λ x. P x.code) xs
unfolding codes
codes_all P [] h = tt
codes_all P (x ∷ xs) h = (h.0, codes_all P xs h.1)

module _ (w : ℕ) (width : Width w) (t s : List ℕ) (at : ℕ) (room : Room) (b : Block) (next : ℕ) (taken : decoded w t s at room ≡ found b next) where
  e : Encodable w t b
  e = encodable w t s at room b next taken

  abbrev rb : List ℕ
  rb = records_bytes b.records

  abbrev k : ℕ
  k = length b.records

  long : length rb ≡ record_size * k
  long = records_length b.records e.sized

  each : records_from k rb 0 ≡ b.records
  unfolding records_in
  each = let n : length rb / record_size ≡ k = omega (arith, long) in rw n at (records_back b.records e.sized)

  pub ready : Judged t (codes b.ops) rb k
  ready =
      let c = (checked w (codes b.ops) (values b.ops) rb (decode_passes w t s at room b next taken).structure).1 in
      let n = length_codes b.ops in
      record {
        runs = record { whole = long; right = λ b l. right_within w 8 (record_at rb b) width.eight (c.right b (omega (arith, long))) };
        apt = record { table = table_128 t e.table; codes = all_at (codes b.ops) (codes_below t b.ops e.allowed) };
        few = omega (arith, e.few);
        sum = rw each (e.sum ∙ sym n);
      }

  own_codes : unmarked (marks (records_from k rb 0)) (codes b.ops) ≡ codes (own_list b)
  own_codes = rw each (unmarked_codes (marks b.records) b.ops)

  known : All (λ x. x.code < length t) (own_list b)
  known = rw (table_128 t e.table) (unmarked_all (λ x. x.code < 128) (marks b.records) b.ops (codes_all (λ c. c < 128) b.ops (codes_below t b.ops e.allowed)))

  pub judged_is : verdict_in w t (codes b.ops) rb k ≡ refuse_unfinished w t b (good tt)
  unfolding verdict_in refuse_unfinished
  judged_is =
      ap (λ (cs : List ℕ). judged rb k (fed w t rb k cs new_work) (good tt)) own_codes
      ∙ (walked rb k w t (own_list b) known (good tt) ∙ go (listable (own_list b)) refl)
    where
      bs : List (List Group)
      bs = batches_of w t (own_list b)

      saw : Answer Unit
      saw = batches_judged k (seen rb k (Ok 0) bs) (good tt)

      compared : List Record → Answer Unit
      compared rs = refuse_first 0 (shapes_differing rs (map record_of bs)) (good tt)

      go : (y : Bool) → listable (own_list b) ≡ y → refuse (not y) unfinished₁₈ 0 saw ≡ refuse (not y) unfinished₁₈ 0 (refuse_first 0 (differing b.records (map record_of bs)) (good tt))
      go false l = refl
      go true l =
          sym (said_is rb k ready.runs w width.eight t (good tt) 0 bs (each_batch w t bs (right_batches w width t (noop_plain t e.table) (own_list b))))
          ∙ (ap compared (ap (λ (n : ℕ). records_from n rb 0) (sub-zero k) ∙ each) ∙ sym (shapes w width t s at room b next taken l (good tt)))
