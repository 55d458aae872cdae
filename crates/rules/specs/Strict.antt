-- Request M-107, "Strict reading": whether a block is finished, one that batching some list makes.
use Rattle.std.specs.Prelude.{Bool, true, false, cond, not, ◌&&◌, List, [], ◌∷◌, map, ℕ, length, leb, eqb}
use Rattle.rules.specs.Answer.{Answer, refuse, refuse_first}
use Rattle.rules.specs.Refusals.{unfinished₁₈}
use Rattle.rules.specs.Operations.{Op}
use Rattle.rules.specs.Batching.{batches_of}
use Rattle.rules.specs.Record.{Record, Block, record_of}
use Rattle.rules.specs.Lookups.{marks}

-- those that are not marked
abbrev pub unmarked : {A : Type 0} → List Bool → List A → List A
unmarked [] xs = xs
unmarked (m ∷ ms) [] = []
unmarked (true ∷ ms) (x ∷ xs) = unmarked ms xs
unmarked (false ∷ ms) (x ∷ xs) = x ∷ unmarked ms xs

-- "the block's own list, flagged padding dropped". A flag at or above the count drops nothing: there are no operations there.
abbrev pub own_list : Block → List Op
own_list b = unmarked (marks b.records) b.ops

-- "some non-empty list of at most 16,384"
unfoldable pub listable : List Op → Bool
listable xs = leb 1 (length xs) && leb (length xs) 16384

-- whether two lists, and two batches, are the same
unfoldable pub same : List ℕ → List ℕ → Bool
same [] [] = true
same [] (n ∷ ns) = false
same (m ∷ ms) [] = false
same (m ∷ ms) (n ∷ ns) = eqb m n && same ms ns

unfoldable pub same_batch : Record → Record → Bool
same_batch r q = same r.starts q.starts && (same r.flags q.flags && (same r.numbers q.numbers && eqb r.count q.count))

-- batch by batch: "18 with the first batch that differs .., an extra batch counting as different"
unfoldable pub differing : List Record → List Record → List ℕ
differing [] [] = []
differing [] (q ∷ qs) = unfinished₁₈ ∷ []
differing (r ∷ rs) [] = unfinished₁₈ ∷ []
differing (r ∷ rs) (q ∷ qs) = cond (same_batch r q) 0 unfinished₁₈ ∷ differing rs qs

-- "a block the decoder takes passes exactly if some .. list .., batched by document 01, writes those very bytes. Otherwise .. a new 18 with the first batch
-- that differs ... If that list is empty or over 16,384, the place is 0." Where a block is not finished, 18; otherwise what follows.
unfoldable pub refuse_unfinished : {A : Type 0} → ℕ → List ℕ → Block → Answer A → Answer A
refuse_unfinished w t b r =
    let xs = own_list b in
    refuse (not (listable xs)) unfinished₁₈ 0
    (refuse_first 0 (differing b.records (map record_of (batches_of w t xs)))
    r)
