-- Outputs that cross as bytes: what the work space holds, written out, is what the definitions say of the bytes. Assumes nothing.
use mathlib.Core.Path.{◌≡◌, refl, sym, ap, ◌∙◌}
use mathlib.Core.Bool.{Bool, true, false, not, ◌&&◌}
use mathlib.Core.List.{List, [], ◌∷◌, ◌++◌, append_assoc, map}
use Prim.Native.Nat.{ℕ, zero, suc, ◌+◌, ◌-◌, ◌*◌, ◌/◌, ◌≤◌, min, zero-le}
use native.Mathlib.Omega.{arith}
use borrow.Author.Tests.{le-leb, lt-leb, leb-true, leb-false, not-false}
use lib.ListN.{length, replicate, replicate-append-replicate}
use lib.Dec.{leb, ltb}
use Rattle.rules.specs.Lists.{fitted, in_row}
use Rattle.rules.specs.Digits.{digits, le_bytes}
use Rattle.rules.specs.Answer.{Answer, good, refused, refuse_first, Read, found, ◌then◌, item_of}
use Rattle.rules.specs.Refusals.{unfinished₁₈}
use Rattle.rules.specs.Operations.{values, good_table}
use Rattle.rules.specs.Batching.{batches_of}
use Rattle.rules.specs.Record.{Block, record_of, no_block, word_bytes, record_size}
use Rattle.rules.specs.Bytes.{count_at, ops_at, batch_count_at}
use Rattle.rules.specs.Block.{Room, Head, head_at, layout_at, batches_by, block_at}
use Rattle.rules.specs.Strict.{own_list, listable, differing, refuse_unfinished}
use Rattle.rules.specs.Functions.{Arena, arena, room_in, filled, decoded, strictly_decoded, leaves}
use Rattle.rules.proofs.Operations.{true_right}
use Rattle.rules.proofs.Runs.{fitted_zeros}
use Rattle.claims.proofs.WrittenThenRead.{fitted_is}
use Rattle.claims.proofs.ReadThenChecked.{count_limit, ops_allowed}
use Rattle.wire.specs.Stages.{IfFound}
use Rattle.wire.proofs.Stages.{if_then, if_refuse, held}
use Rattle.rules.proofs.Sizes.{length_values}
use Rattle.exports.specs.Replies.{decode_reply, Reads, room_bytes, filled_bytes, ReadsBytes}
use Rattle.exports.specs.declared.DecodeReply.{DecodeReply}

-- ---- zeros after the numbers are zeros after their bytes

zero_words : (k : ℕ) → word_bytes (replicate k 0) ≡ replicate (8 * k) 0
unfolding in_row digits
zero_words zero = refl
zero_words (suc k) =
    let e : 8 * suc k ≡ 8 + 8 * k = omega arith in
    ap (λ (l : List ℕ). replicate 8 0 ++ l) (zero_words k) ∙ replicate-append-replicate 8 (8 * k) 0 ∙ ap (λ (n : ℕ). replicate n 0) (sym e)

words_append : (xs ys : List ℕ) → word_bytes (xs ++ ys) ≡ word_bytes xs ++ word_bytes ys
unfolding in_row
words_append [] ys = refl
words_append (x ∷ xs) ys = ap (λ (l : List ℕ). le_bytes 8 x ++ l) (words_append xs ys) ∙ sym (append_assoc (le_bytes 8 x) (word_bytes xs) (word_bytes ys))

pub written_out : (n k : ℕ) (vs : List ℕ) → length vs ≤ k → fitted n (word_bytes (fitted k vs)) ≡ fitted n (word_bytes vs)
written_out n k vs h =
    ap (λ (l : List ℕ). fitted n (word_bytes l)) (fitted_is k vs h)
    ∙ ap (fitted n) (words_append vs (replicate (k - length vs) 0) ∙ ap (λ (l : List ℕ). word_bytes vs ++ l) (zero_words (k - length vs)))
    ∙ fitted_zeros n (word_bytes vs) (8 * (k - length vs))

-- the same of an arena, where the block fits the work space
pub arena_out : (os wk rs ov : List ℕ) (b : Block) (os' wk' rs' ov' : List ℕ) → length b.ops ≤ length wk
    → arena os' wk' rs' ≡ filled (arena os wk rs) b → ov' ≡ fitted (length ov) (word_bytes wk') → arena os' ov' rs' ≡ filled_bytes (arena os ov rs) b
unfolding filled filled_bytes
arena_out os wk rs ov b os' wk' rs' ov' h e o =
    let v : ov' ≡ fitted (length ov) (word_bytes (values b.ops)) =
    o ∙ ap (λ (a : Arena). fitted (length ov) (word_bytes a.values)) e ∙ written_out (length ov) (length wk) (values b.ops) (omega (arith, length_values b.ops))
    in λ i. arena (e i).codes (v i) (e i).records

-- ---- more room for values than a block can have makes no difference

-- a number that a block can have
pub leb_min : (n k : ℕ) → n ≤ 65536 → leb n (min k 65536) ≡ leb n k
leb_min n k h = go (leb n k) refl
  where
    go : (b : Bool) → leb n k ≡ b → leb n (min k 65536) ≡ b
    go true e = le-leb n (min k 65536) (omega (arith, leb-true n k e))
    go false e = lt-leb n (min k 65536) (omega (arith, leb-false n k e))

same_then : {A B : Type 0} (r : Read A) (f g : A → ℕ → Answer B) → ((a : A) (n : ℕ) → r ≡ found a n → f a n ≡ g a n) → (r then f) ≡ (r then g)
same_then (good i) f g h = h i.item i.next refl
same_then (refused n p) f g h = refl

module _ (t s : List ℕ) (at c k r : ℕ) where
  abbrev rooms : ℕ → Room
  rooms v = record { codes = c; values = v; records = r }

  head_same : head_at t s at (rooms (min k 65536)) ≡ head_at t s at (rooms k)
  unfolding head_at
  head_same = same_then (count_at s at) _ _ (λ n a₁ e. let h = count_limit s 8 n at a₁ e in rw (leb_min n k (omega arith)))

  decoded_same : decoded 8 t s at (rooms (min k 65536)) ≡ decoded 8 t s at (rooms k)
  unfolding decoded block_at
  decoded_same = rw head_same

  strictly_same : strictly_decoded 8 t s at (rooms (min k 65536)) ≡ strictly_decoded 8 t s at (rooms k)
  unfolding strictly_decoded
  strictly_same = ap (λ (d : Read Block). d then λ b next. refuse_unfinished 8 t b (found b next)) decoded_same

-- and a block that was read fits
if_first : {A : Type 0} (P : A → ℕ → Type 0) (i : ℕ) (ns : List ℕ) (d : Read A) → IfFound P d → IfFound P (refuse_first i ns d)
unfolding refuse_first
if_first P i [] d h = h
if_first P i (zero ∷ ns) d h = if_first P (i + 1) ns d h
if_first P i (suc n ∷ ns) d h = tt

module _ (t s : List ℕ) (at : ℕ) (room : Room) where
  head_fits : IfFound (λ (h : Head) (next : ℕ). length h.ops ≤ room.values) (head_at t s at room)
  unfolding head_at
  head_fits =
      if_then _ (count_at s at) _ (λ n a₁ e. if_refuse _ (not (leb n room.codes && leb n room.values)) 13 0 _ (λ b.
      if_then _ (ops_at t s n a₁ 0) _ (λ xs a₂ f. if_then _ (batch_count_at s a₂) _ (λ k a₃ g. if_refuse _ (ltb room.records k) 13 0 _ (λ _.
      omega (arith, (ops_allowed s 8 t n a₁ 0 xs a₂ f).0, leb-true n room.values (true_right (leb n room.codes) (leb n room.values) (not-false _ b))))))))

  decoded_fits : IfFound (λ (b : Block) (next : ℕ). length b.ops ≤ room.values) (decoded 8 t s at room)
  unfolding decoded block_at
  decoded_fits =
      if_refuse _ (ltb 1048576 (length s)) 3 0 _ (λ _. if_refuse _ (not (good_table t)) 14 0 _ (λ _. if_refuse _ (ltb (length s) at) 1 0 _ (λ _.
      if_then _ (head_at t s at room) _ (λ h a₁ e. if_then _ (layout_at 8 s h.batches a₁) _ (λ l a₂ f. if_then _ (batches_by 8 t h.ops l) _ (λ rs n g.
      held _ (head_at t s at room) h a₁ e head_fits))))))

  strictly_fits : IfFound (λ (b : Block) (next : ℕ). length b.ops ≤ room.values) (strictly_decoded 8 t s at room)
  unfolding strictly_decoded refuse_unfinished
  strictly_fits =
      if_then _ (decoded 8 t s at room) _ (λ b next e. if_refuse _ (not (listable (own_list b))) unfinished₁₈ 0 _ (λ _. if_first _ 0 (differing b.records (map record_of (batches_of 8 t (own_list b)))) (found b next)
      (held _ (decoded 8 t s at room) b next e decoded_fits)))

-- what is read needs no more room, and fits the room that it had
pub record Bounded (answer : Room → Read Block) : Type 0 where
  pub same : (c k r : ℕ) → answer (record { codes = c; values = min k 65536; records = r }) ≡ answer (record { codes = c; values = k; records = r })
  pub fits : (room : Room) → IfFound (λ (b : Block) (next : ℕ). length b.ops ≤ room.values) (answer room)

pub decoded_bounded : (t s : List ℕ) (at : ℕ) → Bounded (decoded 8 t s at)
decoded_bounded t s at = record { same = decoded_same t s at; fits = decoded_fits t s at }

pub strictly_bounded : (t s : List ℕ) (at : ℕ) → Bounded (strictly_decoded 8 t s at)
strictly_bounded t s at = record { same = strictly_same t s at; fits = strictly_fits t s at }

left_fits : (m : ℕ) (d : Read Block) → IfFound (λ (b : Block) (next : ℕ). length b.ops ≤ m) d → length (leaves no_block (item_of d)).ops ≤ m
unfolding no_block
left_fits m (good i) h = h
left_fits m (refused n p) h = zero-le

-- ---- decode

module _ {answer : Room → Read Block} (k : Bounded answer) (at : ℕ) (os wk rs ov : List ℕ) (e : length wk ≡ min (length ov / 8) 65536) where
  same_room : answer (room_in (arena os wk rs)) ≡ answer (room_bytes (arena os ov rs))
  unfolding room_in room_bytes
  same_room = rw e (k.same (length os) (length ov / 8) (length rs / record_size))

  fits_work : length (leaves no_block (item_of (answer (room_in (arena os wk rs))))).ops ≤ length wk
  unfolding room_in
  fits_work = left_fits (length wk) (answer (room_in (arena os wk rs))) (k.fits (room_in (arena os wk rs)))

  written : (r : DecodeReply) (os' wk' rs' ov' : List ℕ) → Reads answer at r (arena os wk rs) (arena os' wk' rs') → ov' ≡ fitted (length ov) (word_bytes wk') → ReadsBytes answer at r (arena os ov rs) (arena os' ov' rs')
  written r os' wk' rs' ov' d o =
      record {
        reply = d.reply ∙ ap (decode_reply at) same_room;
        runs = arena_out os wk rs ov _ os' wk' rs' ov' fits_work d.runs o ∙ ap (λ (x : Read Block). filled_bytes (arena os ov rs) (leaves no_block (item_of x))) same_room;
      }

pub reads_out : {answer : Room → Read Block} → Bounded answer → {at : ℕ} {os wk rs ov os' wk' rs' ov' : List ℕ} {r : DecodeReply} → Reads answer at r (arena os wk rs) (arena os' wk' rs')
    → length wk ≡ min (length ov / 8) 65536 → ov' ≡ fitted (length ov) (word_bytes wk') → ReadsBytes answer at r (arena os ov rs) (arena os' ov' rs')
reads_out k {at} {os} {wk} {rs} {ov} {os'} {wk'} {rs'} {ov'} {r} d e o = written k at os wk rs ov e r os' wk' rs' ov' d o
