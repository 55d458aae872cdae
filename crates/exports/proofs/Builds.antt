-- Build with values that cross as bytes: more room than the longest block has makes no difference. Assumes nothing.
use mathlib.Core.Path.{◌≡◌, refl, ap, ◌∙◌}
use mathlib.Core.Bool.{Bool, true, false, not, ◌&&◌, ◌||◌}
use mathlib.Core.List.{List, map}
use Prim.Native.Nat.{ℕ, ◌/◌, ◌≤◌, ◌<◌, min, zero-le}
use native.Mathlib.Omega.{arith}
use borrow.Author.Tests.{lt-ltb, ltb-false, leb-true, eqb-true, not-false}
use lib.ListN.{length}
use lib.Dec.{leb, ltb, eqb}
use Rattle.rules.specs.Lists.{fitted}
use Rattle.rules.specs.Answer.{Answer, refused}
use Rattle.rules.specs.Refusals.{over_limit₃}
use Rattle.rules.specs.Operations.{operations, good_table, op_fault}
use Rattle.rules.specs.Batching.{batches_of}
use Rattle.rules.specs.Record.{Block, block_of, no_block, word_bytes, record_size}
use Rattle.rules.specs.Block.{Room}
use Rattle.rules.specs.Functions.{arena, room_in, room_for, built, leaves}
use Rattle.rules.proofs.Operations.{length_operations, noop_plain, true_left, true_right}
use Rattle.claims.proofs.Right.{width_8}
use Rattle.claims.proofs.Demand3.{few_batches}
use Rattle.crossing.specs.Words.{words_in, few_words}
use Rattle.exports.specs.Replies.{build_reply, Builds, whole_words, room_bytes, filled_bytes, BuildsBytes}
use Rattle.exports.specs.declared.BuildReply.{BuildReply}
use Rattle.exports.proofs.Whole.{whole, broken}
use Rattle.exports.proofs.Rooms.{leb_min, arena_out}
use Rattle.exports.proofs.Guards.{same_refuse, same_first, short_refuse, short_first}

-- ---- refused where the values are not whole numbers, or too many

pub built_broken : (s t cs : List ℕ) (room : Room) → few_words s ≡ false → whole_words s (built 8 t cs (words_in s) room) ≡ refused over_limit₃ 0
unfolding built
built_broken s t cs room h = broken s (not (eqb (length cs) (length (words_in s))) || ltb 16384 (length cs)) _ over h
  where
    over : 65536 < length (words_in s) → (not (eqb (length cs) (length (words_in s))) || ltb 16384 (length cs)) ≡ true
    over l = go (eqb (length cs) (length (words_in s))) refl
      where
        go : (b : Bool) → eqb (length cs) (length (words_in s)) ≡ b → (not b || ltb 16384 (length cs)) ≡ true
        go true e = lt-ltb 16384 (length cs) (omega (arith, eqb-true (length cs) (length (words_in s)) e))
        go false e = refl

-- ---- a built block fits the work space

or_false : (a b : Bool) → (not a || b) ≡ false → (a ≡ true) × (b ≡ false)
or_false true b h = (refl, h)
or_false false b h = let z : ◌≡◌ {A = ℕ} 0 1 = cc in absurd (omega arith)

module _ (t cs vs : List ℕ) where
  abbrev block : Block
  block = block_of (batches_of 8 t (operations cs vs))

  longest : (not (eqb (length cs) (length vs)) || ltb 16384 (length cs)) ≡ false → not (good_table t) ≡ false → length block.ops ≤ 65536
  unfolding block_of
  longest g w =
      let p = or_false (eqb (length cs) (length vs)) (ltb 16384 (length cs)) g in
      let n = length_operations cs vs (eqb-true (length cs) (length vs) p.0) in
      let m = ltb-false 16384 (length cs) p.1 in
      omega (arith, (few_batches t 8 width_8 (noop_plain t (not-false (good_table t) w)) (operations cs vs)).1)

  module _ (c k r : ℕ) where
    abbrev rooms : ℕ → Room
    rooms v = record { codes = c; values = v; records = r }

    fit_same : length block.ops ≤ 65536 → room_for block (rooms (min k 65536)) ≡ room_for block (rooms k)
    unfolding room_for
    fit_same h = rw (leb_min (length block.ops) k h)

    built_same : built 8 t cs vs (rooms (min k 65536)) ≡ built 8 t cs vs (rooms k)
    unfolding built
    built_same =
        same_refuse (not (eqb (length cs) (length vs)) || ltb 16384 (length cs)) 3 0 _ _ (λ g. same_refuse (not (good_table t)) 14 0 _ _ (λ w. same_refuse (eqb (length cs) 0) 12 0 _ _ (λ _.
        same_first 0 (map (op_fault t) (operations cs vs)) _ _ (λ _. rw (fit_same (longest g w))))))

  -- what is left has room for its values
  built_short : (room : Room) → length (leaves no_block (built 8 t cs vs room)).ops ≤ room.values
  unfolding built room_for no_block
  built_short room =
      let n = length block.ops in
      let m = room.values in
      let size : Answer Block → ℕ = λ d. length (leaves no_block d).ops in
      let guard = short_refuse size m (λ n p. zero-le) in
      guard (not (eqb (length cs) (length vs)) || ltb 16384 (length cs)) 3 0 _ (λ _. guard (not (good_table t)) 14 0 _ (λ _. guard (eqb (length cs) 0) 12 0 _ (λ _.
      short_first size m (λ n p. zero-le) 0 (map (op_fault t) (operations cs vs)) _ (guard (not (room_for block room)) 13 0 _ (λ b.
      leb-true n m (true_left (leb n m) (leb (length block.records) room.records) (true_right (leb n room.codes) (leb n m && leb (length block.records) room.records) (not-false (room_for block room) b))))))))

-- ---- build

module _ (s t cs : List ℕ) (h : few_words s ≡ true) (os wk rs ov : List ℕ) (e : length wk ≡ min (length ov / 8) 65536) where
  abbrev before : Room
  before = room_in (arena os wk rs)

  same_room : built 8 t cs (words_in s) before ≡ whole_words s (built 8 t cs (words_in s) (room_bytes (arena os ov rs)))
  unfolding room_in room_bytes
  same_room = rw (e, whole s (built 8 t cs (words_in s) (room_bytes (arena os ov rs))) h) (built_same t cs (words_in s) (length os) (length ov / 8) (length rs / record_size))

  fits_work : length (leaves no_block (built 8 t cs (words_in s) before)).ops ≤ length wk
  unfolding room_in
  fits_work = built_short t cs (words_in s) before

  written : (r : BuildReply) (os' wk' rs' ov' : List ℕ) → Builds (built 8 t cs (words_in s)) r (arena os wk rs) (arena os' wk' rs') → ov' ≡ fitted (length ov) (word_bytes wk')
      → BuildsBytes (λ (room : Room). whole_words s (built 8 t cs (words_in s) room)) r (arena os ov rs) (arena os' ov' rs')
  written r os' wk' rs' ov' d o =
      record {
        reply = d.reply ∙ ap build_reply same_room;
        runs = arena_out os wk rs ov _ os' wk' rs' ov' fits_work d.runs o ∙ ap (λ (x : Answer Block). filled_bytes (arena os ov rs) (leaves no_block x)) same_room;
      }

pub builds_out : (s t cs : List ℕ) → few_words s ≡ true → {os wk rs ov os' wk' rs' ov' : List ℕ} {r : BuildReply} → Builds (built 8 t cs (words_in s)) r (arena os wk rs) (arena os' wk' rs')
    → length wk ≡ min (length ov / 8) 65536 → ov' ≡ fitted (length ov) (word_bytes wk') → BuildsBytes (λ (room : Room). whole_words s (built 8 t cs (words_in s) room)) r (arena os ov rs) (arena os' ov' rs')
builds_out s t cs h {os} {wk} {rs} {ov} {os'} {wk'} {rs'} {ov'} {r} d e o = written s t cs h os wk rs ov e r os' wk' rs' ov' d o
