-- A block that was taken is whole: its bytes say it anywhere, and a file cut short before its end is refused. Assumes nothing.
use mathlib.Core.Path.{◌≡◌, sym, ap, ap₂, ◌∙◌, subst}
use mathlib.Core.Bool.{true}
use mathlib.Core.List.{List, [], ◌++◌, append_assoc, append-nil}
use Prim.Native.Nat.{ℕ, ◌+◌, ◌≤◌}
use native.Mathlib.Omega.{arith}
use borrow.Author.Tests.{ltb-false, le-leb}
use lib.ListN.{length, take, drop, length-take, take-append-drop, get_or-eq_default}
use lib.Seq.{get_or-take}
use lib.Dec.{ltb}
use Rattle.rules.specs.Answer.{found}
use Rattle.rules.specs.Record.{Block}
use Rattle.rules.specs.Block.{Room, block_bytes}
use Rattle.rules.specs.Functions.{room_for, decoded, most}
use Rattle.rules.proofs.Answer.{item, next}
use Rattle.claims.specs.Settled.{settled_block, Returns}
use Rattle.claims.specs.Demand3.{lent}
use Rattle.claims.specs.Finished.{Bytes, Finished}
use Rattle.claims.proofs.Lists.{split}
use Rattle.claims.proofs.Stands.{Taken, taken_fits}
use Rattle.claims.proofs.Found.{passed}
use Rattle.claims.proofs.Arena.{block_in_lem}
use Rattle.claims.proofs.ReadThenWritten.{block_taken}
use Rattle.claims.proofs.ReadThenChecked.{Encodable, encodable, had_room}
use Rattle.claims.proofs.Passes.{decode_passes}
use Rattle.claims.proofs.CheckedThenReturned.{returns_clear}

pub most_fits : (b : Block) → length b.ops ≤ 65535 → length b.records ≤ 16384 → room_for b most ≡ true
unfolding room_for
most_fits b h k = rw (le-leb (length b.ops) 65535 h, le-leb (length b.records) 16384 k)

pub within_limit : (w : ℕ) (t s : List ℕ) (at : ℕ) (room : Room) (blk : Block) (n : ℕ) → decoded w t s at room ≡ found blk n → length s ≤ 1048576
unfolding decoded
within_limit w t s at room blk n h = ltb-false 1048576 (length s) (passed (ltb 1048576 (length s)) 3 0 _ blk n h).0

fewer_bytes : (m : ℕ) (s : List ℕ) → Bytes s → Bytes (take m s)
fewer_bytes m s h i =
    split i m (λ l. rw (get_or-take m s i 0 l) (h i)) (λ l. rw (get_or-eq_default (take m s) 0 {n = i} (omega (arith, length-take m s))) (omega arith))

module _ (w : ℕ) (w8 : w ≤ 8) (t : List ℕ) where
  module _ (s : List ℕ) (bytes : Bytes s) (at : ℕ) (room : Room) (blk : Block) (end : ℕ) (h : decoded w t s at room ≡ found blk end) where
    taken : Taken (block_bytes t blk) s at end
    taken = block_taken s bytes w t at room blk end h

    able : Encodable w t blk
    able = encodable w t s at room blk end h

    pub returned : Returns w t (lent blk)
    returned = let p = decode_passes w t s at room blk end h in returns_clear w w8 t (lent blk) (rw (block_in_lem blk able.sized) able.clear) p.padding p.commitment

    -- decoding gives the settled block
    settles : (before after : List ℕ) (r : Room) → length (before ++ (block_bytes t blk ++ after)) ≤ 1048576 → room_for blk r ≡ true
        → decoded w t (before ++ (block_bytes t blk ++ after)) (length before) r ≡ found (settled_block t blk) (length before + length (block_bytes t blk))
    settles before after r l f = let e = block_in_lem blk able.sized in rw e at (returned.reads before after r (rw e l) (rw e f))

    -- and so it was settled
    pub was : settled_block t blk ≡ blk
    was =
        let st = taken.stands in
        let e : decoded w t (st.before ++ (block_bytes t blk ++ st.after)) (length st.before) room ≡ found blk end =
        ap₂ (λ (x : List ℕ) (y : ℕ). decoded w t x y room) (sym st.whole) (sym st.place) ∙ h in
        let l = subst (λ (x : List ℕ). length x ≤ 1048576) st.whole (within_limit w t s at room blk end h) in
        item (settled_block t blk) blk _ end (sym (settles st.before st.after room l (had_room w t s at room blk end h)) ∙ e)

    anywhere : (before after : List ℕ) (r : Room) → length (before ++ (block_bytes t blk ++ after)) ≤ 1048576 → room_for blk r ≡ true
        → decoded w t (before ++ (block_bytes t blk ++ after)) (length before) r ≡ found blk (length before + length (block_bytes t blk))
    anywhere before after r l f = rw was at (settles before after r l f)

    -- with more bytes after it, and room enough
    longer : (q : List ℕ) → length (s ++ q) ≤ 1048576 → decoded w t (s ++ q) at most ≡ found blk end
    longer q l =
        let st = taken.stands in
        let b = block_bytes t blk in
        let e : s ++ q ≡ st.before ++ (b ++ (st.after ++ q)) =
        ap (λ (x : List ℕ). x ++ q) st.whole ∙ (append_assoc st.before (b ++ st.after) q ∙ ap (λ (x : List ℕ). st.before ++ x) (append_assoc b st.after q)) in
        ap₂ (λ (x : List ℕ) (y : ℕ). decoded w t x y most) e st.place
        ∙ (anywhere st.before (st.after ++ q) most (subst (λ (x : List ℕ). length x ≤ 1048576) e l) (most_fits blk able.few able.less)
        ∙ ap (found blk) (omega (arith, taken.next, st.place)))

  pub finished : (s : List ℕ) → Bytes s → (at : ℕ) (room : Room) (blk : Block) (end : ℕ) → decoded w t s at room ≡ found blk end → Finished w t s at blk end
  finished s bytes at room blk end h =
      let limit = within_limit w t s at room blk end h in
      record {
        used = (taken s bytes at room blk end h).next;
        anywhere = anywhere s bytes at room blk end h;
        cut_short = λ m k r b n g.
            let few = fewer_bytes m s bytes in
            let one : decoded w t s at most ≡ found b n = rw (take-append-drop m s) at (longer (take m s) few at r b n g (drop m s) (rw (take-append-drop m s) limit)) in
            let all : decoded w t s at most ≡ found blk end = rw (append-nil s) at (longer s bytes at room blk end h [] (rw (append-nil s) limit)) in
            omega (arith, next b blk n end (sym one ∙ all), taken_fits (block_bytes t b) (take m s) at n (taken (take m s) few at r b n g), length-take m s);
      }
