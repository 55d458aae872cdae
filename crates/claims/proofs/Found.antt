-- What a decoded block says of each stage. Assumes nothing.
use mathlib.Core.Path.{◌≡◌, sym, ◌∙◌}
use mathlib.Core.List.{List}
use mathlib.Core.Bool.{Bool, true, false, not, ◌&&◌}
use Prim.Native.Nat.{ℕ, ◌≤◌}
use borrow.Author.Tests.{ltb-false, not-false}
use lib.ListN.{length}
use lib.Dec.{leb, ltb}
use Rattle.rules.proofs.Answer as L
use Rattle.rules.proofs.Answer.{Came, settle}
use Rattle.rules.specs.Answer.{Item, Read, found, refused, ◌then◌, refuse}
use Rattle.rules.specs.Operations.{Op, good_table}
use Rattle.rules.specs.Record.{Record, Block}
use Rattle.rules.specs.Bytes.{count_at, ops_at, batch_count_at, nibbles_at, flags_at}
use Rattle.rules.specs.Block.{Head, Layout, Room, batches_at, head_at, layout_at, batches_by, block_at}
use Rattle.rules.specs.Functions.{decoded}

-- ---- what a good reply says of the guards and stages before it, for an item and the place after it

module _ {A : Type 0} where
  pub clash : (n p : ℕ) (a : A) (e : ℕ) → ◌≡◌ {A = Read A} (refused n p) (found a e) → ⊥
  clash n p a e h = L.clash n p (record { item = a; next = e }) h

  pub passed : (b : Bool) (n p : ℕ) (r : Read A) (a : A) (e : ℕ) → refuse b n p r ≡ found a e → (b ≡ false) × (r ≡ found a e)
  passed b n p r a e h = L.passed b n p r (record { item = a; next = e }) h

pub came : {A B : Type 0} (r : Read A) (f : A → ℕ → Read B) (b : B) (e : ℕ) → (r then f) ≡ found b e → Came A (Item B) r f (record { item = b; next = e })
came r f b e h = L.came r f (record { item = b; next = e }) h

-- ---- a block, stage by stage

pub record FoundHead (t s : List ℕ) (at : ℕ) (room : Room) (h : Head) (end : ℕ) : Type 0 where
  pub n : ℕ
  pub a₁ : ℕ
  pub a₂ : ℕ
  pub count : count_at s at ≡ found n a₁
  pub codes : ops_at t s n a₁ 0 ≡ found h.ops a₂
  pub batches : batch_count_at s a₂ ≡ found h.batches end
  pub wide : (leb n room.codes && leb n room.values) ≡ true
  pub many : h.batches ≤ room.records
  pub is : head_at t s at room ≡ found h end

found_head : (t s : List ℕ) (at : ℕ) (room : Room) (h : Head) (end : ℕ) → head_at t s at room ≡ found h end → FoundHead t s at room h end
unfolding head_at
found_head t s at room h end e =
    let c = came (count_at s at) _ h end e in
    let g = passed (not (leb c.got room.codes && leb c.got room.values)) 13 0 _ h end c.rest in
    let o = came (ops_at t s c.got c.to 0) _ h end g.1 in
    let b = came (batch_count_at s o.to) _ h end o.rest in
    let k = passed (ltb room.records b.got) 13 0 _ h end b.rest in
    settle (λ h end. FoundHead t s at room h end) (record { ops = o.got; batches = b.got }) h b.to end k.1
    (record { n = c.got; a₁ = c.to; a₂ = o.to; count = c.first; codes = o.first; batches = b.first; wide = not-false _ g.0; many = ltb-false room.records b.got k.0; is = e ∙ sym k.1 })

module _ (w : ℕ) where
  pub record FoundLayout (s : List ℕ) (k at : ℕ) (l : Layout) (end : ℕ) : Type 0 where
    pub a₁ : ℕ
    pub sizes : nibbles_at w s k at 0 ≡ found l.sizes a₁
    pub flags : flags_at w s k a₁ 0 ≡ found l.flags end

  found_layout : (s : List ℕ) (k at : ℕ) (l : Layout) (end : ℕ) → layout_at w s k at ≡ found l end → FoundLayout s k at l end
  unfolding layout_at
  found_layout s k at l end e =
      let m = came (nibbles_at w s k at 0) _ l end e in
      let f = came (flags_at w s k m.to 0) _ l end m.rest in
      settle (λ l end. FoundLayout s k at l end) (record { sizes = m.got; flags = f.got }) l f.to end f.rest (record { a₁ = m.to; sizes = m.first; flags = f.first })

  pub record FoundRecords (t : List ℕ) (xs : List Op) (l : Layout) (rs : List Record) (end : ℕ) : Type 0 where
    pub batches : batches_at w t xs l.sizes l.flags ≡ found rs end
    pub all : length xs ≤ end

  found_records : (t : List ℕ) (xs : List Op) (l : Layout) (rs : List Record) (end : ℕ) → batches_by w t xs l ≡ found rs end → FoundRecords t xs l rs end
  unfolding batches_by
  found_records t xs l rs end e =
      let b = came (batches_at w t xs l.sizes l.flags) _ rs end e in
      let g = passed (ltb b.to (length xs)) 11 0 _ rs end b.rest in
      settle (λ rs end. FoundRecords t xs l rs end) b.got rs b.to end g.1 (record { batches = b.first; all = ltb-false b.to (length xs) g.0 })

  pub record Found (t s : List ℕ) (at : ℕ) (room : Room) (blk : Block) (end : ℕ) : Type 0 where
    pub table : good_table t ≡ true
    pub place : at ≤ length s
    pub k : ℕ
    pub a₁ : ℕ
    pub layout : Layout
    pub used : ℕ
    pub head : FoundHead t s at room (record { ops = blk.ops; batches = k }) a₁
    pub items : FoundLayout s k a₁ layout end
    pub records : FoundRecords t blk.ops layout blk.records used

  pub stages : (t s : List ℕ) (at : ℕ) (room : Room) (blk : Block) (end : ℕ) → decoded w t s at room ≡ found blk end → Found t s at room blk end
  unfolding decoded block_at
  stages t s at room blk end e =
      let g₁ = passed (ltb 1048576 (length s)) 3 0 _ blk end e in
      let g₂ = passed (not (good_table t)) 14 0 _ blk end g₁.1 in
      let g₃ = passed (ltb (length s) at) 1 0 _ blk end g₂.1 in
      let h = came (head_at t s at room) _ blk end g₃.1 in
      let l = came (layout_at w s h.got.batches h.to) _ blk end h.rest in
      let r = came (batches_by w t h.got.ops l.got) _ blk end l.rest in
      settle (λ blk end. Found t s at room blk end) (record { ops = h.got.ops; records = r.got }) blk l.to end r.rest
      (record {
        table = not-false (good_table t) g₂.0;
        place = ltb-false (length s) at g₃.0;
        k = h.got.batches;
        a₁ = h.to;
        layout = l.got;
        used = r.to;
        head = found_head t s at room h.got h.to h.first;
        items = found_layout s h.got.batches h.to l.got l.to l.first;
        records = found_records t h.got.ops l.got r.got r.to r.first;
      })
