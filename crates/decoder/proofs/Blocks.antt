-- The ways that a block's stages end, composed. Assumes nothing.
use mathlib.Core.Path.{◌≡◌, refl, ◌∙◌}
use mathlib.Core.List.{List}
use Prim.Native.Nat.{ℕ, ◌+◌, ◌≤◌, ◌<◌}
use native.Mathlib.Nat.{lt_of_not-le}
use native.Mathlib.Decide.{dec_le}
use borrow.Author.Tests.{lt-ltb, le-ltb, lt-leb, le-leb}
use lib.ListN.{length}
use Rattle.rules.specs.Answer.{good, refused, Read, found, ◌then◌}
use Rattle.rules.specs.Refusals.{left_over₁₁, no_room₁₃}
use Rattle.rules.specs.Operations.{Op}
use Rattle.rules.specs.Record.{Record, Block}
use Rattle.rules.specs.Bytes.{count_at, nibbles_at, flags_at}
use Rattle.rules.specs.Block.{Head, Layout, Room, head_at, layout_at, batches_at, batches_by, block_at}
use Rattle.rules.specs.Functions.{Arena}
use Rattle.std.specs.Prelude.{Result}
use Rattle.refusal.specs.declared.Refusal.{Refusal}
use Rattle.refusal.specs.Told.{told}
use Rattle.decoder.specs.declared.Decoded.{Decoded}
use Rattle.decoder.specs.Replies.{decoded_of}
use Rattle.decoder.specs.Stages.{OpsIn, RecordsIn, Reading, items_at, records_at, sizes_from, flags_from}
use Rattle.decoder.proofs.Sizes.{Sized}

-- ---- items 4 and 5, and the records

module _ (w : ℕ) (t s : List ℕ) (xs : List Op) (k at : ℕ) where
  pub records_6 : (n p : ℕ) → nibbles_at w s k at 0 ≡ refused n p → records_at w t s xs k at ≡ refused n p
  unfolding records_at layout_at
  records_6 n p e = rw e

  module _ (nss : List (List ℕ)) (next : ℕ) (e : nibbles_at w s k at 0 ≡ found nss next) (z : Sized w s k at nss next) (a : flags_at w s k next 0 ≡ found (flags_from k s next) (next + k)) where
    abbrev pub each : Read (List Record)
    each = batches_at w t xs (sizes_from k s at) (flags_from k s next)

    pub records_lost : (n p : ℕ) → each ≡ refused n p → records_at w t s xs k at ≡ refused n p
    unfolding records_at layout_at batches_by
    records_lost n p f = rw (e, z.sizes, a, f)

    module _ (rs : List Record) (end : ℕ) (f : each ≡ found rs end) where
      pub records_11 : end < length xs → records_at w t s xs k at ≡ refused left_over₁₁ 0
      unfolding records_at layout_at batches_by
      records_11 h = rw (e, z.sizes, a, f, lt-ltb end (length xs) h)

      pub records_good : length xs ≤ end → records_at w t s xs k at ≡ found rs (next + k)
      unfolding records_at layout_at batches_by
      records_good h = rw (e, z.sizes, a, f, le-ltb end (length xs) h)

-- ---- the block

-- the records of a block with these operations
abbrev whole : List Op → Read (List Record) → Read Block
whole xs r = r then λ rs end. found (record { ops = xs; records = rs }) end

rest : (w : ℕ) (t s : List ℕ) (xs : List Op) (k at : ℕ)
    → (layout_at w s k at then λ l a₂. batches_by w t xs l then λ rs n. found (record { ops = xs; records = rs }) a₂) ≡ whole xs (records_at w t s xs k at)
unfolding records_at
rest w t s xs k at = go (layout_at w s k at)
  where
    inner : (a₂ : ℕ) (r : Read (List Record)) → ◌≡◌ {A = Read Block} (r then λ rs n. found (record { ops = xs; records = rs }) a₂) (whole xs (r then λ rs n. found rs a₂))
    inner a₂ (good i) = refl
    inner a₂ (refused n p) = refl

    go : (r : Read Layout) → ◌≡◌ {A = Read Block} (r then λ l a₂. batches_by w t xs l then λ rs n. found (record { ops = xs; records = rs }) a₂) (whole xs (r then λ l a₂. batches_by w t xs l then λ rs n. found rs a₂))
    go (good i) = inner i.next (batches_by w t xs i.item)
    go (refused n p) = refl

module _ (w : ℕ) (t s : List ℕ) (at : ℕ) (room : Room) where
  pub block_uncounted : (n p : ℕ) → count_at s at ≡ refused n p → block_at w t s at room ≡ refused n p
  unfolding block_at head_at
  block_uncounted n p e = rw e

  module _ (n a₁ : ℕ) (e : count_at s at ≡ found n a₁) where
    pub block_13 : (n ≤ room.codes → n ≤ room.values → ⊥) → block_at w t s at room ≡ refused no_room₁₃ 0
    unfolding block_at head_at
    block_13 h = elim (dec_le n room.codes) [ no g ↦ rw (e, lt-leb n room.codes (lt_of_not-le g)) | yes g ↦ rw (e, le-leb n room.codes g, lt-leb n room.values (lt_of_not-le (h g))) ]

    module _ (g : n ≤ room.codes) (h : n ≤ room.values) where
      pub block_items : (m p : ℕ) → items_at t s n a₁ room.records ≡ refused m p → block_at w t s at room ≡ refused m p
      unfolding block_at head_at items_at
      block_items m p f = rw (e, le-leb n room.codes g, le-leb n room.values h, f)

      module _ (hd : Head) (a₃ : ℕ) (f : items_at t s n a₁ room.records ≡ found hd a₃) where
        pub block_records : block_at w t s at room ≡ whole hd.ops (records_at w t s hd.ops hd.batches a₃)
        unfolding block_at head_at items_at
        block_records = rw (e, le-leb n room.codes g, le-leb n room.values h, f) (rest w t s hd.ops hd.batches a₃)

        pub block_lost : (m p : ℕ) → records_at w t s hd.ops hd.batches a₃ ≡ refused m p → block_at w t s at room ≡ refused m p
        block_lost m p r = block_records ∙ rw r

        pub block_good : (rs : List Record) (end : ℕ) → records_at w t s hd.ops hd.batches a₃ ≡ found rs end → block_at w t s at room ≡ found (record { ops = hd.ops; records = rs }) end
        block_good rs end r = block_records ∙ rw r

-- ---- a reply to an answer that is known

module _ {at : ℕ} {d : Read Block} {after : Arena} {r : Result Decoded Refusal} where
  pub reading_lost : {n p : ℕ} → d ≡ refused n p → told r ≡ refused n p → Reading at d after r
  reading_lost e h = rw e (record { reply = h; left = tt })

  pub reading_found : {b : Block} {end : ℕ} → d ≡ found b end → told r ≡ decoded_of at (found b end) → OpsIn after.codes after.values b.ops × RecordsIn after.records b.records → Reading at d after r
  reading_found e h l = rw e (record { reply = h; left = l })
