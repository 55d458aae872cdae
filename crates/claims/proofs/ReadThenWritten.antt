-- No two byte strings for one block: whatever decoding takes is what encoding writes. Assumes nothing.
use mathlib.Core.Path.{◌≡◌, refl, sym, ap, ◌∙◌}
use mathlib.Core.List.{List, [], ◌∷◌}
use mathlib.Core.Bool.{Bool, true, false, cond, not}
use Prim.Native.Nat.{ℕ, zero, suc, ◌+◌, ◌-◌, ◌*◌, ◌/◌, ◌%◌, ◌^◌, ◌≤◌, ◌<◌}
use native.Mathlib.Nat.{pow-succ'}
use native.Mathlib.Omega.{arith}
use borrow.Author.Tests.{ltb-false, leb-false}
use lib.ListN.{length, get_or, take, drop, length-append}
use lib.Dec.{leb, ltb}
use lib.Count.{count_trailing_zeros, under}
use Rattle.rules.specs.Lists.{total, in_row}
use Rattle.rules.specs.Digits.{digits, number, le_at, le_bytes}
use Rattle.rules.specs.Answer.{found}
use Rattle.rules.specs.Operations.{Op, assigned, valued, value_right}
use Rattle.rules.specs.Record.{Record, Block, cut}
use Rattle.rules.specs.Bytes.{least, count_by, count_at, more, count_bytes, value_at, op_at, ops_at, op_bytes, ops_bytes, batch_count_at, nibble_bytes, flag_bytes, up_to, sizes_at, bits_at, nibbles_at, flags_at}
use Rattle.rules.specs.Block.{Room, block_bytes, placings_fault, count_from, batch_at}
use Rattle.rules.specs.Checks.{padding_right}
use Rattle.rules.specs.Functions.{decoded}
use Rattle.claims.proofs.Stands.{Stands, Taken, join, none, single, and_then, stands_fits, taken_fits}
use Rattle.rules.proofs.Sizes.{more_0, more_1, more_2}
use Rattle.claims.proofs.ItemsWrittenThenRead.{number_digits}
use Rattle.rules.proofs.Digits.{length_digits}
use Rattle.rules.proofs.Answer.{item, settle, no_fault}
use Rattle.rules.proofs.Answer as L
use Rattle.claims.proofs.Found.{passed, came, Found, stages}
use Rattle.claims.proofs.Row.{row_taken}
use Rattle.rules.proofs.Slots.{batch_by_batch, batches_is}
use Rattle.claims.proofs.WrittenThenRead.{sizes_of, differences_starts}
use Rattle.rules.proofs.Operations.{op_guards, value_guards}

module _ (s : List ℕ) (bytes : (i : ℕ) → get_or s i 0 < 256) where
  -- ---- numbers

  le_at_small : (k at : ℕ) → le_at k s at < 256 ^ k
  unfolding le_at
  le_at_small zero at = omega arith
  le_at_small (suc k) at = rw pow-succ' (omega (arith, bytes at, le_at_small k (at + 1)))

  le_at_stands : (k at : ℕ) → at + k ≤ length s → Stands (le_bytes k (le_at k s at)) s at
  unfolding le_at digits
  le_at_stands zero at h = none s at (omega arith)
  le_at_stands (suc k) at h =
      let v = get_or s at 0 + 256 * le_at k s (at + 1) in
      let m : v % 256 ≡ get_or s at 0 = omega (arith, bytes at) in
      let d : v / 256 ≡ le_at k s (at + 1) = omega (arith, bytes at) in
      rw (m, d) (join (get_or s at 0 ∷ []) (le_bytes k (le_at k s (at + 1))) s at (single s at (omega arith)) (le_at_stands k (at + 1) (omega arith)))

  le_at_taken : (k at next v : ℕ) → at + k ≤ length s → le_at k s at ≡ v → next ≡ at + k → Taken (le_bytes k v) s at next
  le_at_taken k at next v h e n = record { stands = rw (sym e) (le_at_stands k at h); next = rw (length_digits 256 k v) n }

  -- ---- the count

  pub under_0 : (d r : ℕ) → under d r ≡ 0 → d < 2 → d ≡ 1
  under_0 zero r e h = absurd (omega arith)
  under_0 (suc d) r e h = omega arith

  under_s : (d r k : ℕ) → under d r ≡ suc k → (d ≡ 0) × (r ≡ k)
  under_s zero r k e = (refl, omega arith)
  under_s (suc d) r k e = absurd (omega arith)

  -- a count of t + 1 bytes whose number is N
  shape : (t v at next : ℕ) → more v ≡ t → (2 * v + 1) * 2 ^ t ≡ le_at (t + 1) s at → at + t + 1 ≤ length s → next ≡ at + t + 1 → Taken (count_bytes v) s at next
  unfolding count_bytes
  shape t v at next m e h n = rw m (le_at_taken (t + 1) at next ((2 * v + 1) * 2 ^ t) (omega arith) (sym e) (omega arith))

  pub record Counted (t v at next : ℕ) : Type 0 where
    pub inside : at + t + 1 ≤ length s
    pub is : le_at (t + 1) s at / 2 ^ (t + 1) ≡ v
    pub low : least t ≤ v
    pub high : v ≤ 65535
    pub end : next ≡ at + t + 1

  pub counted : (t v at next : ℕ) → count_by t s at ≡ found v next → (t ≤ 2) × Counted t v at next
  unfolding count_by
  counted t v at next h =
      let n = le_at (t + 1) s at / 2 ^ (t + 1) in
      let a = passed (ltb 2 t) 3 0 _ v next h in
      let b = passed (ltb (length s) (at + t + 1)) 2 at _ v next a.1 in
      let c = passed (ltb n (least t)) 3 0 _ v next b.1 in
      let d = passed (ltb 65535 n) 3 0 _ v next c.1 in
      let e = item n v (at + t + 1) next d.1 in
      (ltb-false 2 t a.0, record { inside = ltb-false (length s) (at + t + 1) b.0; is = e; low = rw e at (ltb-false n (least t) c.0); high = rw e at (ltb-false 65535 n d.0); end = sym (L.next n v (at + t + 1) next d.1) })

  by_zeros : (t v at next : ℕ) → count_trailing_zeros 8 (get_or s at 0) ≡ t → t ≤ 2 → Counted t v at next → Taken (count_bytes v) s at next
  unfolding count_trailing_zeros le_at
  by_zeros zero v at next z l c =
      let b = get_or s at 0 in
      let o = under_0 (b % 2) _ z (omega arith) in
      shape 0 v at next (more_0 v (omega (arith, c.is, bytes at))) (omega (arith, c.is)) c.inside c.end
  by_zeros (suc zero) v at next z l c =
      let b = get_or s at 0 in
      let o = under_s (b % 2) _ 0 z in
      let i = under_0 (b / 2 % 2) _ o.1 (omega arith) in
      shape 1 v at next (more_1 v c.low (omega (arith, c.is, bytes at, bytes (at + 1)))) (omega (arith, c.is, o.0)) c.inside c.end
  by_zeros (suc (suc zero)) v at next z l c =
      let b = get_or s at 0 in
      let o = under_s (b % 2) _ 1 z in
      let i = under_s (b / 2 % 2) _ 0 o.1 in
      let j = under_0 (b / 2 / 2 % 2) _ i.1 (omega arith) in
      shape 2 v at next (more_2 v c.low) (omega (arith, c.is, o.0, i.0)) c.inside c.end
  by_zeros (suc (suc (suc t))) v at next z l c = absurd (omega arith)

  count_taken : (v at next : ℕ) → count_at s at ≡ found v next → Taken (count_bytes v) s at next
  unfolding count_at
  count_taken v at next h =
      let a = passed (leb (length s) at) 2 at _ v next h in
      let c = counted (count_trailing_zeros 8 (get_or s at 0)) v at next a.1 in
      by_zeros (count_trailing_zeros 8 (get_or s at 0)) v at next refl c.0 c.1

  -- ---- operations

  module _ (t : List ℕ) where
    plain_taken : (c : ℕ) (x : Op) (at next : ℕ) → at < length s → get_or s at 0 ≡ c → valued t c ≡ false → found (record { code = c; value = 0 }) (at + 1) ≡ found x next → Taken (op_bytes t x) s at next
    unfolding op_bytes
    plain_taken c x at next l e v h =
        let ex : record { code = c; value = 0 } ≡ x = item _ x (at + 1) next h in
        rw (sym ex, v) (record { stands = rw (sym e) (single s at l); next = sym (L.next _ x (at + 1) next h) })

    valued_taken : (c i : ℕ) (x : Op) (at next : ℕ) → at < length s → get_or s at 0 ≡ c → valued t c ≡ true → value_at t s at i c ≡ found x next → Taken (op_bytes t x) s at next
    unfolding op_bytes
    valued_taken c i x at next l e v h =
        let a = passed (ltb (length s) (at + 9)) 2 at _ x next (rw (value_guards t s at i c) at h) in
        let b = passed (not (value_right t (record { code = c; value = le_at 8 s (at + 1) }))) 17 i _ x next a.1 in
        let ex : record { code = c; value = le_at 8 s (at + 1) } ≡ x = item _ x (at + 9) next b.1 in
        let r = ltb-false (length s) (at + 9) a.0 in
        let one : Taken (c ∷ []) s at (at + 1) = record { stands = rw (sym e) (single s at l); next = refl } in
        rw (sym ex, v) (and_then (c ∷ []) (le_bytes 8 (le_at 8 s (at + 1))) s at (at + 1) next one (le_at_taken 8 (at + 1) next (le_at 8 s (at + 1)) (omega arith) refl (omega (arith, L.next _ x (at + 9) next b.1))))

    op_taken : (x : Op) (at i next : ℕ) → op_at t s at i ≡ found x next → Taken (op_bytes t x) s at next
    op_taken x at i next h =
        let c = get_or s at 0 in
        let a = passed (leb (length s) at) 2 at _ x next (rw (op_guards t s at i) at h) in
        let d = passed (not (assigned t c)) 4 i _ x next a.1 in
        go (valued t c) refl (leb-false (length s) at a.0) d.1
      where
        go : (v : Bool) → valued t (get_or s at 0) ≡ v → at < length s → cond v (value_at t s at i (get_or s at 0)) (found (record { code = get_or s at 0; value = 0 }) (at + 1)) ≡ found x next → Taken (op_bytes t x) s at next
        go true v l e = valued_taken (get_or s at 0) i x at next l refl v e
        go false v l e = plain_taken (get_or s at 0) x at next l refl v e

    pub ops_taken : (n : ℕ) (xs : List Op) (at i next : ℕ) → at ≤ length s → ops_at t s n at i ≡ found xs next → (length xs ≡ n) × Taken (ops_bytes t xs) s at next
    ops_taken =
        row_taken (op_at t s) s (op_bytes t) (λ n at. at ≤ length s) (λ at l. l)
        (λ n at i x next l h. let o = op_taken x at i next h in (o, omega (arith, o.next, stands_fits (op_bytes t x) s at o.stands)))

  -- ---- the batch count

  pub batch_count_taken : (k at next : ℕ) → batch_count_at s at ≡ found k next → Taken (le_bytes 4 k) s at next × (next + 5 * k ≤ length s)
  unfolding batch_count_at
  batch_count_taken k at next h =
      let n = le_at 4 s at in
      let a = passed (ltb (length s) (at + 4)) 2 at _ k next h in
      let b = passed (ltb ((length s - (at + 4)) / 5) n) 5 0 _ k next a.1 in
      let c = passed (ltb 16384 n) 3 0 _ k next b.1 in
      let e = item n k (at + 4) next c.1 in
      let f = L.next n k (at + 4) next c.1 in
      let l = ltb-false (length s) (at + 4) a.0 in
      let m = ltb-false ((length s - (at + 4)) / 5) n b.0 in
      (le_at_taken 4 at next k l e (sym f), omega arith)

  -- ---- nibbles and flags

  abbrev pub nibs : List (List ℕ) → List ℕ
  nibs = in_row (λ (ns : List ℕ). le_bytes 4 (number 16 ns))

  abbrev pub bits : List (List ℕ) → List ℕ
  bits = in_row (λ (fs : List ℕ). number 2 fs ∷ [])

  module _ (w : ℕ) where
    sizes_taken : (ns : List ℕ) (at b next : ℕ) → at + 4 ≤ length s → sizes_at w s at b ≡ found ns next → Taken (le_bytes 4 (number 16 ns)) s at next
    unfolding sizes_at
    sizes_taken ns at b next l h =
        let ds = digits 16 8 (le_at 4 s at) in
        let a = passed (not (up_to 9 ds)) 6 b _ ns next h in
        let z = passed (not (up_to 0 (drop w ds))) 6 b _ ns next a.1 in
        let e : ds ≡ ns = item ds ns (at + 4) next z.1 in
        let n : number 16 ds ≡ le_at 4 s at = number_digits 16 8 (le_at 4 s at) (omega arith) (le_at_small 4 at) in
        le_at_taken 4 at next (number 16 ns) l (sym n ∙ ap (number 16) e) (sym (L.next ds ns (at + 4) next z.1))

    pub nibbles_taken : (k : ℕ) (nss : List (List ℕ)) (at b next : ℕ) → at + 4 * k ≤ length s → nibbles_at w s k at b ≡ found nss next → (length nss ≡ k) × Taken (nibs nss) s at next
    nibbles_taken =
        row_taken (sizes_at w s) s (λ (ns : List ℕ). le_bytes 4 (number 16 ns)) (λ k at. at + 4 * k ≤ length s) (λ at l. omega arith)
        (λ k at b ns next l h. let o = sizes_taken ns at b next (omega arith) h in (o, omega (arith, o.next, length_digits 256 4 (number 16 ns))))

    bits_taken : (fs : List ℕ) (at b next : ℕ) → at < length s → bits_at w s at b ≡ found fs next → Taken (number 2 fs ∷ []) s at next
    unfolding bits_at
    bits_taken fs at b next l h =
        let f = digits 2 8 (get_or s at 0) in
        let a = passed (not (up_to 0 (drop w f))) 6 b _ fs next h in
        let n : number 2 f ≡ get_or s at 0 = number_digits 2 8 (get_or s at 0) (omega arith) (bytes at) in
        settle (λ fs next. Taken (number 2 fs ∷ []) s at next) f fs (at + 1) next a.1 (record { stands = rw n (single s at l); next = refl })

    pub flags_taken : (k : ℕ) (fss : List (List ℕ)) (at b next : ℕ) → at + k ≤ length s → flags_at w s k at b ≡ found fss next → (length fss ≡ k) × Taken (bits fss) s at next
    flags_taken =
        row_taken (bits_at w s) s (λ (fs : List ℕ). number 2 fs ∷ []) (λ k at. at + k ≤ length s) (λ at l. omega arith)
        (λ k at b fs next l h. let o = bits_taken fs at b next (omega arith) h in (o, omega (arith, o.next)))

-- ---- batches: a record keeps the sizes and flags that it was made from

record Kept (r : Record) (ns fs : List ℕ) : Type 0 where
  sizes : sizes_of r ≡ ns
  flags : r.flags ≡ fs

batch_kept : (w : ℕ) (t : List ℕ) (xs : List Op) (at b : ℕ) (ns fs : List ℕ) (r : Record) (next : ℕ) → batch_at w t xs at b ns fs ≡ found r next → Kept r ns fs
unfolding batch_at
batch_kept w t xs at b ns fs r next h =
    let gs = cut (take w ns) xs at in
    let a = passed (ltb (length xs) (at + total ns)) 7 b _ r next h in
    let d = no_fault b (placings_fault t gs ∷ []) _ (record { item = r; next = next }) a.1 in
    let e = passed (not (padding_right (take (count_from t 0 0 gs) gs) fs)) 10 b _ r next d.1 in
    rw (sym (item _ r (at + total ns) next e.1)) (record { sizes = differences_starts 0 ns; flags = refl })

module _ (s : List ℕ) (bytes : (i : ℕ) → get_or s i 0 < 256) where
  pub record Keeps (nss fss : List (List ℕ)) (rs : List Record) : Type 0 where
    pub nibbles : nibble_bytes rs ≡ nibs s bytes nss
    pub flags : flag_bytes rs ≡ bits s bytes fss
    pub many : length rs ≡ length nss

  cons_keeps : (ns fs : List ℕ) (nss fss : List (List ℕ)) (r : Record) (rs : List Record) → Kept r ns fs → Keeps nss fss rs → Keeps (ns ∷ nss) (fs ∷ fss) (r ∷ rs)
  unfolding in_row
  cons_keeps ns fs nss fss r rs k h = record { nibbles = rw (k.sizes, h.nibbles); flags = rw (k.flags, h.flags); many = ap suc h.many }

  nothing : Keeps [] [] []
  unfolding in_row
  nothing = record { nibbles = refl; flags = refl; many = refl }

  pub batches_keep : (w : ℕ) (t : List ℕ) (xs : List Op) (nss fss : List (List ℕ)) (at b : ℕ) (rs : List Record) (next : ℕ)
      → length nss ≡ length fss → batch_by_batch w t xs at b nss fss ≡ found rs next → Keeps nss fss rs
  unfolding batch_by_batch
  batches_keep w t xs [] [] at b rs next l h = settle (λ rs next. Keeps [] [] rs) [] rs at next h nothing
  batches_keep w t xs [] (fs ∷ fss) at b rs next l h = absurd (omega arith)
  batches_keep w t xs (ns ∷ nss) [] at b rs next l h = absurd (omega arith)
  batches_keep w t xs (ns ∷ nss) (fs ∷ fss) at b rs next l h =
      let a = came (batch_at w t xs at b ns fs) _ rs next h in
      let d = came (batch_by_batch w t xs a.to (b + 1) nss fss) _ rs next a.rest in
      let more = batches_keep w t xs nss fss a.to (b + 1) d.got d.to (omega arith) d.first in
      settle (λ rs next. Keeps (ns ∷ nss) (fs ∷ fss) rs) (a.got ∷ d.got) rs d.to next d.rest
      (cons_keeps ns fs nss fss a.got d.got (batch_kept w t xs at b ns fs a.got a.to a.first) more)

  -- ---- a block

  length_nibs : (nss : List (List ℕ)) → length (nibs s bytes nss) ≡ 4 * length nss
  unfolding in_row
  length_nibs [] = refl
  length_nibs (ns ∷ nss) = simp (length-append, length_digits) (omega (arith, length_nibs nss))

  room_nibbles : (at k : ℕ) → at + 5 * k ≤ length s → at + 4 * k ≤ length s
  room_nibbles at k h = omega arith

  room_flags : (nss : List (List ℕ)) (k at next : ℕ) → length nss ≡ k → Taken (nibs s bytes nss) s at next → at + 5 * k ≤ length s → next + k ≤ length s
  room_flags nss k at next l h r = omega (arith, h.next, length_nibs nss)

  together : (t : List ℕ) (xs : List Op) (rs : List Record) (nss fss : List (List ℕ)) (n k at a₁ a₂ a₃ a₄ a₅ : ℕ) → length xs ≡ n → length rs ≡ k → Keeps nss fss rs
      → Taken (count_bytes n) s at a₁ → Taken (ops_bytes t xs) s a₁ a₂ → Taken (le_bytes 4 k) s a₂ a₃ → Taken (nibs s bytes nss) s a₃ a₄ → Taken (bits s bytes fss) s a₄ a₅
      → Taken (block_bytes t (record { ops = xs; records = rs })) s at a₅
  unfolding block_bytes
  together t xs rs nss fss n k at a₁ a₂ a₃ a₄ a₅ en ek h c o b m f =
      rw (en, ek, h.nibbles, h.flags)
      (and_then _ _ s at a₁ a₅ c (and_then _ _ s a₁ a₂ a₅ o (and_then _ _ s a₂ a₃ a₅ b (and_then _ _ s a₃ a₄ a₅ m f))))

  pub block_taken : (w : ℕ) (t : List ℕ) (at : ℕ) (room : Room) (blk : Block) (next : ℕ) → decoded w t s at room ≡ found blk next → Taken (block_bytes t blk) s at next
  block_taken w t at room blk next h = go (stages w t s at room blk next h)
    where
      go : Found w t s at room blk next → Taken (block_bytes t blk) s at next
      go f =
          let d = f.head in
          let i = f.items in
          let l = f.layout in
          let t₁ = count_taken s bytes d.n at d.a₁ d.count in
          let t₂ = ops_taken s bytes t d.n blk.ops d.a₁ 0 d.a₂ (taken_fits (count_bytes d.n) s at d.a₁ t₁) d.codes in
          let t₃ = batch_count_taken s bytes f.k d.a₂ f.a₁ d.batches in
          let t₄ = nibbles_taken s bytes w f.k l.sizes f.a₁ 0 i.a₁ (room_nibbles f.a₁ f.k t₃.1) i.sizes in
          let t₅ = flags_taken s bytes w f.k l.flags i.a₁ 0 next (room_flags l.sizes f.k f.a₁ i.a₁ t₄.0 t₄.1 t₃.1) i.flags in
          let kept = batches_keep w t blk.ops l.sizes l.flags 0 0 blk.records f.used (t₄.0 ∙ sym t₅.0) (sym (batches_is w t blk.ops l.sizes l.flags (t₄.0 ∙ sym t₅.0)) ∙ f.records.batches) in
          together t blk.ops blk.records l.sizes l.flags d.n f.k at d.a₁ d.a₂ f.a₁ i.a₁ next t₂.0 (kept.many ∙ t₄.0) kept t₁ t₂.1 t₃.0 t₄.1 t₅.1
