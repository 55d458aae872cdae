-- What decoding takes passes structure, padding and commitment, and so does what build makes. Assumes nothing.
use mathlib.Core.Path.{◌≡◌, refl, sym, ◌∙◌, subst}
use mathlib.Core.List.{List, [], ◌∷◌, ◌++◌, append-nil, map}
use mathlib.Core.Bool.{true, not}
use Prim.Native.Nat.{ℕ, zero, suc, ◌+◌, ◌-◌, ◌≤◌}
use native.Mathlib.Nat.{add-zero}
use native.Mathlib.Omega.{arith}
use borrow.Author.Tests.{ltb-false, le-leb, eq-eqb, not-false}
use lib.ListN.{length, take, replicate, length-take}
use lib.Dec.{ltb}
use Rattle.rules.specs.Lists.{fitted, total, All}
use Rattle.rules.specs.Answer.{Answer, good, found, refuse_first}
use Rattle.rules.specs.Operations.{Op, op_fault, admissible}
use Rattle.rules.specs.Batching.{batches_of}
use Rattle.rules.specs.Record.{Record, Block, differences, codes_number, record_by, block_of, part, cut, immediates}
use Rattle.rules.specs.Block.{Room, block_bytes, batch_at}
use Rattle.rules.proofs.Slots.{empty_before, slots, batch_by, batch_is, total_split, cut_front, part_some, batch_by_batch, batches_is}
use Rattle.rules.specs.Checks.{Held, held_from, held, padding_fault, padding_faults, placing_fault, begins, groups_fault, empty_zero, commitment_fault, commitment_faults, padding_right}
use Rattle.rules.specs.Functions.{room_for, decoded, structure_checked, padding_checked, commitment_checked}
use Rattle.rules.proofs.Answer.{settle}
use Rattle.claims.specs.Demand3.{Premises}
use Rattle.claims.specs.Passes.{Passes}
use Rattle.claims.proofs.Right.{Width}
use Rattle.claims.proofs.Found.{clash, passed, came, Found, stages}
use Rattle.claims.proofs.Arena.{block_in_lem, lent_within}
use Rattle.claims.proofs.WrittenThenRead.{differences_starts, fitted_is}
use Rattle.claims.proofs.ReadThenChecked.{Encodable, encodable, Sizes, Bits, nibbles_made, flags_made, ops_allowed, batch_made, laid}
use Rattle.claims.proofs.Demand3.{none_first, ops_pass, structure_passes, demand3}
use Rattle.claims.proofs.Lists.{all_map}

-- ---- the numbers that the walk over the slots finds are those that the check wants

begins_same : (v : ℕ) (vs : List ℕ) (ns : List ℕ) → begins ns vs ≡ true → begins (v ∷ ns) (v ∷ vs) ≡ true
unfolding begins
begins_same v vs ns h = rw (eq-eqb v v refl) h

module _ (t : List ℕ) (b : ℕ) where
  -- groups, their numbers, and the immediates that the first of the groups hold
  pub record Right (due : List ℕ) (gs : List (List Op)) (ns : List ℕ) : Type 0 where
    pub groups : groups_fault t gs ns ≡ 0
    pub zeros : empty_zero t (length due) gs ns ≡ true
    pub values : begins ns due ≡ true
    pub placed : placing_fault (length due) gs ≡ 0

  right_none : (zs : List ℕ) → Right [] [] zs
  unfolding groups_fault empty_zero begins placing_fault
  right_none zs = record { groups = refl; zeros = refl; values = refl; placed = refl }

  right_gap : (gs : List (List Op)) (ns : List ℕ) → Right [] gs ns → Right [] ([] ∷ gs) (0 ∷ ns)
  unfolding groups_fault empty_zero begins placing_fault
  right_gap gs ns r = record { groups = r.groups; zeros = r.zeros; values = refl; placed = refl }

  right_slot : (v : ℕ) (due : List ℕ) (gs : List (List Op)) (ns : List ℕ) → Right due gs ns → Right (v ∷ due) ([] ∷ gs) (v ∷ ns)
  unfolding groups_fault empty_zero placing_fault
  right_slot v due gs ns r = record { groups = r.groups; zeros = r.zeros; values = begins_same v due ns r.values; placed = r.placed }

  right_group : (g : List Op) (gs : List (List Op)) (ns : List ℕ) → 1 ≤ length g → Right (immediates t g) gs ns → Right [] (g ∷ gs) (codes_number g ∷ ns)
  unfolding groups_fault empty_zero begins placing_fault
  right_group [] gs ns l r = absurd (omega arith)
  right_group (x ∷ g) gs ns l r =
      record {
        groups = rw (eq-eqb (codes_number (x ∷ g)) (codes_number (x ∷ g)) refl, r.placed, r.values) r.groups;
        zeros = r.zeros;
        values = refl;
        placed = refl;
      }

  right_empty : (gs : List (List Op)) (vs zs : List ℕ) → Right [] (take (length vs) gs) (vs ++ zs) → Right [] (take (length (empty_before vs)) ([] ∷ gs)) (empty_before vs ++ zs)
  unfolding empty_before
  right_empty gs [] zs r = right_none zs
  right_empty gs (v ∷ vs) zs r = right_gap (take (suc (length vs)) gs) ((v ∷ vs) ++ zs) r

  slots_right : (ns due : List ℕ) (xs : List Op) (at : ℕ) (vs : List ℕ) (end : ℕ) (zs : List ℕ) → at + total ns ≤ length xs → slots t b ns due xs at ≡ found vs end → Right due (take (length vs) (cut ns xs at)) (vs ++ zs)
  unfolding slots cut total
  slots_right [] [] xs at vs end zs l h = settle (λ vs end. Right [] (take (length vs) []) (vs ++ zs)) [] vs at end h (right_none zs)
  slots_right [] (v ∷ due) xs at vs end zs l h = absurd (clash 8 b vs end h)
  slots_right (zero ∷ ns) [] xs at vs end zs l h =
      let a = came (slots t b ns [] xs at) _ vs end h in
      let ih = slots_right ns [] xs at a.got a.to zs (omega arith) a.first in
      settle (λ vs end. Right [] (take (length vs) ([] ∷ cut ns xs (at + 0))) (vs ++ zs)) (empty_before a.got) vs a.to end a.rest (rw add-zero (right_empty (cut ns xs at) a.got zs ih))
  slots_right (zero ∷ ns) (v ∷ due) xs at vs end zs l h =
      let a = came (slots t b ns due xs at) _ vs end h in
      let ih = slots_right ns due xs at a.got a.to zs (omega arith) a.first in
      settle (λ vs end. Right (v ∷ due) (take (length vs) ([] ∷ cut ns xs (at + 0))) (vs ++ zs)) (v ∷ a.got) vs a.to end a.rest (rw add-zero (right_slot v due (take (length a.got) (cut ns xs at)) (a.got ++ zs) ih))
  slots_right (suc n ∷ ns) [] xs at vs end zs l h =
      let g = part (suc n) xs at in
      let a = came (slots t b ns (immediates t g) xs (at + suc n)) _ vs end h in
      let ih = slots_right ns (immediates t g) xs (at + suc n) a.got a.to zs (omega arith) a.first in
      settle (λ vs end. Right [] (take (length vs) (g ∷ cut ns xs (at + suc n))) (vs ++ zs)) (codes_number g ∷ a.got) vs a.to end a.rest
      (right_group g (take (length a.got) (cut ns xs (at + suc n))) (a.got ++ zs) (part_some n xs at (omega arith)) ih)
  slots_right (suc n ∷ ns) (v ∷ due) xs at vs end zs l h = absurd (clash 9 b vs end h)

-- ---- a batch

-- a batch with its groups
abbrev pub here : Record → List Op → ℕ → Held
here r xs at = record { batch = r; groups = cut (differences r.starts) xs at }

module _ (w : ℕ) (t : List ℕ) (xs : List Op) where
  record Fine (h : Held) : Type 0 where
    padding : padding_fault h ≡ 0
    commitment : commitment_fault t h ≡ 0

  fine_by : (b : ℕ) (ns fs vs zs : List ℕ) (at : ℕ) → fitted 8 vs ≡ vs ++ zs → padding_right (take (length vs) (cut ns xs at)) fs ≡ true → Right t b [] (take (length vs) (cut ns xs at)) (vs ++ zs)
      → Fine (here (record_by ns fs vs) xs at)
  unfolding record_by padding_fault commitment_fault
  fine_by b ns fs vs zs at e p r =
      record { padding = rw (differences_starts 0 ns, p); commitment = rw (differences_starts 0 ns, e, r.groups, r.zeros) }

  batch_fine : (at b : ℕ) (ns fs : List ℕ) (r : Record) (next : ℕ) → Sizes w ns → batch_at w t xs at b ns fs ≡ found r next → Fine (here r xs at)
  unfolding batch_by
  batch_fine at b ns fs r next z h =
      let a = passed (ltb (length xs) (at + total ns)) 7 b _ r next (sym (batch_is w t xs at b ns fs z.high) ∙ h) in
      let d = came (slots t b (take w ns) [] xs at) _ r next a.1 in
      let vs = d.got in
      let e = passed (not (padding_right (take (length vs) (cut ns xs at)) fs)) 10 b _ r next d.rest in
      let l = laid t b (take w ns) [] xs at vs d.to d.first in
      let inside = ltb-false (length xs) (at + total ns) a.0 in
      let most : length vs ≤ 8 = omega (arith, l.short, length-take w ns, z.many) in
      let front : length vs ≤ w = omega (arith, l.short, length-take w ns) in
      let zs : List ℕ = replicate (8 - length vs) 0 in
      let right = slots_right t b (take w ns) [] xs at vs d.to zs (omega (arith, total_split w ns)) d.first in
      settle (λ r next. Fine (here r xs at)) (record_by ns fs vs) r d.to next e.1
      (fine_by b ns fs vs zs at (fitted_is 8 vs most) (not-false _ e.0) (rw (cut_front (length vs) w ns xs at front) at right))

  batches_fine : (o : All (λ x. admissible t x ≡ true) xs) (nss fss : List (List ℕ)) (at b : ℕ) (rs : List Record) (next : ℕ) → length nss ≡ length fss → All (Sizes w) nss → All (Bits w) fss
      → batch_by_batch w t xs at b nss fss ≡ found rs next → All Fine (held_from rs xs at)
  unfolding batch_by_batch held_from
  batches_fine o [] [] at b rs next l z f h = settle (λ rs next. All Fine (held_from rs xs at)) [] rs at next h tt
  batches_fine o [] (fs ∷ fss) at b rs next l z f h = absurd (omega arith)
  batches_fine o (ns ∷ nss) [] at b rs next l z f h = absurd (omega arith)
  batches_fine o (ns ∷ nss) (fs ∷ fss) at b rs next l z f h =
      let a = came (batch_at w t xs at b ns fs) _ rs next h in
      let d = came (batch_by_batch w t xs a.to (b + 1) nss fss) _ rs next a.rest in
      let one = batch_made w t xs o at b ns fs a.got a.to z.0 f.0 a.first in
      let ih = batches_fine o nss fss a.to (b + 1) d.got d.to (omega arith) z.1 f.1 d.first in
      settle (λ rs next. All Fine (held_from rs xs at)) (a.got ∷ d.got) rs d.to next d.rest
      (batch_fine at b ns fs a.got a.to z.0 a.first, subst (λ (k : ℕ). All Fine (held_from d.got xs k)) one.after ih)

-- ---- a block

module _ (w : ℕ) (t : List ℕ) (blk : Block) (e : Encodable w t blk) (fine : All (Fine w t blk.ops) (held blk)) where
  padding_passes : {A : Type 0} (r : Answer A) → refuse_first 0 (padding_faults blk) r ≡ r
  unfolding padding_faults
  padding_passes r = none_first padding_fault 0 (held blk) r (all_map (λ h k. k.padding) (held blk) fine)

  commitment_passes : {A : Type 0} (r : Answer A) → refuse_first 0 (commitment_faults t blk) r ≡ r
  unfolding commitment_faults
  commitment_passes r = none_first (commitment_fault t) 0 (held blk) r (all_map (λ h k. k.commitment) (held blk) fine)

  passes : Passes w t blk
  unfolding structure_checked padding_checked commitment_checked
  passes =
      let inside = lent_within blk e.sized e.few e.less in
      let here = block_in_lem blk e.sized in
      record {
        structure = rw (inside, here) (structure_passes (good tt) w blk e.right e.sum);
        padding = rw (inside, here, structure_passes (refuse_first {A = Unit} 0 (padding_faults blk) (good tt)) w blk e.right e.sum) (padding_passes (good tt));
        commitment =
            rw (
              inside,
              e.table,
              here,
              structure_passes (refuse_first {A = Unit} 0 (map (op_fault t) blk.ops) (refuse_first 0 (commitment_faults t blk) (good tt))) w blk e.right e.sum,
              ops_pass (refuse_first {A = Unit} 0 (commitment_faults t blk) (good tt)) t blk.ops e.allowed,
            ) (commitment_passes (good tt));
      }

-- what decoding takes passes all three checks
pub decode_passes : (w : ℕ) (t s : List ℕ) (at : ℕ) (room : Room) (blk : Block) (next : ℕ) → decoded w t s at room ≡ found blk next → Passes w t blk
unfolding held
decode_passes w t s at room blk next h = go (stages w t s at room blk next h)
  where
    go : Found w t s at room blk next → Passes w t blk
    go f =
        let d = f.head in
        let i = f.items in
        let l = f.layout in
        let q₁ = nibbles_made s w f.k f.a₁ 0 l.sizes i.a₁ i.sizes in
        let q₂ = flags_made s w f.k i.a₁ 0 l.flags next i.flags in
        let q₄ = ops_allowed s w t d.n d.a₁ 0 blk.ops d.a₂ d.codes in
        passes w t blk (encodable w t s at room blk next h) (batches_fine w t blk.ops q₄.1 l.sizes l.flags 0 0 blk.records f.used (q₁.0 ∙ sym q₂.0) q₁.1 q₂.1 (sym (batches_is w t blk.ops l.sizes l.flags (q₁.0 ∙ sym q₂.0)) ∙ f.records.batches))

-- room for a block and no more
abbrev exact : Block → Room
exact b = record { codes = length b.ops; values = length b.ops; records = length b.records }

exact_fits : (b : Block) → room_for b (exact b) ≡ true
unfolding room_for
exact_fits b = rw (le-leb (length b.ops) (length b.ops) (omega arith), le-leb (length b.records) (length b.records) (omega arith))

-- what build makes passes all three checks
pub build_passes : (w : ℕ) (width : Width w) (t : List ℕ) (xs : List Op) → Premises t xs → Passes w t (block_of (batches_of w t xs))
build_passes w width t xs h =
    let d = demand3 w width t xs h in
    let blk = block_of (batches_of w t xs) in
    let bytes = block_bytes t blk in
    let small : length (bytes ++ []) ≤ 1048576 = rw (append-nil bytes) (omega (arith, d.short)) in
    decode_passes w t (bytes ++ []) 0 (exact blk) blk (0 + length bytes) (d.reads [] [] (exact blk) small (exact_fits blk))
