-- Demand 3, whole, for a good table and at most 16,384 admissible operations; and no two byte strings for one block. Assumes nothing.
use mathlib.Core.Path.{◌≡◌, refl, sym, ap, ◌∙◌}
use mathlib.Core.List.{List, [], ◌∷◌, ◌++◌, append_assoc, append-nil, map}
use mathlib.Core.Bool.{Bool, true, false, cond, not}
use Prim.Native.Nat.{ℕ, ◌+◌, ◌-◌, ◌*◌, ◌≤◌}
use native.Mathlib.Omega.{arith}
use borrow.Author.Tests.{le-ltb, eq-eqb, ne_eqb}
use lib.ListN.{length, length-append, length-map, take, drop}
use lib.Seq.{take-append_seam, drop-append_seam}
use lib.Dec.{ltb, eqb}
use Rattle.rules.specs.Lists.{total, every, but_last, in_row, All}
use Rattle.rules.specs.Answer.{Answer, good, found, refuse, refuse_first}
use Rattle.rules.specs.Operations.{Op, codes, values, noop, has_immediate, good_table, admissible, op_fault}
use Rattle.rules.specs.Batching.{Group, ops, imm, ended, Work, start, end_batch, steps, batches_of}
use Rattle.rules.specs.Record.{Record, Block, ops_in, ops_of, padded_of, record_of, block_of}
use Rattle.rules.specs.Block.{Room, block_bytes}
use Rattle.rules.specs.Checks.{ninth, record_right, structure_faults}
use Rattle.rules.specs.Functions.{Arena, block_in, within, room_for, built, encoded, decoded}
use Rattle.rules.specs.Examples.{table_t, op}
use Rattle.rules.specs.Open.{document}
use Rattle.rules.proofs.Answer.{first_turn, first_append, first_done}
use Rattle.rules.proofs.Operations.{Admissible, to_admissible, fault_none, noop_kind, noop_plain, codes_back, true_left, true_right}
use Rattle.claims.specs.Shape.{EndsInNoop, PowerOfTwo, is1, is2, is4, is8}
use Rattle.claims.proofs.Shape.{raw_in, raw, raws, RightGroup, RightBatch, RightBatches}
use Rattle.claims.specs.Finished.{Bytes}
use Rattle.claims.specs.Demand3.{lent, Premises, Demand3}
use Rattle.claims.proofs.Lists.{all_append, all_left, all_map}
use Rattle.claims.proofs.Batching.{list_back, raws_append}
use Rattle.claims.proofs.Right.{Width, Whole, whole_batches, right_batches}
use Rattle.claims.proofs.Sizes.{block_size}
use Rattle.claims.proofs.Left.{left}
use Rattle.claims.proofs.Stands.{Taken}
use Rattle.claims.proofs.ReadThenWritten.{block_taken}
use Rattle.claims.proofs.Arena.{block_in_lem, lent_within, roomed, front_lent}
use Rattle.claims.proofs.ReadThenChecked.{Encodable, encodable}
use Rattle.claims.proofs.WrittenThenRead.{Writable, block_back}
use Rattle.rules.proofs.Sizes.{length_codes, length_values}

noop_admissible : (t : List ℕ) → good_table t ≡ true → Admissible t noop
unfolding noop
noop_admissible t h = let e = noop_kind t h in record { code = omega arith; kind = omega arith; plain = λ z. refl; small = omega arith }

-- ---- what holds of the list and of Noop holds of the padded operations

module _ (t : List ℕ) (P : Op → Type 0) (z : P noop) where
  all_right : (xs ys : List Op) → All P (xs ++ ys) → All P ys
  all_right [] ys h = h
  all_right (x ∷ xs) ys h = all_right xs ys h.1

  with_last : (xs : List Op) → EndsInNoop xs → All P (but_last xs) → All P xs
  with_last [] e h = elim e [ ]
  with_last (x ∷ []) e h = (rw e z, tt)
  with_last (x ∷ y ∷ xs) e h = (h.0, with_last (y ∷ xs) e h.1)

  padded_group : (g : Group) → RightGroup t g → All P (raw_in g) → All P (ops_in g)
  unfolding ops_in
  padded_group (ops xs true) r h = with_last xs r.padding h
  padded_group (ops xs false) r h = h
  padded_group (imm v) r h = tt

  padded_batch : (gs : List Group) → All (RightGroup t) gs → All P (raw gs) → All P (ops_of gs)
  unfolding in_row
  padded_batch [] r h = tt
  padded_batch (g ∷ gs) r h =
      all_append P (ops_in g) (ops_of gs) (padded_group g r.0 (all_left P (raw_in g) (raw gs) h)) (padded_batch gs r.1 (all_right (raw_in g) (raw gs) h))

  padded_all : (w : ℕ) (bs : List (List Group)) → All (RightBatch w t) bs → All P (raws bs) → All P (padded_of bs)
  unfolding in_row
  padded_all w [] r h = tt
  padded_all w (gs ∷ bs) r h =
      all_append P (ops_of gs) (padded_of bs) (padded_batch gs r.0.groups (all_left P (raw gs) (raws bs) h)) (padded_all w bs r.1 (all_right (raw gs) (raws bs) h))

-- ---- sizes

module _ (t : List ℕ) where
  grown : (xs : List Op) → length xs ≤ length (but_last xs) + 1
  grown [] = omega arith
  grown (x ∷ []) = omega arith
  grown (x ∷ y ∷ xs) = omega (arith, grown (y ∷ xs))

  grown_group : (g : Group) → length (ops_in g) ≤ length (raw_in g) + 1
  unfolding ops_in
  grown_group (ops xs true) = grown xs
  grown_group (ops xs false) = omega arith
  grown_group (imm v) = omega arith

  grown_batch : (gs : List Group) → length (ops_of gs) ≤ length (raw gs) + length gs
  unfolding in_row
  grown_batch [] = omega arith
  grown_batch (g ∷ gs) = simp length-append (omega (arith, grown_group g, grown_batch gs))

  most : (n : ℕ) → PowerOfTwo n → n ≤ 8
  most n is1 = omega arith
  most n is2 = omega arith
  most n is4 = omega arith
  most n is8 = omega arith

  pub each : (w : ℕ) (bs : List (List Group)) → RightBatches w t bs → All (RightBatch w t) bs
  each w [] r = tt
  each w (gs ∷ []) r = (r, tt)
  each w (gs ∷ hs ∷ bs) r = (r.1, each w (hs ∷ bs) r.2)

  writable : (w : ℕ) (w8 : w ≤ 8) (bs : List (List Group)) → All (RightBatch w t) bs → All (Writable w w8 t) bs
  writable w w8 [] r = tt
  writable w w8 (gs ∷ bs) r = (record { most = r.0.most; groups = r.0.groups; follow = r.0.follow }, writable w w8 bs r.1)

  padded_append : (bs cs : List (List Group)) → padded_of (bs ++ cs) ≡ padded_of bs ++ padded_of cs
  unfolding in_row
  padded_append [] cs = refl
  padded_append (gs ∷ bs) cs = rw (padded_append bs cs) (sym (append_assoc (ops_of gs) (padded_of bs) (padded_of cs)))

  one_padded : (gs : List Group) → length (padded_of (gs ∷ [])) ≡ length (ops_of gs)
  unfolding in_row
  one_padded gs = rw (append-nil (ops_of gs))

  last_most : (w : ℕ) (bs : List (List Group)) (gs : List Group) → RightBatches w t (bs ++ (gs ∷ [])) → length gs ≤ w
  last_most w [] gs r = r.most
  last_most w (b ∷ []) gs r = r.2.most
  last_most w (b ∷ c ∷ bs) gs r = last_most w (c ∷ bs) gs r.2

  module _ (w : ℕ) (width : Width w) (plain : has_immediate t noop ≡ false) where
    -- a batch that is full was given at least w - 2 operations
    many : (bs : List (List Group)) → All (Whole w width t plain) bs → (2 * length bs ≤ length (raws bs)) × (length (padded_of bs) ≤ 3 * length (raws bs))
    unfolding in_row
    many [] h = (omega arith, omega arith)
    many (gs ∷ bs) h =
        let ih = many bs h.1 in
        let a = h.0.many in
        let b = h.0.full in
        let c = width.four in
        let d = grown_batch gs in
        (simp length-append (omega (arith, ih.0)), simp length-append (omega (arith, ih.1)))

    pub few_batches : (xs : List Op) → (2 * length (batches_of w t xs) ≤ length xs + 2) × (length (padded_of (batches_of w t xs)) ≤ 3 * length xs + 8)
    unfolding batches_of end_batch
    few_batches xs = go (steps w t xs (start)) refl (whole_batches w width t plain xs) (right_batches w width t plain xs)
      where
        go : (d : Work) → batches_of w t xs ≡ d.batches ++ (ended t d.current ∷ []) → All (Whole w width t plain) d.batches → RightBatches w t (batches_of w t xs)
            → (2 * length (batches_of w t xs) ≤ length xs + 2) × (length (padded_of (batches_of w t xs)) ≤ 3 * length xs + 8)
        go d e h r =
            let gs = ended t d.current in
            let l : length (raws (d.batches ++ (gs ∷ []))) ≡ length xs = ap length (rw e at (list_back t w xs)) in
            let l' : length (raws d.batches) + length (raw gs) ≡ length xs = simp (raws_append, append-nil, length-append) at l in
            let m = many d.batches h in
            rw e (simp length-append (omega (arith, m.0)), rw (padded_append d.batches (gs ∷ []), length-append) (omega (arith, m.1, one_padded gs, grown_batch gs, last_most w d.batches gs (rw e at r), width.eight)))

-- ---- where nothing is at fault, nothing is refused

module _ {A B : Type 0} (f : B → ℕ) where
  pub none_first : (i : ℕ) (xs : List B) (r : Answer A) → All (λ x. f x ≡ 0) xs → refuse_first i (map f xs) r ≡ r
  none_first i [] r h = first_done i r
  none_first i (x ∷ xs) r h = first_turn i (f x) (map f xs) r h.0 ∙ none_first (i + 1) xs r h.1

every_all : {A : Type 0} (test : A → Bool) (xs : List A) → every test xs ≡ true → All (λ x. test x ≡ true) xs
unfolding every
every_all test [] h = tt
every_all test (x ∷ xs) h = (true_left (test x) (every test xs) h, every_all test xs (true_right (test x) (every test xs) h))

module _ {A : Type 0} (r : Answer A) where
  pub ops_pass : (t : List ℕ) (xs : List Op) → All (λ x. admissible t x ≡ true) xs → refuse_first 0 (map (op_fault t) xs) r ≡ r
  ops_pass t xs h = none_first (op_fault t) 0 xs r (all_map (fault_none t) xs h)

  pub structure_passes : (w : ℕ) (b : Block) → All (λ x. record_right w x ≡ true) b.records → total (map ninth b.records) ≡ length b.ops → refuse_first 0 (structure_faults w b) r ≡ r
  unfolding structure_faults
  structure_passes w b h e =
      let f : Record → ℕ = λ (x : Record). cond (record_right w x) 0 15 in
      first_append 0 (map f b.records) (cond (eqb (total (map ninth b.records)) (length b.ops)) 0 15 ∷ []) r
      ∙ (none_first f 0 b.records _ (all_map (λ x k. rw k) b.records h)
      ∙ (first_turn _ _ [] r (rw (eq-eqb (total (map ninth b.records)) (length b.ops) e)) ∙ first_done _ r))

-- what passes every check of encoding is encoded
pub written_in : (w : ℕ) (t : List ℕ) (a : Arena) (size at : ℕ) → within a ≡ true → good_table t ≡ true
    → All (λ r. record_right w r ≡ true) (block_in a).records → total (map ninth (block_in a).records) ≡ length (block_in a).ops → All (λ x. admissible t x ≡ true) (block_in a).ops
    → size ≤ 1048576 → at + length (block_bytes t (block_in a)) ≤ size → encoded w t a size at ≡ good (block_bytes t (block_in a))
unfolding encoded
written_in w t a size at inside table right sum allowed l h =
    let b = block_in a in
    let room : Answer (List ℕ) = refuse (ltb size (at + length (block_bytes t b))) 13 0 (good (block_bytes t b)) in
    rw (
      inside,
      le-ltb 1048576 size l,
      table,
      le-ltb size at (omega arith),
      structure_passes (refuse_first 0 (map (op_fault t) b.ops) room) w b right sum,
      ops_pass room t b.ops allowed,
      le-ltb size (at + length (block_bytes t b)) h,
    )

pub writes_it : (w : ℕ) (t : List ℕ) (blk : Block) (size at : ℕ) → Encodable w t blk → size ≤ 1048576 → at + length (block_bytes t blk) ≤ size → encoded w t (lent blk) size at ≡ good (block_bytes t blk)
writes_it w t blk size at e l h =
    let here = block_in_lem blk e.sized in
    rw here at (written_in w t (lent blk) size at (lent_within blk e.sized e.few e.less) e.table (rw here e.right) (rw here e.sum) (rw here e.allowed) l (rw here h))

-- ---- demand 3

module _ (w : ℕ) (width : Width w) (t : List ℕ) (xs : List Op) (h : Premises t xs) where
  abbrev batches : List (List Group)
  batches = batches_of w t xs

  abbrev block : Block
  block = block_of batches

  abbrev bytes : List ℕ
  bytes = block_bytes t block

  right : RightBatches w t batches
  right = right_batches w width t (noop_plain t h.table) xs

  few : (length (padded_of batches) ≤ 65535) × (length batches ≤ 16384)
  few = let b = few_batches t w width (noop_plain t h.table) xs in let m = h.most in (omega (arith, b.1), omega (arith, b.0))

  few_block : (length block.ops ≤ 65535) × (length block.records ≤ 16384)
  unfolding block_of
  few_block = (few.0, rw (length-map (batches_of w t xs) record_of) few.1)

  allowed : All (λ x. admissible t x ≡ true) xs
  allowed = every_all (admissible t) xs h.admitted

  padded_allowed : All (Admissible t) (padded_of batches)
  padded_allowed =
      let r = each t w batches right in
      padded_all t (Admissible t) (noop_admissible t h.table) w batches r (rw (sym (list_back t w xs)) at (all_map (to_admissible t) xs allowed))

  room_parts : (room : Room) → room_for block room ≡ true → (length (padded_of batches) ≤ room.codes) × (length (padded_of batches) ≤ room.values) × (length batches ≤ room.records)
  unfolding block_of
  room_parts room e = let r = roomed block room e in (r.0, r.1, rw (length-map batches record_of) at r.2)

  read_within : (p q : List ℕ) (room : Room) → length (p ++ (bytes ++ q)) ≤ 1048576 → length (padded_of batches) ≤ room.codes → length (padded_of batches) ≤ room.values → length batches ≤ room.records
      → decoded w t (p ++ (bytes ++ q)) (length p) room ≡ found block (length p + length bytes)
  read_within p q room l c v r =
      block_back w width.eight t batches (p ++ (bytes ++ q)) (length p) room (writable t w width.eight batches (each t w batches right)) padded_allowed few.0 few.1
      (record { before = p; after = q; whole = refl; place = refl })
      (record { table = h.table; buffer = l; place = simp length-append (omega arith); codes = c; values = v; records = r })

  short : length bytes ≤ 671742
  short = block_size t block few_block.0 few_block.1

  -- what is built passes every check of encoding
  pub takes : Encodable w t block
  takes =
      let room : Room = record { codes = length (padded_of batches); values = length (padded_of batches); records = length batches } in
      let small : length (bytes ++ []) ≤ 1048576 = rw (append-nil bytes) (omega (arith, short)) in
      encodable w t (bytes ++ []) 0 room block (0 + length bytes) (read_within [] [] room small (omega arith) (omega arith) (omega arith))

  builds : (room : Room) → room_for block room ≡ true → built w t (codes xs) (values xs) room ≡ good block
  unfolding built
  builds room e =
      let s = h.some in
      let m = h.most in
      rw (
        length_codes xs,
        length_values xs,
        eq-eqb (length xs) (length xs) refl,
        le-ltb 16384 (length xs) m,
        h.table,
        ne_eqb (length xs) 0 (λ z. omega arith),
        codes_back xs,
        ops_pass (refuse (not (room_for block room)) 13 0 (good block)) t xs allowed,
        e,
      )

  pub demand3 : Demand3 w t xs (block_of (batches_of w t xs))
  demand3 =
      record {
        builds = builds;
        leaves = λ out e. front_lent out block takes.sized e;
        left = left w width t h.table xs;
        writes = λ size at l k. writes_it w t block size at takes l k;
        reads = λ p q room l e. let r = room_parts room e in read_within p q room l r.0 r.1 r.2;
        few = few_block;
        short = short;
      }

-- the premises can be met: P1 meets them under document 01's table T
pub met : Premises table_t (op 1 5 ∷ [])
unfolding document
met = record { table = refl; some = omega arith; most = omega arith; admitted = refl }

-- ---- and the other way: no two byte strings for one block

taken_part : (b s : List ℕ) (at next : ℕ) → Taken b s at next → take (next - at) (drop at s) ≡ b
taken_part b s at next h =
    let st = h.stands in
    let e : next - at ≡ length b = omega (arith, h.next) in
    let d : drop at s ≡ b ++ st.after = rw (st.place, st.whole) (drop-append_seam st.before (b ++ st.after)) in
    rw (e, d) (take-append_seam b st.after)

module _ (w : ℕ) (t : List ℕ) where
  pub stood : (s : List ℕ) → Bytes s → (at : ℕ) (room : Room) (b : Block) (next : ℕ) → decoded w t s at room ≡ found b next → take (next - at) (drop at s) ≡ block_bytes t b
  stood s bytes at room b next h = taken_part (block_bytes t b) s at next (block_taken s bytes w t at room b next h)

  -- whatever decoding takes, encoding writes byte for byte what stands there
  pub again : (s : List ℕ) → Bytes s → (at : ℕ) (room : Room) (b : Block) (next : ℕ) → decoded w t s at room ≡ found b next → (size to : ℕ) → size ≤ 1048576 → to + length (block_bytes t b) ≤ size
      → (encoded w t (lent b) size to ≡ good (block_bytes t b)) × (take (next - at) (drop at s) ≡ block_bytes t b)
  again s bytes at room b next h size to l k = (writes_it w t b size to (encodable w t s at room b next h) l k, stood s bytes at room b next h)

  -- two byte strings that are taken for one block are the same
  pub once : (s s' : List ℕ) → Bytes s → Bytes s' → (at at' : ℕ) (room room' : Room) (b : Block) (next next' : ℕ)
      → decoded w t s at room ≡ found b next → decoded w t s' at' room' ≡ found b next' → take (next - at) (drop at s) ≡ take (next' - at') (drop at' s')
  once s s' bytes bytes' at at' room room' b next next' h h' = stood s bytes at room b next h ∙ sym (stood s' bytes' at' room' b next' h')
