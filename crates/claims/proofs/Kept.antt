-- Flags at and above the count change no other answer, and may be cleared or set in the bytes of a block that is taken. Assumes nothing.
use mathlib.Core.Path.{◌≡◌, refl, sym, ap, ap₂, ◌∙◌, subst}
use mathlib.Core.List.{List, [], ◌∷◌, ◌++◌, append_assoc, append-nil, map}
use mathlib.Core.Bool.{Bool, true, false, cond, not, ◌&&◌, ◌||◌}
use Prim.Native.Nat.{ℕ, zero, suc, ◌+◌, ◌-◌, ◌≤◌}
use native.Mathlib.Omega.{arith}
use lib.ListN.{length, get_or, take, drop, replicate, length-append}
use lib.Seq.{sets, sets-eq, length-sets, take-append_seam, drop-append_seam, drop-append-add}
use lib.Dec.{leb, ltb, eqb}
use Rattle.rules.specs.Lists.{total, every, in_row, All}
use Rattle.rules.specs.Digits.{number, le_bytes}
use Rattle.rules.specs.Answer.{Answer, good, refuse, refuse_first, found}
use Rattle.rules.specs.Operations.{Op, operations, codes, values, good_table, op_fault}
use Rattle.rules.specs.Record.{Record, Block, NineAndEight, differences, cut}
use Rattle.rules.specs.Bytes.{count_bytes, ops_bytes, nibble_bytes, flag_bytes}
use Rattle.rules.specs.Block.{Room, count_from, block_bytes}
use Rattle.rules.specs.Checks.{Held, ninth, record_right, structure_faults, held_from, held, ends_in_noop, padding_right, padding_fault, padding_faults, commitment_fault, commitment_faults}
use Rattle.rules.specs.Lookups.{group_of, next_group, marks_in, marks_of, marks, raw_entries, padded_entries, raw_table, padded_table}
use Rattle.rules.specs.Examples.{p1, p1flagged, above}
use Rattle.rules.specs.Functions.{Arena, block_in, within, encoded, decoded, room_for, structure_checked, padding_checked, commitment_checked, table_of, group_lookup, next_lookup}
use Rattle.rules.proofs.Records.{Sized, records_length}
use Rattle.rules.proofs.Sizes.{length_flags}
use Rattle.claims.specs.Demand3.{lent}
use Rattle.claims.specs.Finished.{Bytes}
use Rattle.claims.specs.Settled.{Settled, settled_block, Returns}
use Rattle.claims.specs.Kept.{SameButKept, AllButKept, ArenasButKept, BlocksButKept, reflagged, Unread, UnreadBy, Kept}
use Rattle.claims.proofs.WrittenThenRead.{none_over}
use Rattle.claims.proofs.Lists.{all_map}
use Rattle.claims.proofs.Stands.{Taken}
use Rattle.claims.proofs.Arena.{block_in_lem, nine_and_eight}
use Rattle.claims.proofs.ReadThenWritten.{block_taken}
use Rattle.claims.proofs.ReadThenChecked.{Clear, Encodable, encodable, had_room}
use Rattle.claims.proofs.Checked.{made, structured, shaped_in}
use Rattle.claims.proofs.Passes.{here, decode_passes}
use Rattle.claims.proofs.CheckedThenReturned.{returns_clear, clear_8}
use Rattle.claims.proofs.Finished.{returned, was, within_limit}

-- ---- what is said of the flags looks at those under the count

every_front : (test : ℕ → Bool) (k : ℕ) (fs : List ℕ) → every test (drop k fs) ≡ true → every test fs ≡ every test (take k fs)
unfolding every
every_front test zero fs h = h
every_front test (suc k) [] h = refl
every_front test (suc k) (f ∷ fs) h = ap (λ (b : Bool). test f && b) (every_front test k fs h)

padding_front : (k : ℕ) (gs : List (List Op)) (fs : List ℕ) → padding_right (take k gs) fs ≡ padding_right (take k gs) (take k fs)
unfolding padding_right
padding_front zero gs fs = refl
padding_front (suc k) [] fs = refl
padding_front (suc k) (g ∷ gs) [] = refl
padding_front (suc k) (g ∷ gs) (f ∷ fs) = ap (λ (b : Bool). cond (eqb f 0) true (ends_in_noop g) && b) (padding_front k gs fs)

no_marks : (ns fs : List ℕ) → total ns ≡ 0 → marks_of ns fs ≡ []
unfolding total marks_of marks_in
no_marks [] fs h = refl
no_marks (zero ∷ ns) [] h = refl
no_marks (zero ∷ ns) (f ∷ fs) h = no_marks ns fs (omega arith)
no_marks (suc n ∷ ns) fs h = absurd (omega arith)

-- where the groups after the k-th are empty
marks_front : (k : ℕ) (ns fs : List ℕ) → total (drop k ns) ≡ 0 → marks_of ns fs ≡ marks_of (take k ns) (take k fs)
unfolding marks_of
marks_front zero ns fs h = no_marks ns fs h
marks_front (suc k) [] fs h = refl
marks_front (suc k) (n ∷ ns) [] h = refl
marks_front (suc k) (n ∷ ns) (f ∷ fs) h = ap (λ (ms : List Bool). marks_in n f ++ ms) (marks_front k ns fs h)

-- ---- a record

module _ (r q : Record) (e : SameButKept r q) where
  right_same : (w : ℕ) → record_right w r ≡ record_right w q
  unfolding record_right
  right_same w =
      let test : ℕ → Bool = λ (f : ℕ). leb f 1 in
      let flags : every test r.flags ≡ every test q.flags =
      every_front test r.count r.flags (none_over 1 (drop r.count r.flags) e.bits.0)
      ∙ (ap (every test) e.under ∙ sym (every_front test r.count q.flags (none_over 1 (drop r.count q.flags) e.bits.1))) in
      rw (e.starts, e.count, flags)

  padding_same : (xs : List Op) (at : ℕ) → padding_fault (here r xs at) ≡ padding_fault (here q xs at)
  unfolding padding_fault
  padding_same xs at =
      let gs = take r.count (cut (differences r.starts) xs at) in
      let n = padding_front r.count (cut (differences r.starts) xs at) in
      let flags : padding_right gs r.flags ≡ padding_right gs q.flags = n r.flags ∙ (ap (padding_right gs) e.under ∙ sym (n q.flags)) in
      rw (flags, e.starts, e.count)

  commitment_same : (t : List ℕ) (xs : List Op) (at : ℕ) → commitment_fault t (here r xs at) ≡ commitment_fault t (here q xs at)
  unfolding commitment_fault
  commitment_same t xs at = rw (e.starts, e.numbers, e.count)

  ninth_same : ninth r ≡ ninth q
  ninth_same = ap (λ (s : List ℕ). get_or s 8 0) e.starts

  -- groups from the count on are empty
  marks_same : (w : ℕ) → w ≤ 8 → NineAndEight r → record_right w r ≡ true → marks_of (differences r.starts) r.flags ≡ marks_of (differences q.starts) q.flags
  marks_same w w8 z h =
      let ns = differences r.starts in
      let n : (fs : List ℕ) → marks_of ns fs ≡ marks_of (take r.count ns) (take r.count fs) = λ fs. marks_front r.count ns fs (made w w8 r z h).rest in
      n r.flags ∙ ap (marks_of (take r.count ns)) e.under ∙ sym (n q.flags) ∙ ap (λ (s : List ℕ). marks_of (differences s) q.flags) e.starts

  pub unread_by : (w : ℕ) → UnreadBy w r q
  unfolding group_lookup next_lookup group_of next_group
  unread_by w = record { group = λ i. rw (right_same w, e.starts); next = λ g. rw (right_same w, e.starts, e.count) }

  size_same : NineAndEight r → NineAndEight q
  size_same z = record { starts = ap length (sym e.starts) ∙ z.starts; flags = sym e.many ∙ z.flags; numbers = ap length (sym e.numbers) ∙ z.numbers }

  settled_same : (t : List ℕ) (xs : List Op) (at : ℕ) → Settled t (here r xs at) → Settled t (here q xs at)
  settled_same t xs at k =
      record {
        count = sym e.count ∙ k.count ∙ ap (λ (s : List ℕ). count_from t 0 0 (cut (differences s) xs at)) e.starts;
        zeros = rw (sym e.count, sym e.numbers) k.zeros;
      }

-- ---- record by record

pairs : (P : List Record → List Record → Type 0) → P [] [] → ((r q : Record) (rs qs : List Record) → SameButKept r q → P rs qs → P (r ∷ rs) (q ∷ qs))
    → (rs qs : List Record) → AllButKept rs qs → P rs qs
pairs P none more [] [] e = none
pairs P none more [] (q ∷ qs) e = elim e [ ]
pairs P none more (r ∷ rs) [] e = elim e [ ]
pairs P none more (r ∷ rs) (q ∷ qs) e = more r q rs qs e.0 (pairs P none more rs qs e.1)

each_same : (f : Record → ℕ) → ((r q : Record) → SameButKept r q → f r ≡ f q) → (rs qs : List Record) → AllButKept rs qs → map f rs ≡ map f qs
each_same f one = pairs (λ rs qs. map f rs ≡ map f qs) refl (λ r q rs qs e ih. ap₂ (λ (n : ℕ) (ns : List ℕ). n ∷ ns) (one r q e) ih)

many_same : (rs qs : List Record) → AllButKept rs qs → length rs ≡ length qs
many_same = pairs (λ rs qs. length rs ≡ length qs) refl (λ r q rs qs e ih. ap suc ih)

nibbles_same : (rs qs : List Record) → AllButKept rs qs → nibble_bytes rs ≡ nibble_bytes qs
unfolding in_row
nibbles_same =
    pairs (λ rs qs. nibble_bytes rs ≡ nibble_bytes qs) refl
    (λ r q rs qs e ih. ap₂ (λ (s x : List ℕ). le_bytes 4 (number 16 (differences s)) ++ x) e.starts ih)

sized_same : (rs qs : List Record) → AllButKept rs qs → All Sized rs → All Sized qs
sized_same =
    pairs (λ rs qs. All Sized rs → All Sized qs) (λ z. tt)
    (λ r q rs qs e ih z. (record { whole = size_same r q e z.0.whole; small = rw (sym e.numbers) z.0.small }, ih z.1))

all_marks_same : (w : ℕ) → w ≤ 8 → (rs qs : List Record) → AllButKept rs qs → All NineAndEight rs → All (λ r. record_right w r ≡ true) rs → marks rs ≡ marks qs
unfolding marks
all_marks_same w w8 =
    pairs (λ rs qs. All NineAndEight rs → All (λ r. record_right w r ≡ true) rs → marks rs ≡ marks qs) (λ z h. refl)
    (λ r q rs qs e ih z h. ap₂ (λ (x y : List Bool). x ++ y) (marks_same r q e w w8 z.0 h.0) (ih z.1 h.1))

module _ (xs : List Op) where
  held_same : (f : Held → ℕ) → ((r q : Record) → SameButKept r q → (at : ℕ) → f (here r xs at) ≡ f (here q xs at))
      → (rs qs : List Record) → AllButKept rs qs → (at : ℕ) → map f (held_from rs xs at) ≡ map f (held_from qs xs at)
  unfolding held_from
  held_same f one =
      pairs (λ rs qs. (at : ℕ) → map f (held_from rs xs at) ≡ map f (held_from qs xs at)) (λ at. refl)
      (λ r q rs qs e ih at. ap₂ (λ (n : ℕ) (ns : List ℕ). n ∷ ns) (one r q e at) (ih (at + ninth r) ∙ ap (λ (k : ℕ). map f (held_from qs xs (at + k))) (ninth_same r q e)))

  all_settled_same : (t : List ℕ) (rs qs : List Record) → AllButKept rs qs → (at : ℕ) → All (Settled t) (held_from rs xs at) → All (Settled t) (held_from qs xs at)
  unfolding held_from
  all_settled_same t =
      pairs (λ rs qs. (at : ℕ) → All (Settled t) (held_from rs xs at) → All (Settled t) (held_from qs xs at)) (λ at h. tt)
      (λ r q rs qs e ih at h. (settled_same r q e t xs at h.0, ih (at + ninth q) (subst (λ (k : ℕ). All (Settled t) (held_from rs xs (at + k))) (ninth_same r q e) h.1)))

-- ---- the bytes

module _ (t : List ℕ) where
  -- all but the flags
  abbrev front : Block → List ℕ
  front b = count_bytes (length b.ops) ++ (ops_bytes t b.ops ++ (le_bytes 4 (length b.records) ++ nibble_bytes b.records))

  front_flags : (b : Block) → block_bytes t b ≡ front b ++ flag_bytes b.records
  unfolding block_bytes
  front_flags b = simp append_assoc

  front_same : (b c : Block) → BlocksButKept b c → front b ≡ front c
  front_same b c e = rw (e.ops, many_same b.records c.records e.records, nibbles_same b.records c.records e.records)

over : (p f g q : List ℕ) → length f ≡ length g → sets (p ++ (f ++ q)) (length p) g ≡ p ++ (g ++ q)
over p f g q e =
    let m : length p + length g ≤ length (p ++ (f ++ q)) = simp length-append (omega arith) in
    let d : drop (length p + length g) (p ++ (f ++ q)) ≡ q = drop-append-add p (f ++ q) (length g) ∙ (rw (sym e) (drop-append_seam f q)) in
    sets-eq g (p ++ (f ++ q)) (length p) m ∙ rw (take-append_seam p (f ++ q), d) (append_assoc p g q)

module _ (t : List ℕ) (b c : Block) (e : BlocksButKept b c) where
  same_length : length (block_bytes t b) ≡ length (block_bytes t c)
  same_length =
      rw (front_flags t b, front_flags t c, front_same t b c e)
      (simp length-append (omega (arith, many_same b.records c.records e.records, length_flags b.records, length_flags c.records)))

  -- the bytes of the one with the flags of the other
  flags_over : sets (block_bytes t b) (length (block_bytes t b) - length c.records) (flag_bytes c.records) ≡ block_bytes t c
  flags_over =
      let f = flag_bytes b.records in
      let g = flag_bytes c.records in
      let k = many_same b.records c.records e.records in
      let at : length (block_bytes t b) - length c.records ≡ length (front t b) = omega (arith, ap length (front_flags t b), length-append (front t b) f, length_flags b.records) in
      let whole : block_bytes t b ≡ front t b ++ (f ++ []) = front_flags t b ∙ rw (append-nil f) in
      ap₂ (λ (x : List ℕ) (n : ℕ). sets x n g) whole at
      ∙ over (front t b) f g [] (length_flags b.records ∙ (k ∙ sym (length_flags c.records)))
      ∙ rw (append-nil g, front_same t b c e) (sym (front_flags t c))

module _ (rs : List Record) where
  refuse_flags : (b : Bool) (n p : ℕ) (r : Answer (List ℕ)) → reflagged rs (refuse b n p r) ≡ refuse b n p (reflagged rs r)
  refuse_flags true n p r = refl
  refuse_flags false n p r = refl

  first_flags : (i : ℕ) (ns : List ℕ) (r : Answer (List ℕ)) → reflagged rs (refuse_first i ns r) ≡ refuse_first i ns (reflagged rs r)
  unfolding refuse_first
  first_flags i [] r = refl
  first_flags i (zero ∷ ns) r = first_flags (i + 1) ns r
  first_flags i (suc n ∷ ns) r = refl

-- ---- the answers

-- where there is no fault, what follows is the same
first_same : {A : Type 0} (i : ℕ) (ns : List ℕ) (x y : Answer A) → (refuse_first {A = Unit {0}} i ns (good tt) ≡ good tt → x ≡ y) → refuse_first i ns x ≡ refuse_first i ns y
unfolding refuse_first
first_same i [] x y h = h refl
first_same i (zero ∷ ns) x y h = first_same (i + 1) ns x y h
first_same i (suc n ∷ ns) x y h = refl

module _ (w : ℕ) (w8 : w ≤ 8) (a c : Arena) (e : ArenasButKept a c) where
  inside : within a ≡ within c
  unfolding within
  inside = rw (e.codes, e.values, e.size)

  ops_same : (block_in a).ops ≡ (block_in c).ops
  unfolding block_in
  ops_same = ap₂ operations e.codes e.values

  structure_faults_lem : structure_faults w (block_in a) ≡ structure_faults w (block_in c)
  unfolding structure_faults
  structure_faults_lem =
      let right = each_same (λ (r : Record). cond (record_right w r) 0 15) (λ r q k. ap (λ (b : Bool). cond b 0 15) (right_same r q k w)) (block_in a).records (block_in c).records e.records in
      let sum = each_same ninth ninth_same (block_in a).records (block_in c).records e.records in
      rw (right, sum, ops_same)

  padding_faults_lem : padding_faults (block_in a) ≡ padding_faults (block_in c)
  unfolding padding_faults held
  padding_faults_lem =
      held_same (block_in a).ops padding_fault (λ r q k. padding_same r q k (block_in a).ops) (block_in a).records (block_in c).records e.records 0
      ∙ ap (λ (xs : List Op). map padding_fault (held_from (block_in c).records xs 0)) ops_same

  commitment_faults_lem : (t : List ℕ) → commitment_faults t (block_in a) ≡ commitment_faults t (block_in c)
  unfolding commitment_faults held
  commitment_faults_lem t =
      held_same (block_in a).ops (commitment_fault t) (λ r q k. commitment_same r q k t (block_in a).ops) (block_in a).records (block_in c).records e.records 0
      ∙ ap (λ (xs : List Op). map (commitment_fault t) (held_from (block_in c).records xs 0)) ops_same

  block_marks : refuse_first {A = Unit {0}} 0 (structure_faults w (block_in c)) (good tt) ≡ good tt → marks (block_in a).records ≡ marks (block_in c).records
  block_marks h =
      let good-a = ap (λ (ns : List ℕ). refuse_first {A = Unit {0}} 0 ns (good tt)) structure_faults_lem ∙ h in
      all_marks_same w w8 (block_in a).records (block_in c).records e.records (shaped_in a) (structured w (block_in a) (good tt) tt good-a).0

  table_same : (entries : List Bool → List ℕ) (room : ℕ) → table_of (λ b. entries (marks b.records)) w a room ≡ table_of (λ b. entries (marks b.records)) w c room
  unfolding table_of
  table_same entries room =
      let rest : List Bool → Answer (List ℕ) = λ ms. refuse_first 0 (padding_faults (block_in c)) (refuse (ltb room (length (entries ms))) 13 0 (good (entries ms))) in
      rw (inside, structure_faults_lem, padding_faults_lem)
      (ap (refuse (not (within c)) 3 0) (first_same 0 (structure_faults w (block_in c)) (rest (marks (block_in a).records)) (rest (marks (block_in c).records)) (λ h. ap rest (block_marks h))))

  blocks : BlocksButKept (block_in a) (block_in c)
  blocks = record { ops = ops_same; records = e.records }

  encode_same : (t : List ℕ) (size at : ℕ) → reflagged (block_in c).records (encoded w t a size at) ≡ encoded w t c size at
  unfolding encoded
  encode_same t size at =
      let rs = (block_in c).records in
      let b = block_bytes t (block_in a) in
      rw (
        refuse_flags rs (not (within a) || ltb 1048576 size) 3 0 _,
        refuse_flags rs (not (good_table t)) 14 0 _,
        refuse_flags rs (ltb size at) 1 0 _,
        first_flags rs 0 (structure_faults w (block_in a)) _,
        first_flags rs 0 (map (op_fault t) (block_in a).ops) _,
        refuse_flags rs (ltb size (at + length b)) 13 0 (good b),
        flags_over t (block_in a) (block_in c) blocks,
        inside,
        structure_faults_lem,
        same_length t (block_in a) (block_in c) blocks,
        ops_same,
      )

  pub unread : Unread w a c
  unfolding structure_checked padding_checked commitment_checked raw_table padded_table
  unread =
      record {
        structure = rw (inside, structure_faults_lem);
        padding = rw (inside, structure_faults_lem, padding_faults_lem);
        commitment = λ t. rw (inside, structure_faults_lem, commitment_faults_lem t, ops_same);
        raw_table_lem = table_same (raw_entries 0);
        padded_table_lem = table_same (padded_entries 0);
        encode = encode_same;
      }

-- ---- a block that is taken

module _ (w : ℕ) (w8 : w ≤ 8) (t s : List ℕ) (bytes : Bytes s) (at : ℕ) (room : Room) (b : Block) (next : ℕ) (h : decoded w t s at room ≡ found b next) where
  abbrev k : ℕ
  k = length b.records

  able : Encodable w t b
  able = encodable w t s at room b next h

  stood : Taken (block_bytes t b) s at next
  stood = block_taken s bytes w t at room b next h

  abbrev p : List ℕ
  p = stood.stands.before

  abbrev q : List ℕ
  q = stood.stands.after

  -- what stands before the flags
  abbrev before : List ℕ
  before = p ++ front t b

  whole : s ≡ before ++ (flag_bytes b.records ++ q)
  whole = stood.stands.whole ∙ rw (front_flags t b) (simp append_assoc)

  place : next - k ≡ length before
  place = omega (arith, stood.next, stood.stands.place, ap length (front_flags t b), length-append (front t b) (flag_bytes b.records), length-append p (front t b), length_flags b.records)

  flags : take k (drop (next - k) s) ≡ flag_bytes b.records
  flags = rw (whole, place, drop-append_seam before (flag_bytes b.records ++ q)) (rw (sym (length_flags b.records)) (take-append_seam (flag_bytes b.records) q))

  module _ (c : Block) (e : BlocksButKept b c) where
    sized : All Sized c.records
    sized = sized_same b.records c.records e.records able.sized

    many : k ≡ length c.records
    many = many_same b.records c.records e.records

    arenas : ArenasButKept (lent b) (lent c)
    arenas =
        record {
          codes = ap codes e.ops;
          values = ap values e.ops;
          size = records_length b.records able.sized ∙ (rw many (sym (records_length c.records sized)));
          records = rw (block_in_lem b able.sized, block_in_lem c sized) e.records;
        }

    changed : sets s (next - k) (flag_bytes c.records) ≡ p ++ (block_bytes t c ++ q)
    changed =
        ap₂ (λ (x : List ℕ) (n : ℕ). sets x n (flag_bytes c.records)) whole place
        ∙ over before (flag_bytes b.records) (flag_bytes c.records) q (length_flags b.records ∙ (many ∙ sym (length_flags c.records)))
        ∙ rw (front_flags t c, front_same t b c e) (simp append_assoc)

    fits : room_for c room ≡ true
    unfolding room_for
    fits = rw (sym e.ops, sym many) (had_room w t s at room b next h)

    -- and the bytes can say its flags
    module _ (clear : All (Clear w) c.records) where
      back : Returns w t (lent c)
      back =
          let passes = decode_passes w t s at room b next h in
          let u = unread w w8 (lent b) (lent c) arenas in
          returns_clear w w8 t (lent c) (rw (block_in_lem c sized) clear) (sym u.padding ∙ passes.padding) (sym (u.commitment t) ∙ passes.commitment)

      settles : settled_block t c ≡ c
      unfolding held
      settles =
          let in_b = block_in_lem b able.sized in
          let in_c = block_in_lem c sized in
          let was_b : All (Settled t) (held b) = rw in_b at ((returned w w8 t s bytes at room b next h).only (rw in_b (was w w8 t s bytes at room b next h))) in
          let is_c : All (Settled t) (held c) = rw (sym e.ops) (all_settled_same b.ops t b.records c.records e.records 0 was_b) in
          rw in_c at (back.same (rw in_c is_c))

      takes : decoded w t (sets s (next - k) (flag_bytes c.records)) at room ≡ found c next
      takes =
          let in_c = block_in_lem c sized in
          let limit : length (p ++ (block_bytes t c ++ q)) ≤ 1048576 = rw (sym changed) (rw (length-sets s (next - k) (flag_bytes c.records)) (within_limit w t s at room b next h)) in
          let read : decoded w t (p ++ (block_bytes t c ++ q)) (length p) room ≡ found (settled_block t c) (length p + length (block_bytes t c)) = rw in_c at (back.reads p q room (rw in_c limit) (rw in_c fits)) in
          let end : length p + length (block_bytes t c) ≡ next = omega (arith, stood.next, stood.stands.place, same_length t b c e) in
          ap₂ (λ (x : List ℕ) (n : ℕ). decoded w t x n room) changed stood.stands.place ∙ read ∙ ap₂ found settles end

pub kept : (t s : List ℕ) → Bytes s → (at : ℕ) (room : Room) (b : Block) (next : ℕ) → decoded 8 t s at room ≡ found b next → Kept 8 t s at room b next
kept t s bytes at room b next h =
    let w8 : 8 ≤ 8 = omega arith in
    record {
      flags = flags 8 w8 t s bytes at room b next h;
      taken = λ c e.
          let whole = nine_and_eight c.records (sized 8 w8 t s bytes at room b next h c e) in
          takes 8 w8 t s bytes at room b next h c e (all_map clear_8 c.records whole);
    }

small : (n f : ℕ) → f ≤ 1 → All (λ f. f ≤ 1) (replicate n f)
small zero f h = tt
small (suc n) f h = (h, small n f h)

-- the premise can be met: P1, and P1 with every flag from its count on
pub kept_met : BlocksButKept p1 (p1flagged above)
kept_met =
    record { ops = refl; records = (record { starts = refl; numbers = refl; count = refl; many = refl; under = refl; bits = (small 6 0 (omega arith), small 6 1 (omega arith)) }, tt) }
