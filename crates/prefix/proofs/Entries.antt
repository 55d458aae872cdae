-- The entries of a table, group by group and batch by batch; and the ways to its answer. Assumes nothing.
use mathlib.Core.Path.{◌≡◌, refl, sym, ap, ap₂, ◌∙◌}
use mathlib.Core.Bool.{Bool, true, false, cond, not}
use mathlib.Core.List.{List, [], ◌∷◌, ◌++◌, append_assoc}
use Prim.Native.Nat.{ℕ, zero, suc, ◌+◌, ◌-◌, ◌≤◌, ◌<◌}
use native.Mathlib.Nat.{add-zero, zero-add, suc-add, sub-zero}
use native.Mathlib.Numerals.{add-one}
use native.Mathlib.Omega.{arith}
use borrow.Author.Tests.{lt-ltb, le-ltb}
use lib.ListN.{length, get_or, take, drop, replicate, length-append, length-replicate, drop_of_length-le}
use lib.Seq.{sets, sets-eq, drop-cons, take-append_seam}
use lib.Dec.{ltb, eqb}
use Rattle.rules.specs.Lists.{fitted}
use Rattle.rules.specs.Digits.{number}
use Rattle.rules.specs.Answer.{Answer, good, refused, refuse, refuse_first}
use Rattle.rules.specs.Record.{Record, Block, differences, record_at, records_from, records_in}
use Rattle.rules.specs.Checks.{ninth, structure_faults, padding_faults}
use Rattle.rules.specs.Lookups.{marks_in, marks_of, marks, raw_entries, padded_entries, raw_table, padded_table}
use Rattle.rules.specs.Functions.{Arena, block_in, within, padding_checked, table_of, table_left}
use Rattle.rules.proofs.Digits.{sets_append}
use Rattle.rules.proofs.Runs.{zeroed}
use Rattle.op_batch.proofs.Right.{rise, below_ninth, ninth_small, flagged, flags_ahead}
use Rattle.checks.specs.Batch.{Fits}
use Rattle.checks.proofs.Groups.{Laid, laid}
use Rattle.checks.proofs.Walk.{records_turn, records_end}
use Rattle.checks.proofs.Passed.{and_then, refuse_then, first_then, went_on}
use Rattle.std.specs.Prelude.{Ok, Err}
use Rattle.refusal.specs.declared.Refusal.{Refusal}
use Rattle.refusal.specs.declared.Refusal.TheVariants.{NoRoom}
use Rattle.refusal.specs.Told.{number_of, place_of}
use Rattle.prefix.specs.declared.Prefix.{Prefix}
use Rattle.prefix.specs.declared.Prefix.TheVariants.{RawToPadded, PaddedToRaw}
use Rattle.prefix.specs.Tables.{Answered, table_by, table_from, pads_in, kept_in, marks_at, ahead, Goes, Filling}

-- ---- the marks of a batch

module _ (r : Record) (x : Laid r) where
  pub marks_turn : (g : ℕ) → g < 8 → marks_at r g ≡ marks_in (get_or r.starts (g + 1) 0 - get_or r.starts g 0) (get_or r.flags g 0) ++ marks_at r (g + 1)
  unfolding marks_at differences marks_of
  marks_turn g h =
      rw (
        drop-cons r.starts g 0 (omega (arith, x.starts)),
        drop-cons r.flags g 0 (omega (arith, x.flags)),
        sym (add-one g),
        drop-cons r.starts (g + 1) 0 (omega (arith, x.starts)),
      )

  pub marks_end : (g : ℕ) → g ≡ 8 → marks_at r g ≡ []
  unfolding marks_at differences marks_of
  marks_end g h = rw (drop-cons r.starts g 0 (omega (arith, x.starts)), drop_of_length-le r.starts {i = suc g} (omega (arith, x.starts)))

-- ---- the entries of a group: n plain operations, and perhaps a padding

plain : (which : Prefix) (n k : ℕ) (ms : List Bool) → table_from which k (replicate n false ++ ms) ≡ replicate n k ++ table_from which k ms
unfolding raw_entries padded_entries
plain which zero k ms = refl
plain PaddedToRaw (suc n) k ms = ap (λ (l : List ℕ). k ∷ l) (plain PaddedToRaw n k ms)
plain RawToPadded (suc n) k ms = ap (λ (l : List ℕ). k ∷ l) (plain RawToPadded n k ms)

snoc : (n k : ℕ) (es : List ℕ) → replicate n k ++ (k ∷ es) ≡ k ∷ (replicate n k ++ es)
snoc zero k es = refl
snoc (suc n) k es = ap (λ (l : List ℕ). k ∷ l) (snoc n k es)

pub group : (which : Prefix) (n f k : ℕ) (rest : List Bool) → table_from which k (marks_in n f ++ rest) ≡ replicate (kept_in which n (pads_in n f)) k ++ table_from which (k + pads_in n f) rest
unfolding marks_in raw_entries padded_entries
group PaddedToRaw zero f k rest = rw (add-zero k)
group RawToPadded zero f k rest = rw (add-zero k)
group which (suc n) f k rest =
    ap (table_from which k) (append_assoc (replicate n false) (eqb f 1 ∷ []) rest)
    ∙ plain which n k (eqb f 1 ∷ rest)
    ∙ last which (eqb f 1)
  where
    last : (which : Prefix) (b : Bool) → replicate n k ++ table_from which k (b ∷ rest) ≡ replicate (kept_in which (suc n) (cond b 1 0)) k ++ table_from which (k + cond b 1 0) rest
    last PaddedToRaw true = snoc n k (padded_entries (k + 1) rest)
    last PaddedToRaw false = snoc n k (padded_entries k rest) ∙ rw (add-zero k)
    last RawToPadded true = let e : suc n - 1 ≡ n = omega arith in rw e
    last RawToPadded false = snoc n k (raw_entries k rest) ∙ rw (sub-zero, add-zero k)

-- ---- a turn of the walk over groups, and its end, in the form of `Goes`

ends : (w k : ℕ) → replicate w k ++ (k ∷ []) ≡ replicate (w + 1) k
ends zero k = refl
ends (suc w) k = ap (λ (l : List ℕ). k ∷ l) (ends w k) ∙ ap (λ (m : ℕ). replicate m k) (sym (suc-add w 1))

copies : (w n k : ℕ) (es : List ℕ) → replicate w k ++ (replicate n k ++ es) ≡ replicate (w + n) k ++ es
copies zero n k es = ap (λ (m : ℕ). replicate m k ++ es) (sym (zero-add n))
copies (suc w) n k es = ap (λ (l : List ℕ). k ∷ l) (copies w n k es) ∙ ap (λ (m : ℕ). replicate m k ++ es) (sym (suc-add w n))

-- the g-th group, of these starts and this flag: p paddings, n entries
module _ (which : Prefix) (r : Record) (x : Laid r) (g : ℕ) (h : g < 8) (k w start end flag : ℕ)
    (a : start ≡ get_or r.starts g 0) (z : end ≡ get_or r.starts (g + 1) 0) (e : flag ≡ get_or r.flags g 0)
    (n p : ℕ) (en : n ≡ kept_in which (end - start) p) (ep : p ≡ pads_in (end - start) flag) (rest : List Bool) where
  one : ahead which w k (marks_at r g ++ rest) ≡ replicate (w + n) k ++ table_from which (k + p) (marks_at r (g + 1) ++ rest)
  one =
      ap (λ (ms : List Bool). ahead which w k (ms ++ rest)) (marks_turn r x g h)
      ∙ ap (ahead which w k) (append_assoc (marks_in (get_or r.starts (g + 1) 0 - get_or r.starts g 0) (get_or r.flags g 0)) (marks_at r (g + 1)) rest)
      ∙ ap (λ (l : List ℕ). replicate w k ++ l) (rw (sym a, sym z, sym e, en, ep) (group which (end - start) flag k (marks_at r (g + 1) ++ rest)))
      ∙ copies w n k (table_from which (k + p) (marks_at r (g + 1) ++ rest))

  -- no padding
  wait_turn : p ≡ 0 → ahead which (w + n) k (marks_at r (g + 1) ++ rest) ≡ ahead which w k (marks_at r g ++ rest)
  wait_turn z = sym (one ∙ ap (λ (m : ℕ). replicate (w + n) k ++ table_from which m (marks_at r (g + 1) ++ rest)) (omega arith))

  -- a padding
  run_turn : p ≡ 1 → (out out' : List ℕ) (at : ℕ) → out' ≡ sets out at (replicate (w + n) k)
      → sets out' (at + (w + n)) (ahead which 0 (k + 1) (marks_at r (g + 1) ++ rest)) ≡ sets out at (ahead which w k (marks_at r g ++ rest))
  run_turn z out out' at e =
      let more = table_from which (k + 1) (marks_at r (g + 1) ++ rest) in
      ap₂ (λ (l : List ℕ) (m : ℕ). sets l (at + m) more) e (sym (length-replicate {A = ℕ} (w + n) k))
      ∙ sym (ap (sets out at) (one ∙ ap (λ (m : ℕ). replicate (w + n) k ++ table_from which (k + m) (marks_at r (g + 1) ++ rest)) z) ∙ sets_append out at (replicate (w + n) k) more)

  entries_turn : p ≡ 1 → (at : ℕ) → at + (w + n) + length (ahead which 0 (k + 1) (marks_at r (g + 1) ++ rest)) ≡ at + length (ahead which w k (marks_at r g ++ rest))
  entries_turn z at =
      let more = table_from which (k + 1) (marks_at r (g + 1) ++ rest) in
      omega (
        arith,
        ap length (one ∙ ap (λ (m : ℕ). replicate (w + n) k ++ table_from which (k + m) (marks_at r (g + 1) ++ rest)) z),
        length-append (replicate (w + n) k) more,
        length-replicate {A = ℕ} (w + n) k,
      )

-- no flag is set from the g-th group on
module _ (which : Prefix) (r : Record) (x : Laid r) (k : ℕ) (rest : List Bool) where
  unpadded : (n : ℕ) → kept_in which n 0 ≡ n
  unpadded n = go which
    where
      go : (d : Prefix) → kept_in d n 0 ≡ n
      go PaddedToRaw = refl
      go RawToPadded = sub-zero n

  plain_pads : (n v : ℕ) → v ≡ 0 → 0 ≡ pads_in n v
  plain_pads zero v e = refl
  plain_pads (suc n) v e = rw e

  still : (j g w : ℕ) → g + j ≡ 8 → number 256 (drop g r.flags) ≡ 0
      → ahead which (w + (ninth r - get_or r.starts g 0)) k rest ≡ ahead which w k (marks_at r g ++ rest)
  still zero g w h e =
      let z : g ≡ 8 = omega arith in
      let d : w + (ninth r - get_or r.starts g 0) ≡ w = rw z (omega arith) in
      ap (λ (m : ℕ). ahead which m k rest) d ∙ sym (ap (λ (ms : List Bool). ahead which w k (ms ++ rest)) (marks_end r x g z))
  still (suc j) g w h e =
      let l : g < 8 = omega arith in
      let a = flags_ahead x.width r x.sound x.flags g l in
      let up = rise x.width r x.sound x.starts g l in
      let top = below_ninth x.width r x.sound x.starts (g + 1) (omega arith) in
      let n = get_or r.starts (g + 1) 0 - get_or r.starts g 0 in
      let d : w + (ninth r - get_or r.starts g 0) ≡ w + n + (ninth r - get_or r.starts (g + 1) 0) = omega (arith, up, top) in
      ap (λ (m : ℕ). ahead which m k rest) d
      ∙ still j (g + 1) (w + n) (omega arith) (omega (arith, a))
      ∙ wait_turn which r x g l k w (get_or r.starts g 0) (get_or r.starts (g + 1) 0) (get_or r.flags g 0) refl refl refl n 0 (sym (unpadded n)) (plain_pads n (get_or r.flags g 0) (omega (arith, a))) rest refl

  rest_waits : (g w left : ℕ) → g ≤ 8 → left ≡ number 256 (drop g r.flags) → left ≡ 0
      → ahead which (w + (ninth r - get_or r.starts g 0)) k rest ≡ ahead which w k (marks_at r g ++ rest)
  rest_waits g w left h e z = still (8 - g) g w (omega arith) (sym e ∙ z)

-- the walk came to the g-th group: what it goes on to write is what it had to write from the first group on
pub record On (which : Prefix) (r : Record) (out : List ℕ) (at w k g : ℕ) (out' : List ℕ) (at' w' k' : ℕ) : Type 0 where
  run : (rest : List Bool) → sets out' at' (ahead which w' k' (marks_at r g ++ rest)) ≡ sets out at (ahead which w k (marks_at r 0 ++ rest))
  entries : (rest : List Bool) → at' + length (ahead which w' k' (marks_at r g ++ rest)) ≡ at + length (ahead which w k (marks_at r 0 ++ rest))

pub first_on : (which : Prefix) (r : Record) (out : List ℕ) (at w k : ℕ) → On which r out at w k 0 out at w k
first_on which r out at w k = record { run = λ rest. refl; entries = λ rest. refl }

module _ (which : Prefix) (r : Record) (x : Laid r) (out : List ℕ) (at w k g : ℕ) (out' : List ℕ) (at' w' k' : ℕ) (o : On which r out at w k g out' at' w' k') where
  module _ (h : g < 8) (start end flag : ℕ) (a : start ≡ get_or r.starts g 0) (z : end ≡ get_or r.starts (g + 1) 0) (e : flag ≡ get_or r.flags g 0)
      (n p : ℕ) (en : n ≡ kept_in which (end - start) p) (ep : p ≡ pads_in (end - start) flag) where
    -- no padding
    pub wait_on : p ≡ 0 → On which r out at w k (g + 1) out' at' (w' + n) k'
    wait_on q =
        record {
          run = λ rest. ap (sets out' at') (wait_turn which r x g h k' w' start end flag a z e n p en ep rest q) ∙ o.run rest;
          entries = λ rest. ap (λ (es : List ℕ). at' + length es) (wait_turn which r x g h k' w' start end flag a z e n p en ep rest q) ∙ o.entries rest;
        }

    -- a padding: what waited is written
    pub run_on : p ≡ 1 → (out'' : List ℕ) → out'' ≡ sets out' at' (replicate (w' + n) k') → On which r out at w k (g + 1) out'' (at' + (w' + n)) 0 (k' + 1)
    run_on q out'' d =
        record {
          run = λ rest. run_turn which r x g h k' w' start end flag a z e n p en ep rest q out' out'' at' d ∙ o.run rest;
          entries = λ rest. entries_turn which r x g h k' w' start end flag a z e n p en ep rest q at' ∙ o.entries rest;
        }

  -- no flag is ahead: the rest of the batch waits
  pub last_on : (left : ℕ) → g ≤ 8 → left ≡ number 256 (drop g r.flags) → left ≡ 0 → (start end : ℕ) → start ≡ get_or r.starts g 0 → end ≡ ninth r
      → Goes which (marks_at r 0) (record { entries = at; waiting = w; paddings = k }) (record { entries = at'; waiting = w' + (end - start); paddings = k' }) out out'
  last_on left h d z start end a e =
      rw (a, e)
      (record {
        run = λ rest. ap (sets out' at') (rest_waits which r x k' rest g w' left h d z) ∙ o.run rest;
        entries = λ rest. ap (λ (es : List ℕ). at' + length es) (rest_waits which r x k' rest g w' left h d z) ∙ o.entries rest;
      })

-- where a flag is ahead there is a group, and where its starts lie
pub in_batch : (r : Record) → Laid r → (g left : ℕ) → left ≡ number 256 (drop g r.flags) → 0 < left
    → (g < 8) × (get_or r.starts g 0 ≤ get_or r.starts (g + 1) 0) × (get_or r.starts (g + 1) 0 ≤ 72)
in_batch r x g left e l =
    let w = x.width in
    let h = flagged w r x.sound x.flags g left e l in
    let up = rise w r x.sound x.starts g h in
    (h, up.0, omega (arith, below_ninth w r x.sound x.starts (g + 1) (omega arith), ninth_small w r x.sound x.starts))

-- and past the last group none is
pub none_ahead : (r : Record) → Laid r → (g left : ℕ) → left ≡ number 256 (drop g r.flags) → 8 ≤ g → left ≡ 0
none_ahead r x g zero e h = refl
none_ahead r x g (suc n) e h = absurd (omega (arith, in_batch r x g (suc n) e (omega arith)))

-- where the groups of a batch begin: none falls, and the last ends at 72 or before
pub rising : (s : List ℕ) (b : ℕ) → Fits (record_at s b) → (g : ℕ) → g < 8 → get_or (record_at s b).starts g 0 ≤ get_or (record_at s b).starts (g + 1) 0
rising s b f g h = let x = laid s b f in (rise x.width (record_at s b) x.sound x.starts g h).0

pub ending : (s : List ℕ) (b : ℕ) → Fits (record_at s b) → (g : ℕ) → g ≤ 8 → (get_or (record_at s b).starts g 0 ≤ get_or (record_at s b).starts 8 0) × (get_or (record_at s b).starts 8 0 ≤ 72)
ending s b f g h = let x = laid s b f in omega (arith, below_ninth x.width (record_at s b) x.sound x.starts g (omega arith), ninth_small x.width (record_at s b) x.sound x.starts)

-- ---- batch by batch

pub marks_next : (n : ℕ) (s : List ℕ) (b : ℕ) → b < n → marks (records_from (n - b) s b) ≡ marks_at (record_at s b) 0 ++ marks (records_from (n - (b + 1)) s (b + 1))
unfolding marks marks_at
marks_next n s b h = rw (records_turn n s b h)

pub marks_none : (n : ℕ) (s : List ℕ) (b : ℕ) → n ≤ b → marks (records_from (n - b) s b) ≡ []
unfolding marks
marks_none n s b h = rw (records_end n s b h)

-- the last entry
pub last_entry : (which : Prefix) (w k : ℕ) → ahead which w k [] ≡ replicate (w + 1) k
unfolding raw_entries padded_entries
last_entry PaddedToRaw w k = ends w k
last_entry RawToPadded w k = ends w k

-- ---- the whole answer

pub same_table : (which : Prefix) (a : Arena) → table_by which (block_in a) ≡ table_from which 0 (marks (records_in a.records))
unfolding raw_table padded_table block_in
same_table PaddedToRaw a = refl
same_table RawToPadded a = refl

pub table_then : (table : Block → List ℕ) (w : ℕ) (a : Arena) (room : ℕ)
    → table_of table w a room ≡ and_then (padding_checked w a) (refuse (ltb room (length (table (block_in a)))) 13 0 (good (table (block_in a))))
unfolding table_of padding_checked
table_then table w a room =
    let r = refuse (ltb room (length (table (block_in a)))) 13 0 (good (table (block_in a))) in
    let s = structure_faults w (block_in a) in
    let p = padding_faults (block_in a) in
    ap (λ (d : Answer (List ℕ)). refuse (not (within a)) 3 0 (refuse_first 0 s d)) (first_then 0 p (good tt) r)
    ∙ ap (refuse (not (within a)) 3 0) (first_then 0 s (refuse_first 0 p (good tt)) r)
    ∙ refuse_then (not (within a)) 3 0 (refuse_first 0 s (refuse_first 0 p (good tt))) r

-- ---- the ways out

module _ (which : Prefix) (width : ℕ) (a : Arena) (out : List ℕ) where
  abbrev answer : Answer (List ℕ)
  answer = table_of (table_by which) width a (length out)

  pub refused_way : (r : Refusal) (out' : List ℕ) → refused (number_of r) (place_of r) ≡ padding_checked width a → out' ≡ fitted (length out) (take 0 out) → Answered answer (Err r) out out'
  unfolding table_left
  refused_way r out' h z =
      rw (table_then (table_by which) width a (length out), ← h)
      (record { reply = refl; left = z })

  module _ (g : padding_checked width a ≡ good tt) (n : ℕ) (out' : List ℕ) (w : Filling (table_from which 0 (marks (records_in a.records))) n out out') where
    decided : answer ≡ refuse (ltb (length out) n) 13 0 (good (table_from which 0 (marks (records_in a.records))))
    decided =
        table_then (table_by which) width a (length out)
        ∙ went_on (padding_checked width a) _ g
        ∙ rw (same_table which a, w.entries)

    pub no_room : (end : List ℕ) → length out < n → length out' ≡ length out → end ≡ fitted (length out') (take 0 out') → Answered answer (Err NoRoom) out end
    unfolding table_left
    no_room end h l z = rw (decided, lt-ltb (length out) n h) (record { reply = refl; left = z ∙ ap (λ (k : ℕ). fitted k []) l })

    pub made : (end : List ℕ) → n ≤ length out → length out' ≡ length out → end ≡ fitted (length out') (take n out') → Answered answer (Ok n) out end
    unfolding table_left
    made end h l z =
        let table = table_from which 0 (marks (records_in a.records)) in
        let front : take (length table) out' ≡ table = ap (take (length table)) (w.run ∙ sets-eq table out 0 (omega (arith, w.entries))) ∙ take-append_seam table (drop (0 + length table) out) in
        rw (decided, le-ltb (length out) n h) (record { reply = ap good w.entries; left = z ∙ zeroed out out' table n l front w.entries })
