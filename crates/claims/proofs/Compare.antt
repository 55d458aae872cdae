-- The compare tool: nothing is reported exactly when two decoded blocks are one, swapping mirrors the report, and reports are short and fit. Assumes nothing.
use mathlib.Core.Path.{◌≡◌, refl, sym, ap, ap₂, ◌∙◌, subst}
use mathlib.Core.Bool.{Bool, true, false, cond}
use mathlib.Core.List.{List, [], ◌∷◌, ◌++◌, map, map-append, append-nil}
use mathlib.Core.Logic.{◌⊎◌, inl, inr}
use Prim.Native.Nat.{ℕ, zero, suc, ◌+◌, ◌-◌, ◌*◌, ◌≤◌, ◌<◌, min}
use native.Mathlib.Omega.{arith}
use borrow.Author.Tests.{ltb-true, ltb-false, lt-ltb, le-ltb, eqb-true, eqb-false, eq-eqb, ne_eqb}
use lib.IntN.{pos, negsuc, neg_ℤ, sub_ℕ, ◌+ℤ◌, ◌-ℤ◌}
use lib.Signed.{mag}
use lib.ListN.{length, take, drop, replicate, length-append, length-take, length-drop, length-map, take-append-drop}
use lib.Dec.{ltb, eqb}
use Rattle.rules.specs.Lists.{total, All}
use Rattle.rules.specs.Answer.{good, refused, Read, found}
use Rattle.rules.specs.Operations.{Op}
use Rattle.rules.specs.Record.{Record, Block, differences, starts_from, part, cut}
use Rattle.rules.specs.Block.{block_bytes}
use Rattle.rules.specs.Checks.{ninth, record_right, held_from, held, ends_in_noop, padding_right, padding_fault}
use Rattle.rules.specs.Lookups.{marks_in, marks_of, marks}
use Rattle.rules.specs.Strict.{own_list}
use Rattle.rules.specs.Functions.{most, decoded, Side, read_at, Compared, reported, refused_by, marked, compared}
use Rattle.rules.specs.Compare.{batch_total, padded_total, flags_set, paddings_in, padding_total, raw_total, Entry, entry_at, entry_by, unless, Whole, wholes_of, wholes, same_op, first_apart, batch_apart, batches_apart, total_apart, totals_apart, blocks_apart}
use Rattle.rules.proofs.Answer.{item}
use Rattle.rules.proofs.Operations.{true_left, true_right, true_both}
use Rattle.rules.proofs.Records.{Sized}
use Rattle.claims.specs.Demand3.{lent}
use Rattle.claims.specs.Finished.{Bytes}
use Rattle.claims.specs.Which.{Exactly}
use Rattle.claims.specs.Compare.{Takes, bytes_up_to, Agree, mirrored, mirrored_answer, Fits, Whose, first, second, short, Compare}
use Rattle.claims.proofs.Lists.{all_append, true_false}
use Rattle.claims.proofs.Sizes.{block_size}
use Rattle.claims.proofs.Found.{clash}
use Rattle.claims.proofs.Arena.{block_in_lem}
use Rattle.claims.proofs.ReadThenChecked.{at_most, Encodable, encodable}
use Rattle.claims.proofs.OwnList.{fit_length, decoded_fit}
use Rattle.claims.proofs.Demand3.{stood}
use Rattle.claims.proofs.Passes.{decode_passes}
use Rattle.claims.proofs.Checked.{no_cond, Made, made, no_padding_fault}
use Rattle.claims.proofs.Finished.{most_fits, finished}
use Rattle.claims.proofs.Shapes.{free, free_is}
use Rattle.claims.proofs.FirstDifference.{free_append}

-- ---- lists and tests

module _ {A : Type 0} where
  not_none : (x : A) (xs : List A) → x ∷ xs ≡ [] → ⊥
  not_none x xs h = let z : ◌≡◌ {A = ℕ} 0 1 = cc in omega arith

  -- a list put together of two is empty where both are
  none_both : (xs ys : List A) → xs ++ ys ≡ [] → (xs ≡ []) × (ys ≡ [])
  none_both [] ys h = (refl, h)
  none_both (x ∷ xs) ys h = absurd (not_none x (xs ++ ys) h)

eqb_swap : (m n : ℕ) → eqb m n ≡ eqb n m
eqb_swap m n = go (eqb n m) refl
  where
    go : (t : Bool) → eqb n m ≡ t → eqb m n ≡ t
    go true e = eq-eqb m n (sym (eqb-true n m e))
    go false e = ne_eqb m n (λ h. eqb-false n m e (sym h))

op_is : (x y : Op) → same_op x y ≡ true → x ≡ y
unfolding same_op
op_is x y h =
    let c = eqb x.code y.code in
    let v = eqb x.value y.value in
    let e = eqb-true x.code y.code (true_left c v h) in
    let f = eqb-true x.value y.value (true_right c v h) in
    λ j. record { code = e j; value = f j }

op_self : (x : Op) → same_op x x ≡ true
unfolding same_op
op_self x = true_both (eqb x.code x.code) (eqb x.value x.value) (eq-eqb x.code x.code refl) (eq-eqb x.value x.value refl)

op_swap : (x y : Op) → same_op x y ≡ same_op y x
unfolding same_op
op_swap x y = rw (eqb_swap x.code y.code, eqb_swap x.value y.value)

-- ---- second minus first

sub_is : (m n : ℕ) → pos m +ℤ sub_ℕ n m ≡ pos n
sub_is m n = go (ltb n m) refl
  where
    go : (t : Bool) → ltb n m ≡ t → pos m +ℤ cond t (negsuc (m - suc n)) (pos (n - m)) ≡ pos n
    go true e =
        let l = ltb-true n m e in
        let d : m - suc (m - suc n) ≡ n = omega arith in
        rw (le-ltb m (suc (m - suc n)) (omega arith), d)
    go false e =
        let l = ltb-false n m e in
        let d : m + (n - m) ≡ n = omega arith in
        rw d

pub minus_is : (m n : ℕ) → pos n -ℤ pos m ≡ sub_ℕ n m
minus_is zero n = let e : n + 0 ≡ n - 0 = omega arith in rw (e, le-ltb n 0 (omega arith))
minus_is (suc m) n = refl

sub_swap : (m n : ℕ) → sub_ℕ m n ≡ neg_ℤ (sub_ℕ n m)
sub_swap m n = go (n - m) (m - n) refl refl
  where
    go : (u v : ℕ) → n - m ≡ u → m - n ≡ v → sub_ℕ m n ≡ neg_ℤ (sub_ℕ n m)
    go zero zero e f = rw (le-ltb m n (omega arith), le-ltb n m (omega arith), e, f)
    go zero (suc v) e f =
        let s : m - suc n ≡ v = omega arith in
        rw (le-ltb m n (omega arith), lt-ltb n m (omega arith), f, s)
    go (suc u) zero e f =
        let s : n - suc m ≡ u = omega arith in
        rw (lt-ltb m n (omega arith), le-ltb n m (omega arith), e, s)
    go (suc u) (suc v) e f = absurd (omega arith)

pub sub_small : (m n : ℕ) → m < 2147483648 → n < 2147483648 → mag (sub_ℕ n m) < 2147483648
sub_small m n h k = go (ltb n m)
  where
    go : (t : Bool) → mag (cond t (negsuc (m - suc n)) (pos (n - m))) < 2147483648
    go true = omega arith
    go false = omega arith

-- ---- the first place apart: what holds of no entry and of one holds of it, with the lists and with the lists swapped

module _ {A : Type 0} (same : A → A → Bool) (kind b : ℕ) where
  first_by : (P : List Entry → List Entry → Type 0) → ((x y : A) → same x y ≡ same y x) → P [] [] → (i n : ℕ) → ((j : ℕ) → j < n → P (entry_at kind b j ∷ []) (entry_at kind b j ∷ []))
      → (xs ys : List A) → i + length xs ≤ n → P (first_apart same kind b i xs ys) (first_apart same kind b i ys xs)
  unfolding first_apart
  first_by P f z i n s [] [] l = z
  first_by P f z i n s [] (y ∷ ys) l = z
  first_by P f z i n s (x ∷ xs) [] l = z
  first_by P f z i n s (x ∷ xs) (y ∷ ys) l = rw (f y x) (go (same x y) (first_by P f z (i + 1) n s xs ys (omega arith)))
    where
      go : (t : Bool) → P (first_apart same kind b (i + 1) xs ys) (first_apart same kind b (i + 1) ys xs)
          → P (cond t (first_apart same kind b (i + 1) xs ys) (entry_at kind b i ∷ [])) (cond t (first_apart same kind b (i + 1) ys xs) (entry_at kind b i ∷ []))
      go true h = h
      go false h = s i (omega arith)

  first_none : ((x y : A) → same x y ≡ true → x ≡ y) → (i : ℕ) (xs ys : List A) → length xs ≡ length ys → first_apart same kind b i xs ys ≡ [] → xs ≡ ys
  unfolding first_apart
  first_none f i [] [] l h = refl
  first_none f i [] (y ∷ ys) l h = absurd (omega arith)
  first_none f i (x ∷ xs) [] l h = absurd (omega arith)
  first_none f i (x ∷ xs) (y ∷ ys) l h = go (same x y) refl h (λ k. first_none f (i + 1) xs ys (omega arith) k)
    where
      go : (t : Bool) → same x y ≡ t → cond t (first_apart same kind b (i + 1) xs ys) (entry_at kind b i ∷ []) ≡ [] → (first_apart same kind b (i + 1) xs ys ≡ [] → xs ≡ ys) → x ∷ xs ≡ y ∷ ys
      go true e k ih = ap₂ (λ (z : A) (l : List A). z ∷ l) (f x y e) (ih k)
      go false e k ih = absurd (not_none (entry_at kind b i) [] k)

  first_self : ((x : A) → same x x ≡ true) → (i : ℕ) (xs : List A) → first_apart same kind b i xs xs ≡ []
  unfolding first_apart
  first_self f i [] = refl
  first_self f i (x ∷ xs) = rw (f x) (first_self f (i + 1) xs)

-- ---- an entry unless two are the same

unless_by : (P : List Entry → List Entry → Type 0) (e f : Entry) → P [] [] → P (e ∷ []) (f ∷ []) → (m n : ℕ) → P (unless (eqb m n) e) (unless (eqb n m) f)
unfolding unless
unless_by P e f z s m n = rw (eqb_swap n m) (go (eqb m n))
  where
    go : (t : Bool) → P (cond t [] (e ∷ [])) (cond t [] (f ∷ []))
    go true = z
    go false = s

unless_none : (e : Entry) (m n : ℕ) → unless (eqb m n) e ≡ [] → m ≡ n
unfolding unless
unless_none e m n h = go (eqb m n) refl h
  where
    go : (t : Bool) → eqb m n ≡ t → cond t [] (e ∷ []) ≡ [] → m ≡ n
    go true k l = eqb-true m n k
    go false k l = absurd (not_none e [] l)

unless_self : (e : Entry) (n : ℕ) → unless (eqb n n) e ≡ []
unfolding unless
unless_self e n = rw (eq-eqb n n refl)

pub total_self : (kind n : ℕ) → total_apart kind n n ≡ []
unfolding total_apart
total_self kind n = unless_self _ n

-- ---- a report of at most n entries, and that of the blocks swapped

record Mirrors (n : ℕ) (es fs : List Entry) : Type 0 where
  few : length es ≤ n
  is : fs ≡ map mirrored es

join : {m n : ℕ} {es fs gs hs : List Entry} → Mirrors m es fs → Mirrors n gs hs → Mirrors (m + n) (es ++ gs) (fs ++ hs)
join {m} {n} {es} {fs} {gs} {hs} a b =
    record { few = omega (arith, length-append es gs, a.few, b.few); is = ap₂ (λ (u v : List Entry). u ++ v) a.is b.is ∙ sym (map-append mirrored es gs) }

no_entry : Mirrors 1 [] []
no_entry = record { few = omega arith; is = refl }

module _ {A : Type 0} (same : A → A → Bool) (kind b : ℕ) where
  first_mirrors : ((x y : A) → same x y ≡ same y x) → eqb kind 6 ≡ false → (xs ys : List A) → Mirrors 1 (first_apart same kind b 0 xs ys) (first_apart same kind b 0 ys xs)
  first_mirrors f k xs ys = first_by same kind b (Mirrors 1) f no_entry 0 (length xs) (λ j l. record { few = omega arith; is = rw k }) xs ys (omega arith)

total_mirrors : (kind m n : ℕ) → eqb kind 6 ≡ false → Mirrors 1 (total_apart kind m n) (total_apart kind n m)
unfolding total_apart
total_mirrors kind m n k =
    unless_by (Mirrors 1) (entry_by kind (sub_ℕ n m)) (entry_by kind (sub_ℕ m n)) no_entry (record { few = omega arith; is = rw (k, sub_swap m n) }) m n

batch_mirrors : (b : ℕ) (p q : Whole) → Mirrors 5 (batch_apart b p q) (batch_apart b q p)
unfolding batch_apart
batch_mirrors b p q =
    join (first_mirrors eqb 1 b eqb_swap refl p.batch.numbers q.batch.numbers)
    (join (first_mirrors eqb 2 b eqb_swap refl p.batch.flags q.batch.flags)
    (join (first_mirrors eqb 3 b eqb_swap refl (differences p.batch.starts) (differences q.batch.starts))
    (join (first_mirrors same_op 4 b op_swap refl p.ops q.ops)
    (unless_by (Mirrors 1) (entry_at 5 b 0) (entry_at 5 b 0) no_entry (record { few = omega arith; is = refl }) p.batch.count q.batch.count))))

batches_mirror : (b : ℕ) (ps qs : List Whole) → Mirrors (5 * min (length ps) (length qs) + (length ps - length qs) + (length qs - length ps)) (batches_apart b ps qs) (batches_apart b qs ps)
unfolding batches_apart
batches_mirror b [] [] = record { few = omega arith; is = refl }
batches_mirror b [] (q ∷ qs) = let h = batches_mirror (b + 1) [] qs in record { few = omega (arith, h.few); is = ap (λ (l : List Entry). entry_at 6 b 2 ∷ l) h.is }
batches_mirror b (p ∷ ps) [] = let h = batches_mirror (b + 1) ps [] in record { few = omega (arith, h.few); is = ap (λ (l : List Entry). entry_at 6 b 1 ∷ l) h.is }
batches_mirror b (p ∷ ps) (q ∷ qs) = let h = join (batch_mirrors b p q) (batches_mirror (b + 1) ps qs) in record { few = omega (arith, h.few); is = h.is }

wholes_many : (rs : List Record) (xs : List Op) → length (wholes_of rs xs) ≡ length rs
unfolding wholes_of
wholes_many [] xs = refl
wholes_many (r ∷ rs) xs = ap suc (wholes_many rs (drop (ninth r) xs))

module _ (a b : Block) where
  abbrev most_batches : ℕ
  most_batches = 5 * min (length a.records) (length b.records) + (length a.records - length b.records) + (length b.records - length a.records)

  -- three totals, and the batches' own where they differ
  totals_mirror : Mirrors (length (total_apart 7 (batch_total a) (batch_total b)) + 3) (totals_apart a b) (totals_apart b a)
  unfolding totals_apart
  totals_mirror =
      let t = total_apart 7 (batch_total a) (batch_total b) in
      let z : Mirrors (length t) t (total_apart 7 (batch_total b) (batch_total a)) = record { few = omega arith; is = (total_mirrors 7 (batch_total a) (batch_total b) refl).is } in
      join z
      (join (total_mirrors 8 (padded_total a) (padded_total b) refl) (join (total_mirrors 9 (raw_total a) (raw_total b) refl) (total_mirrors 10 (padding_total a) (padding_total b) refl)))

  blocks_mirror : Mirrors (most_batches + (length (total_apart 7 (batch_total a) (batch_total b)) + 3)) (blocks_apart a b) (blocks_apart b a)
  unfolding blocks_apart
  blocks_mirror = join (rw (wholes_many a.records a.ops, wholes_many b.records b.ops) at (batches_mirror 0 (wholes a) (wholes b))) totals_mirror

  blocks_most : length (blocks_apart a b) ≤ most_batches + 4
  blocks_most = omega (arith, blocks_mirror.few, (total_mirrors 7 (batch_total a) (batch_total b) refl).few)

  as_many : length a.records ≡ length b.records → length (total_apart 7 (batch_total a) (batch_total b)) ≡ 0
  unfolding batch_total
  as_many z = rw (z, total_self 7 (length b.records))

  blocks_longest : length a.records ≤ 16384 → length b.records ≤ 16384 → length (blocks_apart a b) ≤ 81923
  blocks_longest h k = go (eqb (length a.records) (length b.records)) refl
    where
      go : (t : Bool) → eqb (length a.records) (length b.records) ≡ t → length (blocks_apart a b) ≤ 81923
      go true e = let z = eqb-true (length a.records) (length b.records) e in omega (arith, as_many z, blocks_mirror.few)
      go false e = let z = eqb-false (length a.records) (length b.records) e in omega (arith, blocks_most)

-- ---- a block and itself

batch_self : (b : ℕ) (p : Whole) → batch_apart b p p ≡ []
unfolding batch_apart
batch_self b p =
    rw (
      first_self eqb 1 b (λ n. eq-eqb n n refl) 0 p.batch.numbers,
      first_self eqb 2 b (λ n. eq-eqb n n refl) 0 p.batch.flags,
      first_self eqb 3 b (λ n. eq-eqb n n refl) 0 (differences p.batch.starts),
      first_self same_op 4 b op_self 0 p.ops,
      unless_self (entry_at 5 b 0) p.batch.count,
    )

batches_self : (b : ℕ) (ps : List Whole) → batches_apart b ps ps ≡ []
unfolding batches_apart
batches_self b [] = refl
batches_self b (p ∷ ps) = rw (batch_self b p) (batches_self (b + 1) ps)

blocks_self : (a : Block) → blocks_apart a a ≡ []
unfolding blocks_apart totals_apart
blocks_self a = rw (batches_self 0 (wholes a), total_self 7 (batch_total a), total_self 8 (padded_total a), total_self 9 (raw_total a), total_self 10 (padding_total a))

-- ---- blocks that do not differ

module _ (w : ℕ) where
  record_is : (r q : Record) → Made w r → Made w q → r.numbers ≡ q.numbers → r.flags ≡ q.flags → differences r.starts ≡ differences q.starts → r.count ≡ q.count → r ≡ q
  record_is r q m n a b c d = let e = sym m.starts ∙ (ap (starts_from 0) c ∙ n.starts) in λ j. record { starts = e j; flags = b j; numbers = a j; count = d j }

  batch_none : (b : ℕ) (p q : Whole) → Made w p.batch → Made w q.batch → length p.ops ≡ ninth p.batch → length q.ops ≡ ninth q.batch → batch_apart b p q ≡ []
      → (p.batch ≡ q.batch) × (p.ops ≡ q.ops)
  unfolding batch_apart
  batch_none b p q m n k l h =
      let h₁ = none_both (first_apart eqb 1 b 0 p.batch.numbers q.batch.numbers) _ h in
      let h₂ = none_both (first_apart eqb 2 b 0 p.batch.flags q.batch.flags) _ h₁.1 in
      let h₃ = none_both (first_apart eqb 3 b 0 (differences p.batch.starts) (differences q.batch.starts)) _ h₂.1 in
      let h₄ = none_both (first_apart same_op 4 b 0 p.ops q.ops) _ h₃.1 in
      let e₁ = first_none eqb 1 b eqb-true 0 p.batch.numbers q.batch.numbers (m.shaped.numbers ∙ sym n.shaped.numbers) h₁.0 in
      let e₂ = first_none eqb 2 b eqb-true 0 p.batch.flags q.batch.flags (m.shaped.flags ∙ sym n.shaped.flags) h₂.0 in
      let e₃ = first_none eqb 3 b eqb-true 0 (differences p.batch.starts) (differences q.batch.starts) (m.many ∙ sym n.many) h₃.0 in
      let e = record_is p.batch q.batch m n e₁ e₂ e₃ (unless_none _ p.batch.count q.batch.count h₄.1) in
      (e, first_none same_op 4 b op_is 0 p.ops q.ops (k ∙ (ap ninth e ∙ sym l)) h₄.0)

  batches_none : (b : ℕ) (rs qs : List Record) (xs ys : List Op) → All (Made w) rs → All (Made w) qs → total (map ninth rs) ≡ length xs → total (map ninth qs) ≡ length ys
      → batches_apart b (wholes_of rs xs) (wholes_of qs ys) ≡ [] → (rs ≡ qs) × (xs ≡ ys)
  unfolding batches_apart wholes_of total
  batches_none b [] [] [] [] m n k l h = (refl, refl)
  batches_none b [] [] [] (y ∷ ys) m n k l h = absurd (omega arith)
  batches_none b [] [] (x ∷ xs) ys m n k l h = absurd (omega arith)
  batches_none b [] (q ∷ qs) xs ys m n k l h = absurd (not_none (entry_at 6 b 1) _ h)
  batches_none b (r ∷ rs) [] xs ys m n k l h = absurd (not_none (entry_at 6 b 2) _ h)
  batches_none b (r ∷ rs) (q ∷ qs) xs ys m n k l h =
      let p₁ : Whole = record { batch = r; ops = take (ninth r) xs } in
      let p₂ : Whole = record { batch = q; ops = take (ninth q) ys } in
      let g = none_both (batch_apart b p₁ p₂) _ h in
      let one = batch_none b p₁ p₂ m.0 n.0 (omega (arith, length-take (ninth r) xs)) (omega (arith, length-take (ninth q) ys)) g.0 in
      let ih = batches_none (b + 1) rs qs (drop (ninth r) xs) (drop (ninth q) ys) m.1 n.1 (omega (arith, length-drop (ninth r) xs)) (omega (arith, length-drop (ninth q) ys)) g.1 in (
        ap₂ (λ (z : Record) (l : List Record). z ∷ l) one.0 ih.0,
        sym (take-append-drop (ninth r) xs) ∙ (ap₂ (λ (u v : List Op). u ++ v) one.1 ih.1 ∙ take-append-drop (ninth q) ys),
      )

-- ---- entries fit

fits_at : (kind b i : ℕ) → (1 ≤ kind) × (kind ≤ 10) → b < 16384 → i < 72 → All Fits (entry_at kind b i ∷ [])
fits_at kind b i k l m = (record { kind = k; batch = l; place = m; difference = omega arith }, tt)

first_fits : {A : Type 0} (same : A → A → Bool) (kind b : ℕ) → ((x y : A) → same x y ≡ same y x) → (1 ≤ kind) × (kind ≤ 10) → b < 16384 → (xs ys : List A) → length xs ≤ 72 → All Fits (first_apart same kind b 0 xs ys)
first_fits same kind b f k l xs ys h = first_by same kind b (λ es fs. All Fits es) f tt 0 72 (λ j m. fits_at kind b j k l m) xs ys (omega arith)

total_fits : (kind m n : ℕ) → (1 ≤ kind) × (kind ≤ 10) → m < 2147483648 → n < 2147483648 → All Fits (total_apart kind m n)
unfolding total_apart
total_fits kind m n k h l =
    let e = entry_by kind (sub_ℕ n m) in
    unless_by (λ es fs. All Fits es) e e tt (record { kind = k; batch = omega arith; place = omega arith; difference = sub_small m n h l }, tt) m n

nine_each : (ns : List ℕ) → All (λ n. n ≤ 9) ns → total ns ≤ 9 * length ns
unfolding total
nine_each [] h = omega arith
nine_each (n ∷ ns) h = omega (arith, h.0, nine_each ns h.1)

module _ (w : ℕ) where
  batch_fits : (b : ℕ) (p q : Whole) → Made w p.batch → length p.ops ≤ 72 → b < 16384 → All Fits (batch_apart b p q)
  unfolding batch_apart
  batch_fits b p q m n h =
      all_append Fits (first_apart eqb 1 b 0 p.batch.numbers q.batch.numbers) _ (first_fits eqb 1 b eqb_swap (omega arith, omega arith) h p.batch.numbers q.batch.numbers (omega (arith, m.shaped.numbers)))
      (all_append Fits (first_apart eqb 2 b 0 p.batch.flags q.batch.flags) _ (first_fits eqb 2 b eqb_swap (omega arith, omega arith) h p.batch.flags q.batch.flags (omega (arith, m.shaped.flags)))
      (all_append Fits (first_apart eqb 3 b 0 (differences p.batch.starts) (differences q.batch.starts)) _ (first_fits eqb 3 b eqb_swap (omega arith, omega arith) h (differences p.batch.starts) (differences q.batch.starts) (omega (arith, m.many)))
      (all_append Fits (first_apart same_op 4 b 0 p.ops q.ops) _ (first_fits same_op 4 b op_swap (omega arith, omega arith) h p.ops q.ops n)
      (unless_by (λ es fs. All Fits es) (entry_at 5 b 0) (entry_at 5 b 0) tt (fits_at 5 b 0 (omega arith, omega arith) h (omega arith)) p.batch.count q.batch.count))))

  batches_fit : (b : ℕ) (rs qs : List Record) (xs ys : List Op) → All (Made w) rs → b + length rs ≤ 16384 → b + length qs ≤ 16384 → All Fits (batches_apart b (wholes_of rs xs) (wholes_of qs ys))
  unfolding batches_apart wholes_of
  batches_fit b [] [] xs ys m k l = tt
  batches_fit b [] (q ∷ qs) xs ys m k l = ((fits_at 6 b 1 (omega arith, omega arith) (omega arith) (omega arith)).0, batches_fit (b + 1) [] qs xs (drop (ninth q) ys) tt (omega arith) (omega arith))
  batches_fit b (r ∷ rs) [] xs ys m k l = ((fits_at 6 b 2 (omega arith, omega arith) (omega arith) (omega arith)).0, batches_fit (b + 1) rs [] (drop (ninth r) xs) ys m.1 (omega arith) (omega arith))
  batches_fit b (r ∷ rs) (q ∷ qs) xs ys m k l =
      let p₁ : Whole = record { batch = r; ops = take (ninth r) xs } in
      let p₂ : Whole = record { batch = q; ops = take (ninth q) ys } in
      let few : length (take (ninth r) xs) ≤ 72 = omega (arith, length-take (ninth r) xs, m.0.sum, m.0.many, nine_each (differences r.starts) m.0.small) in
      all_append Fits (batch_apart b p₁ p₂) _ (batch_fits b p₁ p₂ m.0 few (omega arith)) (batches_fit (b + 1) rs qs (drop (ninth r) xs) (drop (ninth q) ys) m.1 (omega arith) (omega arith))

-- ---- operations that have no mark, and paddings

plain_free : (n : ℕ) (m : Bool) → free (replicate n false ++ (m ∷ [])) ≡ n + free (m ∷ [])
plain_free zero m = omega arith
plain_free (suc n) m = omega (arith, plain_free n m)

module _ (xs : List Op) where
  -- a flagged group has an operation
  group_free : (n f at : ℕ) → f ≤ 1 → cond (eqb f 0) true (ends_in_noop (part n xs at)) ≡ true → free (marks_in n f) + cond (eqb f 0) 0 1 ≡ n
  unfolding marks_in ends_in_noop
  group_free zero zero at l h = refl
  group_free zero (suc zero) at l h = absurd (true_false (sym h))
  group_free (suc n) zero at l h = omega (arith, plain_free n false)
  group_free (suc n) (suc zero) at l h = omega (arith, plain_free n true)
  group_free n (suc (suc f)) at l h = absurd (omega arith)

  groups_free : (ns fs : List ℕ) (c at : ℕ) → length ns ≡ length fs → total (drop c ns) ≡ 0 → All (λ f. f ≤ 1) fs → padding_right (take c (cut ns xs at)) fs ≡ true
      → free (marks_of ns fs) + flags_set (take c fs) ≡ total ns
  unfolding total cut padding_right marks_of marks_in flags_set
  groups_free [] [] zero at l z b h = refl
  groups_free [] [] (suc c) at l z b h = refl
  groups_free [] (f ∷ fs) c at l z b h = absurd (omega arith)
  groups_free (n ∷ ns) [] c at l z b h = absurd (omega arith)
  groups_free (zero ∷ ns) (f ∷ fs) zero at l z b h = omega (arith, groups_free ns fs 0 at (omega arith) (omega arith) b.1 refl)
  groups_free (suc n ∷ ns) (f ∷ fs) zero at l z b h = absurd (omega arith)
  groups_free (n ∷ ns) (f ∷ fs) (suc c) at l z b h =
      let g = cond (eqb f 0) true (ends_in_noop (part n xs at)) in
      let r = padding_right (take c (cut ns xs (at + n))) fs in
      omega (arith, free_append (marks_in n f) (marks_of ns fs), group_free n f at b.0 (true_left g r h), groups_free ns fs c (at + n) (omega arith) z b.1 (true_right g r h))

  records_free : (w : ℕ) (rs : List Record) (at : ℕ) → All (Made w) rs → All (λ h. padding_fault h ≡ 0) (held_from rs xs at) → free (marks rs) + total (map paddings_in rs) ≡ total (map ninth rs)
  unfolding held_from padding_fault paddings_in total marks
  records_free w [] at m h = refl
  records_free w (r ∷ rs) at m h =
      let ns = differences r.starts in
      let o = m.0 in
      let one = groups_free ns r.flags r.count at (o.many ∙ sym o.shaped.flags) o.rest (at_most 1 r.flags o.bits) (no_cond _ 9 h.0) in
      omega (arith, free_append (marks_of ns r.flags) (marks rs), one, o.sum, records_free w rs (at + ninth r) m.1 h.1)

-- ---- decoded blocks

all_made : (w : ℕ) → w ≤ 8 → (rs : List Record) → All (λ r. record_right w r ≡ true) rs → All Sized rs → All (Made w) rs
all_made w w8 [] h k = tt
all_made w w8 (r ∷ rs) h k = (made w w8 r k.0.whole h.0, all_made w w8 rs h.1 k.1)

module _ (w : ℕ) (w8 : w ≤ 8) where
  module _ (x : Side) (a : Block) (next : ℕ) (h : Takes w x a next) where
    able : Encodable w x.table a
    able = encodable w x.table x.bytes x.at x.room a next h

    solid : All (Made w) a.records
    solid = all_made w w8 a.records able.right able.sized

    unpadded : free (marks a.records) + padding_total a ≡ padded_total a
    unfolding padding_total padded_total held
    unpadded =
        let p = decode_passes w x.table x.bytes x.at x.room a next h in
        let f : All (λ h. padding_fault h ≡ 0) (held a) = rw (block_in_lem a able.sized) at (no_padding_fault w (lent a) p.padding) in
        records_free a.ops w a.records 0 solid f ∙ able.sum

    raw_is : raw_total a + padding_total a ≡ padded_total a
    unfolding raw_total
    raw_is = omega (arith, unpadded)

    own_is : raw_total a ≡ length (own_list a)
    unfolding raw_total
    own_is =
        let ms = marks a.records in
        omega (arith, unpadded, free_is ms a.ops (fit_length ms a.ops (decoded_fit w x.table x.bytes x.at x.room a next h)))

    -- its bytes say it, by themselves
    alone : Bytes x.bytes → decoded w x.table (block_bytes x.table a ++ []) 0 most ≡ found a (0 + length (block_bytes x.table a))
    alone bytes =
        let c = block_bytes x.table a in
        let l : length (c ++ []) ≤ 1048576 = rw (append-nil c) (omega (arith, block_size x.table a able.few able.less)) in
        (finished w w8 x.table x.bytes bytes x.at x.room a next h).anywhere [] [] most l (most_fits a able.few able.less)

  module _ (x y : Side) (a b : Block) (next₁ next₂ : ℕ) (h : Takes w x a next₁) (k : Takes w y b next₂) where
    one_block : blocks_apart a b ≡ [] → a ≡ b
    unfolding blocks_apart
    one_block e =
        let q = batches_none w 0 a.records b.records a.ops b.ops (solid x a next₁ h) (solid y b next₂ k) (able x a next₁ h).sum (able y b next₂ k).sum (none_both _ (totals_apart a b) e).0 in
        λ j. record { ops = q.1 j; records = q.0 j }

    exactly : Exactly (blocks_apart a b ≡ []) (a ≡ b)
    exactly = (one_block, λ e. rw e (blocks_self b))

    same_bytes : x.table ≡ y.table → Bytes x.bytes → Bytes y.bytes → Exactly (blocks_apart a b ≡ []) (bytes_up_to x next₁ ≡ bytes_up_to y next₂)
    same_bytes t bx cy =
        let e = stood w x.table x.bytes bx x.at x.room a next₁ h in
        let f = stood w y.table y.bytes cy y.at y.room b next₂ k in (
          λ z. e ∙ (ap₂ (λ (t : List ℕ) (c : Block). block_bytes t c) t (one_block z) ∙ sym f),
          λ z. exactly.1 (item a b _ _ (sym (alone x a next₁ h bx) ∙ (ap₂ (λ (t c : List ℕ). decoded w t (c ++ []) 0 most) t (sym e ∙ (z ∙ f)) ∙ alone y b next₂ k cy))),
        )

    its_length : length (blocks_apart a b) ≤ 81923
    its_length = blocks_longest a b (able x a next₁ h).less (able y b next₂ k).less

    has_room : (room : ℕ) → 81923 ≤ room → compared w x y room ≡ reported (blocks_apart a b)
    unfolding compared
    has_room room l = rw (h, k, le-ltb room (length (blocks_apart a b)) (omega (arith, its_length)))

    all_fit : All Fits (blocks_apart a b)
    unfolding blocks_apart totals_apart batch_total padded_total
    all_fit =
        let e = able x a next₁ h in
        let f = able y b next₂ k in
        let u : (padding_total a ≤ 65535) × (raw_total a ≤ 65535) = (omega (arith, e.few, raw_is x a next₁ h), omega (arith, e.few, raw_is x a next₁ h)) in
        let v : (padding_total b ≤ 65535) × (raw_total b ≤ 65535) = (omega (arith, f.few, raw_is y b next₂ k), omega (arith, f.few, raw_is y b next₂ k)) in
        all_append Fits (batches_apart 0 (wholes a) (wholes b)) _ (batches_fit w 0 a.records b.records a.ops b.ops (solid x a next₁ h) (omega (arith, e.less)) (omega (arith, f.less)))
        (all_append Fits (total_apart 7 (length a.records) (length b.records)) _ (total_fits 7 (length a.records) (length b.records) (omega arith, omega arith) (omega (arith, e.less)) (omega (arith, f.less)))
        (all_append Fits (total_apart 8 (length a.ops) (length b.ops)) _ (total_fits 8 (length a.ops) (length b.ops) (omega arith, omega arith) (omega (arith, e.few)) (omega (arith, f.few)))
        (all_append Fits (total_apart 9 (raw_total a) (raw_total b)) _ (total_fits 9 (raw_total a) (raw_total b) (omega arith, omega arith) (omega (arith, u.1)) (omega (arith, v.1)))
        (total_fits 10 (padding_total a) (padding_total b) (omega arith, omega arith) (omega (arith, u.0)) (omega (arith, v.0))))))

  -- ---- the answer

  -- what an answer of entries says: both are taken, and these are theirs
  record Both (x y : Side) (es : List Entry) : Type 0 where
    a : Block
    b : Block
    next₁ : ℕ
    next₂ : ℕ
    first : Takes w x a next₁
    second : Takes w y b next₂
    is : es ≡ blocks_apart a b

  abbrev both : Read Block → Read Block → ℕ → Compared
  both d e room = marked 1 d (λ a. marked 2 e (λ b. cond (ltb room (length (blocks_apart a b))) (refused_by 0 13 0) (reported (blocks_apart a b))))

  module _ (x y : Side) (room : ℕ) where
    abbrev Tells : Compared → Type 0
    Tells (reported es) = Both x y es
    Tells (refused_by m n p) = Whose w x y room m n p

    tells : Tells (compared w x y room)
    unfolding compared
    tells = go (read_at w x) refl (read_at w y) refl
      where
        last : (a b : Block) (next₁ next₂ : ℕ) → Takes w x a next₁ → Takes w y b next₂ → (t : Bool) → ltb room (length (blocks_apart a b)) ≡ t → Tells (cond t (refused_by 0 13 0) (reported (blocks_apart a b)))
        last a b next₁ next₂ h k true e = short a b next₁ next₂ h k (ltb-true room (length (blocks_apart a b)) e)
        last a b next₁ next₂ h k false e = record { a = a; b = b; next₁ = next₁; next₂ = next₂; first = h; second = k; is = refl }

        go : (d : Read Block) → read_at w x ≡ d → (e : Read Block) → read_at w y ≡ e → Tells (both d e room)
        go (refused n p) h e k = first h
        go (good i) h (refused n p) k = second i.item i.next h k
        go (good i) h (good j) k = last i.item j.item i.next j.next h k (ltb room (length (blocks_apart i.item j.item))) refl

    agreeing : Exactly (compared w x y room ≡ reported []) (Agree w x y)
    unfolding compared
    agreeing = (λ h. only (subst Tells h tells), λ g. rw (g.first, g.second, blocks_self g.block, le-ltb room 0 (omega arith)))
      where
        only : Both x y [] → Agree w x y
        only g =
            let e : g.a ≡ g.b = one_block x y g.a g.b g.next₁ g.next₂ g.first g.second (sym g.is) in
            record { block = g.a; next₁ = g.next₁; next₂ = g.next₂; first = g.first; second = g.second ∙ ap (λ (c : Block). found c g.next₂) (sym e) }

    whose : (m n p : ℕ) → Whose w x y room m n p → compared w x y room ≡ refused_by m n p
    unfolding compared
    whose m n p (first h) = rw h
    whose m n p (second a next h k) = rw (h, k)
    whose m n p (short a b next₁ next₂ h k l) = rw (h, k, lt-ltb room (length (blocks_apart a b)) l)

  both_swap : (d e : Read Block) (room next : ℕ) (a : Block) → (d ≡ found a next) ⊎ (e ≡ found a next) → both e d room ≡ mirrored_answer (both d e room)
  both_swap (good i) (good j) room next a h = rw ((blocks_mirror i.item j.item).is, length-map (blocks_apart i.item j.item) mirrored) (go (ltb room (length (blocks_apart i.item j.item))))
    where
      go : (t : Bool) → cond t (refused_by 0 13 0) (reported (map mirrored (blocks_apart i.item j.item))) ≡ mirrored_answer (cond t (refused_by 0 13 0) (reported (blocks_apart i.item j.item)))
      go true = refl
      go false = refl
  both_swap (good i) (refused n p) room next a h = refl
  both_swap (refused n p) (good j) room next a h = refl
  both_swap (refused n p) (refused m q) room next a (inl h) = absurd (clash n p a next h)
  both_swap (refused n p) (refused m q) room next a (inr h) = absurd (clash m q a next h)

  swapped : (x y : Side) (room : ℕ) (a : Block) (next : ℕ) → Takes w x a next ⊎ Takes w y a next → compared w y x room ≡ mirrored_answer (compared w x y room)
  unfolding compared
  swapped x y room a next h = both_swap (read_at w x) (read_at w y) room next a h

  pub compare : Compare w
  compare =
      record {
        nothing = exactly;
        answer = agreeing;
        bytes = λ x y t bx cy a b next₁ next₂ h k. same_bytes x y a b next₁ next₂ h k t bx cy;
        itself = blocks_self;
        swap = λ a b. (blocks_mirror a b).is;
        swap_answer = swapped;
        refusals = λ x y room m n p. (λ h. subst (Tells x y room) h (tells x y room), whose x y room m n p);
        length_most = blocks_most;
        longest = its_length;
        enough = λ x y room l a b next₁ next₂ h k. has_room x y a b next₁ next₂ h k room l;
        fits = all_fit;
        raw = raw_is;
        own = own_is;
        difference = sub_is;
        minus = minus_is;
      }
