-- What the checks say of an arena that passed them. Assumes nothing.
use mathlib.Core.Path.{◌≡◌, refl, sym, ap, ◌∙◌}
use mathlib.Core.List.{List, [], ◌∷◌, map}
use mathlib.Core.Bool.{Bool, true, false, cond, not}
use Prim.Native.Nat.{ℕ, zero, suc, ◌+◌, ◌-◌, ◌/◌, ◌%◌, ◌≤◌}
use native.Mathlib.Omega.{arith}
use borrow.Author.Tests.{leb-true, eqb-true, not-false}
use lib.ListN.{length, get_or, take, drop}
use lib.Dec.{leb, eqb}
use Rattle.rules.specs.Lists.{total, All}
use Rattle.rules.specs.Answer.{Answer, good, refuse_first}
use Rattle.rules.specs.Operations.{good_table, op_fault, admissible, Op}
use Rattle.rules.specs.Record.{Record, Block, starts_from, differences, records_from, records_in, codes_number, immediates, NineAndEight, record_size}
use Rattle.rules.specs.Bytes.{up_to}
use Rattle.rules.specs.Checks.{ninth, starts_right, record_right, structure_faults, held, padding_fault, padding_faults, commitment_fault, commitment_faults, groups_fault, placing_fault, begins}
use Rattle.rules.specs.Functions.{Arena, block_in, within, padding_checked, commitment_checked}
use Rattle.rules.proofs.Answer.{clash, passed, first_append}
use Rattle.rules.proofs.Operations.{true_left, true_right, length_operations, none_fault}
use Rattle.rules.proofs.Slots.{total_split, or_first}
use Rattle.claims.proofs.ReadThenChecked.{start_at, take_total}
use Rattle.claims.proofs.Lists.{all_map}
use Rattle.rules.proofs.Records.{loaded}

pub no_cond : (b : Bool) (n : ℕ) → cond b 0 (suc n) ≡ 0 → b ≡ true
no_cond true n h = refl
no_cond false n h = absurd (omega arith)

-- a group whose number, placements, immediates and followers are right
pub group_right : (t : List ℕ) (g : List Op) (gs : List (List Op)) (n : ℕ) (ns : List ℕ) → 1 ≤ length g → groups_fault t (g ∷ gs) (n ∷ ns) ≡ 0
    → (n ≡ codes_number g) × (placing_fault (length (immediates t g)) gs ≡ 0) × (begins ns (immediates t g) ≡ true) × (groups_fault t gs ns ≡ 0)
unfolding groups_fault
group_right t [] gs n ns l h = absurd (omega arith)
group_right t (x ∷ g) gs n ns l h =
    let vs = immediates t (x ∷ g) in
    let h₁ = or_first (cond (eqb n (codes_number (x ∷ g))) 0 16) _ h in
    let h₂ = or_first (placing_fault (length vs) gs) _ h₁.1 in
    let h₃ = or_first (cond (begins ns vs) 0 16) (groups_fault t gs ns) h₂.1 in
    (eqb-true n (codes_number (x ∷ g)) (no_cond _ 15 h₁.0), h₂.0, no_cond _ 15 h₃.0, h₃.1)

-- ---- a record that passed the structure check is made of its sizes

starts_back : (a : ℕ) (s : List ℕ) → starts_right (a ∷ s) ≡ true → starts_from a (differences (a ∷ s)) ≡ a ∷ s
unfolding starts_from differences starts_right
starts_back a [] h = refl
starts_back a (b ∷ s) h =
    let up = leb-true a b (true_left (leb a b) _ h) in
    let e : a + (b - a) ≡ b = omega arith in
    rw e (ap (λ (l : List ℕ). a ∷ l) (starts_back b s (true_right (leb b (a + 9)) _ (true_right (leb a b) _ h))))

sizes_small : (a : ℕ) (s : List ℕ) → starts_right (a ∷ s) ≡ true → All (λ n. n ≤ 9) (differences (a ∷ s))
unfolding differences starts_right
sizes_small a [] h = tt
sizes_small a (b ∷ s) h =
    let rest = true_right (leb a b) _ h in
    let most = leb-true b (a + 9) (true_left (leb b (a + 9)) _ rest) in
    (omega arith, sizes_small b s (true_right (leb b (a + 9)) _ rest))

sizes_many : (a : ℕ) (s : List ℕ) → length (differences (a ∷ s)) ≡ length s
unfolding differences
sizes_many a [] = refl
sizes_many a (b ∷ s) = ap suc (sizes_many b s)

-- what the structure check says of such a record
pub record Made (w : ℕ) (r : Record) : Type 0 where
  pub shaped : NineAndEight r
  pub few : r.count ≤ w
  pub bits : up_to 1 r.flags ≡ true
  pub starts : starts_from 0 (differences r.starts) ≡ r.starts
  pub small : All (λ n. n ≤ 9) (differences r.starts)
  pub many : length (differences r.starts) ≡ 8
  pub sum : total (differences r.starts) ≡ ninth r
  pub rest : total (drop r.count (differences r.starts)) ≡ 0

whole : (s : List ℕ) → length s ≡ 9 → get_or s 0 0 ≡ 0 → starts_right s ≡ true → (starts_from 0 (differences s) ≡ s) × All (λ n. n ≤ 9) (differences s) × (length (differences s) ≡ 8)
whole [] l e h = absurd (omega arith)
whole (a ∷ s) l e h = (ap (λ (k : ℕ). starts_from k (differences (a ∷ s))) (sym e) ∙ starts_back a s h, sizes_small a s h, omega (arith, sizes_many a s))

pub made : (w : ℕ) (w8 : w ≤ 8) (r : Record) → NineAndEight r → record_right w r ≡ true → Made w r
unfolding record_right
made w w8 r z h =
    let h₁ = true_right (leb r.count w) _ h in
    let h₂ = true_right (up_to 1 r.flags) _ h₁ in
    let h₃ = true_right (eqb (get_or r.starts 0 0) 0) _ h₂ in
    let few = leb-true r.count w (true_left (leb r.count w) _ h) in
    let ns = differences r.starts in
    let q = whole r.starts z.starts (eqb-true (get_or r.starts 0 0) 0 (true_left (eqb (get_or r.starts 0 0) 0) _ h₂)) (true_left (starts_right r.starts) _ h₃) in
    let end = eqb-true (get_or r.starts r.count 0) (ninth r) (true_right (starts_right r.starts) _ h₃) in
    let m : length ns ≡ 8 = q.2 in
    let at_count : get_or r.starts r.count 0 ≡ 0 + total (take r.count ns) = rw q.0 at (start_at r.count 0 ns (omega arith)) in
    let at_end : get_or r.starts 8 0 ≡ 0 + total (take 8 ns) = rw q.0 at (start_at 8 0 ns (omega arith)) in
    let all = take_total ns 8 m in
    record {
      shaped = z;
      few = few;
      bits = true_left (up_to 1 r.flags) _ h₁;
      starts = q.0;
      small = q.1;
      many = m;
      sum = omega arith;
      rest = omega (arith, total_split r.count ns);
    }

-- ---- what the checks said of an arena

first_none : {A B : Type 0} (f : B → ℕ) (i : ℕ) (xs : List B) (r : Answer A) (a : A) → refuse_first i (map f xs) r ≡ good a → All (λ x. f x ≡ 0) xs × (r ≡ good a)
unfolding refuse_first
first_none f i [] r a h = (tt, h)
first_none f i (x ∷ xs) r a h = go (f x) refl (λ k. first_none f (i + 1) xs r a k) h
  where
    go : (n : ℕ) → f x ≡ n → (refuse_first (i + 1) (map f xs) r ≡ good a → All (λ x. f x ≡ 0) xs × (r ≡ good a)) → refuse_first i (n ∷ map f xs) r ≡ good a → ((f x ≡ 0) × All (λ x. f x ≡ 0) xs) × (r ≡ good a)
    go zero e ih k = let q = ih k in ((e, q.0), q.1)
    go (suc n) e ih k = absurd (clash (suc n) i a k)

pub structured : {A : Type 0} (w : ℕ) (b : Block) (r : Answer A) (a : A) → refuse_first 0 (structure_faults w b) r ≡ good a
    → All (λ x. record_right w x ≡ true) b.records × (total (map ninth b.records) ≡ length b.ops) × (r ≡ good a)
unfolding structure_faults
structured w b r a h =
    let f : Record → ℕ = λ (x : Record). cond (record_right w x) 0 15 in
    let c = eqb (total (map ninth b.records)) (length b.ops) in
    let q = first_none f 0 b.records _ a (sym (first_append 0 (map f b.records) (cond c 0 15 ∷ []) r) ∙ h) in
    let e = first_none (λ (z : Bool). cond z 0 15) (0 + length (map f b.records)) (c ∷ []) r a q.1 in
    (all_map (λ x k. no_cond (record_right w x) 14 k) b.records q.0, eqb-true (total (map ninth b.records)) (length b.ops) (no_cond c 14 e.0.0), e.1)

pub record Facts (w : ℕ) (t : List ℕ) (a : Arena) : Type 0 where
  pub inside : within a ≡ true
  pub table : good_table t ≡ true
  pub right : All (λ r. record_right w r ≡ true) (block_in a).records
  pub sum : total (map ninth (block_in a).records) ≡ length (block_in a).ops
  pub allowed : All (λ x. admissible t x ≡ true) (block_in a).ops
  pub commitment : All (λ h. commitment_fault t h ≡ 0) (held (block_in a))

pub facts : (w : ℕ) (t : List ℕ) (a : Arena) → commitment_checked w t a ≡ good tt → Facts w t a
unfolding commitment_checked commitment_faults
facts w t a h =
    let b = block_in a in
    let c₁ = passed (not (within a)) 3 0 _ tt h in
    let c₂ = passed (not (good_table t)) 14 0 _ tt c₁.1 in
    let c₃ = structured w b _ tt c₂.1 in
    let c₄ = first_none (op_fault t) 0 b.ops _ tt c₃.2 in
    let c₅ = first_none (commitment_fault t) 0 (held b) _ tt c₄.1 in
    record {
      inside = not-false (within a) c₁.0;
      table = not-false (good_table t) c₂.0;
      right = c₃.0;
      sum = c₃.1;
      allowed = all_map (none_fault t) b.ops c₄.0;
      commitment = c₅.0;
    }

pub no_padding_fault : (w : ℕ) (a : Arena) → padding_checked w a ≡ good tt → All (λ h. padding_fault h ≡ 0) (held (block_in a))
unfolding padding_checked padding_faults
no_padding_fault w a h = (first_none padding_fault 0 (held (block_in a)) _ tt (structured w (block_in a) _ tt (passed (not (within a)) 3 0 _ tt h).1).2).0

-- ---- records as they lie in a run

shaped_from : (k : ℕ) (s : List ℕ) (b : ℕ) → All NineAndEight (records_from k s b) × (length (records_from k s b) ≡ k)
unfolding records_from
shaped_from zero s b = (tt, refl)
shaped_from (suc k) s b =
    let ih = shaped_from k s (b + 1) in
    ((loaded s b, ih.0), ap suc ih.1)

pub limits : (a : Arena) → within a ≡ true → (length (block_in a).ops ≤ 65535) × (length (block_in a).records ≤ 16384)
unfolding within block_in records_in
limits a h =
    let n = length a.codes in
    let k = length a.records in
    let equal = eqb n (length a.values) in
    let whole = eqb (k % record_size) 0 in
    let h₁ = true_right equal _ h in
    let h₂ = true_right whole _ (true_right (leb n 65535) _ h₁) in
    let l = length_operations a.codes a.values (eqb-true n (length a.values) (true_left equal _ h)) in
    (rw l (leb-true n 65535 (true_left (leb n 65535) _ h₁)), rw (shaped_from (k / record_size) a.records 0).1 (leb-true (k / record_size) 16384 h₂))

pub shaped_in : (a : Arena) → All NineAndEight (block_in a).records
unfolding block_in records_in
shaped_in a = (shaped_from (length a.records / record_size) a.records 0).0
