-- Batch data that passes the commitment check belongs to one operation list. Assumes nothing.
use mathlib.Core.Path.{◌≡◌, refl, sym, ap, ap₂, ◌∙◌, subst}
use mathlib.Core.List.{List, [], ◌∷◌, ◌++◌, map}
use mathlib.Core.Bool.{Bool, true, false, cond, ◌&&◌}
use Prim.Native.Nat.{ℕ, zero, suc, ◌+◌, ◌≤◌, ◌<◌}
use native.Mathlib.Omega.{arith}
use borrow.Author.Tests.{eqb-true}
use lib.ListN.{length, get_or, take, drop, length-take, length-drop}
use lib.Seq.{drop-drop, take-add, take_all}
use lib.Dec.{eqb}
use Rattle.rules.specs.Lists.{total, All}
use Rattle.rules.specs.Digits.{digits}
use Rattle.rules.specs.Operations.{Op, codes, kind_of, has_immediate, admissible}
use Rattle.rules.specs.Record.{Record, differences, codes_number, records_in, part, cut, immediates, NineAndEight}
use Rattle.rules.specs.Checks.{ninth, record_right, held_from, held, begins, groups_fault, commitment_fault}
use Rattle.rules.specs.Functions.{Arena, block_in}
use Rattle.rules.proofs.Operations.{Admissible, to_admissible, true_left, true_right}
use Rattle.rules.proofs.Sizes.{length_codes}
use Rattle.rules.proofs.Slots.{or_first, part_some}
use Rattle.claims.specs.OneList.{SameOp, SameOps, OneList}
use Rattle.claims.proofs.ItemsWrittenThenRead.{digits_number}
use Rattle.claims.proofs.ReadThenChecked.{codes_below, part_allowed}
use Rattle.claims.proofs.Checked.{group_right, made, facts, shaped_in}

false_true : ◌≡◌ {A = Bool} false true → ⊥
false_true h = let z : ◌≡◌ {A = ℕ} 1 0 = ap (λ (b : Bool). cond b 0 1) h in omega arith

part_more : (m n : ℕ) (xs : List Op) (at : ℕ) → part (m + n) xs at ≡ part m xs at ++ part n xs (at + m)
part_more m n xs at = take-add m n (drop at xs) ∙ ap (λ (l : List Op). part m xs at ++ take n l) (drop-drop m at xs)

-- all of a list
all_of : (xs : List Op) (n : ℕ) → n ≡ length xs → part n xs 0 ≡ xs
all_of xs n e = take_all n xs (omega (arith, e))

part_length : (n : ℕ) (xs : List Op) (at : ℕ) → at + n ≤ length xs → length (part n xs at) ≡ n
part_length n xs at h = omega (arith, length-take n (drop at xs), length-drop at xs)

module _ (t : List ℕ) where
  abbrev Allowed : List Op → Type 0
  Allowed xs = All (λ x. admissible t x ≡ true) xs

  -- ---- a group: its number gives the opcodes, the numbers after it the immediates

  zero_kind : (k : ℕ) → k < 3 → eqb k 1 ≡ false → (k ≡ 2 → ⊥) → k ≡ 0
  zero_kind zero l o h = refl
  zero_kind (suc zero) l o h = absurd (false_true (sym o))
  zero_kind (suc (suc zero)) l o h = absurd (h refl)
  zero_kind (suc (suc (suc k))) l o h = absurd (omega arith)

  -- an operation without an immediate
  plain_same : (x y : Op) → Admissible t x → Admissible t y → x.code ≡ y.code → has_immediate t x ≡ false → SameOp t x y
  unfolding has_immediate
  plain_same x y ax ay e h =
      record {
        code = e;
        value = λ two.
            let z = zero_kind (kind_of t x.code) ax.kind h two in
            ax.plain z ∙ sym (ay.plain (rw e at z));
      }

  -- the two lists' immediates stand at the front of the same numbers
  abbrev Both : List ℕ → List Op → List Op → Type 0
  Both ns g h = (begins ns (immediates t g) ≡ true) × (begins ns (immediates t h) ≡ true)

  same_values : (g h : List Op) (ns : List ℕ) → Allowed g → Allowed h → codes g ≡ codes h → Both ns g h → SameOps t g h
  unfolding codes immediates begins has_immediate
  same_values [] [] ns a b e p = tt
  same_values [] (y ∷ h) ns a b e p = omega (arith, ap length e)
  same_values (x ∷ g) [] ns a b e p = omega (arith, ap length e)
  same_values (x ∷ g) (y ∷ h) ns a b e p =
      let c : x.code ≡ y.code = ap (λ (l : List ℕ). get_or l 0 0) e in
      let more : (ms : List ℕ) → Both ms g h → SameOps t g h = λ ms. same_values g h ms a.1 b.1 (ap (λ (l : List ℕ). drop 1 l) e) in
      go (has_immediate t x) refl (ap (λ (z : ℕ). eqb (kind_of t z) 1) (sym c)) c more ns p
    where
      go : (i : Bool) → has_immediate t x ≡ i → has_immediate t y ≡ has_immediate t x → x.code ≡ y.code → ((ms : List ℕ) → Both ms g h → SameOps t g h) → (ns : List ℕ) → Both ns (x ∷ g) (y ∷ h) → SameOp t x y × SameOps t g h
      go true i j c more [] p = absurd (false_true (rw i at p.0))
      go true i j c more (n ∷ ns) p =
          let px : (eqb n x.value && begins ns (immediates t g)) ≡ true = rw i at p.0 in
          let py : (eqb n y.value && begins ns (immediates t h)) ≡ true = rw (j ∙ i) at p.1 in
          let v : x.value ≡ y.value = sym (eqb-true n x.value (true_left (eqb n x.value) _ px)) ∙ eqb-true n y.value (true_left (eqb n y.value) _ py) in
          (record { code = c; value = λ two. v }, more ns (true_right (eqb n x.value) _ px, true_right (eqb n y.value) _ py))
      go false i j c more ns p = (plain_same x y (to_admissible t x a.0) (to_admissible t y b.0) c i, more ns (rw i at p.0, rw (j ∙ i) at p.1))

  same_group : (g h : List Op) (ns : List ℕ) → length g ≡ length h → Allowed g → Allowed h → codes_number g ≡ codes_number h → Both ns g h → SameOps t g h
  unfolding codes_number
  same_group g h ns l a b e p =
      let k : length (codes g) ≡ length (codes h) = length_codes g ∙ (l ∙ sym (length_codes h)) in
      let one = digits_number 128 (codes g) (codes_below t g a) in
      let two = digits_number 128 (codes h) (codes_below t h b) in
      same_values g h ns a b (sym one ∙ (ap₂ (λ (n v : ℕ). digits 128 n v) k e ∙ two)) p

  -- ---- groups, batches and blocks of two lists

  same_append : (a b c d : List Op) → SameOps t a c → SameOps t b d → SameOps t (a ++ b) (c ++ d)
  same_append [] b [] d h k = k
  same_append [] b (y ∷ c) d h k = elim h [ ]
  same_append (x ∷ a) b [] d h k = elim h [ ]
  same_append (x ∷ a) b (y ∷ c) d h k = (h.0, same_append a b c d h.1 k)

  module _ (xs ys : List Op) (ax : Allowed xs) (ay : Allowed ys) where
    -- n operations from a place on are the same in both
    abbrev Same : ℕ → ℕ → Type 0
    Same at n = SameOps t (part n xs at) (part n ys at)

    same_none : (at n : ℕ) → n ≡ 0 → Same at n
    same_none at n e = rw e tt

    same_more : (at m n : ℕ) → Same at m → Same (at + m) n → Same at (m + n)
    same_more at m n h k = rw (part_more m n xs at, part_more m n ys at) (same_append (part m xs at) (part n xs (at + m)) (part m ys at) (part n ys (at + m)) h k)

    groups_same : (ns : List ℕ) (at c : ℕ) (nums : List ℕ) → total (drop c ns) ≡ 0 → length ns ≤ length nums → at + total ns ≤ length xs → at + total ns ≤ length ys
        → groups_fault t (take c (cut ns xs at)) nums ≡ 0 → groups_fault t (take c (cut ns ys at)) nums ≡ 0 → Same at (total ns)
    unfolding total cut groups_fault
    groups_same [] at c nums z l i j h k = tt
    groups_same (n ∷ ns) at c [] z l i j h k = absurd (omega arith)
    groups_same (n ∷ ns) at zero (m ∷ nums) z l i j h k = same_none at (n + total ns) z
    groups_same (zero ∷ ns) at (suc c) (m ∷ nums) z l i j h k = same_more at 0 (total ns) tt (groups_same ns (at + 0) c nums z (omega arith) (omega arith) (omega arith) h k)
    groups_same (suc n ∷ ns) at (suc c) (m ∷ nums) z l i j h k =
        let g = part (suc n) xs at in
        let g' = part (suc n) ys at in
        let p = group_right t g (take c (cut ns xs (at + suc n))) m nums (part_some n xs at (omega arith)) h in
        let q = group_right t g' (take c (cut ns ys (at + suc n))) m nums (part_some n ys at (omega arith)) k in
        let same = same_group g g' nums (part_length (suc n) xs at (omega arith) ∙ sym (part_length (suc n) ys at (omega arith))) (part_allowed t (suc n) xs at ax) (part_allowed t (suc n) ys at ay) (sym p.0 ∙ q.0) (p.2, q.2) in
        same_more at (suc n) (total ns) same (groups_same ns (at + suc n) c nums z (omega arith) (omega arith) (omega arith) p.3 q.3)

    batches_same : (w : ℕ) (w8 : w ≤ 8) (rs : List Record) (at : ℕ) → All NineAndEight rs → All (λ r. record_right w r ≡ true) rs
        → All (λ h. commitment_fault t h ≡ 0) (held_from rs xs at) → All (λ h. commitment_fault t h ≡ 0) (held_from rs ys at)
        → at + total (map ninth rs) ≤ length xs → at + total (map ninth rs) ≤ length ys → Same at (total (map ninth rs))
    unfolding total held_from commitment_fault
    batches_same w w8 [] at z r h k i j = tt
    batches_same w w8 (x ∷ rs) at z r h k i j =
        let m = made w w8 x z.0 r.0 in
        let sum = m.sum in
        let one = groups_same (differences x.starts) at x.count x.numbers m.rest (omega (arith, m.many, m.shaped.numbers)) (omega arith) (omega arith) (or_first _ _ h.0).0 (or_first _ _ k.0).0 in
        same_more at (ninth x) (total (map ninth rs)) (rw sum at one) (batches_same w w8 rs (at + ninth x) z.1 r.1 h.1 k.1 (omega arith) (omega arith))

records_same : (a b : Arena) → a.records ≡ b.records → (block_in b).records ≡ (block_in a).records
unfolding block_in
records_same a b e = ap records_in (sym e)

pub one_list : (w : ℕ) → w ≤ 8 → OneList w
unfolding held
one_list w w8 t a b e ha hb =
    let f = facts w t a ha in
    let g = facts w t b hb in
    let rs = (block_in a).records in
    let xs = (block_in a).ops in
    let ys = (block_in b).ops in
    let same = records_same a b e in
    let sum : total (map ninth rs) ≡ length ys = subst (λ (l : List Record). total (map ninth l) ≡ length ys) same g.sum in
    let k = subst (λ (l : List Record). All (λ h. commitment_fault t h ≡ 0) (held_from l ys 0)) same g.commitment in
    let r = batches_same t xs ys f.allowed g.allowed w w8 rs 0 (shaped_in a) f.right f.commitment k (omega (arith, f.sum)) (omega arith) in
    rw (all_of xs (total (map ninth rs)) f.sum, all_of ys (total (map ninth rs)) sum) at r
