-- Batches of one list that come after equal batches are the same where their starts and flags are. Assumes nothing.
use mathlib.Core.Path.{◌≡◌, refl, sym, ap, ap₂, ◌∙◌, subst}
use mathlib.Core.List.{List, [], ◌∷◌, ◌++◌, append-nil, map}
use mathlib.Core.Bool.{Bool, true, false, cond, ◌&&◌}
use Prim.Native.Nat.{ℕ, zero, suc, ◌+◌, ◌≤◌}
use native.Mathlib.Omega.{arith}
use borrow.Author.Tests.{leb-true, le-leb, eqb-true, eq-eqb}
use lib.ListN.{length, take, drop, length-take, length-drop, take-append-drop}
use lib.Seq.{take_at, drop_at, drop-drop}
use lib.Dec.{leb, eqb}
use Rattle.rules.specs.Lists.{total, every, All}
use Rattle.rules.specs.Answer.{Answer, found, refuse_first}
use Rattle.rules.specs.Refusals.{unfinished₁₈}
use Rattle.rules.specs.Operations.{Op, admissible}
use Rattle.rules.specs.Batching.{batches_of}
use Rattle.rules.specs.Record.{Record, Block, differences, part, cut, record_of, block_of}
use Rattle.rules.specs.Block.{Room}
use Rattle.rules.specs.Checks.{Held, held_from, held}
use Rattle.rules.specs.Lookups.{marks_of, marks}
use Rattle.rules.specs.Functions.{room_for, decoded, most}
use Rattle.rules.specs.Strict.{unmarked, own_list, listable, same, same_batch, differing}
use Rattle.rules.proofs.Operations.{true_left, true_right, true_both}
use Rattle.claims.specs.Demand3.{Premises}
use Rattle.claims.specs.Strict.{batched, bytes_of}
use Rattle.claims.proofs.Lists.{true_false}
use Rattle.claims.proofs.Right.{Width}
use Rattle.claims.proofs.WrittenThenRead.{sizes_of}
use Rattle.claims.proofs.ReadThenChecked.{encodable}
use Rattle.claims.proofs.Left.{unmarked_append}
use Rattle.claims.proofs.OwnList.{Fit, fit_length, fit_once, unmarked_all, record_from, Walk, part_add, decoded_walk, decoded_fit}
use Rattle.claims.proofs.Demand3.{demand3}
use Rattle.claims.proofs.Finished.{most_fits}

-- a cheaper test of two batches, and each batch's fault by it: the starts and the flags alone, which are all that the bytes hold of a batch
unfoldable pub same_shape : Record → Record → Bool
same_shape r q = same r.starts q.starts && same r.flags q.flags

unfoldable pub shapes_differing : List Record → List Record → List ℕ
shapes_differing [] [] = []
shapes_differing [] (q ∷ qs) = unfinished₁₈ ∷ []
shapes_differing (r ∷ rs) [] = unfinished₁₈ ∷ []
shapes_differing (r ∷ rs) (q ∷ qs) = cond (same_shape r q) 0 unfinished₁₈ ∷ shapes_differing rs qs

-- ---- equal batches

pub same_is : (a b : List ℕ) → same a b ≡ true → a ≡ b
unfolding same
same_is [] [] h = refl
same_is [] (n ∷ ns) h = absurd (true_false (sym h))
same_is (m ∷ ms) [] h = absurd (true_false (sym h))
same_is (m ∷ ms) (n ∷ ns) h = ap₂ (λ (x : ℕ) (l : List ℕ). x ∷ l) (eqb-true m n (true_left (eqb m n) (same ms ns) h)) (same_is ms ns (true_right (eqb m n) (same ms ns) h))

pub same_self : (a : List ℕ) → same a a ≡ true
unfolding same
same_self [] = refl
same_self (n ∷ ns) = true_both (eqb n n) (same ns ns) (eq-eqb n n refl) (same_self ns)

pub same_batch_is : (r q : Record) → same_batch r q ≡ true → r ≡ q
unfolding same_batch
same_batch_is r q h =
    let n = same r.numbers q.numbers && eqb r.count q.count in
    let f = same r.flags q.flags && n in
    let h₁ = true_right (same r.starts q.starts) f h in
    let h₂ = true_right (same r.flags q.flags) n h₁ in
    let a : r.starts ≡ q.starts = same_is _ _ (true_left (same r.starts q.starts) f h) in
    let b : r.flags ≡ q.flags = same_is _ _ (true_left (same r.flags q.flags) n h₁) in
    let c : r.numbers ≡ q.numbers = same_is _ _ (true_left (same r.numbers q.numbers) (eqb r.count q.count) h₂) in
    let d : r.count ≡ q.count = eqb-true _ _ (true_right (same r.numbers q.numbers) (eqb r.count q.count) h₂) in
    λ j. record { starts = a j; flags = b j; numbers = c j; count = d j }

pub same_batch_self : (r : Record) → same_batch r r ≡ true
unfolding same_batch
same_batch_self r = rw (same_self r.starts, same_self r.flags, same_self r.numbers) (eq-eqb r.count r.count refl)

-- ---- how many operations have no mark

abbrev pub free : List Bool → ℕ
free [] = 0
free (true ∷ ms) = free ms
free (false ∷ ms) = suc (free ms)

pub free_is : (ms : List Bool) (xs : List Op) → length ms ≡ length xs → length (unmarked ms xs) ≡ free ms
free_is [] xs e = sym e
free_is (m ∷ ms) [] e = absurd (omega arith)
free_is (true ∷ ms) (x ∷ xs) e = free_is ms xs (omega arith)
free_is (false ∷ ms) (x ∷ xs) e = ap suc (free_is ms xs (omega arith))

-- ---- a batch is said by its sizes, its flags and its operations

-- two lists joined in two ways, the first parts as long
module _ (p q r s : List Op) (l : length p ≡ length r) (e : p ++ q ≡ r ++ s) where
  front : p ≡ r
  front = sym (take_at p q (length r) l) ∙ (ap (take (length r)) e ∙ take_at r s (length r) refl)

  back : q ≡ s
  back = sym (drop_at p q (length r) l) ∙ (ap (drop (length r)) e ∙ drop_at r s (length r) refl)

cut_take : (w : ℕ) (ns : List ℕ) (xs : List Op) (at : ℕ) → cut (take w ns) xs at ≡ take w (cut ns xs at)
unfolding cut
cut_take zero ns xs at = refl
cut_take (suc w) [] xs at = refl
cut_take (suc w) (n ∷ ns) xs at = ap (λ (l : List (List Op)). part n xs at ∷ l) (cut_take w ns xs (at + n))

module _ (xs ys : List Op) where
  cut_same : (ns : List ℕ) (at : ℕ) → at + total ns ≤ length xs → at + total ns ≤ length ys → part (total ns) xs at ≡ part (total ns) ys at → cut ns xs at ≡ cut ns ys at
  unfolding cut total
  cut_same [] at h k e = refl
  cut_same (n ∷ ns) at h k e =
      let m = total ns in
      let e' : part n xs at ++ part m xs (at + n) ≡ part n ys at ++ part m ys (at + n) = sym (part_add xs n m at) ∙ (e ∙ part_add ys n m at) in
      let l : length (part n xs at) ≡ length (part n ys at) = simp (length-take, length-drop) (omega arith) in
      ap₂ (λ (g : List Op) (gs : List (List Op)). g ∷ gs) (front (part n xs at) _ (part n ys at) _ l e')
      (cut_same ns (at + n) (omega arith) (omega arith) (back (part n xs at) _ (part n ys at) _ l e'))

  same_record : (w : ℕ) (t ns fs : List ℕ) (at : ℕ) → cut ns xs at ≡ cut ns ys at → record_from w t xs at ns fs ≡ record_from w t ys at ns fs
  same_record w t ns fs at e = rw (cut_take w ns xs at, e, sym (cut_take w ns ys at))

  -- what is left after a batch
  rest_at : (zs : List Op) (n at : ℕ) → drop at zs ≡ part n zs at ++ drop (at + n) zs
  rest_at zs n at = sym (take-append-drop n (drop at zs)) ∙ ap (λ (l : List Op). part n zs at ++ l) (drop-drop n at zs)

  same_step : (w : ℕ) (t ns fs : List ℕ) (at : ℕ) (r q : Record) (ms ms' : List Bool) → record_from w t xs at ns fs ≡ r → record_from w t ys at ns fs ≡ q
      → at + total ns ≤ length xs → at + total ns ≤ length ys → Fit (marks_of ns fs) (part (total ns) xs at) → Fit (marks_of ns fs) (part (total ns) ys at)
      → unmarked (marks_of ns fs ++ ms) (drop at xs) ≡ unmarked (marks_of ns fs ++ ms') (drop at ys)
      → (r ≡ q) × (cut ns xs at ≡ cut ns ys at) × (unmarked ms (drop (at + total ns) xs) ≡ unmarked ms' (drop (at + total ns) ys))
  same_step w t ns fs at r q ms ms' h k i j f g u =
      let c = marks_of ns fs in
      let n = total ns in
      let px = part n xs at in
      let py = part n ys at in
      let lx = fit_length c px f in
      let ly = fit_length c py g in
      let ux = ap (unmarked (c ++ ms)) (rest_at xs n at) ∙ unmarked_append c ms px (drop (at + n) xs) lx in
      let uy = ap (unmarked (c ++ ms')) (rest_at ys n at) ∙ unmarked_append c ms' py (drop (at + n) ys) ly in
      let e = sym ux ∙ (u ∙ uy) in
      let s : length (unmarked c px) ≡ length (unmarked c py) = free_is c px lx ∙ sym (free_is c py ly) in
      let p : px ≡ py = fit_once c px py f g (front (unmarked c px) _ (unmarked c py) _ s e) in
      let g = cut_same ns at i j p in
      (sym h ∙ (same_record w t ns fs at g ∙ k), g, back (unmarked c px) _ (unmarked c py) _ s e)

-- ---- the first batch that differs, by starts and flags

step_as : (w : ℕ) (t : List ℕ) (zs : List Op) (at : ℕ) (ns ns' fs fs' : List ℕ) (q : Record) → ns ≡ ns' → fs ≡ fs' → record_from w t zs at ns fs ≡ q → record_from w t zs at ns' fs' ≡ q
step_as w t zs at ns ns' fs fs' q e f h = rw (e, f) at h

module _ {A : Type 0} (w : ℕ) (t : List ℕ) (xs ys : List Op) where
  shapes_same : (i at : ℕ) (rs qs : List Record) (a : Answer A) → Walk w t xs at rs → Walk w t ys at qs → unmarked (marks rs) (drop at xs) ≡ unmarked (marks qs) (drop at ys)
      → refuse_first i (differing rs qs) a ≡ refuse_first i (shapes_differing rs qs) a
  unfolding refuse_first differing shapes_differing same_batch same_shape marks
  shapes_same i at [] [] a h k u = refl
  shapes_same i at [] (q ∷ qs) a h k u = refl
  shapes_same i at (r ∷ rs) [] a h k u = refl
  shapes_same i at (r ∷ rs) (q ∷ qs) a h k u = go (same_shape r q) refl (λ k' u'. shapes_same (i + 1) (at + total (sizes_of r)) rs qs a h.1 k' u')
    where
      none : (x y z : Bool) → (x && y) ≡ false → (x && (y && z)) ≡ false
      none true true z e = absurd (true_false e)
      none true false z e = refl
      none false y z e = refl

      Next : Type 0
      Next = Walk w t ys (at + total (sizes_of r)) qs → unmarked (marks rs) (drop (at + total (sizes_of r)) xs) ≡ unmarked (marks qs) (drop (at + total (sizes_of r)) ys)
          → refuse_first (i + 1) (differing rs qs) a ≡ refuse_first (i + 1) (shapes_differing rs qs) a

      go : (c : Bool) → same_shape r q ≡ c → Next → refuse_first i (cond (same_batch r q) 0 18 ∷ differing rs qs) a ≡ refuse_first i (cond c 0 18 ∷ shapes_differing rs qs) a
      go false e f = rw (none (same r.starts q.starts) (same r.flags q.flags) (same r.numbers q.numbers && eqb r.count q.count) e)
      go true e f =
          let s : q.starts ≡ r.starts = sym (same_is r.starts q.starts (true_left (same r.starts q.starts) (same r.flags q.flags) e)) in
          let g : q.flags ≡ r.flags = sym (same_is r.flags q.flags (true_right (same r.starts q.starts) (same r.flags q.flags) e)) in
          let z = same_step xs ys w t (sizes_of r) r.flags at r q (marks rs) (marks qs) h.0.is (step_as w t ys at (sizes_of q) (sizes_of r) q.flags r.flags q (ap differences s) g k.0.is)
          h.0.inside (rw s at k.0.inside) h.0.fit (rw (s, g) at k.0.fit) (rw (s, g) at u) in
          let y : same_batch r q ≡ true = rw z.0 (same_batch_self q) in
          rw y (f (rw s at k.1) z.2)

-- where batches are the same, so are their operations
module _ (w : ℕ) (t : List ℕ) (xs ys : List Op) where
  held_same : (p at : ℕ) (rs qs : List Record) → Walk w t xs at rs → Walk w t ys at qs → unmarked (marks rs) (drop at xs) ≡ unmarked (marks qs) (drop at ys) → take p rs ≡ take p qs
      → take p (held_from rs xs at) ≡ take p (held_from qs ys at)
  unfolding held_from marks
  held_same zero at rs qs h k u e = refl
  held_same (suc p) at [] [] h k u e = refl
  held_same (suc p) at [] (q ∷ qs) h k u e = let z : ◌≡◌ {A = ℕ} 0 1 = cc in absurd (omega arith)
  held_same (suc p) at (r ∷ rs) [] h k u e = let z : ◌≡◌ {A = ℕ} 0 1 = cc in absurd (omega arith)
  held_same (suc p) at (r ∷ rs) (q ∷ qs) h k u e =
      let a : r ≡ q = cc in
      let k' = subst (λ (x : Record). Walk w t ys at (x ∷ qs)) (sym a) k in
      let u' = subst (λ (x : Record). unmarked (marks (r ∷ rs)) (drop at xs) ≡ unmarked (marks (x ∷ qs)) (drop at ys)) (sym a) u in
      let z = same_step xs ys w t (sizes_of r) r.flags at r r (marks rs) (marks qs) h.0.is k'.0.is h.0.inside k'.0.inside h.0.fit k'.0.fit u' in
      let ih = held_same p (at + total (sizes_of r)) rs qs h.1 k'.1 z.2 cc in
      subst (λ (x : Record). take (suc p) (held_from (r ∷ rs) xs at) ≡ take (suc p) (held_from (x ∷ qs) ys at)) a (rw (h.0.ninth, z.1) (ap (λ (l : List Held). record { batch = r; groups = cut (sizes_of r) ys at } ∷ l) ih))

-- ---- the own list of a decoded block, and of a built one

pub to_listable : (xs : List Op) → 1 ≤ length xs → length xs ≤ 16384 → listable xs ≡ true
unfolding listable
to_listable xs h k = rw (le-leb 1 (length xs) h) (le-leb (length xs) 16384 k)

pub from_listable : (xs : List Op) → listable xs ≡ true → (1 ≤ length xs) × (length xs ≤ 16384)
unfolding listable
from_listable xs h =
    let a = leb 1 (length xs) in
    let b = leb (length xs) 16384 in
    (leb-true 1 (length xs) (true_left a b h), leb-true (length xs) 16384 (true_right a b h))

all_every : {A : Type 0} (test : A → Bool) (xs : List A) → All (λ x. test x ≡ true) xs → every test xs ≡ true
unfolding every
all_every test [] h = refl
all_every test (x ∷ xs) h = true_both (test x) (every test xs) h.0 (all_every test xs h.1)

pub own_premises : (w : ℕ) (t s : List ℕ) (at : ℕ) (room : Room) (b : Block) (next : ℕ) → decoded w t s at room ≡ found b next → listable (own_list b) ≡ true → Premises t (own_list b)
own_premises w t s at room b next d h =
    let e = encodable w t s at room b next d in
    let l = from_listable (own_list b) h in
    record {
      table = e.table;
      some = l.0;
      most = l.1;
      admitted = all_every (admissible t) (own_list b) (unmarked_all (λ x. admissible t x ≡ true) (marks b.records) b.ops e.allowed);
    }

module _ (w : ℕ) (width : Width w) (t : List ℕ) where
  module _ (xs : List Op) (h : Premises t xs) where
    pub roomy : room_for (batched w t xs) most ≡ true
    roomy = let f = (demand3 w width t xs h).few in most_fits (batched w t xs) f.0 f.1

    -- its bytes alone, decoded
    pub alone : decoded w t (bytes_of w t xs ++ []) 0 most ≡ found (batched w t xs) (0 + length (bytes_of w t xs))
    alone = let d = demand3 w width t xs h in d.reads [] [] most (rw (append-nil (bytes_of w t xs)) (omega (arith, d.short))) roomy

    pub built_fit : Fit (marks (batched w t xs).records) (batched w t xs).ops
    built_fit = decoded_fit w t (bytes_of w t xs ++ []) 0 most (batched w t xs) _ alone

  module _ (s : List ℕ) (at : ℕ) (room : Room) (b : Block) (next : ℕ) (d : decoded w t s at room ≡ found b next) where
    walk_again : Premises t (own_list b) → Walk w t (batched w t (own_list b)).ops 0 (batched w t (own_list b)).records
    walk_again h = decoded_walk w t (bytes_of w t (own_list b) ++ []) 0 most (batched w t (own_list b)) _ (alone (own_list b) h)

    own_again : Premises t (own_list b) → own_list b ≡ own_list (batched w t (own_list b))
    own_again h = sym (demand3 w width t (own_list b) h).left.back

    pub held_alike : Premises t (own_list b) → (p : ℕ) → take p b.records ≡ take p (batched w t (own_list b)).records → take p (held b) ≡ take p (held (batched w t (own_list b)))
    unfolding held
    held_alike h p e = held_same w t b.ops (batched w t (own_list b)).ops p 0 b.records (batched w t (own_list b)).records (decoded_walk w t s at room b next d) (walk_again h) (own_again h) e

    -- starts and flags are enough to compare: up to the first difference the operations are the same, and they say the numbers and the count
    pub shapes : listable (own_list b) ≡ true → {A : Type 0} (r : Answer A)
        → refuse_first 0 (differing b.records (map record_of (batches_of w t (own_list b)))) r ≡ refuse_first 0 (shapes_differing b.records (map record_of (batches_of w t (own_list b)))) r
    unfolding block_of
    shapes l r =
        let h = own_premises w t s at room b next d l in
        shapes_same w t b.ops (batched w t (own_list b)).ops 0 0 b.records (batched w t (own_list b)).records r (decoded_walk w t s at room b next d) (walk_again h) (own_again h)
