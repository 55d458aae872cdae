-- Strict reading: exactly the blocks that some list writes pass, and 18 says where another one stops being finished. Assumes nothing.
use mathlib.Core.Path.{◌≡◌, refl, sym, ap, ap₂, ◌∙◌, subst}
use mathlib.Core.List.{List, [], ◌∷◌, ◌++◌}
use mathlib.Core.Logic.{◌⊎◌, inl, inr}
use mathlib.Core.Bool.{true, false}
use Prim.Native.Nat.{ℕ, ◌+◌, ◌-◌, ◌≤◌, ◌<◌}
use native.Mathlib.Omega.{arith}
use lib.ListN.{length, take, drop}
use lib.Dec.{ltb}
use Rattle.rules.specs.Lists.{every, All}
use Rattle.rules.specs.Answer.{good, refused, Item, Read, found}
use Rattle.rules.specs.Operations.{Op}
use Rattle.rules.specs.Record.{Record, Block}
use Rattle.rules.specs.Bytes.{count_at}
use Rattle.rules.specs.Block.{Room, block_bytes, head_at}
use Rattle.rules.specs.Checks.{held}
use Rattle.rules.specs.Lookups.{marks}
use Rattle.rules.specs.Functions.{most, room_for, decoded, strictly_decoded}
use Rattle.rules.specs.Strict.{unmarked, own_list, listable}
use Rattle.rules.proofs.Answer.{settle, item}
use Rattle.rules.proofs.Operations.{true_left, true_right}
use Rattle.claims.specs.Demand1.{Refusal, OneOf, decode_refusals, told, told_batches}
use Rattle.claims.specs.Demand3.{Premises, Demand3}
use Rattle.claims.specs.Finished.{Bytes}
use Rattle.claims.specs.Strict.{batched, bytes_of, Writes, Unfinished, Eighteen, Full, Passed, Strict}
use Rattle.claims.proofs.Lists.{split, true_false}
use Rattle.claims.proofs.Stands.{Taken}
use Rattle.claims.proofs.Found.{clash, came}
use Rattle.claims.proofs.Right.{Width}
use Rattle.claims.proofs.ReadThenWritten.{block_taken}
use Rattle.claims.proofs.ReadThenChecked.{encodable}
use Rattle.claims.proofs.Demand3.{demand3, once}
use Rattle.claims.proofs.Finished.{most_fits, within_limit, finished}
use Rattle.claims.proofs.OwnList.{Fit, fit_once, decoded_fit}
use Rattle.claims.proofs.Shapes.{to_listable, own_premises, roomy, alone, built_fit}
use Rattle.claims.proofs.FirstDifference.{Verdict, passes, unlisted, differs, verdict}
use Rattle.claims.proofs.Full.{built_full}
use Rattle.claims.proofs.Demand1.{demand1}
use Rattle.claims.proofs.Which.{same_place}

-- decode never answers 18
not_listed : (rs : List Refusal) (p : ℕ) → every (λ (r : Refusal). ltb r.number 18) rs ≡ true → OneOf rs 18 p → ⊥
unfolding every
not_listed [] p h o = o
not_listed (r ∷ rs) p h (inl e) = let z : ltb 18 18 ≡ true = rw (sym e.0) at (true_left (ltb r.number 18) _ h) in true_false (sym z)
not_listed (r ∷ rs) p h (inr o) = not_listed rs p (true_right (ltb r.number 18) _ h) o

not_listable : (xs : List Op) → listable xs ≡ false → (length xs ≡ 0) ⊎ (16384 < length xs)
not_listable xs h = split (length xs) 1 (λ l. inl (omega arith)) (λ l. split 16384 (length xs) (λ k. inr k) (λ k. absurd (true_false (sym (to_listable xs l k) ∙ h))))

own_of : (xs ys : List Op) (rs qs : List Record) → rs ≡ qs → Fit (marks rs) xs → Fit (marks qs) ys → unmarked (marks rs) xs ≡ unmarked (marks qs) ys → xs ≡ ys
own_of xs ys rs qs e h k u = fit_once (marks qs) xs ys (rw e at h) k (rw e at u)

module _ (w : ℕ) (width : Width w) (t : List ℕ) where
  own_built : (xs : List Op) → Premises t xs → own_list (batched w t xs) ≡ xs
  own_built xs h = (demand3 w width t xs h).left.back

  one : (xs ys : List Op) → Premises t xs → Premises t ys → bytes_of w t xs ≡ bytes_of w t ys → xs ≡ ys
  one xs ys h k e =
      let d : decoded w t (bytes_of w t ys ++ []) 0 most ≡ found (batched w t xs) (0 + length (bytes_of w t xs)) = ap (λ (l : List ℕ). decoded w t (l ++ []) 0 most) (sym e) ∙ alone w width t xs h in
      let b : batched w t xs ≡ batched w t ys = item (batched w t xs) (batched w t ys) _ _ (sym d ∙ alone w width t ys k) in
      sym (own_built xs h) ∙ (ap own_list b ∙ own_built ys k)

  module _ (s : List ℕ) (at : ℕ) (room : Room) where
    abbrev answer : Read Block
    answer = strictly_decoded w t s at room

    ordinary : (n p : ℕ) → decoded w t s at room ≡ refused n p → answer ≡ refused n p
    unfolding strictly_decoded
    ordinary n p h = rw h

    -- a built block passes
    built_passes : (xs : List Op) (next : ℕ) → Premises t xs → decoded w t s at room ≡ found (batched w t xs) next → answer ≡ found (batched w t xs) next
    built_passes xs next h d = go (verdict w width t s at room (batched w t xs) next d)
      where
        go : Verdict w t s at room (batched w t xs) next → answer ≡ found (batched w t xs) next
        go (passes l e r) = r
        go (unlisted l r) = absurd (true_false (sym (ap listable (own_built xs h) ∙ to_listable xs h.some h.most) ∙ l))
        go (differs p q r) = absurd (q.here (ap (λ (ys : List Op). take (p + 1) (batched w t ys).records) (sym (own_built xs h))))

    -- ---- what passed

    record Finish (b : Block) (next : ℕ) : Type 0 where
      taken : decoded w t s at room ≡ found b next
      premises : Premises t (own_list b)
      is : b ≡ batched w t (own_list b)

    finish : (b : Block) (next : ℕ) → answer ≡ found b next → Finish b next
    unfolding strictly_decoded
    finish b next h = let c = came (decoded w t s at room) _ b next h in go c.got c.to c.first (verdict w width t s at room c.got c.to c.first)
      where
        go : (c : Block) (to : ℕ) → decoded w t s at room ≡ found c to → Verdict w t s at room c to → Finish b next
        go c to d (unlisted l r) = absurd (clash 18 0 b next (sym r ∙ h))
        go c to d (differs p q r) = absurd (clash 18 p b next (sym r ∙ h))
        go c to d (passes l e r) =
            let k = own_premises w t s at room c to d l in
            let z = batched w t (own_list c) in
            let o : c.ops ≡ z.ops = own_of c.ops z.ops c.records z.records e (decoded_fit w t s at room c to d) (built_fit w width t (own_list c) k) (sym (own_built (own_list c) k)) in
            settle (λ b next. Finish b next) c b to next (sym r ∙ h) (record { taken = d; premises = k; is = λ j. record { ops = o j; records = e j } })

    -- ---- exactly

    only : Bytes s → (b : Block) (next : ℕ) → answer ≡ found b next → (decoded w t s at room ≡ found b next) × Writes w t (own_list b) s at next
    only bytes b next h =
        let p = finish b next h in
        let k = subst (λ (c : Block). Taken (block_bytes t c) s at next) p.is (block_taken s bytes w t at room b next p.taken) in
        let st = k.stands in
        (p.taken, record { premises = p.premises; before = st.before; after = st.after; whole = st.whole; place = st.place; end = k.next })

    -- decode reads the same block from the same bytes, whatever the room
    is_that : Bytes s → (b : Block) (next : ℕ) (xs : List Op) → decoded w t s at room ≡ found b next → Writes w t xs s at next → b ≡ batched w t xs
    is_that bytes b next xs d k =
        let f = finished w width.eight t s bytes at room b next d in
        let e = encodable w t s at room b next d in
        let st = (block_taken s bytes w t at room b next d).stands in
        let l = within_limit w t s at room b next d in
        let one = ap₂ (λ (x : List ℕ) (y : ℕ). decoded w t x y most) st.whole st.place ∙ f.anywhere st.before st.after most (rw st.whole at l) (most_fits b e.few e.less) in
        let two = ap₂ (λ (x : List ℕ) (y : ℕ). decoded w t x y most) k.whole k.place
        ∙ (demand3 w width t xs k.premises).reads k.before k.after most (rw k.whole at l) (roomy w width t xs k.premises) in
        item b (batched w t xs) _ _ (sym one ∙ two)

    whenever : Bytes s → (b : Block) (next : ℕ) (xs : List Op) → decoded w t s at room ≡ found b next → Writes w t xs s at next → answer ≡ found b next
    whenever bytes b next xs d k = let e : b ≡ batched w t xs = is_that bytes b next xs d k in rw e (built_passes xs next k.premises (rw e at d))

    -- ---- the answer

    either : (b : Block) (next : ℕ) → decoded w t s at room ≡ found b next → (answer ≡ found b next) ⊎ Eighteen answer
    either b next d = go (verdict w width t s at room b next d)
      where
        go : Verdict w t s at room b next → (answer ≡ found b next) ⊎ Eighteen answer
        go (passes l e r) = inl r
        go (unlisted l r) = inr (record { place = 0; is = r })
        go (differs p q r) = inr (record { place = p; is = r })

    otherwise : ((p : ℕ) → answer ≡ refused 18 p → ⊥) → answer ≡ decoded w t s at room
    otherwise h = go (decoded w t s at room) refl
      where
        took : (x : Item Block) → (answer ≡ good x) ⊎ Eighteen answer → answer ≡ good x
        took x (inl e) = e
        took x (inr e) = absurd (h e.place e.is)

        go : (d : Read Block) → decoded w t s at room ≡ d → answer ≡ d
        go (good x) e = took x (either x.item x.next e)
        go (refused n p) e = ordinary n p e

    never_18 : (p : ℕ) → decoded w t s at room ≡ refused 18 p → ⊥
    unfolding every
    never_18 p h =
        let rs = decode_refusals (length s) (told (count_at s at)) (told_batches (head_at t s at room)) in
        let d : OneOf rs 18 p = rw h at ((demand1 w width).decode t s at room) in
        not_listed rs p refl d

    eighteen : (p : ℕ) → answer ≡ refused 18 p → Unfinished w t s at room p
    eighteen p h = go (decoded w t s at room) refl
      where
        took : (b : Block) (next : ℕ) → decoded w t s at room ≡ found b next → Verdict w t s at room b next → Unfinished w t s at room p
        took b next d (passes l e r) = absurd (clash 18 p b next (sym h ∙ r))
        took b next d (unlisted l r) = record { block = b; next = next; taken = d; why = inl (not_listable (own_list b) l, same_place 18 p 18 0 (sym h ∙ r)) }
        took b next d (differs q z r) = let e : q ≡ p = same_place 18 q 18 p (sym r ∙ h) in record { block = b; next = next; taken = d; why = inr (rw e at z) }

        go : (d : Read Block) → decoded w t s at room ≡ d → Unfinished w t s at room p
        go (good x) e = took x.item x.next e (verdict w width t s at room x.item x.next e)
        go (refused n q) e = absurd (never_18 p (e ∙ (sym (ordinary n q e) ∙ h)))

    good_list : (b : Block) (next : ℕ) → answer ≡ found b next → Premises t (own_list b) × Demand3 w t (own_list b) b
    good_list b next h = let p = finish b next h in (p.premises, subst (λ (c : Block). Demand3 w t (own_list b) c) (sym p.is) (demand3 w width t (own_list b) p.premises))

    none_kept : (b : Block) (next : ℕ) → answer ≡ found b next → All (Full t) (held b)
    none_kept b next h = let p = finish b next h in subst (λ (c : Block). All (Full t) (held c)) (sym p.is) (built_full t w width p.premises.table (own_list b))

  built : (xs : List Op) → Premises t xs → (before after : List ℕ) (room : Room) → length (before ++ (bytes_of w t xs ++ after)) ≤ 1048576 → room_for (batched w t xs) room ≡ true
      → Passed w t (before ++ (bytes_of w t xs ++ after)) (length before) room (batched w t xs) (length before + length (bytes_of w t xs))
  built xs h before after room l r = built_passes (before ++ (bytes_of w t xs ++ after)) (length before) room xs _ h ((demand3 w width t xs h).reads before after room l r)

  alike : (s s' : List ℕ) → Bytes s → Bytes s' → (at at' : ℕ) (room room' : Room) (b b' : Block) (next next' : ℕ) → Passed w t s at room b next → Passed w t s' at' room' b' next'
      → own_list b ≡ own_list b' → (b ≡ b') × (take (next - at) (drop at s) ≡ take (next' - at') (drop at' s'))
  alike s s' bytes bytes' at at' room room' b b' next next' h h' e =
      let p = finish s at room b next h in
      let p' = finish s' at' room' b' next' h' in
      let q : b ≡ b' = p.is ∙ (ap (batched w t) e ∙ sym p'.is) in
      (q, once w t s s' bytes bytes' at at' room room' b' next next' (subst (λ (c : Block). decoded w t s at room ≡ found c next) q p.taken) p'.taken)

pub strict_reading : (w : ℕ) → Width w → Strict w
strict_reading w width =
    record {
      only = λ t s bytes at room. only w width t s at room bytes;
      whenever = λ t s bytes at room. whenever w width t s at room bytes;
      built = built w width;
      is = λ t s at room b next h. (finish w width t s at room b next h).is;
      good = good_list w width;
      none_kept = none_kept w width;
      alike = alike w width;
      one = one w width;
      ordinary = ordinary w width;
      either = either w width;
      otherwise = otherwise w width;
      eighteen = eighteen w width;
    }
