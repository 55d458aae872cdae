-- What is still to be added of a batch, group by group and batch by batch: runs of operations between flagged paddings. Assumes nothing.
use mathlib.Core.Path.{◌≡◌, refl, sym, ap, ◌∙◌}
use mathlib.Core.Bool.{Bool, true, false}
use mathlib.Core.List.{List, [], ◌∷◌, ◌++◌, map, append_assoc, append-nil}
use Prim.Native.Nat.{ℕ, zero, suc, ◌+◌, ◌-◌, ◌≤◌, ◌<◌}
use native.Mathlib.Omega.{arith}
use lib.ListN.{length, get_or, take, drop, length-append, length-take, length-drop, take-append-drop, drop_of_length-le}
use lib.Seq.{take-add, drop-drop}
use Rattle.rules.specs.Lists.{total, but_last}
use Rattle.rules.specs.Digits.{number}
use Rattle.rules.specs.Record.{Record, record_at, records_from}
use Rattle.rules.specs.Checks.{ninth}
use Rattle.rules.specs.Lookups.{marks_in, marks}
use Rattle.rules.specs.Strict.{unmarked}
use Rattle.rules.proofs.Sizes.{marks_in_lem}
use Rattle.op_batch.proofs.Right.{rise, below_ninth, flags_ahead}
use Rattle.checks.proofs.Groups.{Laid}
use Rattle.checks.proofs.Walk.{records_turn, records_end}
use Rattle.prefix.specs.Tables.{marks_at}
use Rattle.prefix.proofs.Entries.{marks_turn, marks_end, marks_next, marks_none}
use Rattle.claims.proofs.Left.{none_marked, last_marked, unmarked_append}
use Rattle.strict.specs.Model.{codes_part}

-- ---- parts of the opcodes

part_join : (m n : ℕ) (cs : List ℕ) (i : ℕ) → codes_part (m + n) cs i ≡ codes_part m cs i ++ codes_part n cs (i + m)
part_join m n cs i = take-add m n (drop i cs) ∙ ap (λ (l : List ℕ). codes_part m cs i ++ take n l) (drop-drop m i cs)

part_glue : (from mid to : ℕ) (cs : List ℕ) → from ≤ mid → mid ≤ to → codes_part (mid - from) cs from ++ codes_part (to - mid) cs mid ≡ codes_part (to - from) cs from
part_glue from mid to cs h l =
    let e : to - from ≡ (mid - from) + (to - mid) = omega arith in
    let i : from + (mid - from) ≡ mid = omega arith in
    rw (e, part_join (mid - from) (to - mid) cs from, i)

pub part_length : (n : ℕ) (cs : List ℕ) (i : ℕ) → i + n ≤ length cs → length (codes_part n cs i) ≡ n
part_length n cs i h = simp (length-take, length-drop) (omega arith)

take_last : (m : ℕ) (xs : List ℕ) → suc m ≤ length xs → but_last (take (suc m) xs) ≡ take m xs
take_last m [] h = absurd (omega arith)
take_last zero (x ∷ xs) h = refl
take_last (suc m) (x ∷ []) h = absurd (omega arith)
take_last (suc m) (x ∷ y ∷ xs) h = ap (λ (l : List ℕ). x ∷ l) (take_last m (y ∷ xs) (omega arith))

-- a group of n operations without a padding, and one with it
whole_group : (n f : ℕ) (cs : List ℕ) (i : ℕ) → i + n ≤ length cs → f ≤ 1 → (f ≡ 1 → n ≡ 0) → unmarked (marks_in n f) (codes_part n cs i) ≡ codes_part n cs i
unfolding marks_in
whole_group zero f cs i h l e = refl
whole_group (suc n) zero cs i h l e = rw (part_length (suc n) cs i h) at (none_marked (codes_part (suc n) cs i))
whole_group (suc n) (suc zero) cs i h l e = absurd (omega (arith, e refl))
whole_group (suc n) (suc (suc f)) cs i h l e = absurd (omega arith)

less_group : (n f : ℕ) (cs : List ℕ) (i : ℕ) → i + n ≤ length cs → f ≡ 1 → 0 < n → unmarked (marks_in n f) (codes_part n cs i) ≡ codes_part (n - 1) cs i
less_group zero f cs i h e l = absurd (omega arith)
less_group (suc m) f cs i h e l =
    let k : suc m ≤ length (drop i cs) = simp length-drop (omega arith) in
    let z : suc m - 1 ≡ m = omega arith in
    rw (e, z) ((rw (part_length (suc m) cs i h) at (last_marked (codes_part (suc m) cs i))) ∙ take_last m (drop i cs) k)

-- ---- a batch whose operations begin at a place

-- what is still to be added, once what stands before `from` is: up to the g-th group, and from there on
unfoldable pub ahead : Record → List ℕ → ℕ → ℕ → ℕ → List ℕ
ahead r cs at from g = codes_part (at + get_or r.starts g 0 - from) cs from ++ unmarked (marks_at r g) (codes_part (ninth r - get_or r.starts g 0) cs (at + get_or r.starts g 0))

module _ (r : Record) (x : Laid r) (cs : List ℕ) (at : ℕ) (inside : at + ninth r ≤ length cs) where
  abbrev start : ℕ → ℕ
  start g = get_or r.starts g 0

  module _ (from g : ℕ) (h : g < 8) (low : from ≤ at + start g) where
    size : ℕ
    size = start (g + 1) - start g

    bounds : (start g ≤ start (g + 1)) × (start (g + 1) ≤ ninth r)
    bounds = ((rise x.width r x.sound x.starts g h).0, below_ninth x.width r x.sound x.starts (g + 1) (omega arith))

    -- the g-th group, and those after it
    from_here : unmarked (marks_at r g) (codes_part (ninth r - start g) cs (at + start g))
        ≡ unmarked (marks_in size (get_or r.flags g 0)) (codes_part size cs (at + start g)) ++ unmarked (marks_at r (g + 1)) (codes_part (ninth r - start (g + 1)) cs (at + start (g + 1)))
    unfolding size
    from_here =
        let b = bounds in
        let n = start (g + 1) - start g in
        let e : ninth r - start g ≡ n + (ninth r - start (g + 1)) = omega arith in
        let i : at + start g + n ≡ at + start (g + 1) = omega arith in
        let l : length (codes_part n cs (at + start g)) ≡ n = part_length n cs (at + start g) (omega arith) in
        rw (marks_turn r x g h, e, part_join n (ninth r - start (g + 1)) cs (at + start g), i)
        (unmarked_append (marks_in n (get_or r.flags g 0)) (marks_at r (g + 1)) (codes_part n cs (at + start g)) (codes_part (ninth r - start (g + 1)) cs (at + start (g + 1))) (marks_in_lem n (get_or r.flags g 0) ∙ sym l))

    -- no padding: the run goes on
    pub goes_on : (get_or r.flags g 0 ≡ 1 → start (g + 1) ≤ start g) → ahead r cs at from (g + 1) ≡ ahead r cs at from g
    unfolding ahead size
    goes_on p =
        let b = bounds in
        let n = start (g + 1) - start g in
        let front = codes_part (at + start g - from) cs from in
        let here = codes_part n cs (at + start g) in
        let more = unmarked (marks_at r (g + 1)) (codes_part (ninth r - start (g + 1)) cs (at + start (g + 1))) in
        let flat : unmarked (marks_in n (get_or r.flags g 0)) here ≡ here = whole_group n (get_or r.flags g 0) cs (at + start g) (omega arith) (x.sound.flags g (omega (arith, x.flags))) (λ f. omega (arith, p f)) in
        let i : at + start (g + 1) - (at + start g) ≡ n = omega arith in
        let glued : front ++ here ≡ codes_part (at + start (g + 1) - from) cs from = rw i at (part_glue from (at + start g) (at + start (g + 1)) cs low (omega arith)) in
        sym (ap (λ (l : List ℕ). front ++ l) (from_here ∙ ap (λ (l : List ℕ). l ++ more) flat) ∙ sym (append_assoc front here more) ∙ ap (λ (l : List ℕ). l ++ more) glued)

    -- a padding: the run before it, and what comes after it
    pub ends : get_or r.flags g 0 ≡ 1 → start g < start (g + 1) → ahead r cs at from g ≡ codes_part (at + start (g + 1) - 1 - from) cs from ++ ahead r cs at (at + start (g + 1)) (g + 1)
    unfolding ahead size
    ends f l =
        let b = bounds in
        let n = start (g + 1) - start g in
        let front = codes_part (at + start g - from) cs from in
        let here = codes_part (n - 1) cs (at + start g) in
        let more = unmarked (marks_at r (g + 1)) (codes_part (ninth r - start (g + 1)) cs (at + start (g + 1))) in
        let flat : unmarked (marks_in n (get_or r.flags g 0)) (codes_part n cs (at + start g)) ≡ here = less_group n (get_or r.flags g 0) cs (at + start g) (omega arith) f (omega arith) in
        let i : at + start (g + 1) - 1 - (at + start g) ≡ n - 1 = omega arith in
        let glued : front ++ here ≡ codes_part (at + start (g + 1) - 1 - from) cs from = rw i at (part_glue from (at + start g) (at + start (g + 1) - 1) cs low (omega arith)) in
        let z : at + start (g + 1) - (at + start (g + 1)) ≡ 0 = omega arith in
        rw z (ap (λ (l : List ℕ). front ++ l) (from_here ∙ ap (λ (l : List ℕ). l ++ more) flat) ∙ sym (append_assoc front here more) ∙ ap (λ (l : List ℕ). l ++ more) glued)

  -- no flag is ahead
  pub rest : (d from g : ℕ) → g + d ≡ 8 → from ≤ at + start g → number 256 (drop g r.flags) ≡ 0 → ahead r cs at from g ≡ codes_part (at + ninth r - from) cs from
  unfolding ahead
  rest zero from g e low z =
      let q : g ≡ 8 = omega arith in
      let s : start g ≡ ninth r = ap start q in
      let o : ninth r - ninth r ≡ 0 = omega arith in
      rw (marks_end r x g q, s, o) (append-nil (codes_part (at + ninth r - from) cs from))
  rest (suc d) from g e low z =
      let h : g < 8 = omega arith in
      let a = flags_ahead x.width r x.sound x.flags g h in
      let up = (rise x.width r x.sound x.starts g h).0 in
      sym (goes_on from g h low (λ f. absurd (omega arith))) ∙ rest d from (g + 1) (omega arith) (omega arith) (omega arith)

  pub none_ahead : (g : ℕ) → 8 ≤ g → number 256 (drop g r.flags) ≡ 0
  unfolding number
  none_ahead g h = rw (drop_of_length-le r.flags {i = g} (omega (arith, x.flags)))

  -- all of it
  pub first : ahead r cs at at 0 ≡ unmarked (marks_at r 0) (codes_part (ninth r) cs at)
  unfolding ahead
  first =
      let s : start 0 ≡ 0 = x.sound.first in
      let z : at + 0 - at ≡ 0 = omega arith in
      let i : at + 0 ≡ at = omega arith in
      let n : ninth r - 0 ≡ ninth r = omega arith in
      rw (s, z, n, i)

  -- each operation has a mark
  marks_many : (d g : ℕ) → g + d ≡ 8 → length (marks_at r g) ≡ ninth r - start g
  marks_many zero g e = let q : g ≡ 8 = omega arith in let s : start g ≡ ninth r = ap start q in rw (marks_end r x g q) (omega arith)
  marks_many (suc d) g e =
      let h : g < 8 = omega arith in
      let n = start (g + 1) - start g in
      let up = (rise x.width r x.sound x.starts g h).0 in
      let top = below_ninth x.width r x.sound x.starts (g + 1) (omega arith) in
      rw (marks_turn r x g h) (simp length-append (omega (arith, marks_in_lem n (get_or r.flags g 0), marks_many d (g + 1) (omega arith))))

  pub all_marked : length (marks_at r 0) ≡ length (codes_part (ninth r) cs at)
  all_marked = omega (arith, marks_many 8 0 refl, x.sound.first, part_length (ninth r) cs at inside)

pub unmarked_few : (ms : List Bool) (xs : List ℕ) → length (unmarked ms xs) ≤ length xs
unmarked_few [] xs = omega arith
unmarked_few (m ∷ ms) [] = omega arith
unmarked_few (true ∷ ms) (x ∷ xs) = omega (arith, unmarked_few ms xs)
unmarked_few (false ∷ ms) (x ∷ xs) = omega (arith, unmarked_few ms xs)

-- ---- batch by batch: what is still to be added, once the first b of k batches are, which have `at` operations

unfoldable pub behind : List ℕ → ℕ → List ℕ → ℕ → ℕ → List ℕ
behind s k cs b at = unmarked (marks (records_from (k - b) s b)) (drop at cs)

module _ (s : List ℕ) (k : ℕ) (cs : List ℕ) (b at : ℕ) where
  pub behind_turn : b < k → Laid (record_at s b) → at + ninth (record_at s b) ≤ length cs
      → behind s k cs b at ≡ unmarked (marks_at (record_at s b) 0) (codes_part (ninth (record_at s b)) cs at) ++ behind s k cs (b + 1) (at + ninth (record_at s b))
  unfolding behind
  behind_turn h x l =
      let r = record_at s b in
      let ms = marks (records_from (k - (b + 1)) s (b + 1)) in
      let e : drop at cs ≡ codes_part (ninth r) cs at ++ drop (at + ninth r) cs = sym (take-append-drop (ninth r) (drop at cs)) ∙ ap (λ (q : List ℕ). codes_part (ninth r) cs at ++ q) (drop-drop (ninth r) at cs) in
      rw (marks_next k s b h)
      (ap (λ (q : List ℕ). unmarked (marks_at r 0 ++ ms) q) e ∙ unmarked_append (marks_at r 0) ms (codes_part (ninth r) cs at) (drop (at + ninth r) cs) (all_marked r x cs at l))

  pub behind_end : k ≤ b → length cs ≤ at → behind s k cs b at ≡ []
  unfolding behind
  behind_end h l = rw (marks_none k s b h, drop_of_length-le cs {i = at} l)

  pub sum_turn : b < k → total (map ninth (records_from (k - b) s b)) ≡ ninth (record_at s b) + total (map ninth (records_from (k - (b + 1)) s (b + 1)))
  unfolding total
  sum_turn h = rw (records_turn k s b h)

  pub sum_end : k ≤ b → total (map ninth (records_from (k - b) s b)) ≡ 0
  unfolding total
  sum_end h = rw (records_end k s b h)
