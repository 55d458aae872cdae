-- The draft is a view of a batch of the rules: what closing, adding and ending do to it is what the rules do. Assumes nothing.
use mathlib.Core.Path.{◌≡◌, refl, sym, ap, ◌∙◌}
use mathlib.Core.Bool.{Bool, true, false, cond}
use mathlib.Core.List.{List, [], ◌∷◌, ◌++◌, map}
use Prim.Native.Nat.{ℕ, zero, suc, ◌+◌, ◌-◌, ◌*◌, ◌^◌}
use native.Mathlib.Nat.{pow-zero, pow-suc, mul-one, mul_assoc, mul_comm, mul-add}
use native.Mathlib.Omega.{arith}
use lib.ListN.{length, length-append, length-map}
use Rattle.rules.specs.Digits.{number}
use Rattle.rules.specs.Operations.{Op, noop, has_immediate}
use Rattle.rules.specs.Batching.{Group, ops, imm, Batch, empty, next_free, wants_noop, close_group, groups, turned, full, ready, joined, added, target, turned_times, ended}
use Rattle.rules.specs.Record.{size_of, flag_of, ops_in}
use Rattle.accumulator.specs.declared.OpBatchAccumulator.{OpBatchAccumulator}
use Rattle.accumulator.specs.Model.{pad_of}
use Rattle.accumulator.specs.View.{acc_of}
use Rattle.accumulator.proofs.View.{acc_empty, acc_next, acc_pads, acc_turned, acc_added}
use Rattle.strict.specs.declared.Shape.{Shape}
use Rattle.strict.specs.Draft.{Draft, shape_of, new_draft, closed_draft, closed_times, ended_draft, ready_draft, joined_draft, added_draft}
use Rattle.strict.proofs.Drafts.{added_acc_lem}

-- ---- a list of digits, one after another

pub number_append : (b : ℕ) (xs ys : List ℕ) → number b (xs ++ ys) ≡ number b xs + number b ys * b ^ length xs
unfolding number
number_append b [] ys = rw (pow-zero b, mul-one (number b ys)) (omega arith)
number_append b (x ∷ xs) ys =
    let n = number b ys in
    let p : n * b ^ suc (length xs) ≡ b * (n * b ^ length xs) = ap (λ (k : ℕ). n * k) (pow-suc b (length xs)) ∙ (sym (mul_assoc n (b ^ length xs) b) ∙ mul_comm (n * b ^ length xs) b) in
    let d : b * (number b xs + n * b ^ length xs) ≡ b * number b xs + b * (n * b ^ length xs) = mul-add b (number b xs) (n * b ^ length xs) in
    rw (number_append b xs ys, p, d) (omega arith)

map_append : (f : Group → ℕ) (gs hs : List Group) → map f (gs ++ hs) ≡ map f gs ++ map f hs
map_append f [] hs = refl
map_append f (g ∷ gs) hs = ap (λ (l : List ℕ). f g ∷ l) (map_append f gs hs)

-- slots of immediates count nothing
slots_none : (f : Group → ℕ) → ((v : ℕ) → f (imm v) ≡ 0) → (vs : List ℕ) → number 256 (map f (map imm vs)) ≡ 0
unfolding number
slots_none f z [] = refl
slots_none f z (v ∷ vs) = rw (z v, slots_none f z vs)

-- what closing adds, seen by sizes or by flags
closed_number : (f : Group → ℕ) → ((v : ℕ) → f (imm v) ≡ 0) → (t : List ℕ) (b : Batch)
    → number 256 (map f (groups t b)) ≡ number 256 (map f b.closed) + f (close_group t b.current) * 256 ^ length b.closed
unfolding groups number
closed_number f z t b =
    let g = close_group t b.current in
    let e : f g + 256 * 0 ≡ f g = omega arith in
    rw (map_append f b.closed (g ∷ map imm b.placed), number_append 256 (map f b.closed) (f g ∷ map f (map imm b.placed)), slots_none f z b.placed, length-map b.closed f, e)

size_imm : (v : ℕ) → size_of (imm v) ≡ 0
unfolding size_of ops_in
size_imm v = refl

flag_imm : (v : ℕ) → flag_of (imm v) ≡ 0
unfolding flag_of
flag_imm v = refl

size_closed : (t : List ℕ) (b : Batch) → size_of (close_group t b.current) ≡ length b.current + pad_of (acc_of t b)
unfolding size_of ops_in close_group
size_closed t b = rw (acc_pads t b) (go (wants_noop t b.current))
  where
    go : (p : Bool) → length (ops_in (cond p (ops (b.current ++ (noop ∷ [])) true) (ops b.current false))) ≡ length b.current + cond p 1 0
    go true = length-append b.current (noop ∷ [])
    go false = omega arith

flag_closed : (t : List ℕ) (b : Batch) → flag_of (close_group t b.current) ≡ pad_of (acc_of t b)
unfolding flag_of close_group
flag_closed t b = rw (acc_pads t b) (go (wants_noop t b.current))
  where
    go : (p : Bool) → flag_of (cond p (ops (b.current ++ (noop ∷ [])) true) (ops b.current false)) ≡ cond p 1 0
    go true = refl
    go false = refl

-- ---- the view

unfoldable pub draft_of : List ℕ → Batch → Draft
draft_of t b = record { acc = acc_of t b; sizes = number 256 (map size_of b.closed); flags = number 256 (map flag_of b.closed) }

pub draft_acc : (t : List ℕ) (b : Batch) → (draft_of t b).acc ≡ acc_of t b
unfolding draft_of
draft_acc t b = refl

pub draft_empty : (t : List ℕ) → new_draft ≡ draft_of t empty
unfolding draft_of empty number
draft_empty t = let e = acc_empty t in λ j. record { acc = e j; sizes = 0; flags = 0 }

draft_turned : (t : List ℕ) (b : Batch) → closed_draft (draft_of t b) ≡ draft_of t (turned t b)
unfolding closed_draft draft_of turned acc_of
draft_turned t b =
    let a = acc_turned t b in
    let s = ap (λ (k : ℕ). number 256 (map size_of b.closed) + k * 256 ^ length b.closed) (sym (size_closed t b)) ∙ sym (closed_number size_of size_imm t b) in
    let f = ap (λ (k : ℕ). number 256 (map flag_of b.closed) + k * 256 ^ length b.closed) (sym (flag_closed t b)) ∙ sym (closed_number flag_of flag_imm t b) in
    λ j. record { acc = a j; sizes = s j; flags = f j }

draft_ready : (t : List ℕ) (x : Op) (b : Batch) → ready_draft (has_immediate t x) (draft_of t b) ≡ draft_of t (ready t x b)
unfolding ready_draft ready draft_of acc_of full
draft_ready t x b = go (full t x b)
  where
    go : (w : Bool) → cond w (closed_draft (draft_of t b)) (draft_of t b) ≡ draft_of t (cond w (turned t b) b)
    go true = draft_turned t b
    go false = refl

pub draft_added : (t : List ℕ) (x : Op) (b : Batch) → added_draft x.code (has_immediate t x) (draft_of t b) ≡ draft_of t (added t x b)
unfolding joined_draft added joined draft_of
draft_added t x b =
    let a = added_acc_lem x.code (has_immediate t x) (draft_of t b) ∙ acc_added t x b in
    let r = draft_ready t x b in
    λ j. record { acc = a j; sizes = (r j).sizes; flags = (r j).flags }

draft_times : (k : ℕ) (t : List ℕ) (b : Batch) → closed_times k (draft_of t b) ≡ draft_of t (turned_times k t b)
unfolding closed_times turned_times
draft_times zero t b = refl
draft_times (suc k) t b = ap (closed_times k) (draft_turned t b) ∙ draft_times k t (turned t b)

last_is : (t : List ℕ) (b : Batch) → ended_draft (draft_of t b) ≡ draft_of t (turned t (turned_times (target (next_free b) - next_free b) t b))
unfolding ended_draft
last_is t b =
    let n = ap (λ (a : OpBatchAccumulator). a.next) (draft_acc t b) ∙ acc_next t b in
    ap (λ (k : ℕ). closed_draft (closed_times (target k - k) (draft_of t b))) n
    ∙ ap closed_draft (draft_times (target (next_free b) - next_free b) t b)
    ∙ draft_turned t (turned_times (target (next_free b) - next_free b) t b)

-- the shape of a batch that has ended: the sizes and flags of its groups
abbrev pub shape_by : List Group → Shape
shape_by gs = record { sizes = number 256 (map size_of gs); flags = number 256 (map flag_of gs) }

pub draft_ended : (t : List ℕ) (b : Batch) → shape_of (ended_draft (draft_of t b)) ≡ shape_by (ended t b)
unfolding ended draft_of turned
draft_ended t b = ap shape_of (last_is t b)
