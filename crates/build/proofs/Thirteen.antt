-- Refusal 13 is given exactly when a lent output is smaller than the result needs. Assumes nothing.
use mathlib.Core.Path.{◌≡◌, refl, sym, ap, ◌∙◌}
use mathlib.Core.Bool.{Bool, true, false, cond, not, ◌||◌}
use mathlib.Core.List.{List, [], ◌∷◌, map}
use Prim.Native.Nat.{ℕ, ◌+◌}
use native.Mathlib.Omega.{arith}
use borrow.Author.Tests.{leb-true, leb-false}
use lib.ListN.{length}
use lib.Dec.{leb, ltb, eqb}
use Rattle.rules.specs.Answer.{Answer, good, refused, refuse, or_else, refuse_first}
use Rattle.rules.specs.Refusals.{no_room₁₃}
use Rattle.rules.specs.Operations.{Op, operations, good_table, assigned, value_right, code_fault, value_fault, op_fault}
use Rattle.rules.specs.Batching.{batches_of}
use Rattle.rules.specs.Record.{Block, block_of}
use Rattle.rules.specs.Block.{Room}
use Rattle.rules.specs.Functions.{room_for, built}
use Rattle.rules.proofs.Answer.{clash, value}
use Rattle.build.specs.Checked.{placed}
use Rattle.build.specs.Thirteen as say
use Rattle.build.specs.Thirteen.{Short, Enough, Decided, Thirteen, BuildThirteen}

-- ---- a room is enough or short

data Room? (b : Block) (room : Room) : Type 0 where
  enough : room_for b room ≡ true → Enough b room → Room? b room
  short : room_for b room ≡ false → Short b room → Room? b room

room? : (b : Block) (room : Room) → Room? b room
unfolding room_for
room? b room = go (leb (length b.ops) room.codes) (leb (length b.ops) room.values) (leb (length b.records) room.records) refl refl refl
  where
    go : (x y z : Bool) → leb (length b.ops) room.codes ≡ x → leb (length b.ops) room.values ≡ y → leb (length b.records) room.records ≡ z → Room? b room
    go true true true p q r = enough (rw (p, q, r)) (record { codes = leb-true _ _ p; values = leb-true _ _ q; records = leb-true _ _ r })
    go true true false p q r = short (rw (p, q, r)) (say.records (leb-false _ _ r))
    go true false z p q r = short (rw (p, q)) (say.values (leb-false _ _ q))
    go false y z p q r = short (rw p) (say.codes (leb-false _ _ p))

not_both : (b : Block) (room : Room) → Enough b room → Short b room → ⊥
not_both b room e (say.codes h) = omega (arith, e.codes)
not_both b room e (say.values h) = omega (arith, e.values)
not_both b room e (say.records h) = omega (arith, e.records)

-- ---- the answer: refused before the room matters, or decided by it

data Way (answer : Room → Answer Block) (b : Block) : Type 0 where
  early : (n p : ℕ) → (n ≡ 13 → ⊥) → ((room : Room) → answer room ≡ refused n p) → Way answer b
  late : ((room : Room) → answer room ≡ placed b room) → Way answer b

guard : {answer : Room → Answer Block} {b : Block} (x : Bool) (n p : ℕ) → (n ≡ 13 → ⊥) → Way answer b → Way (λ (room : Room). refuse x n p (answer room)) b
guard true n p h w = early n p h (λ room. refl)
guard false n p h w = w

faults : {answer : Room → Answer Block} {b : Block} (t : List ℕ) (i : ℕ) (xs : List Op) → Way answer b → Way (λ (room : Room). refuse_first i (map (op_fault t) xs) (answer room)) b
unfolding refuse_first op_fault code_fault value_fault
faults t i [] w = w
faults {answer} {b} t i (x ∷ xs) w = go (assigned t x.code) (value_right t x) (faults t (i + 1) xs w)
  where
    go : (k v : Bool) → Way (λ (room : Room). refuse_first (i + 1) (map (op_fault t) xs) (answer room)) b
        → Way (λ (room : Room). refuse_first i (or_else (cond k 0 4) (cond v 0 17) ∷ map (op_fault t) xs) (answer room)) b
    go true true rest = rest
    go true false rest = early 17 i (λ e. omega arith) (λ room. refl)
    go false v rest = early 4 i (λ e. omega arith) (λ room. refl)

way : (w : ℕ) (t cs vs : List ℕ) → Way (built w t cs vs) (block_of (batches_of w t (operations cs vs)))
unfolding built
way w t cs vs =
    guard (not (eqb (length cs) (length vs)) || ltb 16384 (length cs)) 3 0 (λ e. omega arith)
    (guard (not (good_table t)) 14 0 (λ e. omega arith)
    (guard (eqb (length cs) 0) 12 0 (λ e. omega arith)
    (faults t 0 (operations cs vs)
    (late (λ room. refl)))))

-- ---- the statement

module _ (answer : Room → Answer Block) (b : Block) where
  decided : ((room : Room) → answer room ≡ placed b room) → Decided answer b
  decided f = record { enough = yes; short = no }
    where
      yes : (room : Room) → Enough b room → answer room ≡ good b
      yes room e = elim (room? b room) [ enough p q ↦ f room ∙ ap (λ (x : Bool). refuse (not x) 13 0 (good b)) p | short p s ↦ absurd (not_both b room e s) ]

      no : (room : Room) → Short b room → answer room ≡ refused no_room₁₃ 0
      no room s = elim (room? b room) [ enough p e ↦ absurd (not_both b room e s) | short p q ↦ f room ∙ ap (λ (x : Bool). refuse (not x) 13 0 (good b)) p ]

  same_number : (m n p q : ℕ) → ◌≡◌ {A = Answer Block} (refused m p) (refused n q) → (m ≡ n) × (p ≡ q)
  same_number m n p q h = (cc, cc)

  thirteen_of : Way answer b → Thirteen answer b
  thirteen_of (early n p h f) =
      record {
        made = λ room x e. absurd (clash n p x (sym (f room) ∙ e));
        given = λ room q e. absurd (h (same_number n 13 p q (sym (f room) ∙ e)).0);
        other = λ room m q e k more. f more ∙ sym (f room) ∙ e;
      }
  thirteen_of (late f) =
      record {
        made = λ room x e. by_made room x e (room? b room);
        given = λ room q e. by_given room q e (room? b room);
        other = λ room m q e k. by_other room m q e k (room? b room);
      }
    where
      d : Decided answer b
      d = decided f

      by_made : (room : Room) (x : Block) → answer room ≡ good x → Room? b room → (x ≡ b) × Enough b room × Decided answer b
      by_made room x e (enough p k) = (value x b (sym e ∙ d.enough room k), k, d)
      by_made room x e (short p s) = absurd (clash 13 0 x (sym (d.short room s) ∙ e))

      by_given : (room : Room) (q : ℕ) → answer room ≡ refused 13 q → Room? b room → (q ≡ 0) × Short b room × Decided answer b
      by_given room q e (enough p k) = absurd (clash 13 q b (sym e ∙ d.enough room k))
      by_given room q e (short p s) = ((same_number 13 13 q 0 (sym e ∙ d.short room s)).1, s, d)

      by_other : (room : Room) (n q : ℕ) → answer room ≡ refused n q → (n ≡ 13 → ⊥) → Room? b room → (more : Room) → answer more ≡ refused n q
      by_other room n q e h (enough p k) more = absurd (clash n q b (sym e ∙ d.enough room k))
      by_other room n q e h (short p s) more = absurd (h (same_number n 13 q 0 (sym e ∙ d.short room s)).0)

pub thirteen : BuildThirteen
thirteen w t cs vs = thirteen_of (built w t cs vs) (block_of (batches_of w t (operations cs vs))) (way w t cs vs)
