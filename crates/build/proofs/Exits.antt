-- The ends of `build`: refused by a check of the input, refused for an operation, made, refused for want of room. `w` is the width. Assumes nothing.
use mathlib.Core.Path.{◌≡◌, refl, sym, ap, ◌∙◌}
use mathlib.Core.Bool.{Bool, true, false, not, ◌&&◌}
use mathlib.Core.List.{List, [], ◌∷◌, map}
use Prim.Native.Nat.{ℕ, zero, suc, ◌+◌, ◌/◌}
use lib.ListN.{length}
use lib.Dec.{leb}
use Rattle.std.specs.Prelude.{Result, Ok, Err}
use Rattle.std.specs.Result.{is_err}
use Rattle.rules.specs.Answer.{Answer, good, refused, refuse, refuse_first}
use Rattle.rules.specs.Refusals.{no_room₁₃}
use Rattle.rules.specs.Operations.{operations, op_fault}
use Rattle.rules.specs.Record.{Block, record_size, no_block}
use Rattle.rules.specs.Block.{Room}
use Rattle.rules.specs.Functions.{Arena, room_in, filled, room_for, built, leaves}
use Rattle.rules.proofs.Answer.{clash, value}
use Rattle.rules.proofs.Runs.{fitted_length}
use Rattle.refusal.specs.declared.Refusal.{Refusal}
use Rattle.refusal.specs.Told.{number_of, place_of, told}
use Rattle.batcher.specs.declared.Totals.{Totals}
use Rattle.batcher.specs.Batched.{listed, built_of, Batched}
use Rattle.build.specs.Outcome.{Outcome}
use Rattle.batcher.specs.declared.Input.{Input}
use Rattle.build.specs.Checked.{placed, block_for, left, left_of, Checked}

-- ---- of the runs only the lengths matter

abbrev Same : Arena → Arena → Type 0
Same a e = (length a.codes ≡ length e.codes) × (length a.values ≡ length e.values) × (length a.records ≡ length e.records)

same : (e a : Arena) (b : Block) → a ≡ filled e b → Same a e
unfolding filled
same e a b p =
    (ap (λ (x : Arena). length x.codes) p ∙ fitted_length _ _, ap (λ (x : Arena). length x.values) p ∙ fitted_length _ _, ap (λ (x : Arena). length x.records) p ∙ fitted_length _ _)

refill : (e a : Arena) → Same a e → (d : Block) → filled a d ≡ filled e d
unfolding filled
refill e a l d = rw (l.0, l.1, l.2)

pub same_again : (e a : Arena) (b : Block) → a ≡ filled e b → a ≡ filled a b
same_again e a b p = p ∙ sym (refill e a (same e a b p) b)

-- ---- the walk to the first fault, heard as the driver's reply

abbrev then : Answer Totals → Answer Block → Answer Block
then (good t) r = r
then (refused n p) r = refused n p

walked : (i : ℕ) (ns : List ℕ) (b : Block) (r : Answer Block) → refuse_first i ns r ≡ then (built_of (refuse_first i ns (good b))) r
unfolding refuse_first
walked i [] b r = refl
walked i (zero ∷ ns) b r = walked (i + 1) ns b r
walked i (suc n ∷ ns) b r = refl

walked_good : (i : ℕ) (ns : List ℕ) (b : Block) (t : Totals) → built_of (refuse_first i ns (good b)) ≡ good t → refuse_first i ns (good b) ≡ good b
unfolding refuse_first
walked_good i [] b t h = refl
walked_good i (zero ∷ ns) b t h = walked_good (i + 1) ns b t h
walked_good i (suc n ∷ ns) b t h = cc

-- ---- batched: `a` are the runs all zero, `a'` as the driver leaves them

module _ (w : ℕ) (t cs vs : List ℕ) (r : Result Totals Refusal) (a a' : Arena) (m : Batched (listed w t cs vs) r a a') where
  goes : (x : Answer Block) → refuse_first 0 (map (op_fault t) (operations cs vs)) x ≡ then (told r) x
  goes x = walked 0 (map (op_fault t) (operations cs vs)) (block_for w t cs vs) x ∙ ap (λ (y : Answer Totals). then y x) (sym m.reply)

  refused_with : (n p : ℕ) → left w t cs vs (room_in a) ≡ refused n p → (q : Result Totals Refusal) → told q ≡ refused n p → Batched (left w t cs vs (room_in a)) q a a'
  refused_with n p e q f = record { reply = f ∙ ap built_of (sym e); runs = λ x z. absurd (clash n p x (sym e ∙ z)) }

  pub fault : (n p : ℕ) → told r ≡ refused n p → (q : Result Totals Refusal) → told q ≡ refused n p → Batched (left w t cs vs (room_in a)) q a a'
  fault n p e = refused_with n p (goes (placed (block_for w t cs vs) (room_in a)) ∙ ap (λ (y : Answer Totals). then y (placed (block_for w t cs vs) (room_in a))) e)

  module _ (k : Totals) (f : told r ≡ good k) where
    whole : listed w t cs vs ≡ good (block_for w t cs vs)
    whole = walked_good 0 (map (op_fault t) (operations cs vs)) (block_for w t cs vs) k (sym m.reply ∙ f)

    counts : good k ≡ built_of (good (block_for w t cs vs))
    counts = sym f ∙ m.reply ∙ ap built_of whole

    holds : a' ≡ filled a (block_for w t cs vs)
    holds = m.runs (block_for w t cs vs) whole

    -- the room that is found is the room that the rules ask
    found : (leb k.operations (length a'.codes) && (leb k.operations (length a'.values) && leb k.batches (length a'.records / record_size))) ≡ room_for (block_for w t cs vs) (room_in a)
    unfolding room_for room_in
    found =
        let l = same a a' (block_for w t cs vs) holds in
        let v = value k (record { batches = length (block_for w t cs vs).records; operations = length (block_for w t cs vs).ops }) counts in
        rw (ap (λ (x : Totals). x.operations) v, ap (λ (x : Totals). x.batches) v, l.0, l.1, l.2)

    module _ (x : Bool) (g : x ≡ (leb k.operations (length a'.codes) && (leb k.operations (length a'.values) && leb k.batches (length a'.records / record_size)))) where
      decided : (y : Bool) → x ≡ y → left w t cs vs (room_in a) ≡ refuse (not y) 13 0 (good (block_for w t cs vs))
      decided y i = goes (placed (block_for w t cs vs) (room_in a)) ∙ ap (λ (u : Answer Totals). then u (placed (block_for w t cs vs) (room_in a))) f
          ∙ ap (λ (u : Bool). refuse (not u) 13 0 (good (block_for w t cs vs))) (sym (g ∙ found) ∙ i)

      pub made : x ≡ true → Batched (left w t cs vs (room_in a)) (Ok k) a a'
      made i = record { reply = counts ∙ ap built_of (sym (decided true i)); runs = λ b z. holds ∙ ap (filled a) (value (block_for w t cs vs) b (sym (decided true i) ∙ z)) }

      pub no_room : x ≡ false → (q : Result Totals Refusal) → told q ≡ refused no_room₁₃ 0 → Batched (left w t cs vs (room_in a)) q a a'
      no_room i = refused_with 13 0 (decided false i)

-- ---- built: `e` are the runs as they came, `a` cleared, `a'` as batching leaves them

outcome : {answer : Room → Answer Block} {r : Result Totals Refusal} {e a : Arena} (x : Answer Block) → answer (room_in e) ≡ x → told r ≡ built_of x → a ≡ filled e (leaves no_block x) → Outcome answer r e a
outcome {e = e} x q p s = record { reply = p ∙ ap built_of (sym q); runs = s ∙ ap (λ (y : Answer Block). filled e (leaves no_block y)) (sym q) }

pub input_refused : {t cs vs : List ℕ} {n : Refusal} {e a : Arena} → Checked t cs vs (Err n) → (r : Result Totals Refusal) → told r ≡ refused (number_of n) (place_of n) → a ≡ filled e no_block → Outcome (built 8 t cs vs) r e a
input_refused {n = n} {e = e} h r f z = outcome (refused (number_of n) (place_of n)) (h.decides (room_in e)) f z

gone : (r : Result Totals Refusal) (x : Answer Block) → told r ≡ built_of x → is_err r ≡ false → (b : Block) × (x ≡ good b)
gone (Ok q) (good b) h f = (b, refl)
gone (Ok q) (refused n p) h f = absurd (clash n p q (sym h))
gone (Err n) x h f = cc

stopped : (r : Result Totals Refusal) (x : Answer Block) → told r ≡ built_of x → is_err r ≡ true → leaves no_block x ≡ no_block
stopped (Ok q) x h f = cc
stopped (Err n) (good b) h f = absurd (clash _ _ _ h)
stopped (Err n) (refused m p) h f = refl

module _ {t cs vs : List ℕ} {k : Input} {r : Result Totals Refusal} (e a a' : Arena) (h : Checked t cs vs (Ok k)) (z : a ≡ filled e no_block) (m : Batched (left_of k (room_in a)) r a a') where
  rooms : room_in a ≡ room_in e
  unfolding room_in
  rooms = let l = same e a no_block z in rw (l.0, l.1, l.2)

  decides : built 8 t cs vs (room_in e) ≡ left_of k (room_in a)
  decides = let s = h.same in h.decides (room_in e) ∙ rw (s.0, s.1, s.2, s.3, rooms)

  pub kept : is_err r ≡ false → Outcome (built 8 t cs vs) r e a'
  kept f = let b = gone r _ m.reply f in outcome (good b.0) (decides ∙ b.1) (m.reply ∙ ap built_of b.1) (m.runs b.0 b.1 ∙ refill e a (same e a no_block z) b.0)

  pub wiped : is_err r ≡ true → (a'' : Arena) → Same a' a → a'' ≡ filled a' no_block → Outcome (built 8 t cs vs) r e a''
  wiped f a'' l y =
      outcome (left_of k (room_in a)) decides m.reply (y ∙ refill a a' l no_block ∙ refill e a (same e a no_block z) no_block ∙ ap (filled e) (sym (stopped r _ m.reply f)))
