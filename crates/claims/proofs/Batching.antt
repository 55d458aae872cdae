-- Demand 3, the batching half. Assumes nothing.
use mathlib.Core.Path.{◌≡◌, refl, sym, ap, ◌∙◌}
use mathlib.Core.List.{List, [], ◌∷◌, ◌++◌, append_assoc, append-nil, map}
use mathlib.Core.Bool.{Bool, true, false, cond}
use Prim.Native.Nat.{ℕ, zero, suc}
use lib.Seq.{append_snoc}
use Rattle.rules.specs.Lists.{but_last}
use Rattle.rules.specs.Operations.{Op, noop}
use Rattle.rules.specs.Batching.{Group, ops, imm, Batch, empty, fits, wants_noop, close_group, groups, turned, full, ready, joined, added, turned_times, ended, Work, start, end_batch, room, step, steps, batches_of}
use Rattle.claims.proofs.Shape.{raw_in, raw, raws}

-- ---- dropping the flagged padding gives the list back

but_last_snoc : (xs : List Op) (x : Op) → but_last (xs ++ (x ∷ [])) ≡ xs
but_last_snoc [] x = refl
but_last_snoc (y ∷ []) x = refl
but_last_snoc (y ∷ z ∷ xs) x = ap (λ (r : List Op). y ∷ r) (but_last_snoc (z ∷ xs) x)

pub raw_append : (gs hs : List Group) → raw (gs ++ hs) ≡ raw gs ++ raw hs
raw_append [] hs = refl
raw_append (g ∷ gs) hs = rw (raw_append gs hs) (sym (append_assoc (raw_in g) (raw gs) (raw hs)))

pub raws_append : (as' bs : List (List Group)) → raws (as' ++ bs) ≡ raws as' ++ raws bs
raws_append [] bs = refl
raws_append (g ∷ gs) bs = rw (raws_append gs bs) (sym (append_assoc (raw g) (raws gs) (raws bs)))

raw_imms : (vs : List ℕ) → raw (map imm vs) ≡ []
raw_imms [] = refl
raw_imms (v ∷ vs) = raw_imms vs

module _ (t : List ℕ) where
  raw_close : (xs : List Op) → raw_in (close_group t xs) ≡ xs
  unfolding close_group
  raw_close xs = go (wants_noop t xs)
    where
      go : (b : Bool) → raw_in (cond b (ops (xs ++ (noop ∷ [])) true) (ops xs false)) ≡ xs
      go true = but_last_snoc xs noop
      go false = refl

  -- the operations that a batch in the making was given
  abbrev pub given : Batch → List Op
  given b = raw b.closed ++ b.current

  pub raw_groups : (b : Batch) → raw (groups t b) ≡ given b
  unfolding groups
  raw_groups b = rw (raw_append, raw_close, raw_imms, append-nil)

  given_turned : (b : Batch) → given (turned t b) ≡ given b
  unfolding turned
  given_turned b = rw append-nil (raw_groups b)

  given_times : (k : ℕ) (b : Batch) → given (turned_times k t b) ≡ given b
  unfolding turned_times
  given_times zero b = refl
  given_times (suc k) b = given_times k (turned t b) ∙ given_turned b

  pub raw_ended : (b : Batch) → raw (ended t b) ≡ given b
  unfolding ended
  raw_ended b = raw_groups _ ∙ given_times _ b

  given_joined : (x : Op) (b : Batch) → given (joined t x b) ≡ given b ++ (x ∷ [])
  unfolding joined
  given_joined x b = sym (append_assoc (raw b.closed) b.current (x ∷ []))

  given_added : (x : Op) (b : Batch) → given (added t x b) ≡ given b ++ (x ∷ [])
  unfolding added ready
  given_added x b = go (full t x b)
    where
      go : (f : Bool) → given (joined t x (cond f (turned t b) b)) ≡ given b ++ (x ∷ [])
      go true = given_joined x (turned t b) ∙ rw given_turned
      go false = given_joined x b

  -- the operations that the driver was given
  abbrev taken : Work → List Op
  taken d = raws d.batches ++ given d.current

  taken_end : (d : Work) → taken (end_batch t d) ≡ taken d
  unfolding end_batch empty
  taken_end d = rw (append-nil, raws_append, append-nil, raw_ended)

  taken_add : (x : Op) (d : Work) → taken (record { batches = d.batches; current = added t x d.current }) ≡ taken d ++ (x ∷ [])
  taken_add x d = rw given_added (sym (append_assoc (raws d.batches) (given d.current) (x ∷ [])))

  taken_step : (w : ℕ) (x : Op) (d : Work) → taken (step w t x d) ≡ taken d ++ (x ∷ [])
  unfolding step room
  taken_step w x d = taken_add x (room w t x d) ∙ ap (λ (l : List Op). l ++ (x ∷ [])) (go (fits w t x d.current))
    where
      go : (f : Bool) → taken (cond f d (end_batch t d)) ≡ taken d
      go true = refl
      go false = taken_end d

  taken_steps : (w : ℕ) (xs : List Op) (d : Work) → taken (steps w t xs d) ≡ taken d ++ xs
  unfolding steps
  taken_steps w [] d = sym (append-nil (taken d))
  taken_steps w (x ∷ xs) d = taken_steps w xs (step w t x d) ∙ rw taken_step (append_snoc (taken d) x xs)

  -- "dropping the flagged padding from the batches .. gives the list back"
  pub list_back : (w : ℕ) (xs : List Op) → raws (batches_of w t xs) ≡ xs
  unfolding batches_of end_batch empty start
  list_back w xs = rw (raws_append, raw_ended, append-nil) (taken_steps w xs start)
