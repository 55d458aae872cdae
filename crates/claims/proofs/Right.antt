-- Demand 3: every group and every batch is as document 01 says. Assumes nothing.
use mathlib.Core.Path.{◌≡◌, refl, sym, ap, ◌∙◌}
use mathlib.Core.List.{List, [], ◌∷◌, ◌++◌, map}
use mathlib.Core.Bool.{Bool, true, false, cond}
use Prim.Native.Nat.{ℕ, zero, suc, ◌+◌, ◌-◌, ◌≤◌}
use native.Mathlib.Omega.{arith}
use borrow.Author.Tests.{lt-ltb, le-ltb, le-leb, lt-leb, ltb-true, ltb-false, leb-true}
use lib.ListN.{length, length-append}
use lib.Dec.{leb, ltb}
use Rattle.rules.specs.Operations.{Op, has_immediate, noop}
use Rattle.rules.specs.Batching.{Group, ops, imm, Batch, empty, next_free, fits, wants_noop, close_group, groups, turned, full, ready, joined, added, target, turned_times, ended, Work, start, end_batch, room, step, steps, batches_of}
use Rattle.rules.specs.Record.{immediates}
use Rattle.claims.specs.Shape.{EndsInNoop}
use Rattle.claims.proofs.Shape.{raw, RightGroup, Follow, RightBatch, RightBatches}
use Rattle.claims.proofs.Lists.{all_append, split}
use Rattle.claims.proofs.Batching.{raw_groups, raw_ended}
use Rattle.claims.proofs.Ended.{target_power, target_up, length_groups, next_turned, length_ended}
use Rattle.rules.specs.Lists.{All}

-- what is asked of a width
pub record Width (w : ℕ) : Type 0 where
  pub four : 4 ≤ w
  pub eight : w ≤ 8
  pub low : target (w - 1) ≡ w
  pub top : target w ≡ w
  pub within : (n : ℕ) → n ≤ w → target n ≤ w

pub width_8 : Width 8
unfolding target
width_8 = record { four = omega arith; eight = omega arith; low = refl; top = refl; within = λ n h. go (leb n 1) (leb n 2) (leb n 4) }
  where
    go : (a b c : Bool) → cond a 1 (cond b 2 (cond c 4 8)) ≤ 8
    go true b c = omega arith
    go false true c = omega arith
    go false false true = omega arith
    go false false false = omega arith

pub width_4 : Width 4
unfolding target
width_4 = record { four = omega arith; eight = omega arith; low = refl; top = refl; within = λ n h. rw (le-leb n 4 h) (go (leb n 1) (leb n 2)) }
  where
    go : (a b : Bool) → cond a 1 (cond b 2 4) ≤ 4
    go true b = omega arith
    go false true = omega arith
    go false false = omega arith

module _ (w : ℕ) (width : Width w) (t : List ℕ) (plain : has_immediate t noop ≡ false) where
  -- ---- closing a group

  wants_snoc : (xs : List Op) (x : Op) → wants_noop t (xs ++ (x ∷ [])) ≡ has_immediate t x
  unfolding wants_noop
  wants_snoc [] x = refl
  wants_snoc (y ∷ []) x = refl
  wants_snoc (y ∷ z ∷ xs) x = wants_snoc (z ∷ xs) x

  ends_snoc : (xs : List Op) → EndsInNoop (xs ++ (noop ∷ []))
  ends_snoc [] = refl
  ends_snoc (y ∷ []) = refl
  ends_snoc (y ∷ z ∷ xs) = ends_snoc (z ∷ xs)

  some_if : (xs : List Op) → wants_noop t xs ≡ false → 1 ≤ length xs
  unfolding wants_noop
  some_if [] h = let z : ◌≡◌ {A = Bool} true false = h in let y : ◌≡◌ {A = ℕ} 0 1 = cc in omega arith
  some_if (x ∷ xs) h = omega arith

  imms_snoc : (xs : List Op) (x : Op) → has_immediate t x ≡ false → immediates t (xs ++ (x ∷ [])) ≡ immediates t xs
  unfolding immediates
  imms_snoc [] x h = rw h
  imms_snoc (y ∷ xs) x h = rw (imms_snoc xs x h)

  imms_more : (xs : List Op) (x : Op) → has_immediate t x ≡ true → immediates t (xs ++ (x ∷ [])) ≡ immediates t xs ++ (x.value ∷ [])
  unfolding immediates
  imms_more [] x h = rw h
  imms_more (y ∷ xs) x h = rw (imms_more xs x h) (go (has_immediate t y))
    where
      go : (b : Bool) → cond b (y.value ∷ (immediates t xs ++ (x.value ∷ []))) (immediates t xs ++ (x.value ∷ [])) ≡ cond b (y.value ∷ immediates t xs) (immediates t xs) ++ (x.value ∷ [])
      go true = refl
      go false = refl

  right_close : (xs : List Op) → length xs ≤ 9 → (wants_noop t xs ≡ true → length xs ≤ 8) → RightGroup t (close_group t xs)
  unfolding close_group
  right_close xs n e = go (wants_noop t xs) refl
    where
      go : (b : Bool) → wants_noop t xs ≡ b → RightGroup t (cond b (ops (xs ++ (noop ∷ [])) true) (ops xs false))
      go true p =
          let h : length xs ≤ 8 = e p in
          record { some = simp length-append (omega arith); nine = simp length-append (omega arith); closed = wants_snoc xs noop ∙ plain; padding = ends_snoc xs }
      go false p = record { some = some_if xs p; nine = n; closed = p; padding = tt }

  follow_imms : (vs : List ℕ) → Follow t vs (map imm vs)
  follow_imms [] = tt
  follow_imms (v ∷ vs) = (refl, follow_imms vs)

  follow_eq : (due vs : List ℕ) → due ≡ vs → Follow t due (map imm vs)
  follow_eq due vs e = rw e (follow_imms vs)

  follow_close : (xs : List Op) → Follow t [] (close_group t xs ∷ map imm (immediates t xs))
  unfolding close_group
  follow_close xs = go (wants_noop t xs)
    where
      go : (b : Bool) → Follow t [] (cond b (ops (xs ++ (noop ∷ [])) true) (ops xs false) ∷ map imm (immediates t xs))
      go true = follow_eq (immediates t (xs ++ (noop ∷ []))) (immediates t xs) (imms_snoc xs noop plain)
      go false = follow_imms (immediates t xs)

  follow_append : (due : List ℕ) (gs hs : List Group) → Follow t due gs → Follow t [] hs → Follow t due (gs ++ hs)
  follow_append [] [] hs h k = k
  follow_append (u ∷ due) [] hs h k = elim h [ ]
  follow_append [] (imm v ∷ gs) hs h k = elim h [ ]
  follow_append (u ∷ due) (imm v ∷ gs) hs h k = (h.0, follow_append due gs hs h.1 k)
  follow_append [] (ops xs p ∷ gs) hs h k = follow_append (immediates t xs) gs hs h k
  follow_append (u ∷ due) (ops xs p ∷ gs) hs h k = elim h [ ]

  right_imms : (vs : List ℕ) → All (RightGroup t) (map imm vs)
  right_imms [] = tt
  right_imms (v ∷ vs) = (tt, right_imms vs)

  -- ---- a batch in the making

  record Sound (b : Batch) : Type 0 where
    right : All (RightGroup t) b.closed
    follow : Follow t [] b.closed
    placed : b.placed ≡ immediates t b.current
    room : next_free b ≤ w
    nine : length b.current ≤ 9
    eight : wants_noop t b.current ≡ true → length b.current ≤ 8

  groups_right : (b : Batch) → Sound b → All (RightGroup t) (groups t b)
  unfolding groups
  groups_right b s = all_append (RightGroup t) b.closed (close_group t b.current ∷ map imm b.placed) s.right (right_close b.current s.nine s.eight, right_imms b.placed)

  groups_follow : (b : Batch) → Sound b → Follow t [] (groups t b)
  unfolding groups
  groups_follow b s = follow_append [] b.closed (close_group t b.current ∷ map imm b.placed) s.follow (rw s.placed (follow_close b.current))

  sound_empty : Sound empty
  unfolding empty next_free immediates
  sound_empty = let h = width.four in record { right = tt; follow = tt; placed = refl; room = omega arith; nine = omega arith; eight = λ e. omega arith }

  sound_turned : (b : Batch) → Sound b → next_free b + 1 ≤ w → Sound (turned t b)
  unfolding turned immediates
  sound_turned b s h = record { right = groups_right b s; follow = groups_follow b s; placed = refl; room = omega (arith, next_turned t b); nine = omega arith; eight = λ e. omega arith }

  sound_plain : (x : Op) (b : Batch) → Sound b → has_immediate t x ≡ false → length b.current ≤ 8 → Sound (joined t x b)
  unfolding joined next_free
  sound_plain x b s e h =
      record {
        right = s.right;
        follow = s.follow;
        placed = rw (e, imms_snoc b.current x e) s.placed;
        room = rw e s.room;
        nine = simp length-append (omega arith);
        eight = λ p. let z : ◌≡◌ {A = Bool} true false = sym p ∙ (wants_snoc b.current x ∙ e) in let y : ◌≡◌ {A = ℕ} 0 1 = cc in omega arith;
      }

  sound_valued : (x : Op) (b : Batch) → Sound b → has_immediate t x ≡ true → length b.current ≤ 7 → next_free b + 1 ≤ w → Sound (joined t x b)
  unfolding joined next_free
  sound_valued x b s e h r =
      record {
        right = s.right;
        follow = s.follow;
        placed = rw (e, imms_more b.current x e, s.placed);
        room = rw e (simp length-append (omega arith));
        nine = simp length-append (omega arith);
        eight = λ p. simp length-append (omega arith);
      }

  turned_none : (b : Batch) → length (turned t b).current ≤ 7
  unfolding turned
  turned_none b = omega arith

  turned_few : (b : Batch) → length (turned t b).current ≤ 8
  unfolding turned
  turned_few b = omega arith

  sound_added : (x : Op) (b : Batch) → Sound b → fits w t x b ≡ true → Sound (added t x b)
  unfolding added ready full fits
  sound_added x b s f = go (has_immediate t x) refl
    where
      go : (h : Bool) → has_immediate t x ≡ h → Sound (joined t x (cond (leb (cond (has_immediate t x) 8 9) (length b.current)) (turned t b) b))
      go true e =
          split (length b.current) 8
          (λ l. rw (e, lt-leb 8 (length b.current) l) (sound_valued x b s e (omega arith) (omega (arith, ltb-true (next_free b) w (rw (e, lt-ltb (length b.current) 8 l) at f)))))
          (λ l. let r = ltb-true (next_free b + 1) w (rw (e, le-ltb (length b.current) 8 l) at f) in
          rw (e, le-leb 8 (length b.current) l) (sound_valued x (turned t b) (sound_turned b s (omega arith)) e (turned_none b) (omega (arith, next_turned t b))))
      go false e =
          split (length b.current) 9
          (λ l. rw (e, lt-leb 9 (length b.current) l) (sound_plain x b s e (omega arith)))
          (λ l. let r = ltb-true (next_free b) w (rw (e, le-ltb (length b.current) 9 l) at f) in
          rw (e, le-leb 9 (length b.current) l) (sound_plain x (turned t b) (sound_turned b s (omega arith)) e (turned_few b)))

  -- ---- ending a batch

  sound_times : (k : ℕ) (b : Batch) → Sound b → next_free b + k ≤ w → Sound (turned_times k t b)
  unfolding turned_times
  sound_times zero b s h = s
  sound_times (suc k) b s h = sound_times k (turned t b) (sound_turned b s (omega arith)) (omega (arith, next_turned t b))

  right_ended : (b : Batch) → Sound b → RightBatch w t (ended t b)
  unfolding ended
  right_ended b s = record { most = rw (length_ended t b (omega (arith, s.room, width.eight))) (width.within (next_free b) s.room); power = rw (length_ended t b (omega (arith, s.room, width.eight))) (target_power (next_free b)); groups = groups_right _ last; follow = groups_follow _ last }
    where
      last : Sound (turned_times (target (next_free b) - next_free b) t b)
      last = sound_times (target (next_free b) - next_free b) b s (omega (arith, target_up (next_free b) (omega (arith, s.room, width.eight)), width.within (next_free b) s.room))

  almost : (x : Op) (b : Batch) → fits w t x b ≡ false → w ≤ next_free b + 1
  unfolding fits
  almost x b f = go (has_immediate t x) (ltb (length b.current) 8) (ltb (length b.current) 9) f
    where
      go : (h c d : Bool) → cond h (cond c (ltb (next_free b) w) (ltb (next_free b + 1) w)) (cond d true (ltb (next_free b) w)) ≡ false → w ≤ next_free b + 1
      go true true d e = omega (arith, ltb-false (next_free b) w e)
      go true false d e = ltb-false (next_free b + 1) w e
      go false c true e = let y : ◌≡◌ {A = ℕ} 0 1 = cc in omega arith
      go false c false e = omega (arith, ltb-false (next_free b) w e)

  -- an operation that does not fit leaves a batch of w groups
  full_ended : (x : Op) (b : Batch) → Sound b → fits w t x b ≡ false → length (ended t b) ≡ w
  full_ended x b s f = length_ended t b (omega (arith, s.room, width.eight)) ∙ enough (next_free b) s.room (almost x b f)
    where
      enough : (n : ℕ) → n ≤ w → w ≤ n + 1 → target n ≡ w
      enough n a c = split n w (λ h. let e : n ≡ w - 1 = omega arith in rw e width.low) (λ h. let e : n ≡ w = omega arith in rw e width.top)

  -- ---- how many operations a batch that is full was given

  abbrev Dense : Batch → Type 0
  Dense b = length b.closed ≤ length (raw b.closed)

  imms_few : (xs : List Op) → length (immediates t xs) ≤ length xs
  unfolding immediates
  imms_few [] = omega arith
  imms_few (x ∷ xs) = go (has_immediate t x) (imms_few xs)
    where
      go : (b : Bool) → length (immediates t xs) ≤ length xs → length (cond b (x.value ∷ immediates t xs) (immediates t xs)) ≤ suc (length xs)
      go true h = omega arith
      go false h = omega arith

  dense_empty : Dense empty
  unfolding empty
  dense_empty = omega arith

  dense_turned : (b : Batch) → Sound b → Dense b → 8 ≤ length b.current → Dense (turned t b)
  unfolding turned next_free
  dense_turned b s d h =
      let r : length (raw (groups t b)) ≡ length (raw b.closed) + length b.current = rw (raw_groups t b) (length-append (raw b.closed) b.current) in
      omega (arith, length_groups t b, r, s.room, width.eight)

  dense_added : (x : Op) (b : Batch) → Sound b → Dense b → Dense (added t x b)
  unfolding added ready full joined
  dense_added x b s d = go (has_immediate t x) (leb (cond (has_immediate t x) 8 9) (length b.current)) refl
    where
      go : (h f : Bool) → leb (cond (has_immediate t x) 8 9) (length b.current) ≡ f → Dense (cond f (turned t b) b)
      go h true e = dense_turned b s d (go8 (has_immediate t x) (leb-true (cond (has_immediate t x) 8 9) (length b.current) e))
        where
          go8 : (i : Bool) → cond i 8 9 ≤ length b.current → 8 ≤ length b.current
          go8 true l = l
          go8 false l = omega arith
      go h false e = d

  many_ended : (x : Op) (b : Batch) → Sound b → Dense b → fits w t x b ≡ false → w ≤ length (raw (ended t b)) + 2
  unfolding next_free
  many_ended x b s d f =
      rw (raw_ended t b)
      (simp length-append (omega (arith, almost x b f, imms_few b.current, ap length s.placed)))

  -- ---- the driver

  pub record Whole (gs : List Group) : Type 0 where
    pub full : length gs ≡ w
    pub right : RightBatch w t gs
    pub many : w ≤ length (raw gs) + 2

  record SoundWork (d : Work) : Type 0 where
    whole : All Whole d.batches
    now : Sound d.current
    dense : Dense d.current

  fits_empty : (x : Op) → fits w t x empty ≡ true
  unfolding fits empty next_free
  fits_empty x = let h = width.four in rw (lt-ltb 1 w (omega arith)) (go (has_immediate t x))
    where
      go : (b : Bool) → cond b true true ≡ true
      go true = refl
      go false = refl

  sound_add : (x : Op) (d : Work) → SoundWork d → fits w t x d.current ≡ true → SoundWork (record { batches = d.batches; current = added t x d.current })
  sound_add x d s e = record { whole = s.whole; now = sound_added x d.current s.now e; dense = dense_added x d.current s.now s.dense }

  sound_end : (x : Op) (d : Work) → SoundWork d → fits w t x d.current ≡ false → SoundWork (end_batch t d)
  unfolding end_batch
  sound_end x d s e =
      record {
        whole = all_append Whole d.batches (ended t d.current ∷ []) s.whole (record { full = full_ended x d.current s.now e; right = right_ended d.current s.now; many = many_ended x d.current s.now s.dense e }, tt);
        now = sound_empty;
        dense = dense_empty;
      }

  fits_end : (x : Op) (d : Work) → fits w t x (end_batch t d).current ≡ true
  unfolding end_batch
  fits_end x d = fits_empty x

  sound_step : (x : Op) (d : Work) → SoundWork d → SoundWork (step w t x d)
  unfolding step room
  sound_step x d s = go (fits w t x d.current) refl
    where
      go : (f : Bool) → fits w t x d.current ≡ f → SoundWork (record { batches = (cond f d (end_batch t d)).batches; current = added t x (cond f d (end_batch t d)).current })
      go true e = sound_add x d s e
      go false e = sound_add x (end_batch t d) (sound_end x d s e) (fits_end x d)

  sound_steps : (xs : List Op) (d : Work) → SoundWork d → SoundWork (steps w t xs d)
  unfolding steps
  sound_steps [] d s = s
  sound_steps (x ∷ xs) d s = sound_steps xs (step w t x d) (sound_step x d s)

  right_snoc : (bs : List (List Group)) (gs : List Group) → All Whole bs → RightBatch w t gs → RightBatches w t (bs ++ (gs ∷ []))
  right_snoc [] gs h r = r
  right_snoc (b ∷ []) gs h r = (h.0.full, h.0.right, r)
  right_snoc (b ∷ c ∷ bs) gs h r = (h.0.full, h.0.right, right_snoc (c ∷ bs) gs h.1 r)

  sound_start : SoundWork start
  unfolding start
  sound_start = record { whole = tt; now = sound_empty; dense = dense_empty }

  pub right_batches : (xs : List Op) → RightBatches w t (batches_of w t xs)
  unfolding batches_of end_batch
  right_batches xs =
      let s = sound_steps xs start sound_start in
      let d = steps w t xs start in
      right_snoc d.batches (ended t d.current) s.whole (right_ended d.current s.now)

  pub whole_batches : (xs : List Op) → All Whole (steps w t xs start).batches
  whole_batches xs = (sound_steps xs start sound_start).whole
