-- What decode's contract says of the runs, where it took a block and where it refused one. Assumes nothing.
use mathlib.Core.Path.{◌≡◌, refl, sym, ap, ◌∙◌}
use mathlib.Core.Bool.{true}
use mathlib.Core.List.{List}
use Prim.Native.Nat.{ℕ, ◌*◌, ◌≤◌}
use native.Mathlib.Omega.{arith}
use lib.ListN.{length, take}
use Rattle.std.specs.Prelude.{Result, Ok, Err}
use Rattle.refusal.specs.declared.Refusal.{Refusal}
use Rattle.refusal.specs.Told.{number_of, place_of, told}
use Rattle.rules.proofs.Answer.{clash, value}
use Rattle.rules.specs.Answer.{Answer, good, refused, Read, found, item_of}
use Rattle.rules.specs.Record.{Block, no_block, record_size}
use Rattle.rules.specs.Functions.{Arena, arena, room_in, room_for, filled, decoded, leaves}
use Rattle.rules.proofs.Runs.{fitted_length}
use Rattle.claims.specs.Demand3.{lent, front}
use Rattle.claims.proofs.Arena.{roomed, front_lent}
use Rattle.claims.proofs.ReadThenChecked.{encodable, had_room}
use Rattle.decoder.specs.declared.Decoded.{Decoded}
use Rattle.decoder.specs.Replies.{decoded_of, Decodes}

module _ (t s : List ℕ) (at : ℕ) (before after : Arena) (r : Result Decoded Refusal) (d : Decodes t s at before after r) where
  abbrev answer : Read Block
  answer = decoded 8 t s at (room_in before)

  -- ---- it refused

  pub refused_answer : (e : Refusal) → r ≡ Err e → answer ≡ refused (number_of e) (place_of e)
  refused_answer e h = go answer (ap told (sym h) ∙ d.reply)
    where
      go : (q : Read Block) → ◌≡◌ {A = Answer Decoded} (refused (number_of e) (place_of e)) (decoded_of at q) → q ≡ refused (number_of e) (place_of e)
      go (good i) k = absurd (clash _ _ _ k)
      go (refused m q) k = cc

  pub refused_left : (e : Refusal) → r ≡ Err e → after ≡ filled before no_block
  refused_left e h = d.runs ∙ ap (λ (a : Read Block). filled before (leaves no_block (item_of a))) (refused_answer e h)

  -- ---- it took a block of k batches and n operations

  pub record Took (k n : ℕ) : Type 0 where
    pub block : Block
    pub next : ℕ
    pub is : answer ≡ found block next
    pub batches : length block.records ≡ k
    pub ops : length block.ops ≡ n

  pub took : (m : Decoded) → r ≡ Ok m → Took m.batches m.operations
  took m h = go answer refl (ap told (sym h) ∙ d.reply)
    where
      go : (q : Read Block) → answer ≡ q → ◌≡◌ {A = Answer Decoded} (good m) (decoded_of at q) → Took m.batches m.operations
      go (good i) e k =
          let v = value _ _ k in
          record { block = i.item; next = i.next; is = e; batches = sym (ap (λ (x : Decoded). x.batches) v); ops = sym (ap (λ (x : Decoded). x.operations) v) }
      go (refused n q) e k = absurd (clash _ _ _ (sym k))

  module _ (k n : ℕ) (x : Took k n) where
    abbrev b : Block
    b = x.block

    pub taken_left : after ≡ filled before b
    taken_left = d.runs ∙ ap (λ (a : Read Block). filled before (leaves no_block (item_of a))) x.is

    abbrev had : room_for b (room_in before) ≡ true
    had = had_room 8 t s at (room_in before) b x.next x.is

    pub lengths : (length after.codes ≡ length before.codes) × (length after.values ≡ length before.values) × (length after.records ≡ length before.records)
    unfolding filled
    lengths = rw taken_left (fitted_length _ _, fitted_length _ _, fitted_length _ _)

    pub room : (n ≤ length after.codes) × (n ≤ length after.values) × (record_size * k ≤ length after.records)
    unfolding room_in
    room = let fits = roomed b (room_in before) had in omega (arith, lengths, fits, x.ops, x.batches)

    -- the runs begin with it
    pub begins : arena (take n after.codes) (take n after.values) (take (record_size * k) after.records) ≡ lent b
    begins =
        (let e = sym x.ops in let f = sym x.batches in λ j. arena (take (e j) after.codes) (take (e j) after.values) (take (record_size * f j) after.records))
        ∙ ap (front b) taken_left
        ∙ front_lent before b (encodable 8 t s at (room_in before) b x.next x.is).sized had
