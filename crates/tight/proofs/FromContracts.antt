-- Demand 3, from contract to contract. Assumes nothing.
use mathlib.Core.Path.{◌≡◌, sym, ap, ◌∙◌, subst}
use mathlib.Core.List.{List, ◌++◌, append_assoc}
use mathlib.Core.Logic.{◌⊎◌, inl, inr}
use mathlib.Core.Bool.{true}
use Prim.Native.Nat.{ℕ, ◌+◌, ◌-◌, ◌/◌, ◌≤◌}
use native.Mathlib.Omega.{arith}
use borrow.Author.Tests.{le-leb}
use lib.ListN.{length, take, drop}
use lib.Seq.{sets, length-sets, sets-eq, length-take-le}
use Rattle.rules.specs.Answer.{Answer, good, Read, found, item_of}
use Rattle.rules.specs.Operations.{Op, operations, codes, values}
use Rattle.rules.specs.Record.{Block, no_block, record_size}
use Rattle.rules.specs.Block.{Room, block_bytes}
use Rattle.rules.specs.Functions.{Arena, block_in, room_for, room_in, filled, built, encoded, written, decoded, strictly_decoded, leaves}
use Rattle.claims.specs.Demand3.{Premises, Demand3, lent}
use Rattle.claims.proofs.Right.{width_8}
use Rattle.claims.proofs.Arena.{block_in_lem}
use Rattle.claims.proofs.Demand3.{takes}
use Rattle.claims.proofs.Claims.{claims_8}
use Rattle.std.specs.Prelude.{Result, Ok}
use Rattle.refusal.specs.declared.Refusal.{Refusal}
use Rattle.refusal.proofs.Told.{one_told}
use Rattle.batcher.specs.declared.Totals.{Totals}
use Rattle.batcher.specs.Batched.{built_of}
use Rattle.build.specs.Outcome.{Outcome}
use Rattle.encoder.specs.Replies.{Encodes, encoded_of}
use Rattle.decoder.specs.declared.Decoded.{Decoded}
use Rattle.decoder.specs.Replies.{Reads, Decodes, StrictlyDecodes, decoded_of}
use Rattle.tight.specs.Build.{totals}
use Rattle.tight.specs.Bytes as read
use Rattle.tight.specs.FromContracts.{cut_at, Holds, size, FromDecode, FromBuild, block_for, Contracts}
use Rattle.rules.proofs.Operations.{codes_operations, values_operations}

-- runs that hold a block's totals have room for it
roomy : (b : Block) (a : Arena) → Holds (length b.records) (length b.ops) a → room_for b (room_in a) ≡ true
unfolding room_for room_in
roomy b a h =
    rw (
      le-leb (length b.ops) (length a.codes) h.codes,
      le-leb (length b.ops) (length a.values) h.values,
      le-leb (length b.records) (length a.records / record_size) (omega (arith, h.records)),
    )

module _ (t : List ℕ) (xs : List Op) (h : Premises t xs) where
  abbrev block : Block
  block = block_for t xs

  abbrev bytes : List ℕ
  bytes = block_bytes t block

  abbrev cut_block : Arena → Arena
  cut_block a = cut_at (length block.records) (length block.ops) a

  facts : Demand3 8 t xs block
  facts = claims_8.demand3 t xs h

  -- the block in runs that it fills
  here : block_in (lent block) ≡ block
  here = block_in_lem block (takes 8 width_8 t xs h).sized

  -- what is left in runs with room, cut
  cut_filled : (a : Arena) → room_for block (room_in a) ≡ true → cut_block (filled a block) ≡ lent block
  cut_filled a r = facts.leaves a r

  -- ---- encode

  encodes : (at : ℕ) (buffer buffer' : List ℕ) (e : Result ℕ Refusal) → length buffer ≤ 1048576 → at + length bytes ≤ length buffer → Encodes t (lent block) at buffer buffer' e
      → (e ≡ Ok (length bytes)) × (buffer' ≡ sets buffer at bytes)
  unfolding written
  encodes at buffer buffer' e l r k =
      let w : encoded 8 t (lent block) (length buffer) at ≡ good bytes = facts.writes (length buffer) at l r in
      (one_told e (Ok (length bytes)) (k.reply ∙ ap encoded_of w), k.bytes ∙ ap (written buffer at) w)

  -- ---- a reader that takes the block's bytes, wherever they are

  module _ (answer : List ℕ → ℕ → Room → Read Block)
      (taken : (p q : List ℕ) (room : Room) → length (p ++ (bytes ++ q)) ≤ 1048576 → room_for block room ≡ true → answer (p ++ (bytes ++ q)) (length p) room ≡ found block (length p + length bytes)) where
    reads : (at : ℕ) (buffer : List ℕ) (room : Room) → length buffer ≤ 1048576 → at + length bytes ≤ length buffer → room_for block room ≡ true
        → answer (sets buffer at bytes) at room ≡ found block (at + length bytes)
    reads at buffer room l r k =
        let p = take at buffer in
        let q = drop (at + length bytes) buffer in
        let s : sets buffer at bytes ≡ p ++ (bytes ++ q) = sets-eq bytes buffer at r ∙ append_assoc p bytes q in
        let n : length p ≡ at = length-take-le at buffer (omega arith) in
        let m : length (p ++ (bytes ++ q)) ≤ 1048576 = subst (λ (i : ℕ). i ≤ 1048576) (sym (ap length (sym s) ∙ length-sets buffer at bytes)) l in
        rw s (subst (λ (i : ℕ). answer (p ++ (bytes ++ q)) i room ≡ found block (i + length bytes)) n (taken p q room m k))

    decodes : (at : ℕ) (buffer : List ℕ) (out out' : Arena) (d : Result Decoded Refusal) → length buffer ≤ 1048576 → at + length bytes ≤ length buffer → room_for block (room_in out) ≡ true
        → Reads (answer (sets buffer at bytes) at) at out out' d
        → (d ≡ Ok (read.totals (length block.records) (length block.ops) (length bytes))) × (cut_block out' ≡ lent block)
    decodes at buffer out out' d l r k e =
        let w = reads at buffer (room_in out) l r k in
        let u : at + length bytes - at ≡ length bytes = omega arith in (
          one_told d (Ok (read.totals (length block.records) (length block.ops) (length bytes))) (e.reply ∙ (ap (decoded_of at) w ∙ ap (λ (n : ℕ). good (read.totals (length block.records) (length block.ops) n)) u)),
          ap cut_block (e.runs ∙ ap (λ (i : Read Block). filled out (leaves no_block (item_of i))) w) ∙ cut_filled out k,
        )

    -- one after the other, from runs that are the block's
    returned_by : (at : ℕ) (buffer buffer' : List ℕ) (e : Result ℕ Refusal) (out out' : Arena) (d : Result Decoded Refusal)
        → length buffer ≤ 1048576 → at + size t (lent block) ≤ length buffer → Encodes t (lent block) at buffer buffer' e
        → Holds (length block.records) (length block.ops) out → Reads (answer buffer' at) at out out' d
        → FromDecode t xs (length block.records) (length block.ops) (lent block) e d out'
    returned_by at buffer buffer' e out out' d l r en ho de =
        let r' : at + length bytes ≤ length buffer = rw here at r in
        let w = encodes at buffer buffer' e l r' en in
        let k = decodes at buffer out out' d l r' (roomy block out ho) (subst (λ (s : List ℕ). Reads (answer s at) at out out' d) w.1 de) in
        record {
          wrote = rw here w.0;
          read = rw here k.0;
          runs = k.1;
          block = ap block_in k.1;
          left = rw (k.1, here) facts.left;
        }

  returned : (at : ℕ) (buffer buffer' : List ℕ) (e : Result ℕ Refusal) (out out' : Arena) (d : Result Decoded Refusal)
      → length buffer ≤ 1048576 → at + size t (lent block) ≤ length buffer → Encodes t (lent block) at buffer buffer' e
      → Holds (length block.records) (length block.ops) out → Decodes t buffer' at out out' d ⊎ StrictlyDecodes t buffer' at out out' d
      → FromDecode t xs (length block.records) (length block.ops) (lent block) e d out'
  returned at buffer buffer' e out out' d l r en ho (inl de) = returned_by (decoded 8 t) facts.reads at buffer buffer' e out out' d l r en ho de
  returned at buffer buffer' e out out' d l r en ho (inr de) = returned_by (strictly_decoded 8 t) (claims_8.strict.built t xs h) at buffer buffer' e out out' d l r en ho de

  returns_from : (r : Result Totals Refusal) (a : Arena) → r ≡ Ok (totals (length block.records) (length block.ops)) → cut_block a ≡ lent block → FromBuild t xs r a
  returns_from r a e c =
      record {
        batches = length block.records;
        ops = length block.ops;
        reply = e;
        left = rw (c, here) facts.left;
        short = rw (c, here) facts.short;
        returns = rw c returned;
      }

  builds : (r : Result Totals Refusal) (before after : Arena) → Holds (length block.records) (length block.ops) before → Outcome (built 8 t (codes xs) (values xs)) r before after → FromBuild t xs r after
  builds r before after k o =
      let room = roomy block before k in
      let w = facts.builds (room_in before) room in
      returns_from r after (one_told r (Ok (totals (length block.records) (length block.ops))) (o.reply ∙ ap built_of w)) (ap cut_block (o.runs ∙ ap (λ (i : Answer Block). filled before (leaves no_block i)) w) ∙ cut_filled before room)

  enough : (before : Arena) → Holds 16384 65535 before → Holds (length block.records) (length block.ops) before
  enough before k =
      let f = facts.few in
      record { codes = omega (arith, f.0, k.codes); values = omega (arith, f.0, k.values); records = omega (arith, f.1, k.records) }

pub contracts : Contracts
contracts =
    record {
      returns = λ t cs vs e h r before after k o.
          builds t (operations cs vs) h r before after k (rw (codes_operations cs vs e, values_operations cs vs e) o);
      enough = enough;
    }
