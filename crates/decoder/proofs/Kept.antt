-- What is kept of lent runs: the block and then zeros, or zeros alone. Assumes nothing.
use mathlib.Core.Path.{◌≡◌, refl, sym, ap, ◌∙◌}
use Prim.Native.Nat.{ℕ, ◌*◌}
use lib.ListN.{length}
use Rattle.rules.specs.Answer.{good, refused, Read, item_of}
use Rattle.rules.specs.Operations.{codes, values}
use Rattle.rules.specs.Record.{Block, no_block, record_size, records_bytes}
use Rattle.rules.specs.Functions.{Arena, filled, leaves}
use Rattle.rules.proofs.Answer.{clash, value}
use Rattle.rules.proofs.Runs.{zeroed}
use Rattle.std.specs.Prelude.{Result, Ok, Err}
use Rattle.std.specs.Result.{ResultUnwrapsOrElse}
use Rattle.refusal.specs.declared.Refusal.{Refusal}
use Rattle.decoder.specs.Stages.{OpsIn, RecordsIn, Reading, tailless}
use Rattle.decoder.specs.declared.Decoded.{Decoded}
use Rattle.rules.proofs.Sizes.{length_codes, length_values}
use Rattle.rules.specs.Lists.{in_row}

-- two arenas of the same lengths
pub record Even (a b : Arena) : Type 0 where
  pub codes : length a.codes ≡ length b.codes
  pub values : length a.values ≡ length b.values
  pub records : length a.records ≡ length b.records

module _ (at : ℕ) (before after : Arena) (e : Even after before) where
  refused_kept : (d : Read Block) (e : Refusal) → Reading at d after (Err e) → tailless 0 0 after ≡ filled before (leaves no_block (item_of d))
  unfolding filled no_block codes values in_row
  refused_kept (good i) r w = absurd (clash _ _ _ w.reply)
  refused_kept (refused m q) r w = rw (e.codes, e.values, e.records)

  -- a block of n operations and k records
  kept : (b : Block) (k n : ℕ) → length b.records ≡ k → length b.ops ≡ n → OpsIn after.codes after.values b.ops → RecordsIn after.records b.records
      → tailless n (record_size * k) after ≡ filled before b
  unfolding filled
  kept b k n f g o r =
      rw (
        zeroed before.codes after.codes (codes b.ops) n e.codes (rw length_codes o.0) (sym g ∙ sym (length_codes b.ops)),
        zeroed before.values after.values (values b.ops) n e.values (rw length_values o.1) (sym g ∙ sym (length_values b.ops)),
        zeroed before.records after.records (records_bytes b.records) (record_size * k) e.records r.0 (sym (r.1 ∙ ap (λ (m : ℕ). record_size * m) f)),
      )

  -- what was made
  record Made (d : Read Block) (k n : ℕ) : Type 0 where
    block : Block
    is : leaves no_block (item_of d) ≡ block
    batches : length block.records ≡ k
    ops : length block.ops ≡ n
    begins : OpsIn after.codes after.values block.ops
    records : RecordsIn after.records block.records

  made : (d : Read Block) (m : Decoded) → Reading at d after (Ok m) → Made d m.batches m.operations
  made (good i) m w =
      let v = value _ _ w.reply in
      record { block = i.item; is = refl; batches = sym (ap (λ (x : Decoded). x.batches) v); ops = sym (ap (λ (x : Decoded). x.operations) v); begins = w.left.0; records = w.left.1 }
  made (refused n q) m w = absurd (clash _ _ _ (sym w.reply))

  -- of a block that was made, or of no operations and no batches where none was: it is kept
  module _ (IsNone : Decoded → Type 0) (none : (m : Decoded) → IsNone m → (m.operations ≡ 0) × (m.batches ≡ 0)) where
    pub reading_kept : (d : Read Block) (r : Result Decoded Refusal) (m : Decoded) → Reading at d after r → ResultUnwrapsOrElse r IsNone m → tailless m.operations (record_size * m.batches) after ≡ filled before (leaves no_block (item_of d))
    reading_kept d (Ok x) m w u = let f = made d x w in rw (u, f.is) (kept f.block x.batches x.operations f.batches f.ops f.begins f.records)
    reading_kept d (Err x) m w u = let z = none m u in rw (z.0, z.1) (refused_kept d x w)
