-- The record of a batch as it lies in the run, and what the padding walk is asked of it and says. Assumes nothing.
use mathlib.Core.Path.{◌≡◌, refl, sym, ap, ◌∙◌}
use mathlib.Core.Bool.{Bool, true, false, cond}
use mathlib.Core.List.{List, []}
use Prim.Native.Nat.{ℕ, suc, ◌+◌, ◌*◌, ◌≤◌}
use native.Mathlib.Omega.{arith}
use lib.ListN.{length, get_or, take, drop}
use Rattle.rules.specs.Lists.{total}
use Rattle.rules.specs.Digits.{digits}
use Rattle.rules.specs.Answer.{Answer, good, refused, found}
use Rattle.rules.specs.Refusals.{bad_padding₁₀}
use Rattle.rules.specs.Operations.{operations}
use Rattle.rules.specs.Record.{Record, NineAndEight, record_by, record_size, record_at, cut}
use Rattle.rules.specs.Checks.{record_right, padding_right, padding_fault}
use Rattle.rules.specs.Functions.{arena}
use Rattle.rules.proofs.Answer.{clash}
use Rattle.rules.proofs.Digits.{length_digits}
use Rattle.rules.proofs.Runs.{fitted_length}
use Rattle.rules.proofs.Sizes.{length_starts}
use Rattle.rules.proofs.Slots.{slots}
use Rattle.rules.proofs.Records.{Alike}
use Rattle.claims.proofs.ReadThenChecked.{Laid, laid, laid_front, Sizes, record_right_lem, ninth_is, bits_right, zeros_total, at_most}
use Rattle.claims.proofs.WrittenThenRead.{differences_starts}
use Rattle.op_batch.specs.Stores.{record_set}
use Rattle.op_batch.proofs.Stores.{stored_length, parts_after}
use Rattle.operation.specs.Verdict.{one_fault}
use Rattle.checks.specs.Batch.{held_at, Lies}
use Rattle.unpacker.specs.Groups.{RightSizes}
use Rattle.unpacker.proofs.Batch.{made, take_digits}

-- structure and padding do not look at numbers
right_alike : (w : ℕ) (x r : Record) → Alike x r → record_right w x ≡ record_right w r
unfolding record_right
right_alike w x r a = rw (a.starts, a.flags, a.count)

module _ (w : ℕ) (t cs vals : List ℕ) (at b v f : ℕ) (m : w ≤ 8) (z : RightSizes w v) (vs : List ℕ) (end : ℕ)
    (e : slots t b (digits 16 w v) [] (operations cs vals) at ≡ found vs end) (few : length vs ≤ w) (out run : List ℕ)
    (o : out ≡ record_set b (made v f vs) run) (room : record_size * b + record_size ≤ length run) where
  abbrev ns : List ℕ
  ns = digits 16 8 v

  whole : NineAndEight (made v f vs)
  unfolding record_by
  whole = record { starts = length_starts 0 ns ∙ ap suc (length_digits 16 8 v); flags = length_digits 2 8 f; numbers = fitted_length 8 vs }

  alike : Alike (record_at out b) (made v f vs)
  alike = rw o (parts_after b (made v f vs) run whole room)

  sizes : Sizes w ns
  sizes = record { high = zeros_total (drop w ns) z.1; many = length_digits 16 8 v; small = at_most 9 ns z.0 }

  lain : Laid ns at vs end
  lain = laid_front w ns at vs end sizes.high (laid t b (take w ns) [] (operations cs vals) at vs end (rw (take_digits w 8 v m) e))

  pub lies : length cs ≡ length vals → at + total ns ≤ length cs → Lies (arena cs vals out) b at
  unfolding record_by
  lies equal inside =
      record {
        equal = equal;
        whole = omega (arith, ap length o ∙ stored_length b (made v f vs) run);
        fits = record { width = w; room = m; right = right_alike w (record_at out b) (made v f vs) alike ∙ record_right_lem w ns (digits 2 8 f) vs at end sizes (bits_right 8 f) lain few };
        inside = omega (arith, ap (λ (l : List ℕ). get_or l 8 0) alike.starts, ninth_is w ns (digits 2 8 f) vs sizes);
      }

  abbrev pub right : Bool
  right = padding_right (take (length vs) (cut ns (operations cs vals) at)) (digits 2 8 f)

  fault : padding_fault (held_at (arena cs vals out) b at) ≡ cond right 0 10
  unfolding padding_fault record_by
  fault = rw (alike.starts, alike.flags, alike.count, differences_starts 0 ns)

  pub wrong : (n p : ℕ) → ◌≡◌ {A = Answer Unit} (refused n p) (one_fault (padding_fault (held_at (arena cs vals out) b at)) b) → (right ≡ false) × (n ≡ bad_padding₁₀) × (p ≡ b)
  wrong n p h = go right (rw fault at h)
    where
      go : (x : Bool) → ◌≡◌ {A = Answer Unit} (refused n p) (one_fault (cond x 0 10) b) → (x ≡ false) × (n ≡ bad_padding₁₀) × (p ≡ b)
      go true g = absurd (clash n p tt g)
      go false g = (refl, cc, cc)

  pub passes : ◌≡◌ {A = Answer Unit} (good tt) (one_fault (padding_fault (held_at (arena cs vals out) b at)) b) → right ≡ true
  passes h = go right (rw fault at h)
    where
      go : (x : Bool) → ◌≡◌ {A = Answer Unit} (good tt) (one_fault (cond x 0 10) b) → x ≡ true
      go true g = refl
      go false g = absurd (clash 10 b tt (sym g))
