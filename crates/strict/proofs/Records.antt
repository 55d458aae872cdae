-- The block's records, as they lie. Assumes nothing.
use mathlib.Core.Path.{◌≡◌}
use mathlib.Core.Bool.{true}
use mathlib.Core.List.{List}
use Prim.Native.Nat.{ℕ, ◌≤◌, ◌<◌}
use native.Mathlib.Omega.{arith}
use borrow.Author.Tests.{leb-true, le-leb}
use Rattle.rules.specs.Record.{Record, record_at}
use Rattle.rules.specs.Checks.{starts_right, record_right}
use Rattle.rules.proofs.Operations.{true_left, true_right, true_both}
use Rattle.checks.specs.Batch.{Fits}
use Rattle.checks.proofs.Groups.{right_starts, Laid, laid}
use Rattle.strict.specs.Model.{Runs}

-- what passes at some width passes at a greater one
pub right_within : (v w : ℕ) (r : Record) → v ≤ w → record_right v r ≡ true → record_right w r ≡ true
unfolding record_right
right_within v w r l h = true_both _ _ (le-leb r.count w (omega (arith, leb-true r.count v (true_left _ _ h)))) (true_right _ _ h)

pub record_fits : (s : List ℕ) (k b : ℕ) → Runs s k → b < k → Fits (record_at s b)
record_fits s k b h l = record { width = 8; room = omega arith; right = h.right b l }

pub laid_at : (s : List ℕ) (k b : ℕ) → Runs s k → b < k → Laid (record_at s b)
laid_at s k b h l = laid s b (record_fits s k b h l)

pub record_there : (s : List ℕ) (k b : ℕ) → Runs s k → b < k → starts_right (record_at s b).starts ≡ true
record_there s k b h l = right_starts (record_at s b) (record_fits s k b h l)
