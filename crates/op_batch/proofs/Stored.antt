-- A record that is lent to be written: the fact of its number is one, however it is proved, and what comes back with it. Assumes nothing.
use mathlib.Core.Path.{◌≡◌, ap}
use mathlib.Core.List.{List}
use Prim.Native.Nat.{ℕ, ◌^◌, ◌<◌}
use native.Mathlib.Bridge.{le_prop}
use denote.MutBor.{MutBor}
use Rattle.op_batch.specs.declared.record_mut.RecordMut.{RecordMut}

pub one_low : (r : MutBor (List ℕ)) (b : ℕ) (l m : b < 2 ^ 20) → ◌≡◌ {A = RecordMut} (record { records = r; b = b; low = l }) (record { records = r; b = b; low = m })
one_low r b l m = λ i. record { records = r; b = b; low = le_prop l m i }

-- the lent run is the same, with these bytes
pub given_back : {x y : RecordMut} → y ≡ x → (y.records.ghost_name ≡ x.records.ghost_name) × (y.records.now ≡ x.records.now)
given_back e = (ap (λ (r : RecordMut). r.records.ghost_name) e, ap (λ (r : RecordMut). r.records.now) e)
