-- A block that lies in an arena is read as it was written. Assumes nothing.
use mathlib.Core.Path.{◌≡◌, refl, sym}
use mathlib.Core.List.{List, map}
use mathlib.Core.Bool.{true, ◌&&◌}
use Prim.Native.Nat.{ℕ, ◌*◌, ◌/◌, ◌%◌, ◌≤◌}
use native.Mathlib.Omega.{arith}
use borrow.Author.Tests.{eq-eqb, le-leb, leb-true}
use lib.ListN.{length, take, length-map}
use lib.Dec.{leb}
use Rattle.rules.specs.Lists.{fitted, All}
use Rattle.rules.specs.Operations.{Op, codes, values}
use Rattle.rules.specs.Record.{Record, Block, records_bytes, NineAndEight, record_size}
use Rattle.rules.specs.Block.{Room}
use Rattle.rules.specs.Functions.{Arena, block_in, within, room_in, filled, room_for}
use Rattle.rules.proofs.Operations.{codes_back, true_left, true_right}
use Rattle.rules.proofs.Runs.{fitted_front}
use Rattle.claims.proofs.Lists.{all_map}
use Rattle.claims.specs.Demand3.{lent, front}
use Rattle.rules.proofs.Records.{Sized, records_length, records_back}

pub nine_and_eight : (rs : List Record) → All Sized rs → All NineAndEight rs
nine_and_eight rs h = all_map (λ r k. k.whole) rs h

-- ---- a block

pub block_in_lem : (b : Block) → All Sized b.records → block_in (lent b) ≡ b
unfolding block_in
block_in_lem b h = λ j. record { ops = codes_back b.ops j; records = records_back b.records h j }

pub lent_within : (b : Block) → All Sized b.records → length b.ops ≤ 65535 → length b.records ≤ 16384 → within (lent b) ≡ true
unfolding within codes values
lent_within b h few less =
    let c : length (map (λ (x : Op). x.code) b.ops) ≡ length b.ops = length-map b.ops (λ (x : Op). x.code) in
    let v : length (map (λ (x : Op). x.value) b.ops) ≡ length b.ops = length-map b.ops (λ (x : Op). x.value) in
    let n = records_length b.records h in
    rw (
      c,
      v,
      n,
      eq-eqb (length b.ops) (length b.ops) refl,
      le-leb (length b.ops) 65535 few,
      eq-eqb (record_size * length b.records % record_size) 0 (omega arith),
      le-leb (record_size * length b.records / record_size) 16384 (omega arith),
    )

-- ---- room for a block

pub roomed : (b : Block) (room : Room) → room_for b room ≡ true → (length b.ops ≤ room.codes) × (length b.ops ≤ room.values) × (length b.records ≤ room.records)
unfolding room_for
roomed b room h =
    let n = length b.ops in
    let k = length b.records in
    let rest = true_right (leb n room.codes) (leb n room.values && leb k room.records) h in (
      leb-true n room.codes (true_left (leb n room.codes) (leb n room.values && leb k room.records) h),
      leb-true n room.values (true_left (leb n room.values) (leb k room.records) rest),
      leb-true k room.records (true_right (leb n room.values) (leb k room.records) rest),
    )

-- ---- what a function leaves in lent runs, cut at the lengths that it replies, is the block

front_at : (n k : ℕ) (xs : List ℕ) → length xs ≡ k → k ≤ n → take k (fitted n xs) ≡ xs
front_at n k xs e h = rw (sym e) (fitted_front n xs (omega arith))

pub front_lent : (a : Arena) (b : Block) → All Sized b.records → room_for b (room_in a) ≡ true → front b (filled a b) ≡ lent b
unfolding room_in filled codes values
front_lent a b h r =
    let n = length b.ops in
    let k = length b.records in
    let c : length (map (λ (x : Op). x.code) b.ops) ≡ n = length-map b.ops (λ (x : Op). x.code) in
    let v : length (map (λ (x : Op). x.value) b.ops) ≡ n = length-map b.ops (λ (x : Op). x.value) in
    let fits = roomed b (room_in a) r in
    let enough : k ≤ length a.records / record_size = fits.2 in
    λ j. record {
      codes = front_at (length a.codes) n (map (λ (x : Op). x.code) b.ops) c fits.0 j;
      values = front_at (length a.values) n (map (λ (x : Op). x.value) b.ops) v fits.1 j;
      records = front_at (length a.records) (record_size * k) (records_bytes b.records) (records_length b.records h) (omega arith) j;
    }
