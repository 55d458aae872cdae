-- An entry that is read from four numbers. Assumes nothing.
use Rattle.std.proofs.Common.{◌≡◌, ℕ, List, [], ◌∷◌, length, get_or, ℤ, pos, negsuc, w32, SFits, to_z, of_z, arith, refl, sym, ap}
use mir.ValLaws.{to_z-of_z}
use lib.IntN.{nat_abs}
use Rattle.std.specs.Prelude.{Result, Ok, Err, IsErr}
use Rattle.std.specs.Int.{FitsUnsignedBits}
use Rattle.std.proofs.Math.IntN.{pos-ne-negsuc}
use Rattle.rules.specs.Compare.{entry_numbers}
use Rattle.comparison.specs.declared.entry.Entry.{Entry}
use Rattle.comparison.specs.declared.entry.NoEntry.{NoEntry}
use Rattle.comparison.specs.Entries.{number_of, four_numbers, Reads}

-- what four numbers are, each by itself
pub of_four : (x : Entry) (s : List ℤ) → four_numbers x ≡ s
    → (length s ≡ 4) × (pos (number_of x.kind) ≡ get_or s 0 (pos 0)) × (pos x.batch ≡ get_or s 1 (pos 0)) × (pos x.place ≡ get_or s 2 (pos 0)) × (x.difference ≡ get_or s 3 (pos 0))
unfolding entry_numbers
of_four x s h = rw (sym h) (refl, refl, refl, refl, refl)

pub are_four : (x : Entry) (s : List ℤ) → length s ≡ 4 → pos (number_of x.kind) ≡ get_or s 0 (pos 0) → pos x.batch ≡ get_or s 1 (pos 0) → pos x.place ≡ get_or s 2 (pos 0) → x.difference ≡ get_or s 3 (pos 0)
    → four_numbers x ≡ s
unfolding entry_numbers
are_four x [] l k b p d = absurd (omega arith)
are_four x (s ∷ []) l k b p d = absurd (omega arith)
are_four x (s ∷ t ∷ []) l k b p d = absurd (omega arith)
are_four x (s ∷ t ∷ u ∷ []) l k b p d = absurd (omega arith)
are_four x (s ∷ t ∷ u ∷ v ∷ []) l k b p d = rw (k, b, p, d) refl
are_four x (s ∷ t ∷ u ∷ v ∷ w ∷ ws) l k b p d = absurd (omega arith)

-- a number of 32 bits that is a size
pub read_size : (z : ℤ) (n : ℕ) → SFits w32 z → FitsUnsignedBits 64 (to_z w32 (of_z w32 z)) → n ≡ nat_abs (to_z w32 (of_z w32 z)) → pos n ≡ z
read_size (pos m) n f h e = let i = to_z-of_z w32 (pos m) f in ap pos (rw i at e)
read_size (negsuc m) n f h e = let i = to_z-of_z w32 (negsuc m) f in absurd (rw i at h)

-- and one that is none
pub no_size : (z : ℤ) → SFits w32 z → (FitsUnsignedBits 64 (to_z w32 (of_z w32 z)) → ⊥) → (n : ℕ) → pos n ≡ z → ⊥
no_size (pos m) f h n e = h (rw (to_z-of_z w32 (pos m) f) (omega (arith, f.sfits)))
no_size (negsuc m) f h n e = pos-ne-negsuc n m e

pub refused : (s : List ℤ) (r : Result Entry NoEntry) → IsErr r → ((x : Entry) → four_numbers x ≡ s → ⊥) → Reads four_numbers s r
refused s (Ok x) h f = absurd (grind arith)
refused s (Err e) h f = f
