-- Entries written one after the other. Assumes nothing.
use mathlib.Core.Path.{◌≡◌, refl, sym, ◌∙◌}
use mathlib.Core.List.{List, [], ◌∷◌, ◌++◌, append_assoc}
use Prim.Native.Nat.{ℕ, suc, ◌+◌, ◌-◌, ◌*◌, ◌≤◌, ◌<◌}
use native.Mathlib.Nat.{add-zero}
use native.Mathlib.Omega.{arith}
use denote.Enum.Declared.{tag_of}
use mir.Syntax.{w32}
use mir.Val.{to_z, of_z, SFits}
use mir.ValLaws.{to_z_pos, to_z-of_z}
use lib.IntN.{ℤ, pos, sub_ℕ, ◌+ℤ◌, ◌-ℤ◌}
use lib.ListN.{length, set, length-append}
use lib.Seq.{sets}
use Rattle.rules.specs.Lists.{in_row}
use Rattle.rules.specs.Compare.{Entry, missing₆, entry_at, entry_size, entry_numbers}
use Rattle.rules.proofs.Digits.{sets_append}
use Rattle.claims.proofs.Compare.{minus_is, sub_small}
use Rattle.comparison.specs.contracts.entry.Kind.{the_type}
use Rattle.comparison.specs.contracts.entry.Side.{the_type as side_type}
use Rattle.comparison.specs.declared.entry.Side.{Side}
use Rattle.comparison.specs.declared.entry.Side.TheVariants as side
use Rattle.comparison.specs.declared.entry.Kind.{Kind}
use Rattle.comparison.specs.declared.entry.Kind.TheVariants as kind
use Rattle.comparison.specs.declared.Report.{Report}
use Rattle.comparison.specs.Entries.{number_of, side_number}
use Rattle.comparison.specs.Model.{missing_from, Adds}

abbrev pub numbers : List Entry → List ℤ
numbers = in_row entry_numbers

pub numbers_append : (es fs : List Entry) → numbers (es ++ fs) ≡ numbers es ++ numbers fs
unfolding in_row
numbers_append [] fs = refl
numbers_append (e ∷ es) fs = rw (numbers_append es fs) (sym (append_assoc (entry_numbers e) (numbers es) (numbers fs)))

pub numbers_length : (es : List Entry) → length (numbers es) ≡ entry_size * length es
unfolding in_row entry_numbers
numbers_length [] = refl
numbers_length (e ∷ es) = omega (arith, numbers_length es)

numbers_next : (s : List ℤ) (n : ℕ) (es fs : List Entry) → sets (sets s (entry_size * n) (numbers es)) (entry_size * (n + length es)) (numbers fs) ≡ sets s (entry_size * n) (numbers (es ++ fs))
numbers_next s n es fs =
    let k : entry_size * (n + length es) ≡ entry_size * n + length (numbers es) = omega (arith, numbers_length es) in
    rw (k, numbers_append es fs) (sym (sets_append s (entry_size * n) (numbers es) (numbers fs)))

pub adds_none : (x : Report) → Adds [] x x
unfolding in_row
adds_none x = record { lent = refl; count = sym (add-zero x.entries); run = refl }

pub adds_both : (es fs : List Entry) (x y z : Report) → Adds es x y → Adds fs y z → Adds (es ++ fs) x z
adds_both es fs x y z a b =
    record {
      lent = b.lent ∙ a.lent;
      count = omega (arith, a.count, b.count, length-append es fs);
      run = b.run ∙ (rw (a.run, a.count) (numbers_next x.numbers.now x.entries es fs));
    }

-- ---- a loop that adds entries: what is ahead of it comes to the same as all of them from its beginning on

pub record Ahead (es : List Entry) (x : Report) (all : List Entry) (first : Report) : Type 0 where
  pub lent : x.numbers.ghost_name ≡ first.numbers.ghost_name
  pub count : x.entries + length es ≡ first.entries + length all
  pub run : sets x.numbers.now (entry_size * x.entries) (numbers es) ≡ sets first.numbers.now (entry_size * first.entries) (numbers all)

pub ahead_all : (es : List Entry) (x : Report) → Ahead es x es x
ahead_all es x = record { lent = refl; count = refl; run = refl }

pub ahead_turn : (es fs : List Entry) (x y : Report) (all : List Entry) (first : Report) → Ahead (es ++ fs) x all first → Adds es x y → Ahead fs y all first
ahead_turn es fs x y all first h a =
    record {
      lent = a.lent ∙ h.lent;
      count = omega (arith, h.count, a.count, length-append es fs);
      run = (rw (a.run, a.count) (numbers_next x.numbers.now x.entries es fs)) ∙ h.run;
    }

pub ahead_none : (x : Report) (all : List Entry) (first : Report) → Ahead [] x all first → Adds all first x
unfolding in_row
ahead_none x all first h = record { lent = h.lent; count = sym (add-zero x.entries) ∙ h.count; run = h.run }

-- ---- one entry

pub kind_stored : (k : Kind) → to_z w32 (of_z w32 (to_z w32 (tag_of the_type k) +ℤ pos 1)) ≡ pos (number_of k)
kind_stored kind.Number = refl
kind_stored kind.Flag = refl
kind_stored kind.Length = refl
kind_stored kind.Operation = refl
kind_stored kind.Count = refl
kind_stored kind.Missing = refl
kind_stored kind.Batches = refl
kind_stored kind.Padded = refl
kind_stored kind.Raw = refl
kind_stored kind.Paddings = refl

pub side_stored : (x : Side) → tag_of side_type x + 1 ≡ side_number x
side_stored side.First = refl
side_stored side.Second = refl

pub difference_is : (m n : ℕ) → m < 1048576 → n < 1048576 → to_z w32 (of_z w32 (to_z w32 n -ℤ to_z w32 m)) ≡ sub_ℕ n m
difference_is m n h k =
    let small : SFits w32 (to_z w32 n -ℤ to_z w32 m) = rw (to_z_pos w32 n (omega arith), to_z_pos w32 m (omega arith), minus_is m n) (record { sfits = sub_small m n (omega arith) (omega arith) }) in
    to_z-of_z w32 _ small ∙ rw (to_z_pos w32 n (omega arith), to_z_pos w32 m (omega arith)) (minus_is m n)

pub entry_run : (s t u v w : List ℤ) (at k b p : ℕ) (d : ℤ) → t ≡ set s at (pos k) → u ≡ set t (at + 1) (pos b) → v ≡ set u (at + 2) (pos p) → w ≡ set v (at + 3) d
    → w ≡ sets s at (numbers (record { kind = k; batch = b; place = p; difference = d } ∷ []))
unfolding in_row entry_numbers
entry_run s t u v w at k b p d e f g h =
    let i : at + 1 ≡ suc at = omega arith in
    let j : at + 2 ≡ suc (suc at) = omega arith in
    let l : at + 3 ≡ suc (suc (suc at)) = omega arith in
    rw (h, g, f, e, i, j, l)

-- ---- batches that a side lacks, up to one

module _ (to m : ℕ) (all : List Entry) (first : Report) where
  pub missing_turn : (b : ℕ) (x y : Report) → b < to → Ahead (missing_from (to - b) b m) x all first → Adds (entry_at missing₆ b m ∷ []) x y → Ahead (missing_from (to - (b + 1)) (b + 1) m) y all first
  unfolding missing_from
  missing_turn b x y l h a =
      let k : to - b ≡ suc (to - (b + 1)) = omega arith in
      ahead_turn (entry_at missing₆ b m ∷ []) (missing_from (to - (b + 1)) (b + 1) m) x y all first (rw k at h) a

  pub missing_end : (b : ℕ) (x : Report) → to ≤ b → Ahead (missing_from (to - b) b m) x all first → Adds all first x
  unfolding missing_from
  missing_end b x l h = let k : to - b ≡ 0 = omega arith in ahead_none x all first (rw k at h)
