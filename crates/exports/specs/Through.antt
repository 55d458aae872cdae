-- What a call leaves whose numbers go through work space: it was lent so many numbers, and their bytes go out. Private contracts cite it.
use Rattle.std.specs.Prelude.{◌≡◌, List, ℕ, ◌/◌, min, length}
use Rattle.std.specs.Fn.{Mut, Called}
use denote.Ref.{Bor, MutBor}
use Rattle.rules.specs.Lists.{fitted}
use Rattle.rules.specs.Record.{word_bytes}

-- a run to be written, and numbers beside it
abbrev pub Lent : Type 0
Lent = MutBor (List ℕ) × Unit {0}

abbrev pub Entries : Type 0
Entries = Bor (List ℕ) × Lent

pub record ReadThrough {F R : Type 0} (g : Mut F Lent (R × Lent)) (read : F) (r : R) (read' : F) (before after : List ℕ) : Type 0 where
  pub lent : MutBor (List ℕ)
  pub left : MutBor (List ℕ)
  pub met : Called g read (lent, tt) (r, (left, tt)) read'
  pub room : length lent.now ≡ min (length before / 8) 65536
  pub after_is : after ≡ fitted (length before) (word_bytes left.now)

pub record FillThrough {F R : Type 0} (g : Mut F Entries (R × Lent)) (fill : F) (numbers : List ℕ) (r : R) (fill' : F) (before after : List ℕ) : Type 0 where
  pub lent : Entries
  pub left : MutBor (List ℕ)
  pub met : Called g fill lent (r, (left, tt)) fill'
  pub numbers_are : lent.0.now ≡ numbers
  pub room : length lent.1.0.now ≡ min (length before / 8) 65536
  pub after_is : after ≡ fitted (length before) (word_bytes left.now)
