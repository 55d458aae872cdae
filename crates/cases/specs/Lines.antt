-- The numbers of a line.
use Rattle.std.specs.Prelude.{◌≡◌, ℕ, List, ◌∷◌, ◌++◌}
use Rattle.std.specs.Str.Parse.{IsNumeral, digits_value}

-- the line is n in hex, a byte that ends it, and the rest
abbrev pub StartsWith : List ℕ → ℕ → List ℕ → Type 0
StartsWith line n rest = (word : List ℕ) × (mark : ℕ) × (line ≡ word ++ mark ∷ rest) × IsNumeral 16 word × (n ≡ digits_value 16 word)

-- a run of so many items starts the line
abbrev pub StartsRun : List ℕ → ℕ → Type 0
StartsRun line length = (rest : List ℕ) × StartsWith line length rest
