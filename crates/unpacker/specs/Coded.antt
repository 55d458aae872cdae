-- Opcodes: cited by the type of lent operations.
use Rattle.std.specs.Prelude.{ℕ, ◌<◌, List, length, get_or}

abbrev pub Coded : List ℕ → Type 0
Coded cs = (i : ℕ) → i < length cs → get_or cs i 0 < 128
