-- What a room took of a file.
use Rattle.std.specs.Prelude.{ℕ, ◌<◌, ◌≤◌, List, length}
use Rattle.console.specs.declared.Filled.{Filled}
use Rattle.console.specs.declared.Filled.TheVariants.{Whole, Full}

abbrev pub bytes_of : Filled → List ℕ
bytes_of (Whole bytes) = bytes.now
bytes_of (Full bytes) = bytes.now

-- the whole file is shorter than the room of so many bytes; what fills it is not
abbrev pub Took : ℕ → Filled → Type 0
Took most (Whole bytes) = length bytes.now < most
Took most (Full bytes) = most ≤ length bytes.now
