-- What a page has.
use Rattle.std.specs.Prelude.{ℕ, ◌+◌, List, ◌++◌, length, take, nat_le, if◌then◌else◌}

-- once a text is said on it: what it had and the text; the text alone, where both have no room
abbrev pub said : List ℕ → List ℕ → List ℕ
said page text = if nat_le (length page + length text) 65536 then page ++ text else take 65536 text
