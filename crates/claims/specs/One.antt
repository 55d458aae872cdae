-- "that statement with the output buffers admits one answer for each input": two answers that satisfy a contract coincide.
use Rattle.std.specs.Prelude.{◌≡◌}

-- what a contract says of a reply and of what is left in the lent outputs is said of one reply and one content only
abbrev pub One : {R O : Type 0} → (R → O → Type 0) → Type 0
One {R} {O} contract = (r q : R) (x y : O) → contract r x → contract q y → (r ≡ q) × (x ≡ y)

-- and of a reply alone, where nothing is lent to write to
abbrev pub Only : {R : Type 0} → (R → Type 0) → Type 0
Only {R} contract = (r q : R) → contract r → contract q → r ≡ q
