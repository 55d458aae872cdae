-- Words about lists that the other pages share.
use Rattle.std.specs.Prelude.{Bool, true, ◌&&◌, List, [], ◌∷◌, ◌++◌, ℕ, zero, suc, ◌+◌}

-- Content, then zeros: a list filled up with zeros, or cut, to n elements. A lent run of n elements holds this once the list is written to its front.
unfoldable pub fitted : ℕ → List ℕ → List ℕ
fitted zero xs = []
fitted (suc n) [] = 0 ∷ fitted n []
fitted (suc n) (x ∷ xs) = x ∷ fitted n xs

unfoldable pub total : List ℕ → ℕ
total [] = 0
total (n ∷ ns) = n + total ns

-- what each element comes to, one after the other
unfoldable pub in_row : {A B : Type 0} → (A → List B) → List A → List B
in_row f [] = []
in_row f (x ∷ xs) = f x ++ in_row f xs

-- whether every element passes a test
unfoldable pub every {ℓ} : {A : Type ℓ} → (A → Bool) → List A → Bool
every test [] = true
every test (x ∷ xs) = test x && every test xs

-- all but the last
abbrev pub but_last {ℓ} : {A : Type ℓ} → List A → List A
but_last [] = []
but_last (x ∷ []) = []
but_last (x ∷ y ∷ xs) = x ∷ but_last (y ∷ xs)

-- every element has a property
abbrev pub All {ℓ} : {A : Type ℓ} → (A → Type 0) → List A → Type 0
All P [] = Unit {0}
All P (x ∷ xs) = P x × All P xs
