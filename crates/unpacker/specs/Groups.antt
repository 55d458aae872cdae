-- What the walks over one batch find and leave: cited by the contracts of private functions, and `Coded` and `RightSizes` by that of `decode_batch`.
use Rattle.std.specs.Prelude.{Result, Ok, Err, ◌≡◌, true, List, [], ◌∷◌, ◌++◌, ℕ, ◌-◌, ◌≤◌, take, drop}
use Rattle.rules.specs.Lists.{fitted, total}
use Rattle.rules.specs.Digits.{digits}
use Rattle.rules.specs.Answer.{good, refused, Read, found}
use Rattle.rules.specs.Operations.{Op}
use Rattle.rules.specs.Bytes.{up_to}
use Rattle.rules.proofs.Slots.{slots}
use Rattle.refusal.specs.declared.Refusal.{Refusal}
use Rattle.refusal.specs.Told.{number_of, place_of}
use Rattle.wire.specs.declared.Item.{Item}

-- sizes that are not refused: none is over 9, and groups from the width on have no operations
abbrev pub RightSizes : ℕ → ℕ → Type 0
RightSizes w deltas = (up_to 9 (digits 16 8 deltas) ≡ true) × (up_to 0 (drop w (digits 16 8 deltas)) ≡ true)

-- ---- a walk over the groups of a batch

-- numbers found so far (us, and ws with the empty groups since) in front of those found of the groups left: an empty group counts only where one that is not
-- stands after it
abbrev pub glue : List ℕ → List ℕ → List ℕ → List ℕ
glue us ws [] = us
glue us ws (v ∷ vs) = ws ++ (v ∷ vs)

abbrev pub behind : List ℕ → List ℕ → Read (List ℕ) → Read (List ℕ)
behind us ws (good i) = found (glue us ws i.item) i.next
behind us ws (refused n p) = refused n p

-- what the b-th batch, of w groups, comes to, where the numbers of the first g groups are found and stand in gs, and immediates are due
abbrev pub onward : ℕ → List ℕ → ℕ → List Op → ℕ → List ℕ → ℕ → ℕ → List ℕ → Read (List ℕ)
onward w t b xs end gs g deltas due = behind (take g gs) (take g gs) (slots t b (digits 16 (w - g) deltas) due xs end)

-- of the immediates that were due from group g on, where the numbers stood in gs, those before `rest` are placed, and the walk goes on at group h
pub record Placed (w : ℕ) (t : List ℕ) (b : ℕ) (due gs : List ℕ) (g deltas : ℕ) (rest hs : List ℕ) (h left : ℕ) : Type 0 where
  pub walk : (xs : List Op) (end : ℕ) → onward w t b xs end gs g deltas due ≡ onward w t b xs end hs h left rest
  pub up : g ≤ h
  pub under : h ≤ w
  pub numbers : hs ≡ fitted 8 (take h hs)
  pub sizes : total (digits 16 (w - g) deltas) ≡ total (digits 16 (w - h) left)
  pub small : up_to 9 (digits 16 (w - g) deltas) ≡ up_to 9 (digits 16 (w - h) left)

-- all are placed, and the reply has the sizes left and the group that the walk goes on at; or one is refused
abbrev pub Placing : ℕ → List ℕ → ℕ → List ℕ → List ℕ → ℕ → ℕ → List ℕ → Result (Item ℕ) Refusal → Type 0
Placing w t b due gs g deltas hs (Ok i) = Placed w t b due gs g deltas [] hs i.next i.item
Placing w t b due gs g deltas hs (Err r) = (xs : List Op) (end : ℕ) → onward w t b xs end gs g deltas due ≡ refused (number_of r) (place_of r)
