-- No two replies give one answer: a contract on what a reply tells says all of the reply. Assumes nothing.
use mathlib.Core.Bool.{cond}
use mathlib.Core.Path.{◌≡◌, refl, sym, ap, ◌∙◌}
use Prim.Native.Nat.{ℕ}
use native.Mathlib.Omega.{arith}
use lib.Dec.{eqb}
use Rattle.std.specs.Prelude.{Result, Ok, Err, IsErrAnd}
use Rattle.rules.specs.Answer.{refused}
use Rattle.refusal.specs.declared.Refusal.{Refusal}
use Rattle.refusal.specs.declared.Refusal.TheVariants.{PastEnd, CutShort, OverLimit, Unassigned, TooManyBatches, BadNibble, PastOperations, NoSlot, SlotTaken, BadPadding, LeftOver, EmptyList, NoRoom, BadTable, BadStructure, BadCommitment, BadValue, Unfinished}
use Rattle.refusal.specs.Told.{number_of, place_of, told, told_by}

-- the refusal of a number and a place
refusal_of : ℕ → ℕ → Refusal
refusal_of n p =
    cond (eqb n 1) PastEnd (
    cond (eqb n 2) (CutShort p) (
    cond (eqb n 3) OverLimit (
    cond (eqb n 4) (Unassigned p) (
    cond (eqb n 5) TooManyBatches (
    cond (eqb n 6) (BadNibble p) (
    cond (eqb n 7) (PastOperations p) (
    cond (eqb n 8) (NoSlot p) (
    cond (eqb n 9) (SlotTaken p) (
    cond (eqb n 10) (BadPadding p) (
    cond (eqb n 11) LeftOver (
    cond (eqb n 12) EmptyList (
    cond (eqb n 13) NoRoom (
    cond (eqb n 14) BadTable (
    cond (eqb n 15) (BadStructure p) (
    cond (eqb n 16) (BadCommitment p) (
    cond (eqb n 17) (BadValue p) (
    Unfinished p)))))))))))))))))

back : (r : Refusal) → refusal_of (number_of r) (place_of r) ≡ r
unfolding refusal_of
back PastEnd = refl
back (CutShort at) = refl
back OverLimit = refl
back (Unassigned i) = refl
back TooManyBatches = refl
back (BadNibble b) = refl
back (PastOperations b) = refl
back (NoSlot b) = refl
back (SlotTaken b) = refl
back (BadPadding b) = refl
back LeftOver = refl
back EmptyList = refl
back NoRoom = refl
back BadTable = refl
back (BadStructure b) = refl
back (BadCommitment b) = refl
back (BadValue i) = refl
back (Unfinished b) = refl

pub one_refusal : (r s : Refusal) → number_of r ≡ number_of s → place_of r ≡ place_of s → r ≡ s
one_refusal r s e h = let g : refusal_of (number_of r) (place_of r) ≡ refusal_of (number_of s) (place_of s) = rw (e, h) in sym (back r) ∙ g ∙ back s

pub one_told : {A : Type 0} (r s : Result A Refusal) → told r ≡ told s → r ≡ s
one_told (Ok a) (Ok b) e = let h : a ≡ b = cc in rw h
one_told (Ok a) (Err s) e = cc
one_told (Err r) (Ok b) e = cc
one_told (Err r) (Err s) e =
    let h : number_of r ≡ number_of s = cc in
    let p : place_of r ≡ place_of s = cc in
    ap (λ (x : Refusal). Err x) (one_refusal r s h p)

-- what is left where `?` hands a refusal on
pub handed : {A : Type 0} (r : Result A Refusal) (e : Refusal) → IsErrAnd r (λ y. y ≡ e) → told r ≡ refused (number_of e) (place_of e)
handed (Ok a) e h = absurd h
handed (Err y) e h = rw h

pub handed_by : {A B : Type 0} (f : A → B) (r : Result A Refusal) (e : Refusal) → IsErrAnd r (λ y. y ≡ e) → told_by f r ≡ refused (number_of e) (place_of e)
handed_by f (Ok a) e h = absurd h
handed_by f (Err y) e h = rw h
