-- The wrong checks are shut out. Assumes nothing.
use mathlib.Core.Path.{◌≡◌, refl, sym, ◌∙◌}
use Prim.Native.Nat.{ℕ}
use native.Mathlib.Omega.{arith}
use Rattle.rules.specs.Open.{document}
use Rattle.std.specs.Prelude.{Ok, Err}
use Rattle.rules.specs.Answer.{Answer, refused}
use Rattle.rules.proofs.Answer.{clash}
use Rattle.refusal.specs.declared.Refusal.TheVariants.{BadStructure, BadPadding, BadCommitment, BadValue}
use Rattle.refusal.specs.Told.{number_of, place_of}
use Rattle.rules.specs.Examples.{op, pair, p1}
use Rattle.tight.specs.Checks.{Structure, Padding, Commitment, wrong_count, wrong_flag, stale, ShutOut}

-- the right replies
record Right : Type 0 where
  structure : Structure wrong_count (Err (BadStructure 1)) × Structure p1 (Ok tt)
  padding : Padding wrong_flag (Err (BadPadding 1)) × Padding p1 (Ok tt)
  commitment : Commitment stale (Err (BadCommitment 1)) × Commitment p1 (Ok tt)
  value : Commitment (pair (op 2 0) (op 2 1)) (Err (BadValue 1))

right : Right
unfolding document
right = record { structure = (refl, refl); padding = (refl, refl); commitment = (refl, refl); value = refl }

one_refused : (n m p q : ℕ) → ◌≡◌ {A = Answer Unit} (refused n p) (refused m q) → (n ≡ m) × (p ≡ q)
one_refused n m p q h = (cc, cc)

pub shut_out : ShutOut
shut_out =
    record {
      passes_everything = (
        λ h. clash 15 1 tt (right.structure.0 ∙ sym h),
        λ h. clash 10 1 tt (right.padding.0 ∙ sym h),
        λ h. clash 16 1 tt (right.commitment.0 ∙ sym h),
      );
      refuses_everything = λ e. (
        λ h. clash (number_of e) (place_of e) tt (h ∙ sym right.structure.1),
        λ h. clash (number_of e) (place_of e) tt (h ∙ sym right.padding.1),
        λ h. clash (number_of e) (place_of e) tt (h ∙ sym right.commitment.1),
      );
      place_zero = λ e z. (
        λ h. absurd (omega (arith, z, (one_refused (number_of e) 15 (place_of e) 1 (h ∙ sym right.structure.0)).1)),
        λ h. absurd (omega (arith, z, (one_refused (number_of e) 10 (place_of e) 1 (h ∙ sym right.padding.0)).1)),
        λ h. absurd (omega (arith, z, (one_refused (number_of e) 16 (place_of e) 1 (h ∙ sym right.commitment.0)).1)),
      );
      number = λ e. (
        λ h. (one_refused (number_of e) 15 (place_of e) 1 (h ∙ sym right.structure.0)).0,
        λ h. (one_refused (number_of e) 10 (place_of e) 1 (h ∙ sym right.padding.0)).0,
        λ h. (one_refused (number_of e) 16 (place_of e) 1 (h ∙ sym right.commitment.0)).0,
      );
      value_told_lem = λ e h. one_refused (number_of e) 17 (place_of e) 1 (h ∙ sym right.value);
    }
