-- The wrong batchers are shut out. Assumes nothing.
use mathlib.Core.Path.{◌≡◌, refl, ap, ◌∙◌}
use mathlib.Core.List.{List, [], ◌∷◌}
use Prim.Native.Nat.{ℕ}
use native.Mathlib.Omega.{arith}
use lib.ListN.{get_or, replicate}
use Rattle.rules.specs.Functions.{Arena, arena, room_in}
use Rattle.rules.specs.Open.{document}
use Rattle.std.specs.Prelude.{Result}
use Rattle.rules.specs.Answer.{Answer, good, refused}
use Rattle.rules.proofs.Answer.{clash}
use Rattle.refusal.specs.declared.Refusal.{Refusal}
use Rattle.refusal.specs.Told.{number_of, place_of}
use Rattle.batcher.specs.declared.Totals.{Totals}
use Rattle.batcher.specs.Batched.{built_of}
use Rattle.build.specs.Outcome.{Outcome}
use Rattle.tight.specs.Build.{lent_runs, answer, twice, totals, ShutOut}

-- the right replies
at_p1 : built_of (answer (1 ∷ []) (5 ∷ []) (room_in lent_runs)) ≡ good (totals 1 2)
unfolding document
at_p1 = refl

at_nine : built_of (answer (replicate 9 2) (replicate 9 0) (room_in lent_runs)) ≡ good (totals 1 9)
unfolding document
at_nine = refl

at_two : built_of (answer (2 ∷ 2 ∷ []) (0 ∷ 0 ∷ []) (room_in lent_runs)) ≡ good (totals 1 2)
unfolding document
at_two = refl

at_value : built_of (answer (2 ∷ 2 ∷ []) (0 ∷ 1 ∷ []) (room_in lent_runs)) ≡ refused 17 1
unfolding document
at_value = refl

-- two answers that are one
same_totals : (a b c d : ℕ) → ◌≡◌ {A = Answer Totals} (good (totals a b)) (good (totals c d)) → (a ≡ c) × (b ≡ d)
same_totals a b c d h = let e : totals a b ≡ totals c d = cc in (ap (λ (t : Totals). t.batches) e, ap (λ (t : Totals). t.operations) e)

same_refusals : (n p m q : ℕ) → ◌≡◌ {A = Answer Totals} (refused n p) (refused m q) → (n ≡ m) × (p ≡ q)
same_refusals n p m q h = (cc, cc)

writes : (r : Result Totals Refusal) → Outcome (answer (1 ∷ []) (5 ∷ [])) r lent_runs lent_runs → ⊥
unfolding document
writes r h = let z : ◌≡◌ {A = ℕ} 0 1 = ap (λ (a : Arena). get_or a.codes 0 0) h.runs in omega arith

-- the second batch has two operations, and not eight
copies : (r : Result Totals Refusal) (cs vs : List ℕ) → Outcome (answer (replicate 8 1) (replicate 8 5)) r lent_runs (arena cs vs twice) → ⊥
unfolding document
copies r cs vs h = let z : ◌≡◌ {A = ℕ} 8 2 = ap (λ (a : Arena). get_or a.records 90 0) h.runs in omega arith

pub shut_out : ShutOut
shut_out =
    record {
      refuses_everything = λ e after h. clash (number_of e) (place_of e) (totals 1 2) (h.reply ∙ at_p1);
      always_p1 = λ after h. let e = same_totals 1 2 1 9 (h.reply ∙ at_nine) in omega (arith, e.1);
      writes_nothing = writes;
      batch_per_operation = λ n after h. let e = same_totals 2 n 1 2 (h.reply ∙ at_two) in omega (arith, e.0);
      copies_the_first = copies;
      invented_totals = λ b o after h. same_totals b o 1 2 (h.reply ∙ at_p1);
      value_told_lem = λ e after h. same_refusals (number_of e) (place_of e) 17 1 (h.reply ∙ at_value);
    }
