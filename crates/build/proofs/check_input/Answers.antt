use mathlib.Core.Path.{refl, sym, ap, ◌∙◌, subst}
use lib.ListN.{length}
use native.Mathlib.Omega.{arith}
use Rattle.rules.proofs.Operations.{table_128}
use borrow.Author.Tests.{le-ltb, lt-ltb, eq-eqb, ne_eqb}
use Rattle.std.specs.Prelude.{Err}
use Rattle.std.proofs.lemmas.Result.{err_from_is_err_and}
use Rattle.rules.specs.Functions.{built}
use Rattle.refusal.specs.declared.Refusal.{Refusal}
use Rattle.build.specs.Checked.{Checked}
use Rattle.build.proofs.check_input.Goals.{then-codes-values-via-then-codes-values, then-codes-values-via-else-codes-values+then-codes-gt-MOST}
use Rattle.build.proofs.check_input.Goals as goal

pub returns-then-codes-values : goal.returns-then-codes-values
unfolding built
returns-then-codes-values c =
    record {
      same = tt;
      decides =
          λ room. elim c.then-codes-values.branch [
            | then-codes-values-via-then-codes-values k ↦ simp (ne_eqb _ _ k.if-codes-values.true)
            | then-codes-values-via-else-codes-values+then-codes-gt-MOST k ↦ simp (eq-eqb _ _ k.if-codes-values.false, lt-ltb _ _ k.if-codes-gt-MOST.true)
          ];
    }

pub returns-in_err-table : goal.returns-in_err-table
unfolding built
returns-in_err-table c =
    let a = c.args in
    let e = c.in_err-table.ensures.err in
    let r = err_from_is_err_and _ c.from_residual.ensures.1 in
    subst (Checked a.table.now a.codes.now a.values.now) (sym (r.1 ∙ ap (λ (x : Refusal). Err x) (r.2 ∙ e.0)))
    (record { same = tt; decides = λ room. simp (eq-eqb _ _ c.if-codes-values.false, le-ltb _ _ c.if-codes-gt-MOST.false, e.1) })

pub returns-then-is_empty : goal.returns-then-is_empty
unfolding built
returns-then-is_empty c =
    record { same = tt; decides = λ room. simp (eq-eqb _ _ c.if-codes-values.false, le-ltb _ _ c.if-codes-gt-MOST.false, c.in_ok-table.ensures.ok.1, sym c.is_empty.ensures ∙ c.if-is_empty.true) }

pub invariant_of-result : goal.invariant_of-result
invariant_of-result c =
    let k = c.in_ok-table.ensures.ok in
    record { whole = ap length k.0 ∙ table_128 _ k.1; wide = (omega arith, omega arith); even = sym c.if-codes-values.false; few = c.if-codes-gt-MOST.false }

pub returns : goal.returns
unfolding built
returns c =
    let k = c.in_ok-table.ensures.ok in
    record {
      same = (refl, k.0, refl, refl);
      decides = λ room. simp (eq-eqb _ _ c.if-codes-values.false, le-ltb _ _ c.if-codes-gt-MOST.false, k.1, sym c.is_empty.ensures ∙ c.if-is_empty.false);
    }
