use mathlib.Core.Path.{sym, ◌∙◌}
use native.Mathlib.Omega.{arith}
use Rattle.refusal.proofs.Told.{handed}
use Rattle.build.proofs.Exits.{same_again, input_refused, kept, wiped}
use Rattle.build.proofs.build.Goals as goal

pub returns-in_err-input : goal.returns-in_err-input
returns-in_err-input c = input_refused c.in_err-input.ensures _ (handed _ _ c.from_residual.ensures.1) c.clear.ensures

pub batch-made-requires : goal.batch-made-requires
batch-made-requires c = same_again _ _ _ c.clear.ensures

pub returns-then-is_err : goal.returns-then-is_err
returns-then-is_err c = wiped _ _ _ c.in_ok-input.ensures c.clear.ensures c.batch-made.ensures (sym c.is_err.ensures.value ∙ c.if-is_err.true) _ (omega (arith, c.batch-made.auto)) c.clear-then-is_err.ensures

pub returns-else-is_err : goal.returns-else-is_err
returns-else-is_err c = kept _ _ _ c.in_ok-input.ensures c.clear.ensures c.batch-made.ensures (sym c.is_err.ensures.value ∙ c.if-is_err.false)
