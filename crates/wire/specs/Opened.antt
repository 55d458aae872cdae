-- What document 01 looks at before a block is read or written: 3, 14, 1.
use Rattle.std.specs.Prelude.{not, List, ℕ, ltb}
use Rattle.rules.specs.Answer.{Answer, good, refuse}
use Rattle.rules.specs.Refusals.{over_limit₃, bad_table₁₄, past_end₁}
use Rattle.rules.specs.Operations.{good_table}

abbrev pub opened : List ℕ → ℕ → ℕ → Answer Unit
opened t size at = refuse (ltb 1048576 size) over_limit₃ 0 (refuse (not (good_table t)) bad_table₁₄ 0 (refuse (ltb size at) past_end₁ 0 (good tt)))
