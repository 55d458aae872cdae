-- Ask the definitions about bytes or a list of your own. Write the question's left side, put `?` in place of `refl`, and run
--     cd crates/ask && rt check --allow-holes
-- The checker prints what the left side computes to, after `⊢`. Write that on the right, and `refl` again: now it is proved.
use Rattle.std.specs.Prelude.{◌≡◌, refl, [], ◌∷◌}
use Rattle.rules.specs.Answer.{found, good}
use Rattle.rules.specs.Examples.{op, is, block, p1}
use Rattle.rules.specs.Open.{document}
use Rattle.ask.specs.Plain.{build, read}
pub mod Plain

-- the block at byte 0 of these bytes, under table T
bytes : read (0x05 ∷ 0x01 ∷ 0x05 ∷ 0 ∷ 0 ∷ 0 ∷ 0 ∷ 0 ∷ 0 ∷ 0 ∷ 0x00 ∷ 0x01 ∷ 0 ∷ 0 ∷ 0 ∷ 0x02 ∷ 0 ∷ 0 ∷ 0 ∷ 0x01 ∷ []) 0 ≡ found p1 20
unfolding document
bytes = refl

-- the batches of this list: opcode 1 with value 5
list : build (op 1 5 ∷ []) ≡ good p1
unfolding document
list = refl
