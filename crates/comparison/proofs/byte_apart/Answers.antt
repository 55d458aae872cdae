use Rattle.comparison.proofs.byte_apart.Goals as goal

pub returns-else-x-y : goal.returns-else-x-y
returns-else-x-y c = rw (c.to_le_bytes.ensures, c.to_le_bytes-else-x-y.ensures) at c.bytes_apart.ensures
