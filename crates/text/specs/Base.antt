-- The base that digits are in.
use Rattle.std.specs.Prelude.{ℕ}
use Rattle.text.specs.declared.Radix.{Radix}
use Rattle.text.specs.declared.Radix.TheVariants.{Decimal, Hex}

abbrev pub base : Radix → ℕ
base Decimal = 10
base Hex = 16
