-- The numbers of the functions in a file.
use Rattle.std.specs.Prelude.{ℕ, ◌≡◌, ◌<◌, ◌⊎◌}
use Rattle.cases.specs.declared.Function.{Function}
use Rattle.cases.specs.declared.Function.TheVariants.{Build, Encode, Decode, Structure, Padding, Commitment, RawTable, PaddedTable, PaddedIndex, RawIndex, Group, NextGroup, DecodeStrict, Compare}

abbrev pub number_of : Function → ℕ
number_of Build = 1
number_of Encode = 2
number_of Decode = 3
number_of Structure = 4
number_of Padding = 5
number_of Commitment = 6
number_of RawTable = 7
number_of PaddedTable = 8
number_of PaddedIndex = 9
number_of RawIndex = 10
number_of Group = 11
number_of NextGroup = 12
number_of DecodeStrict = 13
number_of Compare = 14

-- the function of any number: compare where it is no other's
abbrev pub Names : ℕ → Function → Type 0
Names n function = (n ≡ number_of function) ⊎ (((n ≡ 0) ⊎ (14 < n)) × (function ≡ Compare))
