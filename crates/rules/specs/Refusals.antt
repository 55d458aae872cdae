-- Document 01, "Numbers of refusal", and those that document 02 adds: a name for each, which ends in the number.
use Rattle.std.specs.Prelude.{ℕ}

-- "offset or write position past the buffer's end"
abbrev pub past_end₁ : ℕ
past_end₁ = 1

-- "bytes end inside count, operation or batch count"
abbrev pub cut_short₂ : ℕ
cut_short₂ = 2

-- "over a limit; lists of unequal length; count's form wrong"
abbrev pub over_limit₃ : ℕ
over_limit₃ = 3

-- "operation not admissible" (document 01). M-101: "4 stays for an opcode of 128 or more or of kind 3"
abbrev pub unassigned₄ : ℕ
unassigned₄ = 4

-- "batch count over (bytes left / 5), rounded down"
abbrev pub too_many_batches₅ : ℕ
too_many_batches₅ = 5

-- "nibble over 9"
abbrev pub bad_nibble₆ : ℕ
bad_nibble₆ = 6

-- "batch runs past the operations"
abbrev pub past_operations₇ : ℕ
past_operations₇ = 7

-- "immediate's slot not under 8, or (check) not under the count"
abbrev pub no_slot₈ : ℕ
no_slot₈ = 8

-- "slot is an operation group"
abbrev pub slot_taken₉ : ℕ
slot_taken₉ = 9

-- "padding check"
abbrev pub bad_padding₁₀ : ℕ
bad_padding₁₀ = 10

-- "operations left over"
abbrev pub left_over₁₁ : ℕ
left_over₁₁ = 11

-- "empty list to batch"
abbrev pub empty_list₁₂ : ℕ
empty_list₁₂ = 12

-- "lent output smaller than the result needs"
abbrev pub no_room₁₃ : ℕ
no_room₁₃ = 13

-- "table not 128 bytes or not good"
abbrev pub bad_table₁₄ : ℕ
bad_table₁₄ = 14

-- "structure check"
abbrev pub bad_structure₁₅ : ℕ
bad_structure₁₅ = 15

-- "commitment: a group number, immediate or empty group's 0 differs"
abbrev pub bad_commitment₁₆ : ℕ
bad_commitment₁₆ = 16

-- M-101: "a new 17 says that the value is not below the field size, or is nonzero on kind 0"
abbrev pub bad_value₁₇ : ℕ
bad_value₁₇ = 17

-- M-107: "else a new 18 with the first batch that differs from batching the block's own list"
abbrev pub unfinished₁₈ : ℕ
unfinished₁₈ = 18
