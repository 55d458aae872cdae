-- Answers with every number worked out, so that the checker prints plain numbers. Each is the answer itself (`built_same` and the two after it).
use Rattle.std.specs.Prelude.{◌≡◌, refl, List, [], ◌∷◌, ℕ, zero, suc}
use Rattle.std.proofs.Common.{◌∙◌}
use Rattle.rules.specs.Answer.{Answer, Read, found, good, refused}
use Rattle.rules.specs.Operations.{Op}
use Rattle.rules.specs.Record.{Record, Block}
use Rattle.rules.specs.Examples as rules

-- A number, or a list, is looked at to its end before anything is made of it.
abbrev with_number : {R : Type 0} → ℕ → (ℕ → R) → R
with_number zero k = k zero
with_number (suc n) k = k (suc n)

abbrev with_list : {A R : Type 0} → (A → (A → R) → R) → List A → (List A → R) → R
with_list f [] k = k []
with_list f (x ∷ xs) k = f x (λ y. with_list f xs (λ ys. k (y ∷ ys)))

abbrev with_op : {R : Type 0} → Op → (Op → R) → R
with_op o k = with_number o.code (λ c. with_number o.value (λ v. k (rules.op c v)))

abbrev with_record : {R : Type 0} → Record → (Record → R) → R
with_record r k =
    with_list with_number r.starts (λ s.
    with_list with_number r.flags (λ f.
    with_list with_number r.numbers (λ g. with_number r.count (λ n. k (rules.is s f g n)))))

abbrev with_block : {R : Type 0} → Block → (Block → R) → R
with_block b k = with_list with_op b.ops (λ xs. with_list with_record b.records (λ rs. k (rules.block xs rs)))

abbrev plain_block : Answer Block → Answer Block
plain_block (good b) = with_block b (λ b. good b)
plain_block (refused n p) = with_number p (λ p. refused n p)

abbrev plain_read : Read Block → Read Block
plain_read (good a) = with_block a.item (λ b. with_number a.next (λ n. found b n))
plain_read (refused n p) = with_number p (λ p. refused n p)

abbrev plain_bytes : Answer (List ℕ) → Answer (List ℕ)
plain_bytes (good s) = with_list with_number s (λ s. good s)
plain_bytes (refused n p) = with_number p (λ p. refused n p)

-- The questions, under table T.
abbrev pub build : List Op → Answer Block
build xs = plain_block (rules.build xs)

abbrev pub write : Block → Answer (List ℕ)
write b = plain_bytes (rules.write b)

abbrev pub read : List ℕ → ℕ → Read Block
read s at = plain_read (rules.read s at)

-- ---- they are the answers

number_same : {R : Type 0} (n : ℕ) (k : ℕ → R) → with_number n k ≡ k n
number_same zero k = refl
number_same (suc n) k = refl

list_same : {A R : Type 0} {f : A → (A → R) → R} → ((x : A) (k : A → R) → f x k ≡ k x) → (xs : List A) (k : List A → R) → with_list f xs k ≡ k xs
list_same h [] k = refl
list_same h (x ∷ xs) k = h x _ ∙ list_same h xs _

op_same : {R : Type 0} (o : Op) (k : Op → R) → with_op o k ≡ k o
op_same o k = number_same o.code _ ∙ number_same o.value _

record_same : {R : Type 0} (r : Record) (k : Record → R) → with_record r k ≡ k r
record_same r k = list_same number_same r.starts _ ∙ (list_same number_same r.flags _ ∙ (list_same number_same r.numbers _ ∙ number_same r.count _))

block_same : {R : Type 0} (b : Block) (k : Block → R) → with_block b k ≡ k b
block_same b k = list_same op_same b.ops _ ∙ list_same record_same b.records _

answer_same : (a : Answer Block) → plain_block a ≡ a
answer_same (good b) = block_same b (λ b. good b)
answer_same (refused n p) = number_same p _

read_item_same : (a : Read Block) → plain_read a ≡ a
read_item_same (good a) = block_same a.item (λ b. with_number a.next (λ n. found b n)) ∙ number_same a.next (λ n. found a.item n)
read_item_same (refused n p) = number_same p _

bytes_same : (a : Answer (List ℕ)) → plain_bytes a ≡ a
bytes_same (good s) = list_same number_same s _
bytes_same (refused n p) = number_same p _

pub built_same : (xs : List Op) → build xs ≡ rules.build xs
built_same xs = answer_same (rules.build xs)

pub written_same : (b : Block) → write b ≡ rules.write b
written_same b = bytes_same (rules.write b)

pub read_same : (s : List ℕ) (at : ℕ) → read s at ≡ rules.read s at
read_same s at = read_item_same (rules.read s at)
