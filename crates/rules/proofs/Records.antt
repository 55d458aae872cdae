-- Records in a run of bytes: how long they are, and that they are read as they were written. Assumes nothing.
use mathlib.Core.Path.{◌≡◌, refl, sym, ap, ap₂, ◌∙◌}
use mathlib.Core.List.{List, [], ◌∷◌, ◌++◌, append_assoc, append-nil}
use Prim.Native.Nat.{ℕ, ◌+◌, ◌*◌, ◌/◌, ◌^◌, ◌<◌}
use native.Mathlib.Omega.{arith}
use lib.ListN.{length, get_or, length-append}
use lib.Seq.{append_snoc, get_or-append_seam}
use Rattle.rules.specs.Lists.{in_row, All}
use Rattle.rules.specs.Digits.{le_at, le_bytes}
use Rattle.rules.specs.Record.{Record, NineAndEight, record_size, word_bytes, record_bytes, records_bytes, bytes_at, words_at, record_at, records_from, records_in, flags_place, numbers_place, count_place}
use Rattle.rules.proofs.Digits.{le_at_back, length_le_bytes}
use Rattle.rules.proofs.Sizes.{length_words, length_bytes_at, length_words_at}

bytes_back : (xs p q : List ℕ) → bytes_at (length xs) (p ++ (xs ++ q)) (length p) ≡ xs
unfolding bytes_at
bytes_back [] p q = refl
bytes_back (x ∷ xs) p q =
    let ih = bytes_back xs (p ++ (x ∷ [])) q in
    let e : length (p ++ (x ∷ [])) ≡ length p + 1 = length-append p (x ∷ []) in
    ap₂ (λ (a : ℕ) (r : List ℕ). a ∷ r) (get_or-append_seam p x (xs ++ q) 0)
    (ap₂ (λ (l : List ℕ) (k : ℕ). bytes_at (length xs) l k) (sym (append_snoc p x (xs ++ q))) (sym e) ∙ ih)

words_back : (ns p q : List ℕ) → All (λ n. n < 256 ^ 8) ns → words_at (length ns) (p ++ (word_bytes ns ++ q)) (length p) ≡ ns
unfolding words_at in_row
words_back [] p q h = refl
words_back (n ∷ ns) p q h =
    let b = le_bytes 8 n in
    let e : length (p ++ b) ≡ length p + 8 = length-append p b ∙ ap (λ (k : ℕ). length p + k) (length_le_bytes 8 n) in
    let s : p ++ (b ++ word_bytes ns ++ q) ≡ p ++ (b ++ (word_bytes ns ++ q)) = ap (λ (l : List ℕ). p ++ l) (append_assoc b (word_bytes ns) q) in
    ap₂ (λ (a : ℕ) (r : List ℕ). a ∷ r) (ap (λ (l : List ℕ). le_at 8 l (length p)) s ∙ le_at_back 8 n p (word_bytes ns ++ q) h.0)
    (ap₂ (λ (l : List ℕ) (k : ℕ). words_at (length ns) l k) (s ∙ sym (append_assoc p b (word_bytes ns ++ q))) (sym e) ∙ words_back ns (p ++ b) q h.1)

-- a record that fits its bytes
pub record Sized (r : Record) : Type 0 where
  pub whole : NineAndEight r
  pub small : All (λ n. n < 256 ^ 8) r.numbers

-- two records that say the same but for their numbers
pub record Alike (x r : Record) : Type 0 where
  pub starts : x.starts ≡ r.starts
  pub flags : x.flags ≡ r.flags
  pub count : x.count ≡ r.count

module _ (p q : List ℕ) (r : Record) (b : ℕ) (e : length p ≡ record_size * b) (h : NineAndEight r) where
  abbrev s : List ℕ
  s = r.starts

  abbrev f : List ℕ
  f = r.flags

  abbrev w : List ℕ
  w = word_bytes r.numbers

  abbrev c : List ℕ
  c = r.count ∷ []

  abbrev all : List ℕ
  all = p ++ (s ++ (f ++ (w ++ c)) ++ q)

  -- before each part stand those before it
  at_starts : all ≡ p ++ (s ++ (f ++ (w ++ c) ++ q))
  at_starts = ap (λ (l : List ℕ). p ++ l) (append_assoc s (f ++ (w ++ c)) q)

  at_flags : all ≡ (p ++ s) ++ (f ++ (w ++ c ++ q))
  at_flags = at_starts ∙ sym (append_assoc p s (f ++ (w ++ c) ++ q)) ∙ ap (λ (l : List ℕ). (p ++ s) ++ l) (append_assoc f (w ++ c) q)

  at_numbers : all ≡ ((p ++ s) ++ f) ++ (w ++ (c ++ q))
  at_numbers = at_flags ∙ sym (append_assoc (p ++ s) f (w ++ c ++ q)) ∙ ap (λ (l : List ℕ). ((p ++ s) ++ f) ++ l) (append_assoc w c q)

  at_count : all ≡ (((p ++ s) ++ f) ++ w) ++ (r.count ∷ q)
  at_count = at_numbers ∙ sym (append_assoc ((p ++ s) ++ f) w (c ++ q))

  to_flags : length (p ++ s) ≡ record_size * b + flags_place
  to_flags = length-append p s ∙ ap₂ (λ (x y : ℕ). x + y) e h.starts

  to_numbers : length ((p ++ s) ++ f) ≡ record_size * b + numbers_place
  to_numbers = omega (arith, length-append (p ++ s) f, to_flags, h.flags)

  to_count : length (((p ++ s) ++ f) ++ w) ≡ record_size * b + count_place
  to_count = omega (arith, length-append ((p ++ s) ++ f) w, to_numbers, length_words r.numbers, h.numbers)

  pub parts_back : Alike (record_at (p ++ (record_bytes r ++ q)) b) r
  unfolding record_at record_bytes
  parts_back =
      record {
        starts = (λ j. bytes_at (sym h.starts j) (at_starts j) (sym e j)) ∙ bytes_back s p (f ++ (w ++ c) ++ q);
        flags = (λ j. bytes_at (sym h.flags j) (at_flags j) (sym to_flags j)) ∙ bytes_back f (p ++ s) (w ++ c ++ q);
        count = (λ j. get_or (at_count j) (sym to_count j) 0) ∙ get_or-append_seam (((p ++ s) ++ f) ++ w) r.count q 0;
      }

  pub record_back : All (λ n. n < 256 ^ 8) r.numbers → record_at (p ++ (record_bytes r ++ q)) b ≡ r
  unfolding record_at record_bytes
  record_back small =
      let parts = parts_back in
      let numbers : words_at 8 all (record_size * b + numbers_place) ≡ r.numbers = (λ j. words_at (sym h.numbers j) (at_numbers j) (sym to_numbers j)) ∙ words_back r.numbers ((p ++ s) ++ f) (c ++ q) small in
      λ j. record { starts = parts.starts j; flags = parts.flags j; numbers = numbers j; count = parts.count j }

-- what is loaded has so many of each
pub loaded : (s : List ℕ) (b : ℕ) → NineAndEight (record_at s b)
unfolding record_at
loaded s b = record { starts = length_bytes_at 9 s (record_size * b); flags = length_bytes_at 8 s (record_size * b + flags_place); numbers = length_words_at 8 s (record_size * b + numbers_place) }

pub record_length : (r : Record) → NineAndEight r → length (record_bytes r) ≡ record_size
unfolding record_bytes
record_length r h = simp length-append (omega (arith, h.starts, h.flags, length_words r.numbers, h.numbers))

pub records_length : (rs : List Record) → All Sized rs → length (records_bytes rs) ≡ record_size * length rs
unfolding in_row
records_length [] h = refl
records_length (r ∷ rs) h = length-append (record_bytes r) (records_bytes rs) ∙ omega (arith, record_length r h.0.whole, records_length rs h.1)

records_from_lem : (rs : List Record) (p q : List ℕ) (b : ℕ) → length p ≡ record_size * b → All Sized rs → records_from (length rs) (p ++ (records_bytes rs ++ q)) b ≡ rs
unfolding records_from in_row
records_from_lem [] p q b e h = refl
records_from_lem (r ∷ rs) p q b e h =
    let x = record_bytes r in
    let y = records_bytes rs in
    let l : length (p ++ x) ≡ record_size * (b + 1) = length-append p x ∙ omega (arith, record_length r h.0.whole) in
    let s : p ++ ((x ++ y) ++ q) ≡ p ++ (x ++ (y ++ q)) = ap (λ (l : List ℕ). p ++ l) (append_assoc x y q) in
    ap₂ (λ (a : Record) (l : List Record). a ∷ l) (ap (λ (l : List ℕ). record_at l b) s ∙ record_back p (y ++ q) r b e h.0.whole h.0.small)
    (ap (λ (l : List ℕ). records_from (length rs) l (b + 1)) (s ∙ sym (append_assoc p x (y ++ q))) ∙ records_from_lem rs (p ++ x) q (b + 1) l h.1)

pub records_back : (rs : List Record) → All Sized rs → records_in (records_bytes rs) ≡ rs
unfolding records_in
records_back rs h =
    let n : length (records_bytes rs) / record_size ≡ length rs = omega (arith, records_length rs h) in
    rw n (rw (append-nil (records_bytes rs)) at (records_from_lem rs [] [] 0 refl h))
