-- The wrong tables, lookups, heads and readers are shut out: the right answers, and what two answers that are one have in common. Assumes nothing.
use mathlib.Core.Path.{◌≡◌, refl, sym, ap, ◌∙◌}
use mathlib.Core.List.{List}
use Prim.Native.Nat.{ℕ, ◌+◌}
use native.Mathlib.Omega.{arith}
use lib.ListN.{get_or}
use Rattle.std.specs.Prelude.{Option, Some, None}
use Rattle.rules.specs.Answer.{Answer, good, refused}
use Rattle.rules.specs.Answer as answer
use Rattle.rules.specs.Operations as rules
use Rattle.rules.specs.Functions.{raw_tabled, padded_tabled, group_lookup, next_lookup, headed, count_here, op_here}
use Rattle.rules.specs.Examples.{table_t, lent, p1, p2, op}
use Rattle.rules.specs.Open.{document}
use Rattle.rules.proofs.Answer.{clash, value}
use Rattle.refusal.specs.declared.Refusal.{Refusal}
use Rattle.refusal.specs.Told.{number_of, place_of}
use Rattle.op_batch.specs.declared.Place.{Place}
use Rattle.op_batch.specs.OpBatch.{record_in, lookup_of, next_of}
use Rattle.prefix.specs.declared.PaddedIndex.{PaddedIndex}
use Rattle.prefix.specs.declared.RawIndex.{RawIndex}
use Rattle.prefix.specs.Tables.{tabled_of}
use Rattle.head.specs.declared.Headed.{Headed}
use Rattle.head.specs.Replies.{head_of}
use Rattle.tight.specs.Lookups.{three_groups, wrong_count, ShutOut}

-- ---- the right answers

abbrev place_2 : Place
place_2 = record { group = 2; place = 0 }

abbrev headed_p2 : Headed
headed_p2 = record { operations = 2; batches = 1; next = 15 }

record Right : Type 0 where
  raw : tabled_of (raw_tabled 8 (lent p1) 10) ≡ good 2
  padded : tabled_of (padded_tabled 8 (lent p1) 10) ≡ good 3
  group : lookup_of (group_lookup 8 (record_in three_groups) 9) ≡ good (Some place_2)
  group_0 : lookup_of (group_lookup 8 (record_in three_groups) 0) ≡ good (Some (record { group = 0; place = 0 }))
  next : next_of (next_lookup 8 (record_in three_groups) 0) ≡ good (Some 2)
  group_wrong : lookup_of (group_lookup 8 (record_in wrong_count) 0) ≡ refused 15 0
  next_wrong : next_of (next_lookup 8 (record_in wrong_count) 0) ≡ refused 15 0
  head : head_of (headed table_t p2 0) ≡ good headed_p2
  head_past : head_of (headed table_t p2 20) ≡ refused 2 20
  count : count_here p2 0 ≡ good (record { item = 2; next = 1 })
  count_end : count_here p2 20 ≡ refused 2 20
  count_past : count_here p2 21 ≡ refused 1 0
  one : op_here table_t p2 1 0 ≡ good (record { item = op 1 5; next = 10 })

right : Right
unfolding document
right =
    record {
      raw = refl;
      padded = refl;
      group = refl;
      group_0 = refl;
      next = refl;
      group_wrong = refl;
      next_wrong = refl;
      head = refl;
      head_past = refl;
      count = refl;
      count_end = refl;
      count_past = refl;
      one = refl;
    }

-- ---- an index that is found

padded_number : Option PaddedIndex → ℕ
padded_number None = 0
padded_number (Some i) = i.0 + 1

raw_number : Option RawIndex → ℕ
raw_number None = 0
raw_number (Some i) = i.0 + 1

-- ---- what two answers that are one have in common

not_told : {A : Type 0} (e : Refusal) (d : Answer A) (a : A) → d ≡ good a → refused (number_of e) (place_of e) ≡ d → ⊥
not_told e d a g h = clash (number_of e) (place_of e) a (h ∙ g)

not_good : {A : Type 0} (a : A) (d : Answer A) (n p : ℕ) → d ≡ refused n p → good a ≡ d → ⊥
not_good a d n p g h = clash n p a (sym (h ∙ g))

one_value : {A : Type 0} (a : A) (d : Answer A) (b : A) → d ≡ good b → good a ≡ d → a ≡ b
one_value a d b g h = value a b (h ∙ g)

one_some : {A : Type 0} (a b : A) → ◌≡◌ {A = Option A} (Some a) (Some b) → a ≡ b
one_some a b h = cc

not_none : {A : Type 0} (a : A) → ◌≡◌ {A = Option A} None (Some a) → ⊥
not_none a h = cc

one_number : {A : Type 0} (n p m q : ℕ) → ◌≡◌ {A = Answer A} (refused n p) (refused m q) → n ≡ m
one_number n p m q h = cc

pub shut_out : ShutOut
unfolding document padded_number raw_number
shut_out =
    record {
      table_refuses = λ e after. (λ h. not_told e _ 2 right.raw h.reply, λ h. not_told e _ 3 right.padded h.reply);
      table_left_empty = λ r. (
        λ h. let z : ◌≡◌ {A = ℕ} 0 1 = ap (λ (l : List ℕ). get_or l 1 0) h.left in omega arith,
        λ h. let z : ◌≡◌ {A = ℕ} 0 1 = ap (λ (l : List ℕ). get_or l 2 0) h.left in omega arith,
      );
      table_length = λ n after. (λ h. one_value n _ 2 right.raw h.reply, λ h. one_value n _ 3 right.padded h.reply);
      index_none = (
        λ h. let z : ◌≡◌ {A = ℕ} 0 3 = ap padded_number h in omega arith,
        λ h. let z : ◌≡◌ {A = ℕ} 0 2 = ap raw_number h in omega arith,
      );
      index_past = λ i. (
        λ h. let z : i + 1 ≡ 0 = ap padded_number h in omega arith,
        λ h. let z : i + 1 ≡ 0 = ap raw_number h in omega arith,
      );
      index_entry = λ i. (
        λ h. let z : i + 1 ≡ 3 = ap padded_number h in omega arith,
        λ h. let z : i + 1 ≡ 2 = ap raw_number h in omega arith,
      );
      lookup_none = (
        λ h. not_none place_2 (one_value None _ _ right.group h),
        λ h. not_none 2 (one_value None _ _ right.next h),
      );
      lookup_group = λ p h. let e : p ≡ place_2 = one_some p place_2 (one_value (Some p) _ _ right.group h) in (ap (λ (x : Place). x.group) e, ap (λ (x : Place). x.place) e);
      lookup_next = λ g h. one_some g 2 (one_value (Some g) _ _ right.next h);
      lookup_passes = λ p. (λ h. not_good p _ 15 0 right.group_wrong h, λ h. not_good None _ 15 0 right.next_wrong h);
      lookup_refuses = λ e. (λ h. not_told e _ _ right.group_0 h, λ h. not_told e _ _ right.next h);
      head_refuses = λ e h. not_told e _ headed_p2 right.head h;
      head_passes = λ d h. not_good d _ 2 20 right.head_past h;
      head_totals = λ d h.
          let e : d ≡ headed_p2 = one_value d _ headed_p2 right.head h in
          (ap (λ (x : Headed). x.operations) e, ap (λ (x : Headed). x.batches) e, ap (λ (x : Headed). x.next) e);
      reader_refuses = λ e. (λ h. not_told e _ _ right.count h, λ h. not_told e _ _ right.one h);
      reader_past = λ i e. (λ h. not_good _ _ 2 20 right.count_end h, λ h. one_number (number_of e) (place_of e) 1 0 (h ∙ right.count_past));
      reader_reads = λ i j. (
        λ h. let e = one_value (record { item = i.item; next = i.next }) _ _ right.count h in (ap (λ (x : answer.Item ℕ). x.item) e, ap (λ (x : answer.Item ℕ). x.next) e),
        λ h. let e = one_value (record { item = op j.item.code j.item.value; next = j.next }) _ _ right.one h in (
          ap (λ (x : answer.Item rules.Op). x.item.code) e,
          ap (λ (x : answer.Item rules.Op). x.item.value) e,
          ap (λ (x : answer.Item rules.Op). x.next) e,
        ),
      );
    }
