-- What compare's contract says by decode's, and that the wrong comparers are shut out. Assumes nothing.
use mathlib.Core.Path.{◌≡◌, refl, sym, ap, ◌∙◌}
use mathlib.Core.List.{List, [], ◌∷◌}
use Prim.Native.Nat.{ℕ}
use native.Mathlib.Omega.{arith}
use lib.IntN.{ℤ, pos}
use lib.Signed.{mag}
use lib.ListN.{length, get_or}
use Rattle.rules.specs.Answer.{found}
use Rattle.rules.specs.Record.{Block, no_block}
use Rattle.rules.specs.Functions as rule
use Rattle.rules.specs.Functions.{Arena, block_in, filled, Side, reported, refused_by}
use Rattle.rules.specs.Examples.{p2}
use Rattle.rules.specs.Open.{document}
use Rattle.rules.proofs.Answer.{item}
use Rattle.claims.specs.Demand3.{lent}
use Rattle.claims.specs.Which.{Exactly}
use Rattle.claims.specs.Compare.{first, second}
use Rattle.claims.proofs.Arena.{block_in_lem}
use Rattle.claims.proofs.ReadThenChecked.{encodable}
use Rattle.claims.proofs.Claims.{claims_8}
use Rattle.decoder.specs.declared.Decoded.{Decoded}
use Rattle.decoder.specs.Replies.{Decodes}
use Rattle.decoder.proofs.Taken.{refused_answer, took, begins}
use Rattle.std.specs.Prelude.{Result, Ok, Err}
use Rattle.refusal.specs.declared.Refusal.{Refusal}
use Rattle.refusal.specs.declared.Refusal.TheVariants.{PastEnd, CutShort}
use Rattle.refusal.specs.Told.{number_of, place_of}
use Rattle.refusal.proofs.Told.{one_refusal}
use Rattle.comparison.specs.declared.Refused.{Refused}
use Rattle.comparison.specs.declared.Refused.TheVariants.{First, Second, Report}
use Rattle.comparison.specs.Replies.{Marked, told, mark_of, refusal_of, compared_of, side, room_for, Compares}
use Rattle.tight.specs.Build.{lent_runs}
use Rattle.tight.specs.Bytes.{DecodesP2}
use Rattle.tight.specs.FromContracts.{cut_at}
use Rattle.tight.specs.Compare.{ByDecode, CompareByDecode, lent_report, ComparesAt, ShutOut}

-- ---- no two replies tell one answer

one_refused : (d e : Refused) → mark_of d ≡ mark_of e → number_of (refusal_of d) ≡ number_of (refusal_of e) → place_of (refusal_of d) ≡ place_of (refusal_of e) → d ≡ e
one_refused (First a) (First b) m n p = ap (λ (r : Refusal). First r) (one_refusal a b n p)
one_refused (First a) (Second b) m n p = absurd (omega arith)
one_refused (First a) Report m n p = absurd (omega arith)
one_refused (Second a) (First b) m n p = absurd (omega arith)
one_refused (Second a) (Second b) m n p = ap (λ (r : Refusal). Second r) (one_refusal a b n p)
one_refused (Second a) Report m n p = absurd (omega arith)
one_refused Report (First b) m n p = absurd (omega arith)
one_refused Report (Second b) m n p = absurd (omega arith)
one_refused Report Report m n p = refl

abbrev marked : Refused → Marked
marked e = record { mark = mark_of e; number = number_of (refusal_of e); place = place_of (refusal_of e) }

pub one_compared : (r q : Result ℕ Refused) → told r ≡ told q → r ≡ q
one_compared (Ok n) (Ok m) h = let e : n ≡ m = cc in rw e
one_compared (Ok n) (Err d) h = cc
one_compared (Err d) (Ok m) h = cc
one_compared (Err d) (Err e) h =
    let k : marked d ≡ marked e = cc in
    ap (λ (x : Refused). Err x) (one_refused d e (ap (λ (x : Marked). x.mark) k) (ap (λ (x : Marked). x.number) k) (ap (λ (x : Marked). x.place) k))

-- ---- from contract to contract

none_told : (d : rule.Compared) → compared_of d ≡ Ok 0 → d ≡ reported []
none_told (reported []) h = refl
none_told (reported (e ∷ es)) h = let z : length (e ∷ es) ≡ 0 = cc in absurd (omega arith)
none_told (refused_by m n p) h = cc

module _ (t s : List ℕ) (at : ℕ) (u z : List ℕ) (from : ℕ) (a a' a'' c c' c'' : Arena) (before after : List ℤ) (r : Result ℕ Refused)
    (h : Compares (rule.compared 8 (side t s at a) (side u z from c) (room_for before)) a a'' c c'' before after r) where
  abbrev p : Side
  p = side t s at a

  abbrev q' : Side
  q' = side u z from c

  replies : (answer : rule.Compared) (q : Result ℕ Refused) → rule.compared 8 p q' (room_for before) ≡ answer → told q ≡ compared_of answer → r ≡ q
  replies answer q e k = one_compared r q (h.reports.reply ∙ ap compared_of e ∙ sym k)

  agree : (d e : Decoded) → Decodes t s at a a' (Ok d) → Decodes u z from c c' (Ok e) → Exactly (r ≡ Ok 0) (cut_at d.batches d.operations a' ≡ cut_at e.batches e.operations c')
  agree m n d e =
      let v = took t s at a a' _ d m refl in
      let w = took u z from c c' _ e n refl in
      let f = begins t s at a a' _ d m.batches m.operations v in
      let g = begins u z from c c' _ e n.batches n.operations w in
      let same = claims_8.compare.answer p q' (room_for before) in (
        λ o. let b = same.0 (none_told _ (sym h.reports.reply ∙ ap told o)) in
            f ∙ ap lent (item _ _ _ _ (sym v.is ∙ b.first) ∙ sym (item _ _ _ _ (sym w.is ∙ b.second))) ∙ sym g,
        λ o. let i : w.block ≡ v.block =
            sym (block_in_lem w.block (encodable 8 u z from _ _ _ w.is).sized) ∙ ap block_in (sym g ∙ sym o ∙ f) ∙ block_in_lem v.block (encodable 8 t s at _ _ _ v.is).sized
            in replies (reported []) (Ok 0) (same.1 (record { block = v.block; next₁ = v.next; next₂ = w.next; first = v.is; second = w.is ∙ ap (λ (b : Block). found b w.next) i })) refl,
      )

  by_decode : ByDecode t s at u z from a a' c c' r
  by_decode =
      record {
        first = λ e d. replies (refused_by 1 (number_of e) (place_of e)) (Err (First e)) ((claims_8.compare.refusals p q' (room_for before) 1 (number_of e) (place_of e)).1 (first (refused_answer t s at a a' _ d e refl))) refl;
        second = λ m e d k.
            let v = took t s at a a' _ d m refl in
            replies (refused_by 2 (number_of e) (place_of e)) (Err (Second e)) ((claims_8.compare.refusals p q' (room_for before) 2 (number_of e) (place_of e)).1 (second v.block v.next v.is (refused_answer u z from c c' _ k e refl))) refl;
        nothing = agree;
      }

pub compare_by_decode : CompareByDecode
compare_by_decode = by_decode

-- ---- wrong comparers

-- a report of one block is zeros
writes : (r : Result ℕ Refused) (a c : Arena) → ComparesAt 9 p2 0 p2 0 a c (lent_report 9) r → ⊥
unfolding document
writes r a c h = let z : ◌≡◌ {A = ℕ} 9 0 = ap (λ (l : List ℤ). mag (get_or l 0 (pos 0))) h.reports.report in omega arith

-- decode leaves the opcode 1 first
not_empty : (q : Result Decoded Refusal) (a : Arena) → a ≡ filled lent_runs no_block → DecodesP2 a q → ⊥
unfolding document
not_empty q a e h = let z : ◌≡◌ {A = ℕ} 0 1 = ap (λ (x : Arena). get_or x.codes 0 0) (sym e ∙ h.runs) in omega arith

pub shut_out : ShutOut
unfolding document
shut_out =
    record {
      same = λ r a c out h. one_compared r (Ok 0) h.reports.reply;
      apart = λ r a c out h. one_compared r (Ok 2) h.reports.reply;
      writes_nothing = writes;
      missing = λ r a c out h. ap (λ (l : List ℤ). get_or l 2 (pos 0)) h.reports.report;
      difference = λ r a c out h. ap (λ (l : List ℤ). get_or l 7 (pos 0)) h.reports.report;
      second_told = λ r a c out h. one_compared r (Err (Second (CutShort 20))) h.reports.reply;
      first_told = λ r a c out h. one_compared r (Err (First PastEnd)) h.reports.reply;
      short = λ r a c out h. (one_compared r (Err Report) h.reports.reply, h.reports.report);
      first_room = λ r q a c out h. not_empty q a h.first;
      second_room = λ r q a c out h. not_empty q c h.second;
    }
