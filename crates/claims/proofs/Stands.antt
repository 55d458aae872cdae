-- Bytes that stand at a place of a list. Assumes nothing.
use mathlib.Core.Path.{◌≡◌, sym, ◌∙◌}
use mathlib.Core.List.{List, [], ◌∷◌, ◌++◌, append_assoc}
use Prim.Native.Nat.{ℕ, suc, ◌+◌, ◌≤◌, ◌<◌}
use native.Mathlib.Omega.{arith}
use lib.ListN.{length, length-append, get_or, take, drop, take-append-drop}
use lib.Seq.{drop-append_seam, drop-drop, length-take-le, split_at}

pub record Stands (b s : List ℕ) (at : ℕ) : Type 0 where
  pub before : List ℕ
  pub after : List ℕ
  pub whole : s ≡ before ++ (b ++ after)
  pub place : at ≡ length before

-- what holds of a list in any surroundings holds where it stands
pub here : (R : List ℕ → ℕ → Type 0) (b s : List ℕ) (at : ℕ) → Stands b s at → ((p q : List ℕ) → R (p ++ (b ++ q)) (length p)) → R s at
here R b s at st f = rw (st.whole, st.place) (f st.before st.after)

pub first_of : (b c s : List ℕ) (at : ℕ) → Stands (b ++ c) s at → Stands b s at
first_of b c s at st = record { before = st.before; after = c ++ st.after; whole = st.whole ∙ rw (append_assoc b c st.after); place = st.place }

pub rest_of : (b c s : List ℕ) (at : ℕ) → Stands (b ++ c) s at → Stands c s (at + length b)
rest_of b c s at st =
    record {
      before = st.before ++ b;
      after = st.after;
      whole = st.whole ∙ (rw (append_assoc b c st.after) (sym (append_assoc st.before b (c ++ st.after))));
      place = rw (st.place, length-append st.before b);
    }

pub stands_fits : (b s : List ℕ) (at : ℕ) → Stands b s at → at + length b ≤ length s
stands_fits b s at st = rw (st.whole, st.place) (simp length-append (omega arith))

-- ---- putting together

same_rest : (b c s : List ℕ) (at : ℕ) (st : Stands b s at) (su : Stands c s (at + length b)) → st.after ≡ c ++ su.after
same_rest b c s at st su =
    let e : drop at s ≡ b ++ st.after = rw (st.place, st.whole) (drop-append_seam st.before (b ++ st.after)) in
    let f : drop (at + length b) s ≡ c ++ su.after = rw (su.place, su.whole) (drop-append_seam su.before (c ++ su.after)) in
    let g : drop (length b) (drop at s) ≡ st.after = rw e (drop-append_seam b st.after) in
    sym g ∙ (drop-drop (length b) at s ∙ f)

pub join : (b c s : List ℕ) (at : ℕ) → Stands b s at → Stands c s (at + length b) → Stands (b ++ c) s at
join b c s at st su =
    record {
      before = st.before;
      after = su.after;
      whole = st.whole ∙ rw (same_rest b c s at st su, append_assoc b c su.after);
      place = st.place;
    }

pub none : (s : List ℕ) (at : ℕ) → at ≤ length s → Stands [] s at
none s at h = record { before = take at s; after = drop at s; whole = sym (take-append-drop at s); place = sym (length-take-le at s h) }

pub single : (s : List ℕ) (at : ℕ) → at < length s → Stands (get_or s at 0 ∷ []) s at
single s at h = record { before = take at s; after = drop (suc at) s; whole = split_at s at 0 h; place = sym (length-take-le at s (omega arith)) }

-- bytes that were taken: they stand there, and the next place is after them
pub record Taken (b s : List ℕ) (at end : ℕ) : Type 0 where
  pub stands : Stands b s at
  pub next : end ≡ at + length b

pub and_then : (b c s : List ℕ) (at m n : ℕ) → Taken b s at m → Taken c s m n → Taken (b ++ c) s at n
and_then b c s at m n x y =
    record {
      stands = join b c s at x.stands (rw (sym x.next) y.stands);
      next = y.next ∙ (rw (x.next, length-append b c) (omega arith));
    }

pub taken_fits : (b s : List ℕ) (at n : ℕ) → Taken b s at n → n ≤ length s
taken_fits b s at n h = omega (arith, h.next, stands_fits b s at h.stands)
