-- A loop over two runs side by side: where its iterator begins. Assumes nothing.
use mathlib.Core.Path.{◌≡◌, ap, ◌∙◌}
use mathlib.Core.List.{List}
use Rattle.std.specs.declared.iter.Zip.{Zip}
use Rattle.std.specs.declared.slice.Iter.{Iter}
use Rattle.std.specs.Iterator.Adapters.{zip_first, zip_second}
use Rattle.std.specs.Slice.Iter.{iter_rest}

pub paired : {A B : Type 0} {ks : List A} {vs : List B} {s z : Zip (Iter A) (Iter B)} {x : Iter A} {y : Iter B} → s ≡ z → z.a ≡ x → iter_rest x ≡ ks → z.b ≡ y → iter_rest y ≡ vs
    → (iter_rest (zip_first s) ≡ ks) × (iter_rest (zip_second s) ≡ vs)
paired g p q p' q' = (ap (λ s. iter_rest (zip_first s)) g ∙ ap iter_rest p ∙ q, ap (λ s. iter_rest (zip_second s)) g ∙ ap iter_rest p' ∙ q')
