-- A loop that tests each of a list: the tests of what is passed, with those of what is left, are the whole.
use mathlib.Core.Path.{◌≡◌, sym, ◌∙◌}
use mathlib.Core.Bool.{Bool, true, ◌&&◌, and_assoc, and-true}
use mathlib.Core.List.{List, [], ◌∷◌}
use Prim.Native.Nat.{ℕ, ◌+◌, ◌<◌, ◌≤◌}
use native.Mathlib.Numerals.{add-one}
use lib.ListN.{length, get_or, drop, drop_of_length-le}
use lib.Seq.{drop-cons}

module _ {A : Type 0} (all : List A → Bool) (l : List A) {whole : Bool} (i : ℕ) (good : Bool) where
  pub one_more : (d : A) (here : Bool) → all (get_or l i d ∷ drop (i + 1) l) ≡ (here && all (drop (i + 1) l)) → i < length l
      → (good && all (drop i l)) ≡ whole → ((good && here) && all (drop (i + 1) l)) ≡ whole
  one_more d here e h inv =
      and_assoc good here (all (drop (i + 1) l)) ∙ (rw (sym e, add-one, ← drop-cons l i d h) inv)

  pub all_passed : all [] ≡ true → length l ≤ i → (good && all (drop i l)) ≡ whole → good ≡ whole
  all_passed none h inv = sym (and-true good) ∙ (rw (drop_of_length-le l h, none) at inv)
