-- The ranges of the chips of a list, those of one chip after those of another.
use mathlib.Core.Path.{◌≡◌, refl, sym}
use mathlib.Core.Bool.{Bool, true, false, ◌&&◌, and_assoc}
use mathlib.Core.List.{List, [], ◌∷◌}
use Prim.Native.Nat.{ℕ}
use Rattle.several_chips.specs.declared.Member.{Member}
use Rattle.several_chips.specs.Numbers.{Range, inside, apart, apart_from, ranges_good, ranges_of}
use Rattle.several_refusals.specs.Ranges.{active_of, buffer_of}

-- what the language reads beyond the end of a list
abbrev pub no_member : Member
no_member = record {
  session = [];
  contended = 0;
  active_start = 0;
  active_length = 0;
  buffer_start = 0;
  buffer_length = 0;
}

-- the tests of one chip's ranges, in the order of the code
swapped : (a b o p q r : Bool) → (a && ((o && p) && (b && (q && r)))) ≡ (((a && b) && (o && (p && q))) && r)
swapped false b o p q r = refl
swapped true true true p q r = sym (and_assoc p q r)
swapped true true false p q r = refl
swapped true false true true q r = refl
swapped true false true false q r = refl
swapped true false false p q r = refl

-- the ranges of one chip more, where the code found a and b
module _ (w : Member) (ws : List Member) (a b : Range) (active : a ≡ active_of w) (buffer : b ≡ buffer_of w) where
  -- a range apart from both, and from those after them
  pub apart_more : (r : Range) (s t : Bool) → s ≡ apart r a → t ≡ apart r b → apart_from r (ranges_of (w ∷ ws)) ≡ ((s && t) && apart_from r (ranges_of ws))
  unfolding apart_from ranges_of
  apart_more r s t p q =
      rw (p, q, active, buffer) (sym (and_assoc (apart r (active_of w)) (apart r (buffer_of w)) (apart_from r (ranges_of ws))))

  -- both in the memory, apart from each other, and from those after them
  pub ranges_more : (size : ℕ) (later : List Member) → later ≡ ws → (s t o p q : Bool) → s ≡ inside size a → t ≡ inside size b → o ≡ apart a b
      → p ≡ apart_from a (ranges_of later) → q ≡ apart_from b (ranges_of later)
      → ranges_good size (ranges_of (w ∷ ws)) ≡ (((s && t) && (o && (p && q))) && ranges_good size (ranges_of ws))
  unfolding ranges_good apart_from ranges_of
  ranges_more size later same s t o p q e f g h k =
      rw (e, f, g, h, k, same, active, buffer)
      (swapped (inside size (active_of w)) (inside size (buffer_of w)) (apart (active_of w) (buffer_of w)) (apart_from (active_of w) (ranges_of ws))
      (apart_from (buffer_of w) (ranges_of ws)) (ranges_good size (ranges_of ws)))
