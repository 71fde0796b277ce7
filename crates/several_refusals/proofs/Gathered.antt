-- The number of a group is that of the list whose chips were gathered, however long the list: up to eight are all there, and more are
-- refused either way.
use mathlib.Core.Path.{◌≡◌, refl, sym, ap, subst, ◌∙◌}
use mathlib.Core.Bool.{Bool, true, false, and-false}
use mathlib.Core.List.{List, [], ◌∷◌, ◌++◌, append-nil}
use Prim.Native.Nat.{ℕ, ◌+◌, ◌<◌, ◌≤◌}
use native.Mathlib.Numerals.{add-one}
use native.Mathlib.Omega.{arith}
use borrow.Author.Tests.{ltb-true, ltb-false, lt-ltb, le-ltb, leb-true, leb-false, le-leb, lt-leb}
use lib.Dec.{ltb, leb}
use lib.ListN.{length, set, length-set, length-append}
use lib.Seq.{take-suc-set, append_snoc}
use Rattle.base_bits.proofs.Cases.{yes, no}
use Rattle.several_chips.specs.declared.Member.{Member}
use Rattle.several_chips.specs.Numbers.{several_number}
use Rattle.several_refusals.specs.Group.{Group, no_group, with_member, gathered, chips_of, group_number}

-- a group that has all chips of a list
pub record Holds (g : Group) (ws : List Member) : Type 0 where
  pub places : length g.members ≡ 8
  pub count : g.count ≡ length ws
  pub chips : chips_of g ≡ ws

-- one chip more, where there is room, and where there is none
with_room : (g : Group) (w : Member) → g.count < 8 → with_member g w ≡ record { count = g.count + 1; members = set g.members g.count w }
unfolding with_member
with_room g w h = rw (lt-ltb g.count 8 h)

with_none : (g : Group) (w : Member) → 8 ≤ g.count → with_member g w ≡ record { count = 9; members = g.members }
unfolding with_member
with_none g w h = rw (le-ltb g.count 8 h)

holds_more : (g : Group) (ws : List Member) (w : Member) → Holds g ws → length ws < 8 → Holds (with_member g w) (ws ++ (w ∷ []))
holds_more g ws w h less =
    rw (with_room g w (omega (arith, h.count)))
    (record {
      places = length-set g.members g.count w ∙ h.places;
      count = omega (arith, h.count, length-append ws (w ∷ []));
      chips = rw add-one (take-suc-set g.members g.count w (omega (arith, h.count, h.places)) ∙ ap (λ (l : List Member). l ++ (w ∷ [])) h.chips);
    })

-- a list that has room
holds_all : (g : Group) (ws more : List Member) → Holds g ws → length ws + length more ≤ 8 → Holds (gathered g more) (ws ++ more)
unfolding gathered
holds_all g ws [] h few = rw append-nil h
holds_all g ws (w ∷ more) h few =
    subst (Holds (gathered (with_member g w) more)) (append_snoc ws w more)
    (holds_all (with_member g w) (ws ++ (w ∷ [])) more (holds_more g ws w h (omega arith)) (omega (arith, length-append ws (w ∷ []))))

-- Up to eight chips: the group has them all.
pub gathered_holds : (ws : List Member) → length ws ≤ 8 → Holds (gathered no_group ws) ws
gathered_holds ws few = holds_all no_group [] ws (record { places = refl; count = refl; chips = refl }) (omega arith)

-- more than eight: with each chip the count comes nearer to nine, where it stays
nearer : (g : Group) (w : Member) (left : ℕ) → g.count ≤ 9 → 9 ≤ g.count + (left + 1) → ((with_member g w).count ≤ 9) × (9 ≤ (with_member g w).count + left)
nearer g w left most over = by (ltb g.count 8) refl
  where
    by : (t : Bool) → ltb g.count 8 ≡ t → ((with_member g w).count ≤ 9) × (9 ≤ (with_member g w).count + left)
    by true e = let less = ltb-true g.count 8 e in rw (with_room g w less) (omega arith, omega arith)
    by false e = rw (with_none g w (ltb-false g.count 8 e)) (omega arith, omega arith)

over_eight : (g : Group) (more : List Member) → g.count ≤ 9 → 9 ≤ g.count + length more → (gathered g more).count ≡ 9
unfolding gathered
over_eight g [] most over = omega arith
over_eight g (w ∷ more) most over =
    let next = nearer g w (length more) most (omega arith) in
    over_eight (with_member g w) more next.0 next.1

too_many : (m : List ℕ) (ws : List Member) (size : ℕ) (bytes : List ℕ) (room : ℕ) → leb (length ws) 8 ≡ false → several_number m ws size bytes room ≡ 17
unfolding several_number
too_many m ws size bytes room e = rw (e, and-false (leb 1 (length ws)))

-- The number of the group is the number of the list.
pub gathered_number : (m : List ℕ) (ws : List Member) (size : ℕ) (bytes : List ℕ) (room : ℕ)
    → group_number m (gathered no_group ws) size bytes room ≡ several_number m ws size bytes room
unfolding group_number
gathered_number m ws size bytes room = by (leb (length ws) 8) refl
  where
    by : (t : Bool) → leb (length ws) 8 ≡ t → group_number m (gathered no_group ws) size bytes room ≡ several_number m ws size bytes room
    by true e =
        let h = gathered_holds ws (leb-true (length ws) 8 e) in
        sym (no _ (lt-leb 9 (gathered no_group ws).count (omega (arith, h.count, leb-true (length ws) 8 e))) (rw h.chips))
    by false e =
        let nine = over_eight no_group ws (omega arith) (omega (arith, leb-false (length ws) 8 e)) in
        sym (yes _ (le-leb 9 (gathered no_group ws).count (omega (arith, nine))) (too_many m ws size bytes room e))
