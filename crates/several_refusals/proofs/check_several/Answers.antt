-- `check_several` meets its contract: the tests in the order of their numbers.
use borrow.Author.Tests.{le-leb, lt-leb, ltb-true, ltb-false}
use mathlib.Core.Path.{◌≡◌, refl, sym, ap, ◌∙◌}
use mathlib.Core.Bool.{Bool, true, false, not, ◌||◌, ◌&&◌}
use mathlib.Core.List.{List}
use Prim.Native.Nat.{ℕ}
use lib.Dec.{leb, ltb}
use lib.ListN.{length}
use Rattle.std.proofs.lemmas.Result.{err_from_is_err_and}
use Rattle.base_chip.specs.declared.Chip.TheVariants.{Newer}
use Rattle.base_numbers.specs.declared.Refusal.{Refusal}
use Rattle.base_numbers.specs.Numbers.{refusal_number}
use Rattle.base_numbers.proofs.Numbers.{not_done}
use Rattle.map_test.specs.MapTest.{map_number}
use Rattle.several_chips.specs.declared.Member.{Member}
use Rattle.several_chips.specs.Numbers.{ranges_good, ranges_of, all_sound, several_number}
use Rattle.several_refusals.proofs.Gathered.{gathered_number}
use Rattle.several_refusals.proofs.check_several.Goals as goal

-- one to eight chips, as code tests it
counted : (n : ℕ) → (leb 1 n && leb n 8) ≡ not (ltb n 1 || ltb 8 n)
counted n = by (ltb n 1) (ltb 8 n) refl refl
  where
    by : (s t : Bool) → ltb n 1 ≡ s → ltb 8 n ≡ t → (leb 1 n && leb n 8) ≡ not (s || t)
    by true t p q = rw (lt-leb 1 n (ltb-true n 1 p)) refl
    by false true p q = rw (le-leb 1 n (ltb-false n 1 p), lt-leb n 8 (ltb-true 8 n q)) refl
    by false false p q = rw (le-leb 1 n (ltb-false n 1 p), le-leb n 8 (ltb-false 8 n q)) refl

-- good chips with a map that is refused
map_refused : (m : List ℕ) (ws : List Member) (size : ℕ) (bytes : List ℕ) (room : ℕ) → (leb 1 (length ws) && leb (length ws) 8) ≡ true
    → ranges_good size (ranges_of ws) ≡ true → all_sound ws ≡ true → (e : Refusal) → refusal_number e ≡ map_number Newer m
    → refusal_number e ≡ several_number m ws size bytes room
unfolding several_number
map_refused m ws size bytes room count good sound e q = rw (count, good, sound, sym q, not_done e) refl

pub returns-then-miscounted-clause-number : goal.returns-then-miscounted-clause-number
unfolding several_number
returns-then-miscounted-clause-number c =
    rw (counted (length c.args.members.now) ∙ ap not c.if-miscounted.true) refl

pub returns-then-not-ranges_good-clause-number : goal.returns-then-not-ranges_good-clause-number
unfolding several_number
returns-then-not-ranges_good-clause-number c =
    rw (
      counted (length c.args.members.now)
          ∙ ap not c.if-miscounted.false,
      sym c.if-not-ranges_good.ensures,
    )
    refl

pub returns-then-not-all_sound-clause-number : goal.returns-then-not-all_sound-clause-number
unfolding several_number
returns-then-not-all_sound-clause-number c =
    rw (
      counted (length c.args.members.now)
          ∙ ap not c.if-miscounted.false,
      sym c.if-not-ranges_good.ensures,
      sym c.if-not-all_sound.ensures.sound,
    )
    refl

pub returns-in_err-check_map-clause-number : goal.returns-in_err-check_map-clause-number
returns-in_err-check_map-clause-number c =
    let given = err_from_is_err_and c.from_residual.result c.from_residual.ensures.1 in
    rw (given.1, given.2)
    (map_refused c.args.map.now c.args.members.now c.args.size c.args.samples.now c.args.room (counted (length c.args.members.now) ∙ ap not c.if-miscounted.false)
    (sym c.if-not-ranges_good.ensures) (sym c.if-not-all_sound.ensures.sound) _ c.in_err-check_map.ensures)

pub returns-then-not-ranges_fit-clause-number : goal.returns-then-not-ranges_fit-clause-number
unfolding several_number
returns-then-not-ranges_fit-clause-number c =
    rw (
      counted (length c.args.members.now)
          ∙ ap not c.if-miscounted.false,
      sym c.if-not-ranges_good.ensures,
      sym c.if-not-all_sound.ensures.sound,
      sym c.in_ok-check_map.ensures,
      rw c.count.ensures at (sym c.if-not-ranges_fit.ensures),
    )
    refl

pub returns-then-not-samples_good-clause-number : goal.returns-then-not-samples_good-clause-number
unfolding several_number
returns-then-not-samples_good-clause-number c =
    rw (
      counted (length c.args.members.now)
          ∙ ap not c.if-miscounted.false,
      sym c.if-not-ranges_good.ensures,
      sym c.if-not-all_sound.ensures.sound,
      sym c.in_ok-check_map.ensures,
      rw c.count.ensures at (sym c.if-not-ranges_fit.ensures),
      sym c.if-not-samples_good.ensures,
    )
    refl

pub returns-then-not-room_suffices-clause-number : goal.returns-then-not-room_suffices-clause-number
unfolding several_number
returns-then-not-room_suffices-clause-number c =
    rw (
      counted (length c.args.members.now)
          ∙ ap not c.if-miscounted.false,
      sym c.if-not-ranges_good.ensures,
      sym c.if-not-all_sound.ensures.sound,
      sym c.in_ok-check_map.ensures,
      rw c.count.ensures at (sym c.if-not-ranges_fit.ensures),
      sym c.if-not-samples_good.ensures,
      sym c.if-not-room_suffices.ensures,
    )
    refl

pub returns-clause-number : goal.returns-clause-number
unfolding several_number
returns-clause-number c =
    rw (
      counted (length c.args.members.now)
          ∙ ap not c.if-miscounted.false,
      sym c.if-not-ranges_good.ensures,
      sym c.if-not-all_sound.ensures.sound,
      sym c.in_ok-check_map.ensures,
      rw c.count.ensures at (sym c.if-not-ranges_fit.ensures),
      sym c.if-not-samples_good.ensures,
      sym c.if-not-room_suffices.ensures,
    )
    refl

pub returns-then-miscounted-clause-copied : goal.returns-then-miscounted-clause-copied
returns-then-miscounted-clause-copied c = returns-then-miscounted-clause-number c ∙ sym (gathered_number _ _ _ _ _)

pub returns-then-not-ranges_good-clause-copied : goal.returns-then-not-ranges_good-clause-copied
returns-then-not-ranges_good-clause-copied c = returns-then-not-ranges_good-clause-number c ∙ sym (gathered_number _ _ _ _ _)

pub returns-then-not-all_sound-clause-copied : goal.returns-then-not-all_sound-clause-copied
returns-then-not-all_sound-clause-copied c = returns-then-not-all_sound-clause-number c ∙ sym (gathered_number _ _ _ _ _)

pub returns-in_err-check_map-clause-copied : goal.returns-in_err-check_map-clause-copied
returns-in_err-check_map-clause-copied c = returns-in_err-check_map-clause-number c ∙ sym (gathered_number _ _ _ _ _)

pub returns-then-not-ranges_fit-clause-copied : goal.returns-then-not-ranges_fit-clause-copied
returns-then-not-ranges_fit-clause-copied c = returns-then-not-ranges_fit-clause-number c ∙ sym (gathered_number _ _ _ _ _)

pub returns-then-not-samples_good-clause-copied : goal.returns-then-not-samples_good-clause-copied
returns-then-not-samples_good-clause-copied c = returns-then-not-samples_good-clause-number c ∙ sym (gathered_number _ _ _ _ _)

pub returns-then-not-room_suffices-clause-copied : goal.returns-then-not-room_suffices-clause-copied
returns-then-not-room_suffices-clause-copied c = returns-then-not-room_suffices-clause-number c ∙ sym (gathered_number _ _ _ _ _)

pub returns-clause-copied : goal.returns-clause-copied
returns-clause-copied c = returns-clause-number c ∙ sym (gathered_number _ _ _ _ _)
