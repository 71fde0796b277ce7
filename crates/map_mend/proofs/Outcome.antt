-- What holds of a map that was mended, for every call.
use mathlib.Core.Path.{◌≡◌, refl}
use mathlib.Core.Bool.{Bool, true, false, cond}
use mathlib.Core.List.{List, []}
use Prim.Native.Nat.{ℕ, zero, suc, ◌+◌, ◌/◌, ◌<◌}
use native.Mathlib.Omega.{arith}
use lib.ListN.{length}
use lib.Dec.{eqb}
use borrow.Author.Tests.{eqb-true, eqb-false, eq-eqb, le-leb}
use Rattle.base_bits.specs.Buffer.{filled}
use Rattle.base_bits.specs.Tests.{every}
use Rattle.base_bits.proofs.Cases.{and_right, every_true}
use Rattle.map_format.specs.Format.{count_of, register_at}
use Rattle.base_chip.specs.declared.Chip.TheVariants.{Newer}
use Rattle.map_test.specs.MapTest.{Formed, place_kinds, entries_good, further_tests, map_number}
use Rattle.map_test.specs.MapTest.{vendor_low_place, vendor_low, vendor_high_place, vendor_high, scratch_place, scratch_mask}
use Rattle.map_test.proofs.Laws.{formed, passed, good_entry}
use Rattle.map_mend.specs.Entry.{mended_at}
use Rattle.map_mend.specs.Mend.{listed_size, mended_map, altered_at, altered_from, altered_of, mend_number, Mending, mending, mend_of}
use Rattle.map_mend.specs.Outcome.{MendedAccepted, GoodKept, MendedOnce, restored, GivenBack}
use Rattle.map_mend.proofs.MendedEntry.{Further, good_kept}
use Rattle.map_mend.proofs.Laws.{mend_tests, is_formed}
use Rattle.map_mend.proofs.Accepted.{mended_accepted}
use Rattle.map_mend.proofs.Restored.{give_back}

-- what a call leaves, by whether its number is 0
abbrev leaves : List ℕ → List ℕ → Bool → Mending
leaves m list b = cond b (mending 0 (length (altered_of m)) (mended_map m) (filled (altered_of m) list)) (mending (mend_number m (length list)) 0 m list)

pub outcome_accepted : MendedAccepted
unfolding mend_of
outcome_accepted m list = go (eqb (mend_number m (length list)) 0) refl
  where
    go : (b : Bool) → eqb (mend_number m (length list)) 0 ≡ b → (leaves m list b).number ≡ 0 → map_number Newer (leaves m list b).map ≡ 0
    go true e h =
        let z = eqb-true (mend_number m (length list)) 0 e in
        let t = mend_tests m (length list) z in
        mended_accepted m (is_formed m (length list) z) t.form t.product
    go false e h = absurd (eqb-false (mend_number m (length list)) 0 e h)

-- The list of the mended map, put back, gives the map; with nothing listed it is the map.
mended_back : (m rest : List ℕ) → Formed m → restored (length (altered_of m) / listed_size) (filled (altered_of m) rest) (mended_map m) ≡ m
unfolding mended_map
mended_back m rest f = give_back m f (count_of m) 0 _ (omega arith)

pub given_back : GivenBack
unfolding mend_of restored
given_back m list = go (eqb (mend_number m (length list)) 0) refl
  where
    go : (b : Bool) → eqb (mend_number m (length list)) 0 ≡ b → restored ((leaves m list b).count / listed_size) (leaves m list b).list (leaves m list b).map ≡ m
    go true e = mended_back m list (is_formed m (length list) (eqb-true (mend_number m (length list)) 0 e))
    go false e = refl

none_altered : (m : List ℕ) (a k : ℕ) → ((i : ℕ) → i < a + k → mended_at i (register_at m i) ≡ register_at m i) → altered_from m a k ≡ []
unfolding altered_from altered_at
none_altered m a zero same = refl
none_altered m a (suc k) same =
    let e = register_at m a in
    rw (
      same a (omega arith),
      eq-eqb e.kind e.kind refl,
      eq-eqb e.mask e.mask refl,
      eq-eqb e.default e.default refl,
      none_altered m (a + 1) k (λ i h. same i (omega arith)),
    )

-- the further tests, as they bear on one address
further : (m : List ℕ) (a : ℕ) → every (further_tests Newer m) ≡ true → Further a (register_at m a)
further m a t =
    let u = every_true (further_tests Newer m) t in
    record {
      scratch = λ e. rw e (eqb-true (register_at m scratch_place).mask scratch_mask u.1.1.1.0);
      low_vendor = λ e. rw e (eqb-true (register_at m vendor_low_place).default vendor_low u.0);
      high_vendor = λ e. rw e (eqb-true (register_at m vendor_high_place).default vendor_high u.1.0);
    }

module _ (m : List ℕ) (good : map_number Newer m ≡ 0) where
  rules : every (further_tests Newer m) ≡ true
  rules = and_right (entries_good place_kinds m 0 (count_of m)) (every (further_tests Newer m)) (passed Newer m good).1

  none : altered_of m ≡ []
  none = none_altered m 0 (count_of m) (λ i h. good_kept i (register_at m i) (good_entry Newer m good i (omega arith)) (further m i rules))

  -- with nothing listed, what gives the old map back is the mended map itself
  kept : mended_map m ≡ m
  unfolding restored
  kept = rw none at (mended_back m [] (formed m (passed Newer m good).0))

  number : (room : ℕ) → mend_number m room ≡ 0
  unfolding mend_number
  number room = rw ((passed Newer m good).0, (every_true (further_tests Newer m) rules).1.1.0, none, le-leb 0 room (omega arith))

pub good_map_kept : GoodKept
unfolding mend_of
good_map_kept m list good = rw (number m good (length list), none m good, kept m good)

pub mended_once : MendedOnce
mended_once m list again z = good_map_kept (mend_of m list).map again (outcome_accepted m list z)
