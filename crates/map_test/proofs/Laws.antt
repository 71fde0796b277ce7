-- Laws of the map test: what number 0 says of n, of each entry and of the control registers.
use mathlib.Core.Path.{◌≡◌, refl, sym, ◌∙◌}
use mathlib.Core.Bool.{Bool, true, false, ◌||◌, false≢true}
use mathlib.Core.List.{List}
use Prim.Native.Nat.{ℕ, zero, suc, ◌+◌, ◌-◌, ◌≤◌, ◌<◌}
use native.Mathlib.Nat.{zero-add}
use native.Mathlib.Omega.{arith}
use borrow.Author.Tests.{leb-true, eqb-true, eq-eqb, ne_eqb}
use lib.ListN.{length}
use lib.Dec.{eqb, leb}
use Rattle.base_bits.specs.Tests.{every, unless}
use Rattle.base_bits.proofs.Cases.{each, and_left, and_right, every_true}
use Rattle.base_numbers.specs.declared.Refusal.{Refusal}
use Rattle.base_numbers.specs.Numbers.{refusal_number, done}
use Rattle.base_numbers.proofs.Numbers.{not_done}
use Rattle.base_chip.specs.declared.Chip.{Chip}
use Rattle.base_chip.specs.declared.Chip.TheVariants.{Newer, Older}
use Rattle.base_chip.specs.declared.Part.{Part}
use Rattle.base_chip.specs.Registers.{transfer_register, older_transfer}
use Rattle.base_chip.specs.Chip.{transfer_place, top_good}
use Rattle.map_format.specs.Format.{length_of, version_of, count_of, least_count, most_count, length_size, size_of, register_at, SameRegisters, control}
use Rattle.map_test.specs.MapTest.{form_tests, Formed, kind_rule, kinds_of, place_rule, entry_good, entries_good, further_tests, rules_good, map_number, top_fits}
use Rattle.map_test.specs.MapTest.{product_low_place, product_high_place, vendor_low_place, vendor_high_place, scratch_place}
use Rattle.map_test.proofs.PlaceKinds.{control_place, placed_control}
use Rattle.map_test.proofs.Entries.{entries_each}

-- the tests of the form, each turned into its fact
pub formed : (m : List ℕ) → every (form_tests m) ≡ true → Formed m
formed m h =
    let t = (every_true (form_tests m) h).1.1.1 in
    record {
      least = leb-true least_count (count_of m) t.0;
      most = leb-true (count_of m) most_count t.1.0;
      whole = eqb-true (length m) (size_of m) t.1.1.0;
    }

both_pass : (a b : Bool) → unless a 2 (unless b 3 0) ≡ 0 → (a ≡ true) × (b ≡ true)
both_pass true true h = (refl, refl)
both_pass true false h = absurd (omega arith)
both_pass false b h = absurd (omega arith)

-- a refusal's number is not that of a call that is done
pub refused_by : (e : Refusal) (k : ℕ) → refusal_number e ≡ k → eqb k done ≡ false
refused_by e k h = rw (← h) (not_done e)

-- the numbers of a map alone
pub map_number_most : (c : Chip) (m : List ℕ) → map_number c m ≤ 3
unfolding map_number
map_number_most c m =
    each (λ (n : ℕ). n ≤ 3) (every (form_tests m))
    (λ t. each (λ (n : ℕ). n ≤ 3) (rules_good c m) (λ t. omega arith) (λ t. omega arith))
    (λ t. omega arith)

module _ (c : Chip) (m : List ℕ) (good : map_number c m ≡ 0) where
  -- its form and its rules have passed
  pub passed : (every (form_tests m) ≡ true) × (rules_good c m ≡ true)
  unfolding map_number
  passed = both_pass (every (form_tests m)) (rules_good c m) good

  pub good_form : length m ≡ size_of m
  good_form = (formed m passed.0).whole

  pub good_length : length_size + length_of m ≡ size_of m
  good_length = eqb-true (length_size + length_of m) (size_of m) (every_true (form_tests m) passed.0).1.0

  pub good_version : (eqb (version_of m) 1 || eqb (version_of m) 2) ≡ true
  good_version = (every_true (form_tests m) passed.0).1.1.0

  pub good_count : (least_count ≤ count_of m) × (count_of m ≤ most_count)
  good_count = let f = formed m passed.0 in (f.least, f.most)

  -- each entry of a good map is good
  pub good_entry : (a : ℕ) → a < count_of m → entry_good (kinds_of c) a (register_at m a) ≡ true
  good_entry a h =
      rw zero-add at
      (entries_each (kinds_of c) m 0 (count_of m) (and_left (entries_good (kinds_of c) m 0 (count_of m)) (every (further_tests c m)) passed.1) a h)

  -- control stands exactly at its places, as a test
  control_exactly : (a : ℕ) → a < count_of m → eqb (register_at m a).kind control ≡ control_place c a
  unfolding entry_good
  control_exactly a h =
      placed_control c a (register_at m a).kind
      (and_right (kind_rule (register_at m a)) (place_rule (kinds_of c) a (register_at m a).kind) (good_entry a h))

  -- a place of its table that asks for control has it
  pub control_at : (a : ℕ) → a < least_count → control_place c a ≡ true → (register_at m a).kind ≡ control
  control_at a l t = eqb-true (register_at m a).kind control (control_exactly a (omega (arith, good_count)) ∙ t)

-- the register that asks for a transfer is a control register
pub control_transfer : (c : Chip) (m : List ℕ) → map_number c m ≡ 0 → (register_at m (transfer_place c)).kind ≡ control
control_transfer Newer m good = control_at Newer m good transfer_register (omega arith) refl
control_transfer (Older part top) m good = control_at (Older part top) m good older_transfer (omega arith) refl

-- the top of an older part that it can have
pub top_bounds : (part : Part) (top : ℕ) → top_good (Older part top) ≡ true → (0x000F ≤ top) × (top ≤ 0x1FFF)
top_bounds part top h =
    let least = leb 0x000F top in
    let most = leb top 0x1FFF in
    (leb-true 0x000F top (and_left least most h), leb-true top 0x1FFF (and_right least most h))

-- it fits the map where n is the next number
pub next_is_count :
    (part : Part) (top : ℕ) (m : List ℕ) → top_good (Older part top) ≡ true → eqb (top + 1) (count_of m) ≡ top_fits (Older part top) m
next_is_count part top m h = rw h (go (eqb top (count_of m - 1)) refl)
  where
    least : 0x000F ≤ top
    least = (top_bounds part top h).0

    go : (b : Bool) → eqb top (count_of m - 1) ≡ b → eqb (top + 1) (count_of m) ≡ b
    go true e = eq-eqb (top + 1) (count_of m) (omega (arith, least, eqb-true top (count_of m - 1) e))
    go false e = ne_eqb (top + 1) (count_of m) (λ q. false≢true (sym e ∙ eq-eqb top (count_of m - 1) (omega (arith, q))))

-- the rules go by the registers alone, so of two maps with the same registers, both of good form, both are good or none
module _ (c : Chip) (m m' : List ℕ) (s : SameRegisters m m') where
  entries_same : (kinds : List ℕ) (a k : ℕ) → entries_good kinds m a k ≡ entries_good kinds m' a k
  unfolding entries_good
  entries_same kinds a zero = refl
  entries_same kinds a (suc k) = rw (s.entries_agree a, entries_same kinds (a + 1) k)

  further_same : (c : Chip) → further_tests c m ≡ further_tests c m'
  further_same Newer =
      rw (
        s.entries_agree vendor_low_place,
        s.entries_agree vendor_high_place,
        s.entries_agree product_low_place,
        s.entries_agree product_high_place,
        s.entries_agree scratch_place,
      )
  further_same (Older part top) = refl

  pub good_alike : map_number c m ≡ 0 → every (form_tests m') ≡ true → map_number c m' ≡ 0
  unfolding map_number
  good_alike good form =
      rw (form, ← further_same c, ← entries_same (kinds_of c) 0 (count_of m'), ← s.same_count, (passed c m good).1)
