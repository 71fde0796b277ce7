-- The map of 8,192 registers is good: its form, its entries and its further rules.
use mathlib.Core.Path.{◌≡◌, refl, sym}
use mathlib.Core.Bool.{true, ◌&&◌}
use native.Mathlib.Omega.{arith}
use Rattle.base_bits.specs.Tests.{every}
use Rattle.base_bits.proofs.Cases.{yes}
use Rattle.base_chip.specs.declared.Chip.TheVariants.{Newer}
use Rattle.map_format.specs.Format.{count_of, head_of, entry_at}
use Rattle.map_test.specs.MapTest.{form_tests, place_kinds, entries_good, further_tests, map_number}
use Rattle.map_test.proofs.Entries.{two_parts}
use Rattle.map_test.proofs.Laws.{formed}
use Rattle.guarantees.specs.Known.{map8192}
use Rattle.guarantees.proofs.Blank.{first_sixteen_good, others_good}

form_good : every (form_tests map8192) ≡ true
unfolding every count_of head_of
form_good = refl

further_good : true ≡ every (further_tests Newer map8192)
unfolding every count_of head_of entry_at
further_good = refl

pub good_8192 : map_number Newer map8192 ≡ 0
unfolding map_number
good_8192 =
    let entries = two_parts place_kinds map8192 true true (formed map8192 form_good) (omega arith) first_sixteen_good others_good in
    let rules : (entries_good place_kinds map8192 0 (count_of map8192) && every (further_tests Newer map8192)) ≡ true = rw (← entries, ← further_good) in
    sym (yes _ form_good (yes _ rules refl))
