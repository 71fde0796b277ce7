-- No refusal has the number of a call that is done.
use Rattle.std.proofs.Common.{◌≡◌, ◌≤◌, ◌<◌, eqb, Bool, false, refl, arith}
use Rattle.base_numbers.specs.declared.Refusal.{Refusal}
use Rattle.base_numbers.specs.declared.Refusal.TheVariants.{BadSession, BadMapForm, BadMapEntry, BadBank, BadSamples, ShortRecords, BadOrder, BadCount, BadStart, BadSingle, ShortOut, BadTop, FlagLost, BadList, LongSetup, BadWords, BadChips, BadProduct, BadRegisters}
use Rattle.base_numbers.specs.Numbers.{refusal_number, done}

pub some_number : (e : Refusal) → 1 ≤ refusal_number e
some_number BadSession = omega arith
some_number BadMapForm = omega arith
some_number BadMapEntry = omega arith
some_number BadBank = omega arith
some_number BadSamples = omega arith
some_number ShortRecords = omega arith
some_number BadOrder = omega arith
some_number BadCount = omega arith
some_number BadStart = omega arith
some_number BadSingle = omega arith
some_number ShortOut = omega arith
some_number BadTop = omega arith
some_number FlagLost = omega arith
some_number BadList = omega arith
some_number LongSetup = omega arith
some_number BadWords = omega arith
some_number BadChips = omega arith
some_number BadProduct = omega arith
some_number BadRegisters = omega arith

pub not_done : (e : Refusal) → eqb (refusal_number e) done ≡ false
not_done BadSession = refl
not_done BadMapForm = refl
not_done BadMapEntry = refl
not_done BadBank = refl
not_done BadSamples = refl
not_done ShortRecords = refl
not_done BadOrder = refl
not_done BadCount = refl
not_done BadStart = refl
not_done BadSingle = refl
not_done ShortOut = refl
not_done BadTop = refl
not_done FlagLost = refl
not_done BadList = refl
not_done LongSetup = refl
not_done BadWords = refl
not_done BadChips = refl
not_done BadProduct = refl
not_done BadRegisters = refl
