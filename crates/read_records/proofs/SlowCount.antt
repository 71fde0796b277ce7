-- Counting the writes that ask for slow: what is counted, with the records that are left, is the whole.
use mathlib.Core.Path.{◌≡◌, refl, ap}
use mathlib.Core.Bool.{Bool, true, false, ◌&&◌}
use mathlib.Core.List.{List, ◌++◌}
use Prim.Native.Nat.{ℕ, zero, suc, ◌+◌, ◌*◌, ◌/◌, ◌%◌, ◌<◌, ◌≤◌}
use native.Mathlib.Omega.{arith}
use native.Mathlib.Nat.{zero-add}
use lib.ListN.{drop, length, length-append, get_or-append}
use lib.Seq.{drop_at}
use lib.Dec.{eqb}
use mir.Val.{bool_byte}
use Rattle.base_bits.specs.Bits.{bit_at, bit_of}
use Rattle.base_bits.proofs.Cases.{each}
use Rattle.base_sizes.specs.Sizes.{record_size}
use Rattle.base_chip.specs.Registers.{configuration_b}
use Rattle.bus_settings.specs.Bits.{slow_bit}
use Rattle.reg_write.specs.declared.Written.{Written}
use Rattle.read_records.specs.Records.{write_record, read_record, abort_record}
use Rattle.read_records.specs.Slow.{asks_slow, slow_in, slow_of}

-- a write asks for slow by its address and its byte; a read or an abort never does
pub write_asks : (a v : ℕ) (w : Written) → asks_slow (write_record a v w) ≡ (eqb a configuration_b && bit_at v slow_bit)
unfolding asks_slow
write_asks a v w =
    let address : a / 256 * 256 + a % 256 ≡ a = omega arith in
    ap (λ (x : ℕ). eqb x configuration_b && bit_at v slow_bit) address

pub read_asks_not : (a due line : ℕ) → asks_slow (read_record a due line) ≡ false
unfolding asks_slow
read_asks_not a due line = refl

pub abort_asks_not : (a bits : ℕ) (in_data : Bool) → asks_slow (abort_record a bits in_data) ≡ false
unfolding asks_slow
abort_asks_not a bits in_data = refl

-- no more are counted than there are
pub slow_most : (n : ℕ) (records : List ℕ) → slow_in n records ≤ n
unfolding slow_in
slow_most zero records = omega arith
slow_most (suc n) records =
    let rest = slow_most n (drop record_size records) in
    each (λ (k : ℕ). k + slow_in n (drop record_size records) ≤ suc n) (asks_slow records) (λ t. omega arith) (λ t. omega arith)

flag_number : (b : Bool) → bool_byte b ≡ bit_of b
flag_number true = refl
flag_number false = refl

pub flag_most : (b : Bool) → bool_byte b ≤ 1
flag_most true = omega arith
flag_most false = omega arith

-- a record, and those after it
slow_more : (r rest : List ℕ) → length r ≡ record_size → slow_of (r ++ rest) ≡ bit_of (asks_slow r) + slow_of rest
unfolding slow_in asks_slow
slow_more r rest size =
    let one : length (r ++ rest) / record_size ≡ suc (length rest / record_size) = omega (arith, length-append r rest) in
    let first = get_or-append r rest 0 0 (omega arith) in
    let second = get_or-append r rest 0 1 (omega arith) in
    let third = get_or-append r rest 0 2 (omega arith) in
    let fourth = get_or-append r rest 0 3 (omega arith) in
    rw (one, first, second, third, fourth, drop_at r rest record_size size)

-- what is counted of records, with the rest that is not looked at
pub record SlowCounting (records rest : List ℕ) (slow : ℕ) : Type 0 where
  pub few : slow + length rest / record_size ≤ length records
  pub total : slow + slow_of rest ≡ slow_of records

pub slow_counting_begun : (records : List ℕ) → SlowCounting records records 0
slow_counting_begun records = record { few = omega arith; total = rw zero-add }

module _ {records whole : List ℕ} {slow : ℕ} (k : SlowCounting records whole slow) where
  pub turned : (r rest : List ℕ) {asks : Bool} → length r ≡ record_size → whole ≡ r ++ rest → asks ≡ asks_slow r
      → SlowCounting records rest (slow + bool_byte asks)
  turned r rest {asks} size parts e = record {
    few = omega (arith, k.few, ap length parts, length-append r rest, flag_most asks);
    total = omega (arith, k.total, ap slow_of parts, slow_more r rest size, ap bit_of e, flag_number asks);
  }

  pub ended : length whole < record_size → slow ≡ slow_of records
  unfolding slow_in
  ended h = let none : length whole / record_size ≡ 0 = omega arith in omega (arith, k.total, ap (λ (n : ℕ). slow_in n whole) none)
