-- What the two calls leave, by what opening left.
use mathlib.Core.Path.{◌≡◌, refl, sym, ap}
use mathlib.Core.List.{List}
use Prim.Native.Nat.{ℕ}
use native.Mathlib.Omega.{arith}
use borrow.Author.Tests.{eq-eqb, ne_eqb}
use Rattle.std.specs.Prelude.{Result, Ok, Err}
use Rattle.std.specs.Result.{result_unwrap_or}
use Rattle.base_bits.proofs.Cases.{yes, no}
use Rattle.base_numbers.specs.declared.Refusal.{Refusal}
use Rattle.base_numbers.specs.Numbers.{refusal_number, amount_of}
use Rattle.base_numbers.proofs.Numbers.{some_number}
use Rattle.base_chip.specs.declared.Chip.{Chip}
use Rattle.bus_session.specs.declared.Session.{Session}
use Rattle.reg_banks.specs.Banks.{Banks}
use Rattle.read_run.specs.Reading.{ReaderState}
use Rattle.read_calls.specs.Calls.{Opening, opening, outcome, read_of}
use Rattle.host_benchmark.specs.Fresh.{left, left_by, read_from}

-- a refusal gives no record
pub amount_or : (r : Result ℕ Refusal) → result_unwrap_or r 0 ≡ amount_of r
amount_or (Ok n) = refl
amount_or (Err e) = refl

module _ (c : Chip) (m : List ℕ) (o : Opening) (ws samples records : List ℕ) (n : ℕ) (s : Session) (b : Banks) (opened : opening n s b ≡ o) where
  pub refused : (e : Refusal) → n ≡ refusal_number e → left n 0 b ws records ≡ read_from c m o ws samples records
  unfolding read_from
  refused e given = rw (sym opened) (no _ (ne_eqb n 0 (λ q. omega (arith, given, some_number e))) refl)

  pub read_on : n ≡ 0 → (k : ℕ) (w : ReaderState) (count : ℕ) (new : List ℕ)
      → outcome k w count new ≡ read_of c m (record { session = s; banks = b; touched = ws }) samples records
      → left k count w.banks w.touched new ≡ read_from c m o ws samples records
  unfolding read_from
  read_on z k w count new e = rw (sym opened) (yes _ (eq-eqb n 0 z) (ap left_by e))
