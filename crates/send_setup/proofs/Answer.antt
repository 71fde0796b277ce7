-- What the call leaves: all samples at the start of the buffer, or the buffer as it was.
use mathlib.Core.Path.{◌≡◌, refl, sym}
use mathlib.Core.List.{List}
use Prim.Native.Nat.{ℕ}
use native.Mathlib.Omega.{arith}
use lib.ListN.{length}
use borrow.Author.Tests.{eq-eqb}
use Rattle.base_bits.specs.Buffer.{Put}
use Rattle.base_bits.proofs.Cases.{yes, no}
use Rattle.base_bits.proofs.Putting.{put_filled}
use Rattle.base_numbers.specs.Numbers.{refusal_number}
use Rattle.base_numbers.specs.declared.Refusal.{Refusal}
use Rattle.base_numbers.proofs.Numbers.{not_done}
use Rattle.base_chip.specs.declared.Chip.TheVariants.{Newer}
use Rattle.send_order.specs.Samples.{all_samples}
use Rattle.send_samples.specs.Calls.{sending}
use Rattle.send_setup.specs.Calls.{orders_of, setup_number, setup_of}
use Rattle.send_setup.proofs.Numbers.{passed}

module _ (settings : ℕ) (l old : List ℕ) where
  pub done : (n : ℕ) (new : List ℕ) → 0 ≡ setup_number settings l (length old) → Put old 0 (all_samples Newer (orders_of settings l)) n new
      → sending 0 n new ≡ setup_of settings l old
  unfolding setup_of
  done n new e p =
      let count : n ≡ length (all_samples Newer (orders_of settings l)) = omega (arith, p.next_place) in
      let buffer = put_filled (passed settings l (length old) (sym e)).enough p in
      yes _ (eq-eqb _ _ (sym e)) (cc)

  pub refused : (e : Refusal) → refusal_number e ≡ setup_number settings l (length old) → sending (refusal_number e) 0 old ≡ setup_of settings l old
  unfolding setup_of
  refused e h = rw (← h) (no _ (not_done e) refl)
