-- What a call leaves: all samples at the start of the buffer, or the buffer as it was.
use mathlib.Core.Path.{◌≡◌, refl, sym}
use mathlib.Core.List.{List}
use Prim.Native.Nat.{ℕ}
use native.Mathlib.Omega.{arith}
use lib.ListN.{length}
use borrow.Author.Tests.{eq-eqb}
use Rattle.base_bits.specs.Buffer.{Put}
use Rattle.base_bits.proofs.Cases.{yes, no}
use Rattle.base_bits.proofs.Putting.{put_filled}
use Rattle.base_numbers.specs.Numbers.{refusal_number}
use Rattle.base_numbers.specs.declared.Refusal.{Refusal}
use Rattle.base_numbers.proofs.Numbers.{not_done}
use Rattle.base_chip.specs.declared.Part.{Part}
use Rattle.base_chip.specs.declared.Chip.{Chip}
use Rattle.base_chip.specs.declared.Chip.TheVariants.{Older}
use Rattle.send_order.specs.Order.{Order}
use Rattle.send_order.specs.Samples.{order_bits, samples_of}
use Rattle.send_order.specs.Number.{send_number}
use Rattle.send_samples.specs.Calls.{sending, send_of}
use Rattle.send_order.proofs.Laws.{admitted}

module _ (c : Chip) (o : Order) (old : List ℕ) where
  pub done : (n : ℕ) (new : List ℕ) → 0 ≡ send_number c o (length old) → Put old 0 (samples_of c o) n new → sending 0 n new ≡ send_of c o old
  unfolding send_of
  done n new e p =
      let count : n ≡ length (samples_of c o) = omega (arith, p.next_place) in
      let buffer = put_filled (admitted c o _ (sym e)).enough p in
      yes _ (eq-eqb _ _ (sym e)) (cc)

  pub refused : (e : Refusal) → refusal_number e ≡ send_number c o (length old) → sending (refusal_number e) 0 old ≡ send_of c o old
  unfolding send_of
  refused e h = rw (← h) (no _ (not_done e) refl)

-- what is sent to an older chip does not depend on its part
pub either_part : (part other : Part) (top : ℕ) (o : Order) (old : List ℕ) → send_of (Older part top) o old ≡ send_of (Older other top) o old
unfolding send_of send_number samples_of order_bits
either_part part other top o old = refl
