-- What the call leaves: the number, test by test, and the orders at the start of the buffer, or the buffer as it was.
use mathlib.Core.Path.{◌≡◌, refl, sym}
use mathlib.Core.Bool.{Bool, true, false}
use mathlib.Core.List.{List}
use Prim.Native.Nat.{ℕ, suc, ◌≤◌, ◌<◌}
use native.Mathlib.Omega.{arith}
use native.Mathlib.Nat.{suc-ne-zero}
use lib.ListN.{length}
use lib.Dec.{leb}
use borrow.Author.Tests.{eq-eqb, leb-true, le-leb, lt-leb}
use Rattle.base_bits.specs.Tests.{every, unless}
use Rattle.base_bits.specs.Buffer.{Put}
use Rattle.base_bits.proofs.Cases.{yes, no}
use Rattle.base_bits.proofs.Putting.{put_filled}
use Rattle.base_numbers.specs.Numbers.{refusal_number}
use Rattle.base_numbers.specs.declared.Refusal.{Refusal}
use Rattle.base_numbers.proofs.Numbers.{not_done}
use Rattle.send_frames.specs.Frames.{wanted_of, stretches_of, frames_of}
use Rattle.send_frames.specs.Calls.{registers_tests, frames_bytes, frames_number, making, make_of}
use Rattle.send_frames.specs.Rows.{stretches_size}
use Rattle.send_frames.proofs.Walk.{length_frames}

module _ (up : Bool) (addresses bytes : List ℕ) where
  same_size : length (frames_bytes up addresses bytes) ≡ stretches_size (stretches_of (wanted_of addresses bytes))
  unfolding frames_of
  same_size = length_frames up (stretches_of (wanted_of addresses bytes))

  module _ (room : ℕ) where
    pub number_19 : every (registers_tests addresses bytes) ≡ false → 19 ≡ frames_number up addresses bytes room
    unfolding frames_number
    number_19 t = rw t

    module _ (t : every (registers_tests addresses bytes) ≡ true) (size : ℕ) (e : size ≡ stretches_size (stretches_of (wanted_of addresses bytes))) where
      pub number_11 : room < size → 11 ≡ frames_number up addresses bytes room
      unfolding frames_number
      number_11 h = rw (t, lt-leb (length (frames_bytes up addresses bytes)) room (omega (arith, same_size)))

      pub number_0 : size ≤ room → 0 ≡ frames_number up addresses bytes room
      unfolding frames_number
      number_0 h = rw (t, le-leb (length (frames_bytes up addresses bytes)) room (omega (arith, same_size)))

  -- what a number of 0 tells
  pub record Passed (room : ℕ) : Type 0 where
    pub good : every (registers_tests addresses bytes) ≡ true
    pub enough : length (frames_bytes up addresses bytes) ≤ room

  held : (test : Bool) (n next : ℕ) → unless test (suc n) next ≡ 0 → (test ≡ true) × (next ≡ 0)
  held true n next h = (refl, h)
  held false n next h = absurd (suc-ne-zero n h)

  pub passed : (room : ℕ) → frames_number up addresses bytes room ≡ 0 → Passed room
  unfolding frames_number
  passed room h =
      let a = held (every (registers_tests addresses bytes)) 18 _ h in
      let b = held (leb (length (frames_bytes up addresses bytes)) room) 10 _ a.1 in
      record { good = a.0; enough = leb-true (length (frames_bytes up addresses bytes)) room b.0 }

  module _ (old : List ℕ) where
    pub done : (n : ℕ) (new : List ℕ) → 0 ≡ frames_number up addresses bytes (length old) → Put old 0 (frames_bytes up addresses bytes) n new
        → making 0 n new ≡ make_of up addresses bytes old
    unfolding make_of
    done n new e p =
        let count : n ≡ length (frames_bytes up addresses bytes) = omega (arith, p.next_place) in
        let buffer = put_filled (passed (length old) (sym e)).enough p in
        yes _ (eq-eqb _ _ (sym e)) (cc)

    pub refused : (e : Refusal) → refusal_number e ≡ frames_number up addresses bytes (length old)
        → making (refusal_number e) 0 old ≡ make_of up addresses bytes old
    unfolding make_of
    refused e h = rw (← h) (no _ (not_done e) refl)
