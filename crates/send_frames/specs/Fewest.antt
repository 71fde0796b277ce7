-- Document 02, Ask 13: what is promised of the orders made. They write each listed register once with its byte and no other, no set of
-- such orders is smaller, and Ask 6 reads them as they were made.
use Rattle.std.specs.Prelude.{ℕ, ◌≤◌, ◌≡◌, Bool, true, false, cond, List, [], ◌∷◌, ◌++◌, map, length, eqb}
use Rattle.base_bits.specs.Tests.{every}
use Rattle.base_bits.specs.Bits.{bit_at}
use Rattle.base_chip.specs.declared.Chip.TheVariants.{Newer}
use Rattle.send_order.specs.Order.{Order, RunByte, is_read, single_instruction, ascending, run_bytes}
use Rattle.send_setup.specs.Form.{ListedOrder, list_bytes, list_good, order_with}
use Rattle.send_setup.specs.Calls.{most_orders, orders_of, own_number, first_bad}
use Rattle.send_frames.specs.Frames.{wanted_of, frames_of}
use Rattle.send_frames.specs.Calls.{rising, registers_tests}

-- a streaming write order in the wished direction that the sender takes
pub record Frame (up : Bool) (o : Order) : Type 0 where
  pub write : is_read o ≡ false
  pub streaming : single_instruction o ≡ false
  pub direction : ascending o ≡ up
  pub accepted : own_number o ≡ 0

unfoldable pub AllFrames : Bool → List Order → Type 0
AllFrames up [] = Unit {0}
AllFrames up (o ∷ os) = Frame up o × AllFrames up os

-- every byte that some orders send, with its address
unfoldable pub all_bytes : List Order → List RunByte
all_bytes [] = []
all_bytes (o ∷ os) = run_bytes Newer o ++ all_bytes os

-- the bytes among them that go to one address
unfoldable pub bytes_to : ℕ → List RunByte → List ℕ
bytes_to a [] = []
bytes_to a (p ∷ ps) = cond (eqb p.address a) (p.byte ∷ bytes_to a ps) (bytes_to a ps)

-- Such orders that write each listed register once with its byte and no other: to each address goes exactly what is listed for it.
pub record Writes (up : Bool) (wanted : List RunByte) (os : List Order) : Type 0 where
  pub frames : AllFrames up os
  pub exactly : (a : ℕ) → bytes_to a (all_bytes os) ≡ bytes_to a wanted

-- No set of such orders is smaller.
abbrev pub FewestFrames : Type 0
FewestFrames =
    (up : Bool) (addresses bytes : List ℕ) (others : List Order) → every (registers_tests addresses bytes) ≡ true
    → Writes up (wanted_of addresses bytes) others
    → length (frames_of up (wanted_of addresses bytes)) ≤ length others

-- a settings number for the wished direction, streaming; LSB first is at will
pub record Streams (up : Bool) (settings : ℕ) : Type 0 where
  pub known : settings ≤ 7
  pub direction : bit_at settings 1 ≡ up
  pub streaming : bit_at settings 2 ≡ false

-- The orders made are such a set, by rising start.
pub record RightFrames (up : Bool) (settings : ℕ) (wanted : List RunByte) : Type 0 where
  pub writes : Writes up wanted (map (order_with settings) (frames_of up wanted))
  pub by_start : rising (map (λ (x : ListedOrder). x.start) (frames_of up wanted)) ≡ true

abbrev pub FramesMade : Type 0
FramesMade =
    (up : Bool) (settings : ℕ) (addresses bytes : List ℕ) → every (registers_tests addresses bytes) ≡ true → Streams up settings
    → RightFrames up settings (wanted_of addresses bytes)

-- Up to 64 of them in a row are read by Ask 6 as they were made: the list is good, its orders are these, and none is bad.
pub record ReadAsMade (settings : ℕ) (xs : List ListedOrder) : Type 0 where
  pub good : list_good most_orders (list_bytes xs) ≡ true
  pub same : orders_of settings (list_bytes xs) ≡ map (order_with settings) xs
  pub none_bad : first_bad (orders_of settings (list_bytes xs)) ≡ 0

abbrev pub FramesRead : Type 0
FramesRead =
    (up : Bool) (settings : ℕ) (addresses bytes : List ℕ) (before xs after : List ListedOrder)
    → every (registers_tests addresses bytes) ≡ true → Streams up settings
    → frames_of up (wanted_of addresses bytes) ≡ before ++ (xs ++ after) → length xs ≤ most_orders
    → ReadAsMade settings xs
