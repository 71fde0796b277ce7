-- Document 01, "Known results": every starred line, as one table.
use Rattle.std.specs.Prelude.{ℕ, zero, suc, ◌*◌, ◌≡◌, Bool, true, false, List, [], ◌∷◌, ◌++◌, length, replicate, get_or, take, drop}
use Rattle.base_bits.specs.Bits.{merged}
use Rattle.base_numbers.specs.Numbers.{bad_samples}
use Rattle.base_chip.specs.declared.Chip.TheVariants.{Newer}
use Rattle.map_format.specs.Format.{length_of, version_of, count_of}
use Rattle.map_test.specs.MapTest.{map_number}
use Rattle.bus_settings.specs.Settings.{next_address}
use Rattle.bus_soundness.specs.Opened.{opened_session}
use Rattle.reg_banks.specs.Banks.{default_banks}
use Rattle.reg_banks.specs.Read.{due_byte}
use Rattle.read_run.specs.Reading.{ReaderState, run_of, records_of}
use Rattle.read_refusals.specs.Numbers.{read_number}
use Rattle.send_order.specs.Order.{Order}
use Rattle.send_order.specs.Samples.{order_bits, samples_of, all_samples}
use Rattle.send_order.specs.Number.{send_number}
use Rattle.guarantees.specs.StoppedRun.{stopped_samples}

-- a good map of 16 registers: each entry is kind, mask, default
abbrev pub entries16 : List ℕ
entries16 =
    4 ∷ 0 ∷ 0 ∷ 4 ∷ 0 ∷ 0 ∷ 0 ∷ 0 ∷ 0 ∷ 1 ∷ 0 ∷ 0x05 ∷ 1 ∷ 0 ∷ 0x34 ∷ 1 ∷ 0 ∷ 0x12 ∷ 1 ∷ 0 ∷ 0x01 ∷ 0 ∷ 0 ∷ 0
    ∷ 0 ∷ 0 ∷ 0 ∷ 0 ∷ 0 ∷ 0 ∷ 2 ∷ 0xFF ∷ 0 ∷ 1 ∷ 0 ∷ 0x01 ∷ 1 ∷ 0 ∷ 0x56 ∷ 1 ∷ 0 ∷ 0x04 ∷ 0 ∷ 0 ∷ 0 ∷ 4 ∷ 0 ∷ 0 ∷ []

abbrev pub map16 : List ℕ
map16 = 0x00 ∷ 0x33 ∷ 1 ∷ 0 ∷ 16 ∷ entries16

-- the same in version 2, flags 0
abbrev pub map16_flags : List ℕ
map16_flags = 0x00 ∷ 0x34 ∷ 2 ∷ 0 ∷ 16 ∷ 0 ∷ entries16

-- the first with a buffered register at 0x0010, mask 0xFF, default 0x11
abbrev pub map17 : List ℕ
map17 = 0x00 ∷ 0x36 ∷ 1 ∷ 0 ∷ 17 ∷ (entries16 ++ (3 ∷ 0xFF ∷ 0x11 ∷ []))

-- the same in version 2, with the flag
abbrev pub map17_flagged : List ℕ
map17_flagged = 0x00 ∷ 0x37 ∷ 2 ∷ 0 ∷ 17 ∷ 1 ∷ (entries16 ++ (3 ∷ 0xFF ∷ 0x11 ∷ []))

-- a good map of 8,192 registers: those sixteen, and 8,176 blank ones of three bytes behind them
abbrev pub map8192 : List ℕ
map8192 = (0x60 ∷ 0x03 ∷ 1 ∷ 0x20 ∷ 0x00 ∷ entries16) ++ replicate (3 * 8176) 0

-- a streaming write of one byte; 1 as the settings number is LSB first
abbrev pub write_one : ℕ → ℕ → ℕ → Order
write_one settings a v = record { direction = 0; settings = settings; start = a; count = 1; bytes = v ∷ [] }

-- a streaming write of 0x22 to 0x0010 and of 0x33 to the address below it
abbrev pub write_two : Order
write_two = record { direction = 0; settings = 0; start = 0x0010; count = 2; bytes = 0x22 ∷ 0x33 ∷ [] }

-- an ascending write of 1,000 bytes: settings number 2, or 6 with single instruction
abbrev pub write_thousand : ℕ → Order
write_thousand settings = record { direction = 0; settings = settings; start = 0x0010; count = 1000; bytes = replicate 1000 0x07 }

-- a map after opening, and a mark
abbrev pub opened : List ℕ → ReaderState
opened m = record { session = opened_session; banks = default_banks m; touched = 0 ∷ [] }

-- the records of some samples after opening
abbrev pub records_after_opening : List ℕ → List ℕ → List ℕ
records_after_opening m xs = records_of Newer m (opened m) xs

-- the second map after opening and the samples of some orders, one after another
abbrev pub after : List Order → ReaderState
after orders = run_of Newer map17 (opened map17) (all_samples Newer orders)

-- the byte that 0x0010 is then due to answer
abbrev pub due10 : ReaderState → ℕ
due10 w = due_byte Newer map17 w.banks w.session.port.settings 0x0010

-- the byte that is in force at 0x0010 of the flagged map, after opening and some samples
abbrev pub in_force10 : List ℕ → ℕ
in_force10 xs = get_or (run_of Newer map17_flagged (opened map17_flagged) xs).banks.active 0x0010 0

-- the write of 0x3C to 0x000A with a sample put in behind its first one, which is 0x00
abbrev pub with_second : ℕ → List ℕ
with_second y = 0x00 ∷ y ∷ drop 1 (samples_of Newer (write_one 0 0x000A 0x3C))

abbrev pub bits_of_digits : List ℕ → List Bool
bits_of_digits [] = []
bits_of_digits (zero ∷ ds) = false ∷ bits_of_digits ds
bits_of_digits (suc d ∷ ds) = true ∷ bits_of_digits ds

-- There is a good map of n registers in a version, and every one states this length and has so many bytes.
pub record GoodMaps (example : List ℕ) (version n stated bytes : ℕ) : Type 0 where
  pub good : map_number Newer example ≡ 0
  pub in_version : version_of example ≡ version
  pub registers : count_of example ≡ n
  pub lengths : (m : List ℕ) → map_number Newer m ≡ 0 → version_of m ≡ version → count_of m ≡ n → (length_of m ≡ stated) × (length m ≡ bytes)

-- The sender takes the order with room for so many samples, and the order has just as many.
pub record Sends (o : Order) (samples : ℕ) : Type 0 where
  pub accepted : send_number Newer o samples ≡ 0
  pub given : length (samples_of Newer o) ≡ samples

pub record KnownResults : Type 0 where
  -- n = 16: length 0x0033, 53 bytes; n = 8,192: length 0x6003
  pub maps_16 : GoodMaps map16 1 16 0x0033 53
  pub maps_8192 : GoodMaps map8192 1 8192 0x6003 24581
  -- document 02, Ask 3: in version 2 length 0x0034, 54 bytes
  pub maps_16_flags : GoodMaps map16_flags 2 16 0x0034 54
  pub good_17 : (map_number Newer map17 ≡ 0) × (count_of map17 ≡ 17)
  -- byte 0xA5, mask 0x0F, write 0x3C: 0xAC
  pub merge : merged 8 0xA5 0x3C 0x0F ≡ 0xAC
  -- 0x000A after opening, write 0x35, and the same with LSB first
  pub bits_high : order_bits Newer (write_one 0 0x000A 0x35)
      ≡ bits_of_digits (0 ∷ 0 ∷ 0 ∷ 0 ∷ 0 ∷ 0 ∷ 0 ∷ 0 ∷ 0 ∷ 0 ∷ 0 ∷ 0 ∷ 1 ∷ 0 ∷ 1 ∷ 0 ∷ 0 ∷ 0 ∷ 1 ∷ 1 ∷ 0 ∷ 1 ∷ 0 ∷ 1 ∷ [])
  pub bits_low : order_bits Newer (write_one 1 0x000A 0x35)
      ≡ bits_of_digits (0 ∷ 1 ∷ 0 ∷ 1 ∷ 0 ∷ 0 ∷ 0 ∷ 0 ∷ 0 ∷ 0 ∷ 0 ∷ 0 ∷ 0 ∷ 0 ∷ 0 ∷ 0 ∷ 1 ∷ 0 ∷ 1 ∷ 0 ∷ 1 ∷ 1 ∷ 0 ∷ 0 ∷ [])
  -- the write of 0x3C to 0x000A, stopped after 47, 31, 33 and 49 of its 51 samples; document 02, Ask 8, gives each record its last byte
  pub samples_51 : length (samples_of Newer (write_one 0 0x000A 0x3C)) ≡ 51
  pub stopped_47 : records_after_opening map16 (stopped_samples Newer (write_one 0 0x000A 0x3C) 47 0x01) ≡ 3 ∷ 0x00 ∷ 0x0A ∷ 0x07 ∷ 0x01 ∷ 0 ∷ 0x00 ∷ []
  pub stopped_31 : records_after_opening map16 (stopped_samples Newer (write_one 0 0x000A 0x3C) 31 0x01) ≡ 3 ∷ 0x00 ∷ 0x00 ∷ 0x0F ∷ 0x00 ∷ 0 ∷ 0x00 ∷ []
  pub stopped_33 : records_after_opening map16 (stopped_samples Newer (write_one 0 0x000A 0x3C) 33 0x01) ≡ []
  pub stopped_49 : records_after_opening map16 (stopped_samples Newer (write_one 0 0x000A 0x3C) 49 0x01) ≡ 1 ∷ 0x00 ∷ 0x0A ∷ 0x3C ∷ 0x3C ∷ 1 ∷ 0x3C ∷ []
  -- 0x40 to 0x0000, which is not its own mirror (document 02, Ask 2), and 0x81, which is
  pub control_40 : records_after_opening map16 (samples_of Newer (write_one 0 0x0000 0x40)) ≡ 1 ∷ 0x00 ∷ 0x00 ∷ 0x40 ∷ 0x00 ∷ 0 ∷ 0x00 ∷ []
  pub control_81 : records_after_opening map16 (samples_of Newer (write_one 0 0x0000 0x81)) ≡ 1 ∷ 0x00 ∷ 0x00 ∷ 0x81 ∷ 0x00 ∷ 5 ∷ 0x00 ∷ []
  -- document 02, Ask 9: 0xB0 to 0x0001 shows the byte as given, and reads without bit 4
  pub control_b0 : records_after_opening map16 (samples_of Newer (write_one 0 0x0001 0xB0)) ≡ 1 ∷ 0x00 ∷ 0x01 ∷ 0xB0 ∷ 0xA0 ∷ 3 ∷ 0x00 ∷ []
  -- descending from 0x0000, ascending from 0x7FFF
  pub wrap_down : next_address false 0x0000 ≡ 0x7FFF
  pub wrap_up : next_address true 0x7FFF ≡ 0x0000
  -- the buffered register: after the write of 0x22 due 0x11; after 0x20 to 0x0001 due 0x22; after 0x01 to 0x000F active 0x22
  pub due_11 : due10 (after (write_one 0 0x0010 0x22 ∷ [])) ≡ 0x11
  pub due_22 : due10 (after (write_one 0 0x0010 0x22 ∷ write_one 0 0x0001 0x20 ∷ [])) ≡ 0x22
  pub active_22 : get_or (after (write_one 0 0x0010 0x22 ∷ write_one 0 0x0001 0x20 ∷ write_one 0 0x000F 0x01 ∷ [])).banks.active 0x0010 0 ≡ 0x22
  -- document 02, Ask 4: with the flag, 0x22 waits until the frame ends, and no record is added
  pub good_17_flagged : map_number Newer map17_flagged ≡ 0
  pub rise_waits : in_force10 (take 50 (samples_of Newer (write_one 0 0x0010 0x22))) ≡ 0x11
  pub rise_moves : in_force10 (samples_of Newer (write_one 0 0x0010 0x22)) ≡ 0x22
  pub rise_records : records_after_opening map17_flagged (samples_of Newer (write_one 0 0x0010 0x22)) ≡ 1 ∷ 0x00 ∷ 0x10 ∷ 0x22 ∷ 0x22 ∷ 2 ∷ 0x33 ∷ []
  -- and where the rise breaks the byte after it off
  pub rise_cut_moves : in_force10 (stopped_samples Newer write_two 53 0x01) ≡ 0x22
  pub rise_cut_records : records_after_opening map17_flagged (stopped_samples Newer write_two 53 0x01)
      ≡ 1 ∷ 0x00 ∷ 0x10 ∷ 0x22 ∷ 0x22 ∷ 2 ∷ 0x33 ∷ 3 ∷ 0x00 ∷ 0x0F ∷ 0x02 ∷ 0x01 ∷ 0 ∷ 0x00 ∷ []
  -- document 02, Ask 11: SDIO and SDO of a sample put in may differ; with another SCLK it is a bit more, and with a spare bit it is refused
  pub again_same_clock : records_after_opening map16 (with_second 0x0C) ≡ 1 ∷ 0x00 ∷ 0x0A ∷ 0x3C ∷ 0x3C ∷ 1 ∷ 0x3C ∷ []
  pub again_other_clock : records_after_opening map16 (with_second 0x02) ≡ 1 ∷ 0x00 ∷ 0x05 ∷ 0x1E ∷ 0x00 ∷ 0 ∷ 0x00 ∷ 3 ∷ 0x00 ∷ 0x04 ∷ 0x01 ∷ 0x01 ∷ 0 ∷ 0x00 ∷ []
  pub again_spare_bit : read_number Newer map16 (opened map16) (with_second 0x10) 7 ≡ bad_samples
  -- k = 1,000: 16,035 samples, or 48,003
  pub thousand : Sends (write_thousand 2) 16035
  pub thousand_single : Sends (write_thousand 6) 48003
