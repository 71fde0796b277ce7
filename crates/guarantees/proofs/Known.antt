-- The starred results: a good map's length follows from its count by the map test, the samples of 1,000 bytes by the sender's law, and the
-- map of 8,192 registers is good by its blank entries; all the others compute.
use mathlib.Core.Path.{◌≡◌, refl, ap}
use mathlib.Core.List.{List}
use Prim.Native.Nat.{ℕ, ◌+◌, ◌-◌, ◌*◌}
use native.Mathlib.Omega.{arith}
use lib.ListN.{length}
use Rattle.base_bits.specs.Bits.{bit_at, merged}
use Rattle.base_bits.specs.Tests.{every}
use Rattle.base_card.specs.Card.{turned, is_mirror}
use Rattle.map_format.specs.Format.{length_of, version_of, count_of, head_size_in, head_of, entry_at}
use Rattle.map_format.proofs.Laws.{head_size_bounds}
use Rattle.map_test.specs.MapTest.{kind_rule, place_rule, entry_good, entries_good, map_number}
use Rattle.map_test.proofs.Laws.{good_length, good_form}
use Rattle.base_chip.specs.declared.Chip.TheVariants.{Newer}
use Rattle.bus_settings.specs.Settings.{newer_after, newer_reading}
use Rattle.bus_session.specs.Step.{entered, with_instruction_bit, with_data_bit, step_of}
use Rattle.bus_session.specs.State.{sound_port, sound_session}
use Rattle.bus_session.specs.Event.{bit_event, end_event, event_of}
use Rattle.reg_banks.specs.Banks.{defaults_from, default_banks, transfer_from, transferred}
use Rattle.reg_banks.specs.Read.{due_byte}
use Rattle.reg_write.specs.Effect.{control_effect, effect_of}
use Rattle.reg_write.specs.Write.{applied, write_banks, written_by}
use Rattle.reg_write.specs.Rise.{armed_by, rise_banks}
use Rattle.read_records.specs.Records.{record_of}
use Rattle.read_records.specs.BanksAfter.{banks_after, armed_after, touched_after}
use Rattle.read_run.specs.Reading.{run_of, records_of}
use Rattle.read_refusals.specs.Numbers.{samples_good, read_number}
use Rattle.send_order.specs.Order.{run_from}
use Rattle.send_order.specs.Number.{configures_early, send_number}
use Rattle.send_order.specs.Samples.{high_first, low_first, bits_of, byte_bits, run_bits, order_bits, clocked, samples_of, all_samples}
use Rattle.send_order.proofs.Laws.{length_samples}
use Rattle.guarantees.specs.Known.{KnownResults, write_thousand}
use Rattle.guarantees.proofs.GoodMap.{good_8192}

-- the length and the bytes of a good map of n registers in a version
lengths_of :
    (version n : ℕ) (m : List ℕ) → map_number Newer m ≡ 0 → version_of m ≡ version → count_of m ≡ n
    → (length_of m ≡ head_size_in version - 2 + 3 * n) × (length m ≡ head_size_in version + 3 * n)
unfolding head_of
lengths_of version n m good v e =
    let head : head_of m ≡ head_size_in version = ap head_size_in v in
    (omega (arith, good_length Newer m good, head, e, head_size_bounds version), omega (arith, good_form Newer m good, head, e))

pub known_results : KnownResults
unfolding bit_at merged every turned is_mirror count_of head_of entry_at kind_rule place_rule entry_good entries_good map_number
    newer_after newer_reading entered with_instruction_bit with_data_bit step_of bit_event end_event event_of
    defaults_from default_banks transfer_from transferred control_effect effect_of applied write_banks written_by due_byte record_of banks_after armed_after
    touched_after armed_by rise_banks run_of records_of
    run_from high_first low_first bits_of byte_bits run_bits order_bits clocked samples_of all_samples configures_early send_number sound_port sound_session samples_good
    read_number
known_results = record {
  maps_16 = record { good = refl; in_version = refl; registers = refl; lengths = lengths_of 1 16 };
  maps_8192 = record { good = good_8192; in_version = refl; registers = refl; lengths = lengths_of 1 8192 };
  maps_16_flags = record { good = refl; in_version = refl; registers = refl; lengths = lengths_of 2 16 };
  good_17 = (refl, refl);
  merge = refl;
  bits_high = refl;
  bits_low = refl;
  samples_51 = refl;
  stopped_47 = refl;
  stopped_31 = refl;
  stopped_33 = refl;
  stopped_49 = refl;
  control_40 = refl;
  control_81 = refl;
  control_b0 = refl;
  wrap_down = refl;
  wrap_up = refl;
  due_11 = refl;
  due_22 = refl;
  active_22 = refl;
  good_17_flagged = refl;
  rise_waits = refl;
  rise_moves = refl;
  rise_records = refl;
  rise_cut_moves = refl;
  rise_cut_records = refl;
  again_same_clock = refl;
  again_other_clock = refl;
  again_spare_bit = refl;
  thousand = record { accepted = refl; given = length_samples Newer (write_thousand 2) };
  thousand_single = record { accepted = refl; given = length_samples Newer (write_thousand 6) };
}
