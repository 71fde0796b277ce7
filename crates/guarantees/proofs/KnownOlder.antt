-- The older chips' worked examples: they compute.
use mathlib.Core.Path.{refl}
use Rattle.base_bits.specs.Bits.{bit_at, merged}
use Rattle.base_bits.specs.Tests.{every}
use Rattle.map_format.specs.Format.{count_of, head_of, entry_at}
use Rattle.map_test.specs.MapTest.{kind_rule, place_rule, entry_good, entries_good, map_number, map_test_number}
use Rattle.bus_settings.specs.Settings.{older_after, older_reading}
use Rattle.bus_session.specs.Step.{entered, with_instruction_bit, with_data_bit, step_of}
use Rattle.bus_session.specs.Event.{bit_event, end_event, event_of}
use Rattle.reg_banks.specs.Banks.{defaults_from, default_banks, transfer_from, transferred}
use Rattle.reg_banks.specs.Read.{due_byte}
use Rattle.reg_write.specs.Effect.{control_effect, effect_of}
use Rattle.reg_write.specs.Write.{applied, write_banks, written_by}
use Rattle.reg_write.specs.Rise.{armed_by, rise_banks}
use Rattle.read_records.specs.Records.{record_of}
use Rattle.read_records.specs.BanksAfter.{banks_after, armed_after, touched_after}
use Rattle.read_run.specs.Reading.{run_of, records_of}
use Rattle.send_order.specs.Order.{run_from}
use Rattle.send_order.specs.Number.{configures_early, up_to, send_number}
use Rattle.send_order.specs.Samples.{high_first, low_first, bits_of, byte_bits, run_bits, order_bits, clocked, samples_of}
use Rattle.guarantees.specs.KnownOlder.{OlderResults}

pub older_results : OlderResults
unfolding bit_at merged every count_of head_of entry_at kind_rule place_rule entry_good entries_good map_number map_test_number
    older_after older_reading entered with_instruction_bit with_data_bit step_of bit_event end_event event_of
    defaults_from default_banks transfer_from transferred control_effect effect_of applied write_banks written_by due_byte record_of banks_after armed_after
    touched_after armed_by rise_banks run_of records_of
    run_from high_first low_first bits_of byte_bits run_bits order_bits clocked samples_of configures_early up_to send_number
older_results = record {
  good = refl;
  other_top = refl;
  other_part = refl;
  two_bytes_bits = refl;
  two_bytes = refl;
  counted = refl;
  streamed_bits = refl;
  stalls_first = refl;
  stalls_second = refl;
  no_stall = refl;
  over_the_top = refl;
  to_the_top = refl;
  below_zero = refl;
  to_zero = refl;
}
