-- What the demands ask of a session at rest and of an order.
use Rattle.std.specs.Prelude.{ℕ, ◌≡◌, true, List}
use Rattle.std.proofs.Math.Pow.{are_bytes}
use Rattle.base_chip.specs.declared.Chip.{Chip}
use Rattle.map_test.specs.MapTest.{map_number, top_fits}
use Rattle.bus_settings.specs.declared.InUse.{InUse}
use Rattle.bus_settings.specs.Settings.{in_use_of, counting}
use Rattle.bus_session.specs.declared.Phase.TheVariants.{Rest}
use Rattle.bus_session.specs.State.{sound_session}
use Rattle.read_run.specs.Reading.{ReaderState}
use Rattle.read_refusals.specs.Numbers.{banks_fit, words_fit}
use Rattle.send_order.specs.Order.{Order, lsb_first, goes_up, is_single}
use Rattle.send_order.specs.Number.{send_number}

-- the settings of a session that count on a chip
abbrev pub counting_of : Chip → ReaderState → InUse
counting_of c w = counting c (in_use_of w.session.port.settings)

-- Document 01, "Registers and session": a session at rest is sound and comes with a good map, banks of n bytes and, document 02, Ask 7, as
-- many words as that takes; the same settings means that those an order can name agree with it, the others being at will. Document 02, Ask 1:
-- for an older chip the top is n less 1; its orders name the bit order alone, and that is then the direction. A run that stalls, or is passed
-- over, is not at rest.
pub record AtRest (c : Chip) (m : List ℕ) (w : ReaderState) (o : Order) : Type 0 where
  pub good_map : map_number c m ≡ 0
  pub top : top_fits c m ≡ true
  pub sound : sound_session c w.session ≡ true
  pub at_rest : w.session.port.phase ≡ Rest
  pub deselected : w.session.port.csb ≡ true
  pub bank_sizes : banks_fit m w.banks ≡ true
  pub words : words_fit m w.touched ≡ true
  pub same_lsb : lsb_first o ≡ w.session.port.settings.lsb_first
  pub same_direction : goes_up c o ≡ (counting_of c w).ascending
  pub same_single : is_single c o ≡ (counting_of c w).single_instruction

-- An order that the sender takes for the chip, by its own number, with some room. Its data are bytes.
pub record Accepted (c : Chip) (o : Order) (room : ℕ) : Type 0 where
  pub number : send_number c o room ≡ 0
  pub data_bytes : are_bytes o.bytes ≡ true
