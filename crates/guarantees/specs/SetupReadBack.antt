-- Document 02, Ask 6: demand 2's reading back, for a whole setup.
use Rattle.std.specs.Prelude.{ℕ, ◌+◌, ◌*◌, ◌≤◌, ◌≡◌, Bool, true, false, ◌&&◌, ◌||◌, List, [], ◌∷◌, ◌++◌, length}
use Rattle.std.proofs.Math.Pow.{are_bytes}
use Rattle.base_bits.specs.Buffer.{filled}
use Rattle.base_sizes.specs.Sizes.{record_size}
use Rattle.base_chip.specs.declared.Chip.TheVariants.{Newer}
use Rattle.bus_session.specs.State.{resting}
use Rattle.read_run.specs.Reading.{ReaderState}
use Rattle.read_calls.specs.Calls.{Outcome, outcome, read_of}
use Rattle.send_order.specs.Order.{Order, order, is_read, run_bytes}
use Rattle.send_order.specs.Samples.{all_samples}
use Rattle.send_setup.specs.Calls.{orders_of, setup_number}
use Rattle.guarantees.specs.AtRest.{AtRest}
use Rattle.guarantees.specs.Book.{clear_of_settings}
use Rattle.guarantees.specs.ReadBack.{settings_left, banks_raised, touched_left, records_left}

-- the session, the banks and the words that one order leaves
abbrev pub state_past : List ℕ → ReaderState → Order → ReaderState
state_past m w o = record {
  session = record { port = resting false (settings_left Newer (is_read o) w.session.port.settings (run_bytes Newer o)); armed = false };
  banks = banks_raised Newer m (is_read o) w.banks (run_bytes Newer o);
  touched = touched_left Newer m (is_read o) w.banks w.touched (run_bytes Newer o);
}

-- those that several orders leave, one after the other
unfoldable pub state_left : List ℕ → ReaderState → List Order → ReaderState
state_left m w [] = w
state_left m w (o ∷ os) = state_left m (state_past m w o) os

-- their records: one for each byte of each order, in order
unfoldable pub setup_records : List ℕ → ReaderState → List Order → List ℕ
setup_records m w [] = []
setup_records m w (o ∷ os) = records_left Newer m (is_read o) w.banks w.session.port.settings (run_bytes Newer o) ++ setup_records m (state_past m w o) os

unfoldable pub setup_bytes : List Order → ℕ
setup_bytes [] = 0
setup_bytes (o ∷ os) = o.count + setup_bytes os

-- no order but the last writes 0x0000 or 0x0001
unfoldable pub configures_last : List Order → Bool
configures_last [] = true
configures_last (o ∷ []) = true
configures_last (o ∷ p ∷ os) = (is_read o || clear_of_settings Newer (run_bytes Newer o)) && configures_last (p ∷ os)

-- an order with these settings: to be at rest for a list looks at nothing else of it
abbrev pub any_order : ℕ → Order
any_order settings = order 0 settings 0 0 []

-- What reading a whole setup leaves.
abbrev pub setup_back_of : List ℕ → ReaderState → List Order → List ℕ → Outcome
setup_back_of m w os records = outcome 0 (state_left m w os) (setup_bytes os) (filled (setup_records m w os) records)

-- For any good map, any list of bytes to which the call gives 0 with some room and of which no order but the last writes 0x0000 or
-- 0x0001, any session at rest with the same settings and banks of n bytes, and room for a record a byte: reading the whole recording
-- in one call is done, and leaves what the orders leave one after the other.
abbrev pub SetupReadBack : Type 0
SetupReadBack =
    (m : List ℕ) (settings : ℕ) (list : List ℕ) (room : ℕ) (w : ReaderState) (records : List ℕ)
    → AtRest Newer m w (any_order settings) → are_bytes list ≡ true → setup_number settings list room ≡ 0
    → configures_last (orders_of settings list) ≡ true → record_size * setup_bytes (orders_of settings list) ≤ length records
    → read_of Newer m w (all_samples Newer (orders_of settings list)) records ≡ setup_back_of m w (orders_of settings list) records
