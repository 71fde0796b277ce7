-- What a turn keeps: a chip stays sound, its banks stay as long as the map asks, and a record has its size.
use Prim.Native.Nat.{ℕ, ◌*◌}
use mathlib.Core.Path.{◌≡◌, refl}
use mathlib.Core.Bool.{Bool, true, false, ◌&&◌, ◌||◌}
use mathlib.Core.List.{List}
use lib.Dec.{eqb, leb}
use lib.ListN.{length}
use Rattle.base_bits.specs.Bits.{bit_of}
use Rattle.base_bits.proofs.Cases.{and_left, and_right}
use Rattle.base_chip.specs.declared.Chip.TheVariants.{Newer}
use Rattle.bus_session.specs.State.{sound_session}
use Rattle.bus_session_bytes.specs.Layout.{are_session, session_of}
use Rattle.bus_session_bytes.proofs.Laws.{bytes_are, session_back}
use Rattle.reg_banks.specs.Banks.{Mapped}
use Rattle.read_records.specs.Records.{records_in}
use Rattle.read_records.proofs.Laws.{mapped_after}
use Rattle.read_records.proofs.Arming.{sound_kept}
use Rattle.several_chips.specs.declared.Member.{Member}
use Rattle.several_chips.specs.Samples.{Sample, seen_by}
use Rattle.several_chips.specs.State.{State, mid_read, state_after, chip_event, port_after, contended_now, record_at, joined_records}
use Rattle.several_chips.specs.Members.{state_of, member_with, mark_good, sound_member}
use Rattle.several_chips.specs.Numbers.{several_record_size}
use Rattle.several_chips.proofs.Within.{event_size}

-- a chip with a sound session, marked only where bits of a read byte are taken, is sound
state_good : (w : Member) (s : State) → sound_session Newer s.session ≡ true → (eqb (bit_of s.contended) 0 || mid_read s.session.port) ≡ true
    → sound_member (member_with w s) ≡ true
unfolding sound_member
state_good w s h g =
    rw (bytes_are s.session, session_back s.session, h, g) (small s.contended)
  where
    small : (b : Bool) → (leb (bit_of b) 1 && true) ≡ true
    small true = refl
    small false = refl

-- the mark after a sample is one that a sound chip can have
marked : (mid mark : Bool) → (eqb (bit_of (mid && mark)) 0 || mid) ≡ true
marked true true = refl
marked true false = refl
marked false mark = refl

-- Each sample leads from a sound chip to a sound one.
pub state_sound : (m : List ℕ) (mem : List ℕ) (w : Member) (i : ℕ) (x : Sample) → sound_member w ≡ true
    → sound_member (member_with w (state_after m i (state_of mem w) x)) ≡ true
unfolding sound_member state_after
state_sound m mem w i x h =
    let s = state_of mem w in
    let k = and_left (sound_session Newer (session_of w.session)) (mark_good w) (and_right (are_session w.session) _ h) in
    state_good w (state_after m i s x) (sound_kept Newer m s.session s.banks (seen_by i x) k) (marked (mid_read (port_after i s x)) (contended_now i s x))

-- The banks fit the map still.
pub banks_sized : (m : List ℕ) (i : ℕ) (s : State) (x : Sample) → Mapped m s.banks → Mapped m (state_after m i s x).banks
unfolding state_after
banks_sized m i s x h = mapped_after Newer m s.session.armed s.banks (chip_event i s x) h

-- How many bytes the record of a turn has.
pub record_sized : (m : List ℕ) (i : ℕ) (s : State) (x : Sample) → length (joined_records (record_at m i s x)) ≡ several_record_size * records_in (chip_event i s x)
unfolding record_at
record_sized m i s x = event_size m s.banks s.session.port.settings (chip_event i s x) i (contended_now i s x)
