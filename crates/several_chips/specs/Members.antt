-- Document 02, Ask 10: a chip of the list has its session, its mark, and its own two ranges of the shared bank memory.
use Rattle.std.specs.Prelude.{ℕ, Bool, ◌&&◌, ◌||◌, List, [], ◌∷◌, map, eqb, leb}
use Rattle.base_bits.specs.Bits.{bit_of}
use Rattle.base_chip.specs.declared.Chip.TheVariants.{Newer}
use Rattle.bus_session.specs.State.{sound_session}
use Rattle.bus_session_bytes.specs.Layout.{session_bytes, are_session, session_of}
use Rattle.reg_banks.specs.Banks.{banks}
use Rattle.reg_ranges.specs.Ranges.{part, placed}
use Rattle.several_chips.specs.declared.Member.{Member}
use Rattle.several_chips.specs.State.{State, mid_read}

-- what the bytes of a chip and its ranges hold
abbrev pub state_of : List ℕ → Member → State
state_of mem w = record {
  session = session_of w.session;
  contended = eqb w.contended 1;
  banks = banks (part mem w.active_length w.active_start) (part mem w.buffer_length w.buffer_start);
}

-- a chip with another session and mark: its ranges stay
abbrev pub member_with : Member → State → Member
member_with w s = record {
  session = session_bytes s.session;
  contended = bit_of s.contended;
  active_start = w.active_start;
  active_length = w.active_length;
  buffer_start = w.buffer_start;
  buffer_length = w.buffer_length;
}

-- all chips of a list
abbrev pub states_of : List ℕ → List Member → List State
states_of mem ws = map (state_of mem) ws

unfoldable pub members_with : List Member → List State → List Member
members_with [] ss = []
members_with (w ∷ ws) [] = []
members_with (w ∷ ws) (s ∷ ss) = member_with w s ∷ members_with ws ss

-- the memory with the banks of each chip in its ranges; the rest of it as it was
unfoldable pub placed_all : List ℕ → List Member → List State → List ℕ
placed_all mem [] ss = mem
placed_all mem (w ∷ ws) [] = mem
placed_all mem (w ∷ ws) (s ∷ ss) = placed (placed_all mem ws ss) w.active_start w.buffer_start s.banks

-- the mark is 0 or 1, and set only where bits of a read byte are taken
abbrev pub mark_good : Member → Bool
mark_good w = leb w.contended 1 && (eqb w.contended 0 || mid_read (session_of w.session).port)

-- a session of a newer chip that is sound, with a mark that it can have
unfoldable pub sound_member : Member → Bool
sound_member w = are_session w.session && (sound_session Newer (session_of w.session) && mark_good w)
