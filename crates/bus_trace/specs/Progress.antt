-- What samples without an event change of a port: the level of SCLK, the bits taken and their value.
use Rattle.std.specs.Prelude.{ℕ, ◌%◌, ◌<◌, ◌≤◌, ◌≡◌, true, cond, ◌&&◌, List, length, eqb}
use Rattle.base_chip.specs.declared.Chip.{Chip}
use Rattle.bus_session.specs.declared.Phase.{Phase}
use Rattle.bus_session.specs.declared.Phase.TheVariants.{Rest, Instruction, Data}
use Rattle.bus_session.specs.declared.Port.{Port}
use Rattle.bus_session.specs.State.{at_levels, with_bits, is_data, sound_port}
use Rattle.bus_session.specs.Step.{in_use_on}
use Rattle.bus_trace.specs.declared.scan.Progress.{Progress}
use Rattle.bus_trace.specs.Path.{Quiet}

-- a port with the level, the bits and the value that a scan has come to
abbrev pub with_progress : Port → Progress → Port
with_progress s p = with_bits (at_levels s s.csb (eqb p.level 2)) p.bits p.value

-- how many bits come before the last of a piece
abbrev pub last_of : Phase → ℕ
last_of Rest = 0
last_of Instruction = 15
last_of Data = 7

-- the line that bits come from, as its place in a sample
abbrev pub source_line : Chip → Port → ℕ
source_line c s = cond (is_data s.phase && s.read && (in_use_on c s).sdo_active) 3 2

-- a level of SCLK, 0 or 2, and a port that is sound with the progress
pub record SoundProgress (c : Chip) (s : Port) (p : Progress) : Type 0 where
  pub even : p.level % 2 ≡ 0
  pub level : p.level < 4
  pub sound : sound_port c (with_progress s p) ≡ true

-- from port s before sample i, without an event, to where a scan has come
pub record Reached (c : Chip) (xs : List ℕ) (s : Port) (i : ℕ) (p : Progress) : Type 0 where
  pub ahead : i ≤ p.at
  pub within : p.at ≤ length xs
  pub good : SoundProgress c s p
  pub path : Quiet c xs s i (with_progress s p) p.at
