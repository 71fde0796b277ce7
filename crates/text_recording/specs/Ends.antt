-- RULES, "The bench program": how a reading ends, and what is told of it.
use Rattle.std.specs.Prelude.{◌≡◌, ℕ, ◌<◌, ◌≤◌, Result, Ok, Err}
use Rattle.std.specs.Coded.{×_prop, Unit-prop, le_prop}
use Rattle.base_numbers.specs.Numbers.{refusal_number}
use Rattle.text_recording.specs.declared.Failure.{Failure}
use Rattle.text_recording.specs.declared.Failure.TheVariants.{Refused, MapFailed, SamplesFailed, OutputFailed}

-- how a reading ends: at the last sample, or by a failure
abbrev pub End : Type 0
End = Result (Unit {0}) Failure

-- a refusal has one of document 01's numbers for the reader, but for 6, since the records of a piece have room; nor is it 12 (document
-- 02, Ask 1), since the top is taken from the map
abbrev pub Known : End → Type 0
Known (Ok _) = Unit {0}
Known (Err (Refused refusal)) = (0 < refusal_number refusal) × (refusal_number refusal ≤ 5)
Known (Err (MapFailed reason)) = Unit {0}
Known (Err (SamplesFailed reason)) = Unit {0}
Known (Err (OutputFailed reason)) = Unit {0}

-- it has one proof at most
pub Known-prop : (reached : End) → IsProp (Known reached)
Known-prop (Ok _) = Unit-prop
Known-prop (Err (Refused refusal)) = ×_prop le_prop le_prop
Known-prop (Err (MapFailed reason)) = Unit-prop
Known-prop (Err (SamplesFailed reason)) = Unit-prop
Known-prop (Err (OutputFailed reason)) = Unit-prop

-- what a host is told: how the reading ended
abbrev pub code_of : End → ℕ
code_of (Ok _) = 0
code_of (Err (Refused refusal)) = 1
code_of (Err (MapFailed reason)) = 2
code_of (Err (SamplesFailed reason)) = 3
code_of (Err (OutputFailed reason)) = 4

-- and the number of a refusal, else 0
abbrev pub number_of : End → ℕ
number_of (Ok _) = 0
number_of (Err (Refused refusal)) = refusal_number refusal
number_of (Err (MapFailed reason)) = 0
number_of (Err (SamplesFailed reason)) = 0
number_of (Err (OutputFailed reason)) = 0

-- Both are told of one end.
pub record Told (code number : ℕ) : Type 0 where
  pub reached : End
  pub known : Known reached
  pub code_told : code ≡ code_of reached
  pub number_told : number ≡ number_of reached
