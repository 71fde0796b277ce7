-- Document 02, Ask 10, number 6 in steps: what counting the records of several chips asks.
use Rattle.std.specs.Prelude.{ℕ, ◌<◌, ◌≤◌, ◌≡◌, true, List, length}
use Rattle.base_chip.specs.declared.Chip.TheVariants.{Newer}
use Rattle.bus_session.specs.declared.Port.{Port}
use Rattle.bus_session.specs.State.{sound_port}
use Rattle.several_chips.specs.declared.Member.{Member}
use Rattle.several_chips.specs.Samples.{Sample, all_good}
use Rattle.several_chips.specs.Numbers.{all_sound, several_samples_good}

-- of one chip: a sound port, a number below eight, and samples that are good with however many chips
pub record CountingOne (p : Port) (i : ℕ) (xs : List Sample) : Type 0 where
  pub sound : sound_port Newer p ≡ true
  pub number : i < 8
  pub chips : ℕ
  pub good : all_good chips xs ≡ true

-- of all chips of a list: they are few and sound, and the samples are good
pub record CountingAll (ws : List Member) (bytes : List ℕ) : Type 0 where
  pub few : length ws ≤ 8
  pub sound : all_sound ws ≡ true
  pub good : several_samples_good (length ws) bytes ≡ true
