-- Counting the records of several chips: those that are counted, with the definition of what is left, are the whole.
use mathlib.Core.Path.{◌≡◌, ap, ◌∙◌}
use mathlib.Core.Bool.{true, ◌&&◌}
use mathlib.Core.List.{List, [], ◌∷◌, ◌++◌}
use Prim.Native.Nat.{ℕ, ◌+◌, ◌*◌, ◌/◌, ◌<◌, ◌≤◌}
use native.Mathlib.Numerals.{add-one}
use native.Mathlib.Nat.{suc-mul, mul-le-mul}
use native.Mathlib.Omega.{arith}
use lib.ListN.{length, length-map, get_or, drop, drop_of_length-le}
use lib.Seq.{drop-cons}
use Rattle.base_bits.proofs.Cases.{and_left, and_right}
use Rattle.base_chip.specs.declared.Chip.TheVariants.{Newer}
use Rattle.bus_session.specs.declared.Port.{Port}
use Rattle.bus_session.specs.declared.Event.{Event}
use Rattle.bus_session.specs.State.{sound_port, sound_session}
use Rattle.bus_session.specs.Step.{step_of}
use Rattle.bus_session.specs.Event.{event_of}
use Rattle.bus_session.proofs.Laws.{port_sound, sound_step}
use Rattle.bus_session_bytes.specs.Layout.{are_session, session_of}
use Rattle.read_records.specs.Records.{records_in}
use Rattle.read_run.specs.Reading.{record_count}
use Rattle.read_run.proofs.Bound.{records_bound}
use Rattle.several_chips.specs.declared.Member.{Member}
use Rattle.several_chips.specs.Samples.{Sample, samples_in, seen_by, all_seen_by, sample_good, all_good}
use Rattle.several_chips.specs.Members.{sound_member, mark_good}
use Rattle.several_chips.specs.Numbers.{count_from}
use Rattle.several_refusals.specs.Counting.{CountingOne, CountingAll}
use Rattle.several_chips.proofs.Listed.{sound_at}
use Rattle.several_chips.proofs.Samples.{sample_count, good_at}
use Rattle.several_refusals.proofs.SampleBytes.{sample_of, cut_off, none_left, good_bytes}

-- the port of a chip
abbrev pub port_of : Member → Port
port_of w = (session_of w.session).port

pub sound_port_lem : (w : Member) → sound_member w ≡ true → sound_port Newer (port_of w) ≡ true
unfolding sound_member
sound_port_lem w e =
    let session = sound_session Newer (session_of w.session) in
    port_sound Newer (session_of w.session) (and_left session (mark_good w) (and_right (are_session w.session) (session && mark_good w) e))

-- no chip has more than a record for three samples, but for the first
pub chip_bound : (i : ℕ) (p : Port) (xs : List Sample) → record_count Newer p (all_seen_by i xs) ≤ (length xs + 2) / 3
chip_bound i p xs = omega (arith, records_bound Newer p (all_seen_by i xs), length-map xs (seen_by i))

pub count_bound : (i : ℕ) (ws : List Member) (xs : List Sample) → count_from i ws xs ≤ length ws * ((length xs + 2) / 3)
unfolding count_from
count_bound i [] xs = omega arith
count_bound i (w ∷ ws) xs = rw (suc-mul (length ws) ((length xs + 2) / 3)) (omega (arith, chip_bound i (port_of w) xs, count_bound (i + 1) ws xs))

-- some samples of a chip are passed, and some bytes are left: its port, and how many records they gave
pub record Counted (i : ℕ) (bytes left : List ℕ) (p₀ p : Port) (n : ℕ) : Type 0 where
  pub sound : sound_port Newer p ≡ true
  pub chips : ℕ
  pub good : all_good chips (samples_in left) ≡ true
  pub whole : n + record_count Newer p (all_seen_by i (samples_in left)) ≡ record_count Newer p₀ (all_seen_by i (samples_in bytes))

module _ {i : ℕ} {bytes left : List ℕ} {p₀ p : Port} {n : ℕ} (now : Counted i bytes left p₀ p n) where
  module _ (two more : List ℕ) (cut : left ≡ two ++ more) (even : length two ≡ 2) where
    next_good : all_good now.chips (sample_of two ∷ samples_in more) ≡ true
    next_good = rw (cut, cut_off two more even) at now.good

    -- the lines of the next sample leave room for a select
    pub lines_small : get_or two 1 0 ≤ 15
    lines_small = good_at now.chips (sample_of two ∷ samples_in more) 0 (sample_of two) next_good (omega arith)

    module _ {x : ℕ} {e : Event} {k : ℕ} (seen : x ≡ seen_by i (sample_of two)) (gave : e ≡ event_of Newer p x) (records : k ≡ records_in e) where
      next_count : n + k + record_count Newer (step_of Newer p x) (all_seen_by i (samples_in more)) ≡ record_count Newer p₀ (all_seen_by i (samples_in bytes))
      unfolding record_count
      next_count =
          let given : k ≡ records_in (event_of Newer p x) = records ∙ ap records_in gave in
          rw (given, seen) (omega (arith, rw (cut, cut_off two more even) at now.whole))

      pub counted_more : {q : Port} → q ≡ step_of Newer p x → Counted i bytes more p₀ q (n + k)
      unfolding all_good
      counted_more {q} step =
          rw step (record {
            sound = sound_step Newer p x now.sound;
            chips = now.chips;
            good = and_right (sample_good now.chips (sample_of two)) (all_good now.chips (samples_in more)) next_good;
            whole = next_count;
          })

      -- there are fewer records than bytes
      pub counted_fits : n + k ≤ length bytes
      counted_fits = omega (arith, next_count, chip_bound i p₀ (samples_in bytes), sample_count bytes)

  pub counted_all : length left < 2 → n ≡ record_count Newer p₀ (all_seen_by i (samples_in bytes))
  unfolding record_count
  counted_all h = omega (arith, rw (none_left left h) at now.whole)

-- some chips of a list are counted
module _ (ws : List Member) (bytes : List ℕ) (asked : CountingAll ws bytes) where
  abbrev xs : List Sample
  xs = samples_in bytes

  -- the bound that is tried before the records are counted
  pub bound_fits : length ws * ((length bytes / 2 + 2) / 3) ≤ 8 * 21846
  bound_fits =
      let most : (length bytes / 2 + 2) / 3 ≤ 21846 = omega (arith, (good_bytes (length ws) bytes asked.good).0) in
      mul-le-mul asked.few most

  pub bounded : count_from 0 ws xs ≤ length ws * ((length bytes / 2 + 2) / 3)
  bounded = rw (sample_count bytes) at (count_bound 0 ws xs)

  -- all records, of eight chips that have 65,536 samples
  pub few_records : count_from 0 ws xs ≤ 8 * 21846
  few_records = omega (arith, bound_fits, bounded)

  module _ (i : ℕ) (d : Member) (h : i < length ws) {p : Port} (port : p ≡ port_of (get_or ws i d)) where
    -- what counting those of the next chip asks
    pub next_asked : CountingOne p i xs
    next_asked = record {
      sound = rw port (sound_port_lem (get_or ws i d) (sound_at ws i d asked.sound h));
      number = omega (arith, h, asked.few);
      chips = length ws;
      good = (good_bytes (length ws) bytes asked.good).1;
    }

    next_chip : count_from i (drop i ws) xs ≡ record_count Newer p (all_seen_by i xs) + count_from (i + 1) (drop (i + 1) ws) xs
    unfolding count_from
    next_chip = ap (λ (l : List Member). count_from i l xs) (drop-cons ws i d h) ∙ rw (port, add-one)

    pub more_chips : (n : ℕ) {k : ℕ} → k ≡ record_count Newer p (all_seen_by i xs) → n + count_from i (drop i ws) xs ≡ count_from 0 ws xs
        → n + k + count_from (i + 1) (drop (i + 1) ws) xs ≡ count_from 0 ws xs
    more_chips n q inv = omega (arith, q, inv, next_chip)

  pub no_chip : (i : ℕ) → length ws ≤ i → count_from i (drop i ws) xs ≡ 0
  unfolding count_from
  no_chip i h = rw (drop_of_length-le ws {i = i} h)
