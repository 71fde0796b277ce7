-- A sample that moves the last levels alone leaves all of a chip but a level: no event, no bank, no record, and the mark as it was.
use Prim.Native.Nat.{ℕ, zero, suc, ◌<◌}
use mathlib.Core.Path.{◌≡◌, refl, ap}
use mathlib.Core.Bool.{Bool, true, false, not, ◌&&◌, ◌||◌, false≢true, and-false}
use mathlib.Core.List.{List, []}
use native.Mathlib.Omega.{arith}
use lib.Dec.{eqb, leb}
use lib.ListN.{get_or}
use borrow.Author.Tests.{leb-true}
use Rattle.base_bits.specs.Bits.{bit_of}
use Rattle.base_bits.proofs.Cases.{and_left, and_right}
use Rattle.base_chip.specs.declared.Chip.TheVariants.{Newer}
use Rattle.bus_session.specs.declared.Port.{Port}
use Rattle.bus_session.specs.declared.Event.TheVariants.{Nothing}
use Rattle.bus_session.specs.State.{with_levels, sound_session}
use Rattle.bus_session.specs.Step.{csb_of, sclk_of, takes_bit, step_of}
use Rattle.bus_session.specs.Event.{event_of}
use Rattle.bus_session_bytes.specs.Layout.{are_session, session_of}
use Rattle.read_records.specs.BanksAfter.{banks_after, armed_after}
use Rattle.several_chips.specs.declared.Member.{Member}
use Rattle.several_chips.specs.Samples.{Sample, seen_by, other_low}
use Rattle.several_chips.specs.State.{State, mid_read, state_after, record_at}
use Rattle.several_chips.specs.Members.{state_of, member_with, mark_good, sound_member}
use Rattle.several_chips.specs.Step.{only_levels, with_clock}
use Rattle.several_chips.proofs.Bytes.{clock_byte}

-- what is known of the levels: CSB as it was, no bit, no fall, no rise
levels : (csb high sclk clock : Bool) → ((csb && high) || (not csb && (not high && (sclk || not clock)))) ≡ true
    → (high ≡ csb) × ((not csb && not high && not sclk && clock) ≡ false) × ((csb && not high) ≡ false) × ((not csb && high) ≡ false)
levels true true sclk clock h = (refl, refl, refl, refl)
levels true false sclk clock h = absurd (false≢true h)
levels false true sclk clock h = absurd (false≢true h)
levels false false true clock h = (refl, refl, refl, refl)
levels false false false true h = absurd (false≢true h)
levels false false false false h = (refl, refl, refl, refl)

module _ (p : Port) (x : ℕ) (h : only_levels p.csb p.sclk x ≡ true) where
  -- CSB is as it was
  level_same : csb_of x ≡ p.csb
  level_same = (levels p.csb (csb_of x) p.sclk (sclk_of x) h).0

  -- no bit is taken
  no_bit : takes_bit p x ≡ false
  no_bit = (levels p.csb (csb_of x) p.sclk (sclk_of x) h).1

  -- the port differs in its levels alone
  still_step : step_of Newer p x ≡ with_levels p x
  unfolding step_of
  still_step =
      let k = levels p.csb (csb_of x) p.sclk (sclk_of x) h in
      rw (k.2, k.1, k.3) refl

  -- nothing is completed
  still_event : event_of Newer p x ≡ Nothing
  unfolding event_of
  still_event =
      let k = levels p.csb (csb_of x) p.sclk (sclk_of x) h in
      rw (k.1, k.3) refl

-- a sound chip is marked only where bits of a read byte are taken, so the mark stays
mark_stays : (n : ℕ) (mid low : Bool) → (leb n 1 && (eqb n 0 || mid)) ≡ true → bit_of (mid && (eqb n 1 || (false && low))) ≡ n
mark_stays zero mid low h = ap bit_of (and-false mid)
mark_stays (suc zero) true low h = refl
mark_stays (suc zero) false low h = absurd (false≢true h)
mark_stays (suc (suc n)) mid low h = absurd (omega (arith, leb-true (suc (suc n)) 1 (and_left _ _ h)))

module _ (m mem : List ℕ) (i : ℕ) (w : Member) (x : Sample)
    (h : only_levels (session_of w.session).port.csb (session_of w.session).port.sclk (seen_by i x) ≡ true) where
  -- the chip, its port, and what it sees
  abbrev s : State
  s = state_of mem w

  abbrev p : Port
  p = s.session.port

  abbrev seen : ℕ
  seen = seen_by i x

  -- the banks are as they were
  pub still_banks : (state_after m i s x).banks ≡ s.banks
  unfolding state_after banks_after
  still_banks = rw (still_event p seen h) refl

  -- there is no record
  pub still_record : record_at m i s x ≡ []
  unfolding record_at
  still_record = rw (still_event p seen h) refl

  -- one byte of the chip changes
  pub still_member : sound_member w ≡ true → ((j : ℕ) → get_or w.session j 0 < 256) → member_with w (state_after m i s x) ≡ with_clock w (sclk_of seen)
  unfolding state_after armed_after sound_member
  still_member sound small =
      let marked = and_right (sound_session Newer s.session) (mark_good w) (and_right (are_session w.session) _ sound) in
      rw (still_step p seen h, still_event p seen h, no_bit p seen h)
      (λ j. record {
        session = clock_byte w.session seen (and_left (are_session w.session) _ sound) small (level_same p seen h) j;
        contended = mark_stays w.contended (mid_read p) (other_low i x) marked j;
        active_start = w.active_start;
        active_length = w.active_length;
        buffer_start = w.buffer_start;
        buffer_length = w.buffer_length;
      })
