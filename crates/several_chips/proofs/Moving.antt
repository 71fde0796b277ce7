-- A sample moves a chip as the chip's session, its event and its mark say.
use mathlib.Core.Path.{◌≡◌, sym, ◌∙◌, ap}
use mathlib.Core.Bool.{Bool, true, not, ◌&&◌, ◌||◌}
use mathlib.Core.List.{List}
use Prim.Native.Nat.{ℕ, ◌+◌}
use lib.Dec.{eqb}
use lib.ListN.{length}
use lib.Seq.{sets}
use Rattle.base_bits.proofs.Cases.{and_left, and_right}
use Rattle.base_chip.specs.declared.Chip.TheVariants.{Newer}
use Rattle.bus_session.specs.declared.Port.{Port}
use Rattle.bus_session.specs.declared.Session.{Session}
use Rattle.bus_session.specs.declared.Event.{Event}
use Rattle.bus_session.specs.State.{PortBounds, may_arm, sound_port, sound_session}
use Rattle.bus_session.specs.Step.{csb_of, sclk_of, step_of}
use Rattle.bus_session.specs.Event.{event_of}
use Rattle.bus_session.proofs.Laws.{fit_sound}
use Rattle.bus_session_bytes.specs.Layout.{are_session, session_of}
use Rattle.reg_banks.specs.Banks.{Banks, banks}
use Rattle.reg_ranges.specs.Ranges.{part, banks_in, placed}
use Rattle.read_records.specs.BanksAfter.{banks_after, armed_after}
use Rattle.read_records.specs.declared.EventOutcome.{EventOutcome}
use Rattle.several_chips.specs.declared.Member.{Member}
use Rattle.several_chips.specs.Samples.{Sample, seen_by, other_low}
use Rattle.several_chips.specs.State.{mid_read, chip_event, contended_now, port_after, state_after, record_at}
use Rattle.several_chips.specs.Members.{state_of, member_with, mark_good, sound_member}
use Rattle.several_chips.specs.Step.{state, event_bytes, TakingWithin, TakenWithin, Moving, HasMoved}

-- the session of a sound chip is fit
pub fit_member : (w : Member) → sound_member w ≡ true → PortBounds (session_of w.session).port
unfolding sound_member sound_session
fit_member w h =
    let s = session_of w.session in
    let k = and_left (sound_session Newer s) (mark_good w) (and_right (are_session w.session) _ h) in
    fit_sound Newer s.port (and_left (sound_port Newer s.port) (not s.armed || may_arm Newer s.port) k)

module _ {m mem : List ℕ} {w : Member} {x : Sample} {i : ℕ} {old : List ℕ} {at : ℕ} (ready : Moving m w mem x i old at) where
  -- both ranges have as many bytes
  same_banks : (state_of mem w).banks ≡ banks_in mem w.active_length w.active_start w.buffer_start
  same_banks =
      ap (λ (n : ℕ). banks (part mem w.active_length w.active_start) (part mem n w.buffer_start)) (ready.buffer_size ∙ sym ready.active_size)

  -- what taking the event of the sample asks
  taking : TakingWithin m mem w.active_length w.active_start w.buffer_start (session_of w.session).port.settings
      (chip_event i (state_of mem w) x) i (contended_now i (state_of mem w) x) old at
  unfolding record_at
  taking = record { within = rw ready.active_size ready.within; room = rw same_banks at ready.room }

  -- the chip after the event is taken
  moved : {memory new : List ℕ} {took : EventOutcome}
      → TakenWithin m mem w.active_length w.active_start w.buffer_start (session_of w.session).port.settings (session_of w.session).armed
      (chip_event i (state_of mem w) x) i (contended_now i (state_of mem w) x) old at memory new took
      → HasMoved m w mem x i old at
      (record {
        member =
            member_with w
            (state (record { port = port_after i (state_of mem w) x; armed = took.armed })
            (mid_read (port_after i (state_of mem w) x) && contended_now i (state_of mem w) x));
        at = took.at;
      }) memory new
  unfolding state_after record_at
  moved taken =
      let s = state_of mem w in
      let e = chip_event i s x in
      let t = s.session.port.settings in
      let k = contended_now i s x in
      record {
        member_after =
            ap (λ (armed : Bool). member_with w (state (record { port = port_after i s x; armed = armed }) (mid_read (port_after i s x) && k)))
            (taken.next_armed ∙ ap (λ (b : Banks). armed_after Newer m s.session.armed b e) (sym same_banks));
        memory_after =
            taken.memory_after
            ∙ ap (λ (b : Banks). placed mem w.active_start w.buffer_start (banks_after Newer m s.session.armed b e)) (sym same_banks);
        records_after = taken.records_after ∙ ap (λ (b : Banks). sets old at (event_bytes m b t e i k)) (sym same_banks);
        next_place = taken.next_place ∙ ap (λ (b : Banks). at + length (event_bytes m b t e i k)) (sym same_banks);
      }

  module _ {s : Session} {seen : ℕ} {edge low : Bool} {e : Event} (es : s ≡ session_of w.session) (ex : seen ≡ seen_by i x)
      (ed : edge ≡ (not s.port.csb && not (csb_of seen) && not s.port.sclk && sclk_of seen)) (el : low ≡ other_low i x)
      (ee : e ≡ event_of Newer s.port seen) where
    -- the same by what the code finds, each equal to its definition
    pub taking_event : TakingWithin m mem w.active_length w.active_start w.buffer_start s.port.settings e i
        (eqb w.contended 1 || (edge && low)) old at
    taking_event = rw (ee, ed, el, ex, es) taking

    pub moved_by_event : {after : Port} {memory new : List ℕ} {took : EventOutcome} {mid : Bool} {r : Member} → after ≡ step_of Newer s.port seen
        → TakenWithin m mem w.active_length w.active_start w.buffer_start s.port.settings s.armed e i
        (eqb w.contended 1 || (edge && low)) old at memory new took
        → mid ≡ mid_read after → r ≡ member_with w (state (record { port = after; armed = took.armed }) (mid && (eqb w.contended 1 || (edge && low))))
        → HasMoved m w mem x i old at (record { member = r; at = took.at }) memory new
    moved_by_event ea taken em er = rw (er, em, ea, ed, el, ex, es) (moved (rw (ee, ed, el, ex, es) at taken))
