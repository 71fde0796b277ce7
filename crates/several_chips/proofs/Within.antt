-- Taking an event in the ranges of a chip: one law for each case of the event.
use mathlib.Core.Path.{◌≡◌, refl, sym, ◌∙◌, ap}
use mathlib.Core.Bool.{Bool, true, false}
use mathlib.Core.List.{List, [], ◌∷◌, append-nil}
use Prim.Native.Nat.{ℕ, ◌+◌, ◌*◌, ◌≤◌}
use native.Mathlib.Omega.{arith}
use native.Mathlib.Nat.{add-zero}
use lib.ListN.{length}
use lib.Seq.{sets}
use Rattle.base_chip.specs.declared.Chip.TheVariants.{Newer}
use Rattle.bus_settings.specs.declared.Settings.{Settings}
use Rattle.bus_session.specs.declared.Event.{Event}
use Rattle.bus_session.specs.declared.Event.TheVariants.{Nothing, Whole, Aborted, Ended}
use Rattle.reg_banks.specs.Banks.{Banks}
use Rattle.reg_banks.specs.Read.{due_byte}
use Rattle.reg_write.specs.declared.Written.{Written}
use Rattle.reg_write.specs.Write.{effect_at}
use Rattle.reg_write.specs.Rise.{moves_at_rise, armed_on, rise_banks}
use Rattle.reg_write.proofs.Laws.{armed_written}
use Rattle.reg_ranges.specs.Ranges.{banks_in, placed, WroteWithin}
use Rattle.reg_ranges.proofs.Laws.{placed_same}
use Rattle.read_records.specs.declared.EventOutcome.{EventOutcome}
use Rattle.read_records.specs.Records.{record_of, records_in, write_record, read_record, abort_record}
use Rattle.read_records.specs.BanksAfter.{banks_after, armed_after}
use Rattle.several_chips.specs.State.{numbered, joined_records}
use Rattle.several_chips.specs.Numbers.{several_record_size}
use Rattle.several_chips.specs.Step.{event_bytes, TakingWithin, TakenWithin}

-- the bytes of one record are that record
one_record : (r : List ℕ) → joined_records (r ∷ []) ≡ r
unfolding joined_records
one_record r = append-nil r

-- contended or not, the record of a read has its size
read_size : (i : ℕ) (contended : Bool) (a due line : ℕ) → length (numbered i contended (read_record a due line)) ≡ several_record_size
read_size i true a due line = refl
read_size i false a due line = refl

-- how many bytes the record of an event has
pub event_size : (m : List ℕ) (b : Banks) (t : Settings) (e : Event) (i : ℕ) (contended : Bool)
    → length (event_bytes m b t e i contended) ≡ several_record_size * records_in e
unfolding joined_records record_of
event_size m b t Nothing i contended = refl
event_size m b t (Whole true a v) i contended =
    ap length (one_record (numbered i contended (read_record a (due_byte Newer m b t a) v))) ∙ read_size i contended a (due_byte Newer m b t a) v
event_size m b t (Whole false a v) i contended = refl
event_size m b t (Aborted a bits d) i contended = refl
event_size m b t Ended i contended = refl

-- the record of an event that gives one has room
pub room_for : {m mem : List ℕ} {n a b : ℕ} {t : Settings} {e : Event} {i : ℕ} {contended : Bool} {old : List ℕ} {at : ℕ}
    → TakingWithin m mem n a b t e i contended old at → records_in e ≡ 1 → at + several_record_size ≤ length old
room_for {m} {mem} {n} {a} {b} {t} {e} {i} {contended} k one = omega (arith, event_size m (banks_in mem n a b) t e i contended, k.room)

-- where an event leads: the place after its record, and whether the session is armed
abbrev took : ℕ → Bool → EventOutcome
took at armed = record { at = at; armed = armed }

module _ {m mem : List ℕ} {n a b : ℕ} {t : Settings} {k : Bool} {e : Event} {i : ℕ} {contended : Bool} {old : List ℕ} {at : ℕ}
    (ready : TakingWithin m mem n a b t e i contended old at) where
  -- nothing is completed
  pub took_nothing : e ≡ Nothing → TakenWithin m mem n a b t k e i contended old at mem old (took at k)
  unfolding banks_after armed_after record_of joined_records
  took_nothing ee =
      rw ee
      (record {
        memory_after = sym (placed_same ready.within);
        next_armed = refl;
        records_after = refl;
        next_place = sym (add-zero at);
      })

  -- a byte was read
  pub took_read : {read : Bool} {address v due : ℕ} {new : List ℕ} → e ≡ Whole read address v → read ≡ true
      → due ≡ due_byte Newer m (banks_in mem n a b) t address → new ≡ sets old at (numbered i contended (read_record address due v))
      → TakenWithin m mem n a b t k e i contended old at mem new (took (at + several_record_size) k)
  unfolding banks_after armed_after record_of
  took_read {address = address} {v} ee er ed en =
      let d = due_byte Newer m (banks_in mem n a b) t address in
      let bytes = one_record (numbered i contended (read_record address d v)) in
      rw (ee, er)
      (record {
        memory_after = sym (placed_same ready.within);
        next_armed = refl;
        records_after = en ∙ ap (λ (d : ℕ). sets old at (numbered i contended (read_record address d v))) ed ∙ ap (sets old at) (sym bytes);
        next_place = ap (λ (n : ℕ). at + n) (sym (ap length bytes ∙ read_size i contended address d v));
      })

  -- a byte was written
  pub took_write : {read : Bool} {address v : ℕ} {w : Written} {memory new : List ℕ} {moves armed : Bool} → e ≡ Whole read address v → read ≡ false
      → WroteWithin m mem n a b t address v w memory → new ≡ sets old at (numbered i false (write_record address v w)) → moves ≡ moves_at_rise Newer m
      → armed ≡ armed_on moves k w.effect
      → TakenWithin m mem n a b t k e i contended old at memory new (took (at + several_record_size) armed)
  unfolding banks_after armed_after record_of joined_records
  took_write {address = address} {v} ee er wrote en em el =
      rw (ee, er)
      (record {
        memory_after = wrote.memory_after;
        next_armed = el ∙ armed_written Newer m k t address v (effect_at Newer m (banks_in mem n a b) address v) em wrote.answer_is;
        records_after = en ∙ ap (λ (w : Written). sets old at (numbered i false (write_record address v w))) wrote.answer_is;
        next_place = refl;
      })

  -- the frame ended, and broke a piece off
  pub took_abort : {address bits : ℕ} {d : Bool} {memory new : List ℕ} {r : EventOutcome} → e ≡ Aborted address bits d
      → new ≡ sets old at (numbered i false (abort_record address bits d))
      → (memory ≡ placed mem a b (rise_banks Newer m k (banks_in mem n a b))) × (r ≡ took (at + several_record_size) false)
      → TakenWithin m mem n a b t k e i contended old at memory new r
  unfolding banks_after armed_after record_of joined_records
  took_abort ee en (ea, er) = rw (ee, er) (record { memory_after = ea; next_armed = refl; records_after = en; next_place = refl })

  -- the frame ended
  pub took_end : {memory : List ℕ} {r : EventOutcome} → e ≡ Ended
      → (memory ≡ placed mem a b (rise_banks Newer m k (banks_in mem n a b))) × (r ≡ took at false)
      → TakenWithin m mem n a b t k e i contended old at memory old r
  unfolding banks_after armed_after record_of joined_records
  took_end ee (ea, er) = rw (ee, er) (record { memory_after = ea; next_armed = refl; records_after = refl; next_place = sym (add-zero at) })
