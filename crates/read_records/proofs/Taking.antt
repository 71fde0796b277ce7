-- A whole byte taken, read or written; and the end of a frame, with or without a record.
use mathlib.Core.Path.{◌≡◌, refl, sym, ◌∙◌, ap}
use mathlib.Core.Bool.{Bool, true, false, cond}
use mathlib.Core.List.{List}
use Prim.Native.Nat.{ℕ, ◌+◌, ◌*◌, ◌<◌, ◌≤◌}
use native.Mathlib.Omega.{arith}
use native.Mathlib.Nat.{add-zero}
use lib.ListN.{length}
use lib.Seq.{sets}
use Rattle.base_sizes.specs.Sizes.{record_size}
use Rattle.reg_touched.specs.Touched.{touched_words}
use Rattle.base_chip.specs.declared.Chip.{Chip}
use Rattle.bus_settings.specs.declared.Settings.{Settings}
use Rattle.bus_session.specs.declared.Event.{Event}
use Rattle.bus_session.specs.declared.Event.TheVariants.{Whole, Aborted, Ended}
use Rattle.reg_banks.specs.Banks.{Banks}
use Rattle.reg_banks.specs.Read.{due_byte}
use Rattle.reg_write.specs.declared.Written.{Written}
use Rattle.reg_write.specs.Write.{stages_at, effect_at, touches_on, Wrote}
use Rattle.reg_write.specs.Rise.{moves_at_rise, armed_on, rise_banks}
use Rattle.reg_write.proofs.Laws.{effect_within, armed_written, touches_number}
use Rattle.read_records.specs.declared.EventOutcome.{EventOutcome}
use Rattle.read_records.specs.Records.{record_of, records_in, write_record, read_record, abort_record}
use Rattle.read_records.specs.BanksAfter.{banks_after, armed_after, touched_after}
use Rattle.read_records.specs.Promises.{touched_on, EventBefore, EventAfter}
use Rattle.read_records.proofs.Laws.{record_size_lem}

-- the record of an event that gives one has room
pub room_for : {c : Chip} {m : List ℕ} {b : Banks} {ws : List ℕ} {t : Settings} {e : Event} {old : List ℕ} {at : ℕ} → EventBefore c m b ws t e old at
    → records_in e ≡ 1
    → at + record_size ≤ length old
room_for {c} {m} {b} {t = t} {e} k one = omega (arith, record_size_lem c m b t e, k.room)

-- a register that a write touches has its bit
pub has_bit : {c : Chip} {m : List ℕ} {b : Banks} {ws : List ℕ} {t : Settings} {e : Event} {old : List ℕ} {at : ℕ} → EventBefore c m b ws t e old at
    → {a v : ℕ} {w : Written} {after : Banks} → Wrote c m b t a v w after → touches_on w.effect ≡ true → a < 64 * length ws
has_bit {c} {m} {b} {t = t} k {a} {v} wrote one =
    let on = sym (ap (λ (w : Written). touches_on w.effect) wrote.answer_is ∙ touches_number c t a v (effect_at c m b a v)) ∙ one in
    omega (arith, effect_within c k.mapped (stages_at b a) a v on, k.mapped.active_size, k.bits)

abbrev took : ℕ → Bool → EventOutcome
took at armed = record { at = at; armed = armed }

module _ {c : Chip} {m : List ℕ} {k : Bool} {b : Banks} {ws : List ℕ} {t : Settings} {old : List ℕ} {at : ℕ} where
  pub took_read : {read : Bool} {a v due : ℕ} {new : List ℕ} → read ≡ true → due ≡ due_byte c m b t a
      → new ≡ sets old at (read_record a due v) → EventAfter c m k b ws t (Whole read a v) old at b ws new (took (at + record_size) k)
  unfolding banks_after armed_after touched_after record_of
  took_read {a = a} {v} er ed en =
      rw er
      (record {
        next_banks = refl;
        words_after = refl;
        next_armed = refl;
        records_after = en ∙ ap (λ (d : ℕ). sets old at (read_record a d v)) ed;
        next_place = refl;
      })

  pub took_write : {read : Bool} {a v : ℕ} {w : Written} {after : Banks} {words new : List ℕ} {moves l : Bool} → read ≡ false
      → Wrote c m b t a v w after → words ≡ touched_on ws a w.effect → new ≡ sets old at (write_record a v w) → moves ≡ moves_at_rise c m → l ≡ armed_on moves k
      w.effect
      → EventAfter c m k b ws t (Whole read a v) old at after words new (took (at + record_size) l)
  unfolding banks_after armed_after touched_after record_of
  took_write {a = a} {v} er wrote ew en em el =
      rw er
      (record {
        next_banks = wrote.next_banks;
        words_after =
            ew ∙ ap (λ (w : Written). touched_on ws a w.effect) wrote.answer_is
            ∙ ap (λ (one : Bool). cond one (touched_words ws a) ws) (touches_number c t a v (effect_at c m b a v));
        next_armed = el ∙ armed_written c m k t a v (effect_at c m b a v) em wrote.answer_is;
        records_after = en ∙ ap (λ (w : Written). sets old at (write_record a v w)) wrote.answer_is;
        next_place = refl;
      })

  pub took_abort : {e : Event} {a bits : ℕ} {d : Bool} {after : Banks} {new : List ℕ} → e ≡ Aborted a bits d → after ≡ rise_banks c m k b
      → new ≡ sets old at (abort_record a bits d) → EventAfter c m k b ws t e old at after ws new (took (at + record_size) false)
  unfolding banks_after armed_after touched_after record_of
  took_abort ee ea en = rw ee (record { next_banks = ea; words_after = refl; next_armed = refl; records_after = en; next_place = refl })

  pub took_end : {e : Event} {after : Banks} → e ≡ Ended → after ≡ rise_banks c m k b → EventAfter c m k b ws t e old at after ws old (took at false)
  unfolding banks_after armed_after touched_after record_of
  took_end ee ea = rw ee (record { next_banks = ea; words_after = refl; next_armed = refl; records_after = refl; next_place = sym (add-zero at) })
