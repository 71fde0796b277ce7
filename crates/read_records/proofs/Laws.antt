-- What follows from the definitions of an event's banks and record.
use mathlib.Core.Path.{◌≡◌, refl, ◌∙◌, ap}
use mathlib.Core.Bool.{Bool}
use mathlib.Core.List.{List}
use Prim.Native.Nat.{ℕ, ◌+◌, ◌*◌}
use lib.ListN.{length}
use Rattle.base_bits.proofs.Cases.{each}
use Rattle.base_sizes.specs.Sizes.{record_size}
use Rattle.base_chip.specs.declared.Chip.{Chip}
use Rattle.bus_settings.specs.declared.Settings.{Settings}
use Rattle.bus_session.specs.declared.Event.{Event}
use Rattle.bus_session.specs.declared.Event.TheVariants.{Nothing, Whole, Aborted, Ended}
use Rattle.reg_banks.specs.Banks.{Banks, Mapped}
use Rattle.reg_touched.proofs.Meaning.{length_touched}
use Rattle.reg_write.specs.Write.{effect_at, on_byte}
use Rattle.reg_write.proofs.Laws.{mapped_write, mapped_rise}
use Rattle.read_records.specs.declared.EventOutcome.{EventOutcome}
use Rattle.read_records.specs.BanksAfter.{banks_after, touched_after}
use Rattle.read_records.specs.Records.{record_of, records_in}
use Rattle.read_records.specs.Promises.{EventAfter}

-- an event keeps the sizes of the banks
pub mapped_after : (c : Chip) (m : List ℕ) (k : Bool) (b : Banks) (e : Event) → Mapped m b → Mapped m (banks_after c m k b e)
unfolding banks_after
mapped_after c m k b Nothing h = h
mapped_after c m k b (Whole read a v) h = each (Mapped m) read (λ e. h) (λ e. mapped_write h c a v)
mapped_after c m k b (Aborted a bits d) h = mapped_rise h c k
mapped_after c m k b Ended h = mapped_rise h c k

-- and how many words there are
pub length_after : (c : Chip) (m ws : List ℕ) (b : Banks) (e : Event) → length (touched_after c m ws b e) ≡ length ws
unfolding touched_after
length_after c m ws b Nothing = refl
length_after c m ws b (Whole read a v) =
    each (λ (l : List ℕ). length l ≡ length ws) read (λ e. refl)
    (λ e. each (λ (l : List ℕ). length l ≡ length ws) (on_byte (effect_at c m b a v)) (λ e. length_touched ws a) (λ e. refl))
length_after c m ws b (Aborted a bits d) = refl
length_after c m ws b Ended = refl

-- how many bytes the records of an event have
pub record_size_lem : (c : Chip) (m : List ℕ) (b : Banks) (t : Settings) (e : Event) → length (record_of c m b t e) ≡ record_size * records_in e
unfolding record_of
record_size_lem c m b t Nothing = refl
record_size_lem c m b t (Whole read a v) = each (λ (l : List ℕ). length l ≡ record_size) read (λ e. refl) (λ e. refl)
record_size_lem c m b t (Aborted a bits d) = refl
record_size_lem c m b t Ended = refl

-- so the place after an event that is taken is known without its record
pub place_after : {c : Chip} {m : List ℕ} {k : Bool} {b : Banks} {ws : List ℕ} {t : Settings} {e : Event} {old : List ℕ} {at : ℕ}
    {after : Banks} {words new : List ℕ} {took : EventOutcome}
    → EventAfter c m k b ws t e old at after words new took → took.at ≡ at + record_size * records_in e
place_after {c} {m} {b = b} {t = t} {e} {at = at} a = a.next_place ∙ ap (λ (n : ℕ). at + n) (record_size_lem c m b t e)
