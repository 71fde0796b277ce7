-- Whatever reads a map reads its count, its registers and its flags.
use Prim.Native.Nat.{ℕ, zero, suc, ◌+◌}
use mathlib.Core.Path.{◌≡◌, refl, ap, sym, ◌∙◌}
use mathlib.Core.Bool.{Bool, true, false}
use mathlib.Core.List.{List, [], ◌∷◌}
use Rattle.map_format.specs.Format.{count_of, flags_of, SameRegisters}
use Rattle.map_test.specs.MapTest.{top_fits}
use Rattle.map_convert.proofs.Laws.{convert_tests}
use Rattle.map_convert.proofs.Made.{converted_maps}
use Rattle.base_chip.specs.declared.Chip.{Chip}
use Rattle.base_chip.specs.declared.Chip.TheVariants.{Newer, Older}
use Rattle.bus_settings.specs.declared.Settings.{Settings}
use Rattle.bus_session.specs.declared.Event.{Event}
use Rattle.bus_session.specs.declared.Event.TheVariants as event
use Rattle.bus_session.specs.Event.{event_of}
use Rattle.reg_banks.specs.Banks.{Banks, banks, defaults_from, default_banks, transfer_from, transferred}
use Rattle.reg_banks.specs.Read.{due_byte}
use Rattle.reg_write.specs.declared.Effect.{Effect}
use Rattle.reg_write.specs.declared.Effect.TheVariants.{Nothing, Byte, Control, Transfer, Reset, Ignored}
use Rattle.reg_write.specs.Write.{effect_at, applied, write_banks}
use Rattle.reg_write.specs.Rise.{armed_by, rise_banks}
use Rattle.read_records.specs.Records.{record_of}
use Rattle.read_records.specs.BanksAfter.{banks_after, armed_after, touched_after}
use Rattle.read_run.specs.Reading.{ReaderState, reader_state_after, run_of, records_of}
use Rattle.read_refusals.specs.Numbers.{open_number, read_number}
use Rattle.read_calls.specs.Calls.{open_of, read_of}
use Rattle.guarantees.specs.SameMap.{SameMap, ConvertedAlike}

module _ (c : Chip) (m m' : List ℕ) (s : SameRegisters m m') (f : flags_of m ≡ flags_of m') where
  defaults_same : (a k : ℕ) → defaults_from m a k ≡ defaults_from m' a k
  unfolding defaults_from
  defaults_same a zero = refl
  defaults_same a (suc k) = rw (s.entries_agree a, defaults_same (a + 1) k)

  opened_same : default_banks m ≡ default_banks m'
  unfolding default_banks
  opened_same = rw (s.same_count, defaults_same 0 (count_of m'))

  transfer_same : (a : ℕ) (active buffer : List ℕ) → transfer_from m a active buffer ≡ transfer_from m' a active buffer
  unfolding transfer_from
  transfer_same a [] buffer = refl
  transfer_same a (x ∷ active) buffer = rw (s.entries_agree a, transfer_same (a + 1) active buffer)

  transferred_same : (b : Banks) → transferred m b ≡ transferred m' b
  unfolding transferred
  transferred_same b = ap (λ (l : List ℕ). banks l b.buffer) (transfer_same 0 b.active b.buffer)

  applied_same : (b : Banks) (e : Effect) → applied m b e ≡ applied m' b e
  unfolding applied
  applied_same b Nothing = refl
  applied_same b (Byte ofBuffer a byte moved) = refl
  applied_same b Control = refl
  applied_same b Transfer = transferred_same b
  applied_same b Reset = opened_same
  applied_same b Ignored = refl

  write_same : (b : Banks) (a v : ℕ) → write_banks c m b a v ≡ write_banks c m' b a v
  unfolding write_banks
  write_same b a v = rw (s.entries_agree a) (applied_same b (effect_at c m' b a v))

  record_same : (b : Banks) (t : Settings) (e : Event) → record_of c m b t e ≡ record_of c m' b t e
  unfolding record_of due_byte
  record_same b t event.Nothing = refl
  record_same b t (event.Whole read a v) = rw (s.entries_agree a)
  record_same b t (event.Aborted a bits in_data) = refl
  record_same b t event.Ended = refl

  rise_same : (armed : Bool) (b : Banks) → rise_banks c m armed b ≡ rise_banks c m' armed b
  unfolding rise_banks
  rise_same armed b = rw (f, transferred_same b)

  after_same : (armed : Bool) (b : Banks) (e : Event) → banks_after c m armed b e ≡ banks_after c m' armed b e
  unfolding banks_after
  after_same armed b event.Nothing = refl
  after_same armed b (event.Whole read a v) = rw (write_same b a v)
  after_same armed b (event.Aborted a bits in_data) = rise_same armed b
  after_same armed b event.Ended = rise_same armed b

  armed_by_same : (armed : Bool) (e : Effect) → armed_by c m armed e ≡ armed_by c m' armed e
  unfolding armed_by
  armed_by_same armed Nothing = refl
  armed_by_same armed (Byte false a byte moved) = refl
  armed_by_same armed (Byte true a byte moved) = rw f
  armed_by_same armed Control = refl
  armed_by_same armed Transfer = refl
  armed_by_same armed Reset = refl
  armed_by_same armed Ignored = refl

  armed_same : (armed : Bool) (b : Banks) (e : Event) → armed_after c m armed b e ≡ armed_after c m' armed b e
  unfolding armed_after
  armed_same armed b event.Nothing = refl
  armed_same armed b (event.Whole read a v) = rw (s.entries_agree a, armed_by_same armed (effect_at c m' b a v))
  armed_same armed b (event.Aborted a bits in_data) = refl
  armed_same armed b event.Ended = refl

  touched_same : (ws : List ℕ) (b : Banks) (e : Event) → touched_after c m ws b e ≡ touched_after c m' ws b e
  unfolding touched_after
  touched_same ws b event.Nothing = refl
  touched_same ws b (event.Whole read a v) = rw (s.entries_agree a)
  touched_same ws b (event.Aborted a bits in_data) = refl
  touched_same ws b event.Ended = refl

  one_same : (w : ReaderState) (x : ℕ) → reader_state_after c m w x ≡ reader_state_after c m' w x
  one_same w x =
      let e = event_of c w.session.port x in
      rw (after_same w.session.armed w.banks e, armed_same w.session.armed w.banks e, touched_same w.touched w.banks e)

  run_same : (w : ReaderState) (xs : List ℕ) → run_of c m w xs ≡ run_of c m' w xs
  unfolding run_of
  run_same w [] = refl
  run_same w (x ∷ xs) = run_same (reader_state_after c m w x) xs ∙ ap (λ (v : ReaderState). run_of c m' v xs) (one_same w x)

  records_same : (w : ReaderState) (xs : List ℕ) → records_of c m w xs ≡ records_of c m' w xs
  unfolding records_of
  records_same w [] = refl
  records_same w (x ∷ xs) =
      rw (record_same w.banks w.session.port.settings (event_of c w.session.port x), records_same (reader_state_after c m w x) xs, one_same w x)

-- the top is tested by the count
top_same : (c : Chip) (m m' : List ℕ) → SameRegisters m m' → top_fits c m ≡ top_fits c m'
top_same Newer m m' s = refl
top_same (Older part top) m m' s = rw s.same_count

pub same_map : SameMap
unfolding open_of open_number read_of read_number
same_map c m m' s f n = record {
  opened = λ b. rw (n, top_same c m m' s, opened_same c m m' s f, s.same_count);
  read = λ w xs records. rw (n, top_same c m m' s, s.same_count, run_same c m m' s f w xs, records_same c m m' s f w xs);
}

pub converted_alike : ConvertedAlike
converted_alike version wished m room bytes z =
    let made = converted_maps version wished m room bytes z in
    same_map Newer m _ made.same_registers (sym made.same_flags) ((convert_tests version m room z).good ∙ sym made.good)
