-- A turn gives what its definitions say, the quick way and the other.
use mathlib.Core.Path.{◌≡◌, sym, ◌∙◌, ap, ap₂}
use mathlib.Core.Bool.{Bool, true}
use mathlib.Core.List.{List, []}
use Prim.Native.Nat.{ℕ, ◌+◌, ◌<◌}
use native.Mathlib.Nat.{add-zero}
use lib.Dec.{eqb}
use lib.ListN.{length, get_or}
use lib.Seq.{sets}
use Rattle.bus_session.specs.Step.{sclk_of}
use Rattle.bus_session_bytes.specs.Layout.{session_of}
use Rattle.reg_banks.specs.Banks.{banks}
use Rattle.reg_ranges.specs.Ranges.{part, placed}
use Rattle.reg_ranges.proofs.Laws.{placed_same}
use Rattle.several_chips.specs.declared.Member.{Member}
use Rattle.several_chips.specs.declared.Turn.{Turn}
use Rattle.several_chips.specs.declared.step.Moved.{Moved}
use Rattle.several_chips.specs.Samples.{seen_by}
use Rattle.several_chips.specs.State.{joined_records}
use Rattle.several_chips.specs.Members.{state_of}
use Rattle.several_chips.specs.Promises.{sample_at, next_turn, turn_record, Stepping, HasStepped}
use Rattle.several_chips.specs.Step.{only_levels, with_clock, HasMoved}
use Rattle.several_chips.proofs.Still.{still_member, still_banks, still_record}

module _ {m : List ℕ} {w : Member} {mem bytes old : List ℕ} {t : Turn} (ready : Stepping m w mem bytes old t) (chips : ℕ) where
  -- the banks of a chip, put back, are the memory
  same_memory : mem ≡ placed mem w.active_start w.buffer_start (state_of mem w).banks
  same_memory =
      sym (placed_same ready.within)
      ∙ ap (placed mem w.active_start w.buffer_start)
      (ap₂ (λ (k n : ℕ). banks (part mem k w.active_start) (part mem n w.buffer_start)) (sym ready.active_size) (sym ready.buffer_size))

  -- the quick way: one byte of the chip
  pub stepped_still : {seen : ℕ} {only sclk : Bool} {r : Member} {next : Turn} → ((j : ℕ) → get_or w.session j 0 < 256)
      → only ≡ only_levels (eqb (get_or w.session 1 0) 1) (eqb (get_or w.session 2 0) 1) seen → only ≡ true
      → seen ≡ seen_by t.chip (sample_at bytes t.sample)
      → sclk ≡ sclk_of seen → r ≡ with_clock w sclk → next ≡ next_turn chips t t.at
      → HasStepped m w chips mem bytes old t (record { member = r; turn = next }) mem old
  unfolding session_of joined_records
  stepped_still small eo taken ex ek er en =
      let x = sample_at bytes t.sample in
      let only : only_levels (eqb (get_or w.session 1 0) 1) (eqb (get_or w.session 2 0) 1) (seen_by t.chip x) ≡ true = rw ex at (sym eo ∙ taken) in
      let none : turn_record m w mem bytes t ≡ [] = ap joined_records (still_record m mem t.chip w x only) in
      record {
        member_after = er ∙ ap (with_clock w) (ek ∙ ap sclk_of ex) ∙ sym (still_member m mem t.chip w x only ready.sound small);
        memory_after = same_memory ∙ ap (placed mem w.active_start w.buffer_start) (sym (still_banks m mem t.chip w x only));
        records_after = ap (sets old t.at) (sym none);
        turn_is = en ∙ ap (next_turn chips t) (sym (ap (λ (k : List ℕ). t.at + length k) none ∙ add-zero t.at));
      }

  -- the other: what the sample makes of the chip
  pub stepped_moved : {moved : Moved} {memory new : List ℕ} {next : Turn} → HasMoved m w mem (sample_at bytes t.sample) t.chip old t.at moved memory new
      → next ≡ next_turn chips t moved.at → HasStepped m w chips mem bytes old t (record { member = moved.member; turn = next }) memory new
  stepped_moved done en = record {
    member_after = done.member_after;
    memory_after = done.memory_after;
    records_after = done.records_after;
    turn_is = en ∙ ap (next_turn chips t) done.next_place;
  }
