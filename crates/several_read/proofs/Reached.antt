-- What the loop over the turns keeps, and what a call that is refused leaves.
use mathlib.Core.Path.{◌≡◌, refl, sym, ap, ◌∙◌, subst}
use mathlib.Core.List.{List}
use Prim.Native.Nat.{ℕ, ◌+◌, ◌*◌, ◌-◌, ◌/◌, ◌<◌, ◌≤◌}
use native.Mathlib.Omega.{arith}
use borrow.Author.Tests.{eq-eqb}
use lib.Dec.{ltb}
use lib.ListN.{length, get_or, set, length-set}
use lib.Seq.{length-sets}
use Rattle.base_bits.proofs.Cases.{yes, each}
use Rattle.base_numbers.specs.declared.Refusal.{Refusal}
use Rattle.base_numbers.specs.Numbers.{refusal_number}
use Rattle.base_numbers.proofs.Numbers.{not_done}
use Rattle.reg_ranges.proofs.Laws.{length_placed}
use Rattle.several_chips.specs.declared.Member.{Member}
use Rattle.several_chips.specs.declared.Turn.{Turn}
use Rattle.several_chips.specs.declared.Stepped.{Stepped}
use Rattle.several_chips.specs.Promises.{turn, turn_after, state_after_turn, turn_record, Stepping, HasStepped, AllBytes}
use Rattle.several_chips.specs.Numbers.{several_number, several_record_size}
use Rattle.several_chips.specs.Calls.{several_outcome, several_of}
use Rattle.several_chips.proofs.SeveralTests.{SeveralTests, several_tests}
use Rattle.several_chips.proofs.Kept.{state_sound, banks_sized}
use Rattle.several_read.proofs.Turns.{Going, going_begun, going_asked, going_stepped, going_ended}

pub record Reached (m : List ℕ) (ws : List Member) (mem bytes old : List ℕ) (t : Turn) (cur : List Member) (memory new : List ℕ) : Type 0 where
  pub same : length cur ≡ length ws
  pub same_memory : length memory ≡ length mem
  pub same_records : length new ≡ length old
  pub going : Going m ws mem bytes old t cur memory new

-- what is left of the turns, which falls
abbrev pub turns_left : ℕ → Turn → ℕ
turns_left end t = (end - t.sample) * 8 + (8 - t.chip)

-- the next turn is nearer to the end
falls : (end chips : ℕ) (t : Turn) (size : ℕ) → t.sample < end → t.chip < 8 → turns_left end (turn_after chips t size) < turns_left end t
falls end chips t size less few =
    each (λ (t' : Turn). turns_left end t' < turns_left end t) (ltb (t.chip + 1) chips) (λ e. omega (arith, less, few)) (λ e. omega (arith, less, few))

-- a call that is refused leaves all as it was
pub refused : (m : List ℕ) (ws : List Member) (mem bytes old : List ℕ) (e : Refusal) → refusal_number e ≡ several_number m ws (length mem) bytes (length old)
    → several_outcome (refusal_number e) ws mem 0 old ≡ several_of m ws mem bytes old
unfolding several_of
refused m ws mem bytes old e known = rw (sym known, not_done e) refl

module _ (m : List ℕ) (ws : List Member) (mem bytes old : List ℕ) (known : 0 ≡ several_number m ws (length mem) bytes (length old)) where
  abbrev At : Turn → List Member → List ℕ → List ℕ → Type 0
  At t cur memory new = Reached m ws mem bytes old t cur memory new

  abbrev end : ℕ
  end = length bytes / 2

  ok : SeveralTests m ws (length mem) bytes (length old)
  ok = several_tests m ws (length mem) bytes (length old) (sym known)

  pub turns_begun : AllBytes ws → At (turn 0 0 0) ws mem old
  turns_begun small = record { same = refl; same_memory = refl; same_records = refl; going = going_begun m ws mem bytes old ok small }

  module _ {t : Turn} {cur : List Member} {memory new : List ℕ} (r : At t cur memory new) where
    pub ended : end ≤ t.sample → several_outcome 0 cur memory (t.at / several_record_size) new ≡ several_of m ws mem bytes old
    unfolding several_of
    ended over = yes _ (eq-eqb _ _ (sym known)) (going_ended m ws mem bytes old ok r.going over)

    module _ (less : t.sample < end) where
      pub chip_in : t.chip < length cur
      chip_in = omega (arith, r.same, r.going.chip_in)

      pub asked : (d : Member) → Stepping m (get_or cur t.chip d) memory bytes new t
      asked d = going_asked m ws mem bytes old ok r.going less d

      module _ (d : Member) {after : Stepped} {memory' new' : List ℕ}
          (h : HasStepped m (get_or cur t.chip d) (length cur) memory bytes new t after memory' new') where
        abbrev w : Member
        w = get_or cur t.chip d

        pub stepped : At after.turn (set cur t.chip after.member) memory' new'
        stepped = record {
          same = length-set cur t.chip after.member ∙ r.same;
          same_memory =
              ap length h.memory_after ∙ length_placed memory w.active_start w.buffer_start (state_after_turn m w memory bytes t).banks
              ∙ r.same_memory;
          same_records = ap length h.records_after ∙ length-sets new t.at (turn_record m w memory bytes t) ∙ r.same_records;
          going =
              going_stepped m ws mem bytes old ok r.going less d (λ mem' u y. state_sound m mem' u t.chip y)
              (λ k y. banks_sized m t.chip k y) h;
        }

        pub nearer : turns_left end after.turn < turns_left end t
        nearer =
            subst (λ (t' : Turn). turns_left end t' < turns_left end t) (sym h.turn_is)
            (falls end (length cur) t (length (turn_record m w memory bytes t)) less (asked d).number)
