-- The companions of the stopped run: before the raise both stages are those of the whole bytes, which change what is in force of a buffered
-- register at a transfer alone; and the raise moves the buffer stage or changes nothing.
use mathlib.Core.Path.{◌≡◌, refl, ap, sym, ◌∙◌}
use mathlib.Core.Bool.{false}
use mathlib.Core.List.{List}
use Prim.Native.Nat.{ℕ}
use lib.ListN.{take}
use Rattle.base_bits.proofs.Cases.{and_right}
use Rattle.base_chip.specs.declared.Chip.{Chip}
use Rattle.reg_banks.specs.Banks.{transferred}
use Rattle.reg_write.specs.Rise.{moves_at_rise, rise_banks}
use Rattle.read_run.specs.Reading.{ReaderState}
use Rattle.send_order.specs.Order.{Order, RunByte, run_bytes}
use Rattle.guarantees.specs.Book.{whole_run, write_all, armed_all, book_of}
use Rattle.guarantees.specs.Calls.{Call, after_calls}
use Rattle.guarantees.specs.StoppedRun.{Run}
use Rattle.guarantees.specs.InForce.{any_reset, any_buffered, Unmoved, unraised, still, KeptInForce, LastTransfer, InForceAtRaise, AfterReset, BrokenByte}
use Rattle.guarantees.proofs.StoppedRun.{stopped_run, before_raise}
use Rattle.guarantees.proofs.Done.{rest_sound}
use Rattle.guarantees.proofs.Buffered.{in_force, transferred_at, mapped_all, kept_all, moved_last, armed_all_lem, after_whole_reset}

-- where the raise moves nothing, and before it, both stages are those of the whole bytes
unmoved :
    (c : Chip) (m : List ℕ) (w : ReaderState) (o : Order) (room s raise : ℕ) (calls : List Call) → Run c m w o room raise → Unmoved c m w o s raise calls
    → any_reset c (whole_run c o s) ≡ false
    → (after_calls c m w calls).banks ≡ write_all c m (whole_run c o s) w.banks
unfolding book_of rise_banks
unmoved c m w o room s raise calls run (unraised early read) calm = before_raise c m w o room s raise calls run early read
unmoved c m w o room s raise calls run (still none read) calm =
    (stopped_run c m w o room s raise calls run read).0
    ∙ rw (armed_all_lem c m (whole_run c o s) w.banks false calm, none) refl

pub kept_in_force : KeptInForce
kept_in_force c m w o room s raise calls a h quiet =
    ap (in_force a) (unmoved c m w o room s raise calls h.run h.read h.no_reset)
    ∙ kept_all c m a h.kind (whole_run c o s) w.banks h.no_reset quiet

pub last_transfer : LastTransfer
last_transfer c m w o room s raise calls a before transfer later h parts t quiet =
    ap (in_force a) (unmoved c m w o room s raise calls h.run h.read h.no_reset)
    ∙ ap (λ (ps : List RunByte). in_force a (write_all c m ps w.banks)) parts
    ∙ moved_last c m a h.kind before transfer later w.banks h.run.start.good_map (rest_sound c m w o h.run.start).mapped
    (rw parts at h.no_reset) t quiet

pub in_force_at_raise : InForceAtRaise
unfolding book_of rise_banks
in_force_at_raise c m w o room s raise calls a run read kind calm moves =
    let whole = write_all c m (whole_run c o s) w.banks in
    let moved : rise_banks c m (armed_all c m (whole_run c o s) w.banks false) whole ≡ transferred m whole =
    rw (armed_all_lem c m (whole_run c o s) w.banks false calm, moves, and_right (any_buffered m (whole_run c o s)) (moves_at_rise c m) moves) refl in
    ap (in_force a) ((stopped_run c m w o room s raise calls run read).0 ∙ moved)
    ∙ transferred_at c m a kind whole (mapped_all c m (whole_run c o s) w.banks (rest_sound c m w o run.start).mapped)

pub after_reset : AfterReset
unfolding book_of
after_reset c m w o room s raise calls before reset later run read parts r =
    (stopped_run c m w o room s raise calls run read).0
    ∙ ap (λ (ps : List RunByte). rise_banks c m (armed_all c m ps w.banks false) (write_all c m ps w.banks)) parts
    ∙ after_whole_reset c m before reset later w.banks run.start.good_map r

pub broken_byte : BrokenByte
unfolding book_of
broken_byte c m w o room s s' raise calls calls' run same read read' =
    (stopped_run c m w o room s raise calls run read).0
    ∙ ap (λ (k : ℕ). rise_banks c m (armed_all c m (take k (run_bytes c o)) w.banks false) (write_all c m (take k (run_bytes c o)) w.banks)) same
    ∙ sym (stopped_run c m w o room s' raise calls' run read').0
