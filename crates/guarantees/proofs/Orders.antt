-- An accepted order, read by a session at rest with the same settings and stopped after any number of its samples: what happens is its whole
-- bytes, in order, as many as the formula says.
use Prim.Native.Nat.{ℕ, zero, suc, ◌-◌, ◌/◌, ◌<◌, ◌≤◌, min}
use mathlib.Core.Path.{◌≡◌, refl, sym, ap, ◌∙◌}
use mathlib.Core.Bool.{Bool, true, false, cond, false≢true}
use mathlib.Core.List.{List, [], ◌∷◌, ◌++◌, append_assoc, map}
use native.Mathlib.Nat.{min-zero, suc-min-suc}
use native.Mathlib.Omega.{arith}
use lib.Dec.{ltb}
use lib.ListN.{length, length-append, take}
use lib.Seq.{take-nil, take-append-le}
use borrow.Author.Tests.{ltb-true}
use Rattle.base_bits.specs.Bits.{bit_at}
use Rattle.base_bits.proofs.Cases.{each}
use Rattle.base_chip.specs.declared.Chip.{Chip}
use Rattle.base_chip.specs.declared.Chip.TheVariants.{Newer, Older}
use Rattle.bus_settings.specs.declared.Settings.{Settings}
use Rattle.bus_settings.specs.declared.InUse.{InUse}
use Rattle.bus_settings.specs.Settings.{in_use_of, counting}
use Rattle.bus_session.specs.declared.Port.{Port}
use Rattle.bus_session.specs.declared.Event.{Event}
use Rattle.bus_session.specs.State.{resting, starting, in_data}
use Rattle.bus_session.specs.Step.{step_of}
use Rattle.bus_session.specs.Event.{event_of}
use Rattle.bus_session.proofs.Form.{rest_form}
use Rattle.bus_session.proofs.Laws.{port_sound}
use Rattle.read_run.specs.Reading.{ReaderState}
use Rattle.send_order.specs.Order.{Order, RunByte, is_read, is_single, run_from, sent_bytes, run_bytes}
use Rattle.send_order.specs.Samples.{bits_of, instruction_of, length_and_address, run_bits, order_bits, clocked, samples_of}
use Rattle.send_order.proofs.Laws.{length_sent, top_low, older_start, admitted}
use Rattle.guarantees.specs.AtRest.{AtRest, Accepted}
use Rattle.guarantees.specs.Book.{whole_bytes}
use Rattle.guarantees.proofs.Events.{events_of}
use Rattle.guarantees.proofs.Pieces.{left_of, highest, TopFits, stopped_instruction}
use Rattle.guarantees.proofs.Runs.{whole_of, AllFit, Goes, clocked_then, period, ending, run_events}
use Rattle.guarantees.proofs.Fit.{order_fits}
use Rattle.guarantees.proofs.Goes.{newer_goes, instruction_leaves, older_goes}

-- whole bytes after j samples behind the first one
abbrev whole_in : Bool → ℕ → ℕ
whole_in single j = cond single (j / 48) ((j - 32) / 16)

-- the bits of a run, with the instruction that a stream begins with
abbrev pub bits_from : Bool → Bool → Bool → ℕ → List RunByte → List Bool
bits_from single read lsb x ps = cond single [] (bits_of lsb 16 (instruction_of read x)) ++ run_bits single read lsb ps

-- what a run of k bytes from an address on finds on a chip, so that it goes to its last byte
pub record Ready (c : Chip) (t : Settings) (k a : ℕ) (vs : List ℕ) : Type 0 where
  pub top : TopFits c
  pub start : a ≤ highest c
  pub some : 1 ≤ length vs
  pub goes : Goes c (in_use_of t) (left_of c k) a vs

-- with single instruction there is nothing left: it is a newer chip's
pub single_leaves : (c : Chip) (u : InUse) (k : ℕ) → (counting c u).single_instruction ≡ true → left_of c k ≡ 0
single_leaves Newer u k e = refl
single_leaves (Older part top) u k e = absurd (false≢true e)

-- from the start of the first instruction, by the session's own settings
from_start :
    (c : Chip) (read : Bool) (t : Settings) (k a j : ℕ) (vs : List ℕ) → Ready c t k a vs
    → AllFit c read (in_use_of t) t (run_from (counting c (in_use_of t)).ascending a vs)
    → events_of c (starting false t)
    (take j
    (clocked
    (bits_from (counting c (in_use_of t)).single_instruction read t.lsb_first (length_and_address c k a)
    (run_from (counting c (in_use_of t)).ascending a vs)) ++ ending))
    ≡ map (whole_of read) (take (whole_in (counting c (in_use_of t)).single_instruction j) (run_from (counting c (in_use_of t)).ascending a vs))
from_start c read t k a j [] r fit = absurd (omega (arith, r.some))
from_start c read t k a j (v ∷ vs) r fit =
    by_mode (counting c (in_use_of t)).single_instruction
    (λ i sclk. run_events c read (in_use_of t) vs v t a (left_of c k) i sclk fit r.goes (single_leaves c (in_use_of t) k))
  where
    ps : List RunByte
    ps = run_from (counting c (in_use_of t)).ascending a (v ∷ vs)

    samples : Bool → List ℕ
    samples single = clocked (run_bits single read t.lsb_first ps) ++ ending

    entered : Port
    entered = in_data true 0 0 a read (left_of c k) t (in_use_of t)

    later : List Event
    later = events_of c entered (take (j - 32) (samples false))

    -- in a stream nothing happens in the instruction
    by_size :
        (short : Bool) → ltb j 32 ≡ short → later ≡ map (whole_of read) (take ((j - 32) / 16) ps)
        → cond short [] later ≡ map (whole_of read) (take ((j - 32) / 16) ps)
    by_size true h e = let none : (j - 32) / 16 ≡ 0 = omega (arith, ltb-true j 32 h) in rw none
    by_size false h e = e

    by_mode :
        (single : Bool)
        → ((i : ℕ) (sclk : Bool)
        → events_of c (cond single (starting sclk t) (in_data sclk 0 0 a read (left_of c k) t (in_use_of t))) (take i (samples single))
        ≡ map (whole_of read) (take (i / period single) ps))
        → events_of c (starting false t) (take j (clocked (bits_from single read t.lsb_first (length_and_address c k a) ps) ++ ending))
        ≡ map (whole_of read) (take (whole_in single j) ps)
    by_mode true bytes = bytes j false
    by_mode false bytes =
        ap (λ (l : List ℕ). events_of c (starting false t) (take j l))
        (clocked_then (bits_of t.lsb_first 16 (instruction_of read (length_and_address c k a))) (run_bits false read t.lsb_first ps) ending)
        ∙ stopped_instruction c k read t (in_use_of t) a r.top r.start j false (samples false)
        ∙ by_size (ltb j 32) refl (bytes (j - 32) true)

first_sample : (c : Chip) (sclk : Bool) (t : Settings) (xs : List ℕ) → events_of c (resting sclk t) (0x00 ∷ xs) ≡ events_of c (starting false t) xs
unfolding events_of step_of event_of bit_at
first_sample c sclk t xs = refl

past_first : (single : Bool) (j : ℕ) → cond single ((suc j - 1) / 48) ((suc j - 33) / 16) ≡ whole_in single j
past_first true j = omega arith
past_first false j = omega arith

take_min : {A : Type 0} (n : ℕ) (l : List A) → take (min (length l) n) l ≡ take n l
take_min n [] = take-nil (min 0 n) ∙ sym (take-nil n)
take_min zero (x ∷ l) = ap (λ (k : ℕ). take k (x ∷ l)) (min-zero (suc (length l)))
take_min {A} (suc n) (x ∷ l) =
    ap (λ (k : ℕ). take k (x ∷ l)) (suc-min-suc (length l) n) ∙ ap {B = List A} (λ (r : List A). x ∷ r) (take_min n l)

-- an accepted order finds all that
pub order_ready : (c : Chip) (m : List ℕ) (w : ReaderState) (o : Order) (room : ℕ) → AtRest c m w o → Accepted c o room
    → Ready c w.session.port.settings o.count o.start (sent_bytes o)
order_ready Newer m w o room rest accepted =
    let a = admitted Newer o room accepted.number in
    record {
      top = tt;
      start = a.start;
      some = omega (arith, a.count.some, length_sent (is_read o) o.count o.bytes a.count.data_length);
      goes = newer_goes (in_use_of w.session.port.settings) (sent_bytes o) 0 o.start;
    }
order_ready (Older part top) m w o room rest accepted =
    let a = admitted (Older part top) o room accepted.number in
    let low = top_low part top a.top in
    let sent = length_sent (is_read o) o.count o.bytes a.count.data_length in
    record {
      top = low;
      start = older_start part top o a.count a.addresses;
      some = omega (arith, a.count.some, sent);
      goes = older_goes part top (in_use_of w.session.port.settings) (sent_bytes o) _ o.start (omega (arith, low))
          (rw sent (instruction_leaves o.count a.count.some)) (rw rest.same_lsb at a.addresses);
    }

-- the samples of an order but the last, which raises the select
abbrev pub unraised : Chip → Order → List ℕ
unraised c o = 0x00 ∷ (clocked (order_bits c o) ++ ending)

pub raised_last : (c : Chip) (o : Order) → samples_of c o ≡ unraised c o ++ (0x01 ∷ [])
unfolding samples_of
raised_last c o = ap {B = List ℕ} (λ (l : List ℕ). 0x00 ∷ l) (sym (append_assoc (clocked (order_bits c o)) ending (0x01 ∷ [])))

pub take_unraised : (c : Chip) (o : Order) (s : ℕ) → s < length (samples_of c o) → take s (samples_of c o) ≡ take s (unraised c o)
take_unraised c o s h =
    ap (take s) (raised_last c o)
    ∙ take-append-le s (unraised c o) (0x01 ∷ []) (omega (arith, ap length (raised_last c o), length-append (unraised c o) (0x01 ∷ [])))

-- the port of a session at rest
pub rest_port : (c : Chip) (m : List ℕ) (w : ReaderState) (o : Order) → AtRest c m w o
    → w.session.port ≡ resting w.session.port.sclk w.session.port.settings
rest_port c m w o rest = rest_form c w.session.port (port_sound c w.session rest.sound) rest.at_rest rest.deselected

pub order_events :
    (c : Chip) (m : List ℕ) (w : ReaderState) (o : Order) (room : ℕ) → AtRest c m w o → Accepted c o room → (s : ℕ)
    → events_of c w.session.port (take s (unraised c o)) ≡ map (whole_of (is_read o)) (take (whole_bytes c o s) (run_bytes c o))
unfolding order_bits whole_bytes events_of
order_events c m w o room rest accepted s =
    rw (rest_port c m w o rest, take_min) (by_stop s)
  where
    by_stop :
        (s : ℕ)
        → events_of c (resting w.session.port.sclk w.session.port.settings) (take s (unraised c o))
        ≡ map (whole_of (is_read o)) (take (cond (is_single c o) ((s - 1) / 48) ((s - 33) / 16)) (run_bytes c o))
    by_stop zero = each (λ (n : ℕ). [] ≡ map (whole_of (is_read o)) (take n (run_bytes c o))) (is_single c o) (λ e. refl) (λ e. refl)
    by_stop (suc j) =
        first_sample c w.session.port.sclk w.session.port.settings (take j (clocked (order_bits c o) ++ ending))
        ∙ rw (past_first, rest.same_direction, rest.same_single, rest.same_lsb)
        (from_start c (is_read o) w.session.port.settings o.count o.start j (sent_bytes o)
        (order_ready c m w o room rest accepted) (order_fits c m w o room rest accepted))
