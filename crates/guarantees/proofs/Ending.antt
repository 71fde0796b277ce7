-- The end of an order: behind its bits no counted run is left, so that the select's rise ends the frame.
use Prim.Native.Nat.{ℕ}
use mathlib.Core.Path.{◌≡◌, refl, ap, ◌∙◌}
use mathlib.Core.Bool.{Bool, true, false, cond, and-false}
use mathlib.Core.List.{List, [], ◌∷◌, ◌++◌, foldl}
use native.Mathlib.Omega.{arith}
use lib.Dec.{eqb}
use lib.ListN.{length}
use Rattle.base_bits.specs.Bits.{bit_at}
use Rattle.base_bits.proofs.Cases.{each}
use Rattle.base_chip.specs.declared.Part.{Part}
use Rattle.base_chip.specs.declared.Chip.{Chip}
use Rattle.base_chip.specs.declared.Chip.TheVariants.{Newer, Older}
use Rattle.bus_settings.specs.declared.Settings.{Settings}
use Rattle.bus_settings.specs.Settings.{in_use_of, counting}
use Rattle.bus_session.specs.declared.Port.{Port}
use Rattle.bus_session.specs.State.{at_levels, resting, starting, in_data, is_counted}
use Rattle.bus_session.specs.Step.{step_of}
use Rattle.bus_session.specs.Event.{event_of}
use Rattle.bus_session.proofs.Laws.{port_sound}
use Rattle.read_records.specs.Records.{records_in}
use Rattle.read_run.specs.Reading.{ReaderState, reader_state_after, run_of}
use Rattle.send_order.specs.Order.{Order, RunByte, is_read, sent_bytes, run_from}
use Rattle.send_order.specs.Samples.{bits_of, instruction_of, length_and_address, run_bits, clocked, order_bits}
use Rattle.send_order.proofs.Laws.{clocked_append, length_sent, admitted}
use Rattle.guarantees.specs.AtRest.{AtRest, Accepted}
use Rattle.guarantees.proofs.Pieces.{left_of, stepped_instruction}
use Rattle.guarantees.proofs.Runs.{AllFit, fold_append, ending, run_no_bits}
use Rattle.guarantees.proofs.Fit.{order_fits}
use Rattle.guarantees.proofs.Goes.{Remaining, instruction_leaves, newer_left, older_left}
use Rattle.guarantees.proofs.Orders.{bits_from, single_leaves, Ready, order_ready, rest_port, unraised}
use Rattle.guarantees.proofs.Calls.{run_append}
use Rattle.guarantees.proofs.Done.{run_sound, rest_sound}
use Rattle.guarantees.proofs.Raise.{raise_no_record}

-- at the end CSB is low and then rises, and where no counted run is left that ends the frame
pub end_rests : (c : Chip) (s : Port) → is_counted s.left ≡ false → step_of c (step_of c s 0x00) 0x01 ≡ resting false s.settings
unfolding step_of bit_at
end_rests c s h = by_levels s.csb s.sclk
  where
    by_levels : (csb sclk : Bool) → step_of c (step_of c (at_levels s csb sclk) 0x00) 0x01 ≡ resting false s.settings
    by_levels true sclk = each (λ (t : Port). step_of c t 0x01 ≡ resting false s.settings) (eqb s.left 0) (λ e. refl) (λ e. rw h)
    by_levels false true = rw h
    by_levels false false = rw h

-- the port alone decides the next one
run_port : (c : Chip) (m : List ℕ) (w : ReaderState) (xs : List ℕ) → (run_of c m w xs).session.port ≡ foldl (step_of c) w.session.port xs
unfolding run_of
run_port c m w [] = refl
run_port c m w (x ∷ xs) = run_port c m (reader_state_after c m w x) xs

-- the bits of a stream on an older chip
older_none : (part : Part) (top : ℕ) (read : Bool) (t : Settings) (k a : ℕ) (vs : List ℕ) → Ready (Older part top) t k a vs
    → AllFit (Older part top) read (in_use_of t) t (run_from t.lsb_first a vs) → Remaining (length vs) (left_of (Older part top) k)
    → is_counted
    (foldl (step_of (Older part top)) (starting false t)
    (clocked
    (bits_of t.lsb_first 16 (instruction_of read (length_and_address (Older part top) k a)) ++ run_bits false read t.lsb_first
    (run_from t.lsb_first a vs)))).left
    ≡ false
older_none part top read t k a [] r fit left = absurd (omega (arith, r.some))
older_none part top read t k a (v ∷ vs) r fit left =
    let step = step_of (Older part top) in
    let instruction = bits_of t.lsb_first 16 (instruction_of read (length_and_address (Older part top) k a)) in
    let rest = run_bits false read t.lsb_first (run_from t.lsb_first a (v ∷ vs)) in
    ap (λ (s : Port). is_counted s.left)
    (ap (foldl step (starting false t)) (clocked_append instruction rest)
    ∙ fold_append step (starting false t) (clocked instruction) (clocked rest)
    ∙ ap (λ (s : Port). foldl step s (clocked rest)) (stepped_instruction (Older part top) k read t (in_use_of t) a r.top r.start false))
    ∙ older_left part top read (in_use_of t) vs v t a (left_of (Older part top) k) true fit r.goes left

-- behind the bits of an order no counted run is left
pub no_run_left : (c : Chip) (m : List ℕ) (w : ReaderState) (o : Order) (room : ℕ) → AtRest c m w o → Accepted c o room
    → is_counted (run_of c m w (0x00 ∷ clocked (order_bits c o))).session.port.left ≡ false
unfolding order_bits step_of bit_at
no_run_left Newer m w o room rest accepted =
    newer_left _ (port_sound Newer _ (run_sound Newer m w (0x00 ∷ clocked (order_bits Newer o)) (rest_sound Newer m w o rest)).session_sound)
no_run_left (Older part top) m w o room rest accepted =
    let c = Older part top in
    let count = (admitted c o room accepted.number).count in
    let sent = length_sent (is_read o) o.count o.bytes count.data_length in
    ap (λ (s : Port). is_counted s.left)
    (run_port c m w (0x00 ∷ clocked (order_bits c o))
    ∙ ap (λ (s : Port). foldl (step_of c) s (0x00 ∷ clocked (order_bits c o))) (rest_port c m w o rest))
    ∙ rw rest.same_lsb
    (older_none part top (is_read o) w.session.port.settings o.count o.start (sent_bytes o)
    (order_ready c m w o room rest accepted) (order_fits c m w o room rest accepted) (rw sent (instruction_leaves o.count count.some)))

-- ---- and no bit of a next piece is taken

start_no_bits :
    (c : Chip) (read : Bool) (t : Settings) (k a : ℕ) (vs : List ℕ) → Ready c t k a vs
    → AllFit c read (in_use_of t) t (run_from (counting c (in_use_of t)).ascending a vs)
    → (foldl (step_of c) (starting false t)
    (clocked
    (bits_from (counting c (in_use_of t)).single_instruction read t.lsb_first (length_and_address c k a)
    (run_from (counting c (in_use_of t)).ascending a vs)))).bits
    ≡ 0
start_no_bits c read t k a [] r fit = absurd (omega (arith, r.some))
start_no_bits c read t k a (v ∷ vs) r fit =
    by_mode (counting c (in_use_of t)).single_instruction
    (λ sclk. run_no_bits c read (in_use_of t) vs v t a (left_of c k) sclk fit r.goes (single_leaves c (in_use_of t) k))
  where
    ps : List RunByte
    ps = run_from (counting c (in_use_of t)).ascending a (v ∷ vs)

    instruction : List Bool
    instruction = bits_of t.lsb_first 16 (instruction_of read (length_and_address c k a))

    by_mode :
        (single : Bool)
        → ((sclk : Bool)
        → (foldl (step_of c) (cond single (starting sclk t) (in_data sclk 0 0 a read (left_of c k) t (in_use_of t)))
        (clocked (run_bits single read t.lsb_first ps))).bits
        ≡ 0)
        → (foldl (step_of c) (starting false t) (clocked (bits_from single read t.lsb_first (length_and_address c k a) ps))).bits ≡ 0
    by_mode true bytes = bytes false
    by_mode false bytes =
        ap (λ (s : Port). s.bits)
        (ap (foldl (step_of c) (starting false t)) (clocked_append instruction (run_bits false read t.lsb_first ps))
        ∙ fold_append (step_of c) (starting false t) (clocked instruction) (clocked (run_bits false read t.lsb_first ps))
        ∙ ap (λ (s : Port). foldl (step_of c) s (clocked (run_bits false read t.lsb_first ps)))
        (stepped_instruction c k read t (in_use_of t) a r.top r.start false))
        ∙ bytes true

order_no_bits : (c : Chip) (m : List ℕ) (w : ReaderState) (o : Order) (room : ℕ) → AtRest c m w o → Accepted c o room
    → (run_of c m w (0x00 ∷ clocked (order_bits c o))).session.port.bits ≡ 0
unfolding order_bits step_of bit_at
order_no_bits c m w o room rest accepted =
    ap (λ (s : Port). s.bits)
    (run_port c m w (0x00 ∷ clocked (order_bits c o))
    ∙ ap (λ (s : Port). foldl (step_of c) s (0x00 ∷ clocked (order_bits c o))) (rest_port c m w o rest))
    ∙ rw (rest.same_direction, rest.same_single, rest.same_lsb)
    (start_no_bits c (is_read o) w.session.port.settings o.count o.start (sent_bytes o)
    (order_ready c m w o room rest accepted) (order_fits c m w o room rest accepted))

-- a low sample takes none
low_no_bits : (c : Chip) (s : Port) → s.bits ≡ 0 → (step_of c s 0x00).bits ≡ 0
unfolding step_of bit_at
low_no_bits c s e = by_csb s.csb refl
  where
    by_csb : (csb : Bool) → s.csb ≡ csb → (step_of c s 0x00).bits ≡ 0
    by_csb true ec = rw ec (each (λ (t : Port). t.bits ≡ 0) (eqb s.left 0) (λ _. refl) (λ _. e))
    by_csb false ec = rw (ec, and-false) e

-- so the raise at the end breaks nothing off
pub end_no_record : (c : Chip) (m : List ℕ) (w : ReaderState) (o : Order) (room : ℕ) → AtRest c m w o → Accepted c o room
    → records_in (event_of c (run_of c m w (unraised c o)).session.port 0x01) ≡ 0
unfolding run_of bit_at
end_no_record c m w o room rest accepted =
    ap (λ (v : ReaderState). records_in (event_of c v.session.port 0x01)) (run_append c m w (0x00 ∷ clocked (order_bits c o)) ending)
    ∙ raise_no_record 0x01 refl c _ (low_no_bits c _ (order_no_bits c m w o room rest accepted))
