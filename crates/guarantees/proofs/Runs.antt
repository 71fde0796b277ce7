-- A run of bytes, stopped after any number of its samples: what happens is its whole bytes, in order.
use Prim.Native.Nat.{ℕ, ◌-◌, ◌/◌, ◌<◌}
use mathlib.Core.Path.{◌≡◌, refl, sym, ap, ◌∙◌}
use mathlib.Core.Bool.{Bool, true, false, cond, false≢true}
use mathlib.Core.List.{List, [], ◌∷◌, ◌++◌, append_assoc, map, foldl}
use native.Mathlib.Nat.{div-eq_of_lt, div-eq-sub-div}
use native.Mathlib.Numerals.{add-one}
use native.Mathlib.Decide.{dec_lt}
use native.Mathlib.Omega.{arith}
use lib.Dec.{ltb}
use lib.ListN.{take}
use lib.Seq.{take-nil}
use borrow.Author.Tests.{lt-ltb, le-ltb, ltb-true, ltb-false}
use Rattle.base_bits.proofs.Cases.{each}
use Rattle.base_chip.specs.declared.Chip.{Chip}
use Rattle.base_chip.specs.declared.Chip.TheVariants.{Newer, Older}
use Rattle.bus_settings.specs.declared.Settings.{Settings}
use Rattle.bus_settings.specs.declared.InUse.{InUse}
use Rattle.bus_settings.specs.Settings.{in_use_of, none_in_use, counting, next_address}
use Rattle.bus_session.specs.declared.Phase.TheVariants.{Rest, Instruction, Data}
use Rattle.bus_session.specs.declared.Port.{Port}
use Rattle.bus_session.specs.declared.Event.{Event}
use Rattle.bus_session.specs.declared.Event.TheVariants.{Whole}
use Rattle.bus_session.specs.State.{instructing, starting, in_data}
use Rattle.bus_session.specs.Step.{runs_out, step_of}
use Rattle.bus_session.proofs.Form.{left_after}
use Rattle.send_order.specs.Order.{RunByte, run_from}
use Rattle.send_order.specs.Samples.{bits_of, instruction_of, byte_bits, run_bits, clocked}
use Rattle.send_order.proofs.Laws.{clocked_append}
use Rattle.guarantees.proofs.Events.{events_of, settings_on}
use Rattle.guarantees.proofs.Pieces.{after_whole, quiet_end, stopped_instruction, stepped_instruction, stopped_byte, stepped_byte}

-- the event of a byte of a run
abbrev pub whole_of : Bool → RunByte → Event
whole_of read p = Whole read p.address p.byte

-- What a byte of a run has, with the settings before it: a read sends zeros, and an instruction of its own finds the settings in use.
pub record Fits (c : Chip) (read : Bool) (u : InUse) (t : Settings) (p : RunByte) : Type 0 where
  pub near : p.address < 0x8000
  pub small : p.byte < 256
  pub zeros : cond read p.byte 0 ≡ 0
  pub steady : cond (counting c u).single_instruction (in_use_of t) u ≡ u

abbrev pub AllFit : Chip → Bool → InUse → Settings → List RunByte → Type 0
AllFit c read u t [] = Unit {0}
AllFit c read u t (p ∷ ps) = Fits c read u t p × AllFit c read u (settings_on c t (whole_of read p)) ps

-- The run does not end before its last byte: neither the count nor the end of the addresses comes sooner.
abbrev pub Goes : Chip → InUse → ℕ → ℕ → List ℕ → Type 0
Goes c u left a [] = Unit {0}
Goes c u left a (v ∷ []) = Unit {0}
Goes c u left a (v ∷ w ∷ vs) = (runs_out c left a u.lsb_first ≡ false) × Goes c u (left_after left) (next_address (counting c u).ascending a) (w ∷ vs)

pub clocked_then : (bs cs : List Bool) (more : List ℕ) → clocked (bs ++ cs) ++ more ≡ clocked bs ++ (clocked cs ++ more)
clocked_then bs cs more = rw clocked_append (append_assoc (clocked bs) (clocked cs) more)

pub fold_append : {A B : Type 0} (f : A → B → A) (a : A) (xs ys : List B) → foldl f a (xs ++ ys) ≡ foldl f (foldl f a xs) ys
fold_append f a [] ys = refl
fold_append f a (x ∷ xs) ys = fold_append f (f a x) xs ys

-- how many samples a byte has
abbrev pub period : Bool → ℕ
period single = cond single 48 16

period_pos : (single : Bool) → 0 < period single
period_pos true = omega arith
period_pos false = omega arith

-- an instruction and its byte, as one piece
two_pieces :
    {A : Type 0} (j : ℕ) (none : A) (some : ℕ → A)
    → cond (ltb j 32) none (cond (ltb (j - 32) 16) none (some (j - 32 - 16))) ≡ cond (ltb j 48) none (some (j - 48))
two_pieces j none some = by_tests (ltb j 32) (ltb j 48) refl refl
  where
    by_tests :
        (s t : Bool) → ltb j 32 ≡ s → ltb j 48 ≡ t
        → cond s none (cond (ltb (j - 32) 16) none (some (j - 32 - 16))) ≡ cond t none (some (j - 48))
    by_tests true true e f = refl
    by_tests true false e f = absurd (omega (arith, ltb-true j 32 e, ltb-false j 48 f))
    by_tests false true e f = rw (lt-ltb (j - 32) 16 (omega (arith, ltb-false j 32 e, ltb-true j 48 f)))
    by_tests false false e f =
        let same : j - 32 - 16 ≡ j - 48 = omega arith in
        rw (le-ltb (j - 32) 16 (omega (arith, ltb-false j 32 e, ltb-false j 48 f)), same)

-- before a byte: with single instruction in use, an instruction starts
abbrev pub ready : Chip → Bool → Bool → ℕ → Settings → InUse → ℕ → Port
ready c sclk read left t u a = cond (counting c u).single_instruction (starting sclk t) (in_data sclk 0 0 a read left t u)

module _ (c : Chip) (read : Bool) (u : InUse) (t : Settings) (left : ℕ) (p : RunByte) (fits : Fits c read u t p) where
  -- single instruction is a newer chip's: its instruction enters data with nothing left
  single_left : (counting c u).single_instruction ≡ true → left ≡ 0 → (j : ℕ) (sclk : Bool) (more : List ℕ)
      → events_of c (instructing sclk 0 0 t u) (take j (clocked (bits_of u.lsb_first 16 (instruction_of read p.address)) ++ more))
      ≡ cond (ltb j 32) [] (events_of c (in_data true 0 0 p.address read left t u) (take (j - 32) more))
  single_left e z j sclk more = by c e
    where
      by : (k : Chip) → (counting k u).single_instruction ≡ true
          → events_of k (instructing sclk 0 0 t u) (take j (clocked (bits_of u.lsb_first 16 (instruction_of read p.address)) ++ more))
          ≡ cond (ltb j 32) [] (events_of k (in_data true 0 0 p.address read left t u) (take (j - 32) more))
      by Newer e = rw z (stopped_instruction Newer 0 read t u p.address tt (omega (arith, fits.near)) j sclk more)
      by (Older part top) e = absurd (false≢true e)

  -- one byte of a run and what comes after it, stopped after j samples
  stopped_run_byte : ((counting c u).single_instruction ≡ true → left ≡ 0) → (j : ℕ) (sclk : Bool) (more : List ℕ)
      → events_of c (ready c sclk read left t u p.address) (take j (clocked (byte_bits (counting c u).single_instruction read u.lsb_first p) ++ more))
      ≡ cond (ltb j (period (counting c u).single_instruction)) []
      (whole_of read p ∷ events_of c (after_whole c read t u p.address left p.byte) (take (j - period (counting c u).single_instruction) more))
  unfolding byte_bits
  stopped_run_byte none j sclk more = by_mode (counting c u).single_instruction refl fits.steady
    where
      instruction : List Bool
      instruction = bits_of u.lsb_first 16 (instruction_of read p.address)

      byte : List Bool
      byte = bits_of u.lsb_first 8 p.byte

      then : ℕ → List Event
      then i = whole_of read p ∷ events_of c (after_whole c read t u p.address left p.byte) (take i more)

      by_mode : (single : Bool) → (counting c u).single_instruction ≡ single → cond single (in_use_of t) u ≡ u
          → events_of c (cond single (starting sclk t) (in_data sclk 0 0 p.address read left t u))
          (take j (clocked (cond single instruction [] ++ byte) ++ more))
          ≡ cond (ltb j (period single)) [] (then (j - period single))
      by_mode true m e =
          ap (λ (v : InUse). events_of c (instructing sclk 0 0 t v) (take j (clocked (instruction ++ byte) ++ more))) e
          ∙ ap (λ (l : List ℕ). events_of c (instructing sclk 0 0 t u) (take j l)) (clocked_then instruction byte more)
          ∙ single_left m (none m) j sclk (clocked byte ++ more)
          ∙ ap (λ (l : List Event). cond (ltb j 32) [] l)
          (stopped_byte c read t u p.address left p.byte fits.small fits.zeros (j - 32) true more)
          ∙ two_pieces j [] then
      by_mode false m e = stopped_byte c read t u p.address left p.byte fits.small fits.zeros j sclk more

  -- the port after one byte of a run
  stepped_run_byte : ((counting c u).single_instruction ≡ true → left ≡ 0) → (sclk : Bool)
      → foldl (step_of c) (ready c sclk read left t u p.address) (clocked (byte_bits (counting c u).single_instruction read u.lsb_first p))
      ≡ after_whole c read t u p.address left p.byte
  unfolding byte_bits
  stepped_run_byte none sclk = by_mode (counting c u).single_instruction refl fits.steady
    where
      instruction : List Bool
      instruction = bits_of u.lsb_first 16 (instruction_of read p.address)

      byte : List Bool
      byte = bits_of u.lsb_first 8 p.byte

      entered : (k : Chip) → (counting k u).single_instruction ≡ true → left ≡ 0
          → foldl (step_of k) (instructing sclk 0 0 t u) (clocked instruction) ≡ in_data true 0 0 p.address read left t u
      entered Newer e z = rw z (stepped_instruction Newer 0 read t u p.address tt (omega (arith, fits.near)) sclk)
      entered (Older part top) e z = absurd (false≢true e)

      by_mode : (single : Bool) → (counting c u).single_instruction ≡ single → cond single (in_use_of t) u ≡ u
          → foldl (step_of c) (cond single (starting sclk t) (in_data sclk 0 0 p.address read left t u)) (clocked (cond single instruction [] ++ byte))
          ≡ after_whole c read t u p.address left p.byte
      by_mode true m e =
          ap (λ (v : InUse). foldl (step_of c) (instructing sclk 0 0 t v) (clocked (instruction ++ byte))) e
          ∙ ap (foldl (step_of c) (instructing sclk 0 0 t u)) (clocked_append instruction byte)
          ∙ fold_append (step_of c) (instructing sclk 0 0 t u) (clocked instruction) (clocked byte)
          ∙ ap (λ (s : Port). foldl (step_of c) s (clocked byte)) (entered c m (none m))
          ∙ stepped_byte c read t u p.address left p.byte fits.small fits.zeros true
      by_mode false m e = stepped_byte c read t u p.address left p.byte fits.small fits.zeros sclk

-- what comes after the last byte, before the raise
abbrev pub ending : List ℕ
ending = 0x00 ∷ []

-- after the last byte nothing happens, whether the run ends there or not
ends_quietly : (c : Chip) (read : Bool) (t : Settings) (u : InUse) (a left v j : ℕ) → events_of c (after_whole c read t u a left v) (take j ending) ≡ []
ends_quietly c read t u a left v j =
    each Quiet (counting c u).single_instruction (λ e. quiet_end c Instruction 0 false 0 _ _ j true)
    (λ e. each Quiet (runs_out c left a u.lsb_first) (λ e. quiet_end c Rest 0 false 0 _ none_in_use j true)
    (λ e. quiet_end c Data _ read _ _ u j true))
  where
    Quiet : Port → Type 0
    Quiet s = events_of c s (take j ending) ≡ []

module _ (c : Chip) (read : Bool) (u : InUse) where
  -- the run from an address on, and its samples with the ending
  unfoldable run : ℕ → List ℕ → List RunByte
  run a vs = run_from (counting c u).ascending a vs

  unfoldable samples : List RunByte → List ℕ
  samples ps = clocked (run_bits (counting c u).single_instruction read u.lsb_first ps) ++ ending

  module _ (vs : List ℕ) (v : ℕ) (t : Settings) (a left j : ℕ) (sclk : Bool) where
    abbrev first : RunByte
    first = record { address = a; byte = v }

    unfoldable next : ℕ
    next = next_address (counting c u).ascending a

    unfoldable size : ℕ
    size = period (counting c u).single_instruction

    unfoldable rest : List ℕ → List Event
    rest xs = events_of c (after_whole c read t u a left v) xs

    by_size : 0 < size → Dec (j < size) → rest (take (j - size) (samples (run next vs))) ≡ map (whole_of read) (take ((j - size) / size) (run next vs))
        → cond (ltb j size) [] (whole_of read first ∷ rest (take (j - size) (samples (run next vs))))
        ≡ map (whole_of read) (take (j / size) (first ∷ run next vs))
    by_size some (yes h) ih = rw (lt-ltb j size h, div-eq_of_lt h)
    by_size some (no h) ih =
        let one_more = div-eq-sub-div {m = size} {n = j} some (omega arith) ∙ add-one ((j - size) / size) in
        rw (le-ltb j size (omega arith), one_more, ih)

    -- one byte, by what comes after it
    byte_then : Fits c read u t first → ((counting c u).single_instruction ≡ true → left ≡ 0)
        → rest (take (j - size) (samples (run next vs))) ≡ map (whole_of read) (take ((j - size) / size) (run next vs))
        → events_of c (ready c sclk read left t u a) (take j (samples (run a (v ∷ vs)))) ≡ map (whole_of read) (take (j / size) (run a (v ∷ vs)))
    unfolding run samples run_from run_bits next size rest
    byte_then fits none ih =
        ap (λ (l : List ℕ). events_of c (ready c sclk read left t u a) (take j l))
        (clocked_then (byte_bits (counting c u).single_instruction read u.lsb_first first)
        (run_bits (counting c u).single_instruction read u.lsb_first (run next vs)) ending)
        ∙ stopped_run_byte c read u t left first fits none j sclk (samples (run next vs))
        ∙ by_size (period_pos (counting c u).single_instruction) (dec_lt j size) ih

  -- after a byte that is not the last, the run goes on with what is left
  pub goes_on : (t : Settings) (a left v : ℕ) → runs_out c left a u.lsb_first ≡ false
      → after_whole c read t u a left v
      ≡ ready c true read (left_after left) (settings_on c t (Whole read a v)) u (next_address (counting c u).ascending a)
  goes_on t a left v h = rw h

  pub run_events :
      (vs : List ℕ) (v : ℕ) (t : Settings) (a left j : ℕ) (sclk : Bool) → AllFit c read u t (run_from (counting c u).ascending a (v ∷ vs))
      → Goes c u left a (v ∷ vs) → ((counting c u).single_instruction ≡ true → left ≡ 0)
      → events_of c (ready c sclk read left t u a)
      (take j (clocked (run_bits (counting c u).single_instruction read u.lsb_first (run_from (counting c u).ascending a (v ∷ vs))) ++ ending))
      ≡ map (whole_of read) (take (j / period (counting c u).single_instruction) (run_from (counting c u).ascending a (v ∷ vs)))
  unfolding run samples run_from run_bits clocked next size rest
  run_events [] v t a left j sclk fit goes none =
      byte_then [] v t a left j sclk fit.0 none
      (ends_quietly c read t u a left v (j - period (counting c u).single_instruction)
      ∙ sym (ap (map (whole_of read)) (take-nil ((j - period (counting c u).single_instruction) / period (counting c u).single_instruction))))
  run_events (w ∷ ws) v t a left j sclk fit goes none =
      byte_then (w ∷ ws) v t a left j sclk fit.0 none
      (rw (goes_on t a left v goes.0)
      (run_events ws w (settings_on c t (Whole read a v)) (next_address (counting c u).ascending a) (left_after left)
      (j - period (counting c u).single_instruction) true fit.1 goes.1 (λ e. still (none e))))
    where
      still : left ≡ 0 → left_after left ≡ 0
      still z = rw z

  -- ---- the port behind a run

  -- the samples of the first byte, and then those of the others
  pub byte_first : (vs : List ℕ) (v : ℕ) (t : Settings) (a left : ℕ) (sclk : Bool) → Fits c read u t (record { address = a; byte = v })
      → ((counting c u).single_instruction ≡ true → left ≡ 0)
      → foldl (step_of c) (ready c sclk read left t u a)
      (clocked (run_bits (counting c u).single_instruction read u.lsb_first (run_from (counting c u).ascending a (v ∷ vs))))
      ≡ foldl (step_of c) (after_whole c read t u a left v)
      (clocked
      (run_bits (counting c u).single_instruction read u.lsb_first (run_from (counting c u).ascending (next_address (counting c u).ascending a) vs)))
  unfolding run_from run_bits
  byte_first vs v t a left sclk fits none =
      let first : RunByte = record { address = a; byte = v } in
      let now = ready c sclk read left t u a in
      let byte = byte_bits (counting c u).single_instruction read u.lsb_first first in
      let rest =
      run_bits (counting c u).single_instruction read u.lsb_first (run_from (counting c u).ascending (next_address (counting c u).ascending a) vs) in
      ap (foldl (step_of c) now) (clocked_append byte rest)
      ∙ fold_append (step_of c) now (clocked byte) (clocked rest)
      ∙ ap (λ (s : Port). foldl (step_of c) s (clocked rest)) (stepped_run_byte c read u t left first fits none sclk)

  -- after a whole byte no bit of the next piece is taken
  after_no_bits : (t : Settings) (a left v : ℕ) → (after_whole c read t u a left v).bits ≡ 0
  after_no_bits t a left v =
      each (λ (s : Port). s.bits ≡ 0) (counting c u).single_instruction (λ e. refl)
      (λ e. each (λ (s : Port). s.bits ≡ 0) (runs_out c left a u.lsb_first) (λ e. refl) (λ e. refl))

  pub run_no_bits : (vs : List ℕ) (v : ℕ) (t : Settings) (a left : ℕ) (sclk : Bool) → AllFit c read u t (run_from (counting c u).ascending a (v ∷ vs))
      → Goes c u left a (v ∷ vs) → ((counting c u).single_instruction ≡ true → left ≡ 0)
      → (foldl (step_of c) (ready c sclk read left t u a)
      (clocked (run_bits (counting c u).single_instruction read u.lsb_first (run_from (counting c u).ascending a (v ∷ vs))))).bits
      ≡ 0
  unfolding run_from run_bits clocked
  run_no_bits [] v t a left sclk fit goes none =
      ap (λ (s : Port). s.bits) (byte_first [] v t a left sclk fit.0 none) ∙ after_no_bits t a left v
  run_no_bits (w ∷ ws) v t a left sclk fit goes none =
      ap (λ (s : Port). s.bits)
      (byte_first (w ∷ ws) v t a left sclk fit.0 none
      ∙ ap
      (λ (s : Port). foldl (step_of c) s
      (clocked
      (run_bits (counting c u).single_instruction read u.lsb_first
      (run_from (counting c u).ascending (next_address (counting c u).ascending a) (w ∷ ws)))))
      (goes_on t a left v goes.0))
      ∙ run_no_bits ws w (settings_on c t (Whole read a v)) (next_address (counting c u).ascending a) (left_after left) true fit.1 goes.1
      (λ e. rw (none e))
