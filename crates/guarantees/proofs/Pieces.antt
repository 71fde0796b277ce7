-- An instruction and a byte of data, from the samples that the sender makes of their bits, stopped anywhere: nothing happens before the last bit.
use Prim.Native.Nat.{ℕ, zero, suc, ◌+◌, ◌-◌, ◌*◌, ◌/◌, ◌%◌, ◌^◌, ◌<◌, ◌≤◌}
use mathlib.Core.Path.{◌≡◌, refl, ap, ◌∙◌}
use mathlib.Core.Bool.{Bool, true, false, cond, ◌&&◌}
use mathlib.Core.List.{List, [], ◌∷◌, ◌++◌, map, map-id, foldl}
use native.Mathlib.Decide.{dec_lt}
use native.Mathlib.Omega.{arith}
use lib.Dec.{ltb, leb}
use lib.ListN.{length, take}
use lib.Seq.{take-nil, take-append-le, take-append-add}
use borrow.Author.Tests.{lt-ltb, le-ltb, lt-leb, le-leb}
use Rattle.base_bits.specs.Bits.{bit_at, bit_of, shifted_in}
use Rattle.base_chip.specs.declared.Chip.{Chip}
use Rattle.base_chip.specs.declared.Chip.TheVariants.{Newer, Older}
use Rattle.bus_settings.specs.declared.Settings.{Settings}
use Rattle.bus_settings.specs.declared.InUse.{InUse}
use Rattle.bus_settings.specs.Settings.{counting}
use Rattle.bus_session.specs.declared.Phase.{Phase}
use Rattle.bus_session.specs.declared.Phase.TheVariants.{Instruction, Data}
use Rattle.bus_session.specs.declared.Port.{Port}
use Rattle.bus_session.specs.declared.Event.{Event}
use Rattle.bus_session.specs.declared.Event.TheVariants.{Nothing, Whole}
use Rattle.bus_session.specs.State.{with_phase, passing, instructing, in_data}
use Rattle.bus_session.specs.Step.{sdio_of, sdo_of, entered, after_byte, with_instruction_bit, with_data_bit, with_bit, step_of}
use Rattle.bus_session.specs.Event.{bit_event, event_of}
use Rattle.send_order.specs.Samples.{high_first, low_first, bits_of, instruction_of, length_bits, length_and_address, clocked}
use Rattle.send_order.proofs.Laws.{length_bits_lem, length_clocked, length_bits_few}
use Rattle.guarantees.proofs.BitsBack.{taken_in, bits_back}
use Rattle.guarantees.proofs.Events.{noted, events_of, settings_on}

-- a session with CSB low
abbrev pub low : Bool → Phase → ℕ → ℕ → ℕ → Bool → ℕ → Settings → InUse → Port
low sclk p bits value a read left t u = with_phase (in_data sclk bits value a read left t u) p

-- what a sample does: the next session, and what happens
record Does (c : Chip) (s : Port) (x : ℕ) (next : Port) (e : Event) : Type 0 where
  step : step_of c s x ≡ next
  event : event_of c s x ≡ e

does_events : {c : Chip} {s : Port} {x : ℕ} {next : Port} {e : Event} → Does c s x next e → (more : List ℕ)
    → events_of c s (x ∷ more) ≡ noted e (events_of c next more)
unfolding events_of
does_events d more = rw (d.step, d.event)

module _ (c : Chip) (p : Phase) (n v a : ℕ) (read : Bool) (left : ℕ) (t : Settings) (u : InUse) where
  -- the first sample of a bit: SCLK is low, and nothing happens
  clock_low : (sclk b : Bool) → Does c (low sclk p n v a read left t u) (4 * bit_of b) (low false p n v a read left t u) Nothing
  unfolding step_of event_of bit_at
  clock_low true true = record { step = refl; event = refl }
  clock_low true false = record { step = refl; event = refl }
  clock_low false true = record { step = refl; event = refl }
  clock_low false false = record { step = refl; event = refl }

  -- the second: SCLK rises, and the bit is taken
  clock_high : (b : Bool)
      → Does c (low false p n v a read left t u) (4 * bit_of b + 2)
      (with_bit c p (low false p n v a read left t u) (4 * bit_of b + 2)) (bit_event c (low false p n v a read left t u) (4 * bit_of b + 2))
  unfolding step_of event_of bit_at
  clock_high true = record { step = refl; event = refl }
  clock_high false = record { step = refl; event = refl }

-- the end of a run, before the raise
pub quiet_end : (c : Chip) (p : Phase) (a : ℕ) (read : Bool) (left : ℕ) (t : Settings) (u : InUse) (j : ℕ) (sclk : Bool)
    → events_of c (low sclk p 0 0 a read left t u) (take j (0x00 ∷ [])) ≡ []
unfolding events_of
quiet_end c p a read left t u zero sclk = refl
quiet_end c p a read left t u (suc j) sclk =
    does_events (clock_low c p 0 0 a read left t u sclk false) (take j [])
    ∙ ap (events_of c (low false p 0 0 a read left t u)) (take-nil j)

-- ---- a piece of some width

-- It is taken bit by bit; `seen` is what the reader sees of a bit that is sent; from its last bit on there are, by its value, the session
-- `after` it and the event that it is.
record Piece
    (c : Chip) (width : ℕ) (lsb : Bool) (seen : Bool → Bool) (at : Bool → ℕ → ℕ → Port) (after : ℕ → Port) (whole : ℕ → Event)
    : Type 0 where
  half : (sclk b : Bool) (n v : ℕ) → Does c (at sclk n v) (4 * bit_of b) (at false n v) Nothing
  one_more : (b : Bool) (n v : ℕ) → n + 1 < width → Does c (at false n v) (4 * bit_of b + 2) (at true (n + 1) (shifted_in lsb v n (seen b))) Nothing
  last : (b : Bool) (n v : ℕ) → n + 1 ≡ width
      → Does c (at false n v) (4 * bit_of b + 2) (after (shifted_in lsb v n (seen b))) (whole (shifted_in lsb v n (seen b)))

module _
    {c : Chip} {width : ℕ} {lsb : Bool} {seen : Bool → Bool} {at : Bool → ℕ → ℕ → Port} {after : ℕ → Port} {whole : ℕ → Event}
    (P : Piece c width lsb seen at after whole) where
  -- what happens from the last bit of a value on
  abbrev then : ℕ → List ℕ → List Event
  then x more = noted (whole x) (events_of c (after x) more)

  -- nothing before the last sample
  short : (bs : List Bool) (j : ℕ) (sclk : Bool) (n v : ℕ) → n + length bs ≡ width → j < 2 * length bs
      → events_of c (at sclk n v) (take j (clocked bs)) ≡ []
  unfolding clocked events_of
  short [] j sclk n v e h = absurd (omega arith)
  short (b ∷ bs) zero sclk n v e h = refl
  short (b ∷ bs) (suc zero) sclk n v e h = does_events (P.half sclk b n v) []
  short (b ∷ []) (suc (suc j)) sclk n v e h = absurd (omega arith)
  short (b ∷ b' ∷ bs) (suc (suc j)) sclk n v e h =
      does_events (P.half sclk b n v) ((4 * bit_of b + 2) ∷ take j (clocked (b' ∷ bs)))
      ∙ does_events (P.one_more b n v (omega arith)) (take j (clocked (b' ∷ bs)))
      ∙ short (b' ∷ bs) j true (n + 1) (shifted_in lsb v n (seen b)) (omega arith) (omega arith)

  all_taken : (bs : List Bool) (sclk : Bool) (n v : ℕ) (more : List ℕ) → n + length bs ≡ width → n < width
      → events_of c (at sclk n v) (clocked bs ++ more) ≡ then (taken_in lsb v n (map seen bs)) more
  unfolding clocked taken_in
  all_taken [] sclk n v more e h = absurd (omega arith)
  all_taken (b ∷ []) sclk n v more e h =
      does_events (P.half sclk b n v) ((4 * bit_of b + 2) ∷ more) ∙ does_events (P.last b n v (omega arith)) more
  all_taken (b ∷ b' ∷ bs) sclk n v more e h =
      does_events (P.half sclk b n v) ((4 * bit_of b + 2) ∷ (clocked (b' ∷ bs) ++ more))
      ∙ does_events (P.one_more b n v (omega arith)) (clocked (b' ∷ bs) ++ more)
      ∙ all_taken (b' ∷ bs) true (n + 1) (shifted_in lsb v n (seen b)) more (omega arith) (omega arith)

  all_stepped : (bs : List Bool) (sclk : Bool) (n v : ℕ) → n + length bs ≡ width → n < width
      → foldl (step_of c) (at sclk n v) (clocked bs) ≡ after (taken_in lsb v n (map seen bs))
  unfolding clocked taken_in
  all_stepped [] sclk n v e h = absurd (omega arith)
  all_stepped (b ∷ []) sclk n v e h =
      ap (λ (s : Port). step_of c s (4 * bit_of b + 2)) (P.half sclk b n v).step ∙ (P.last b n v (omega arith)).step
  all_stepped (b ∷ b' ∷ bs) sclk n v e h =
      ap (λ (s : Port). foldl (step_of c) s ((4 * bit_of b + 2) ∷ clocked (b' ∷ bs))) (P.half sclk b n v).step
      ∙ ap (λ (s : Port). foldl (step_of c) s (clocked (b' ∷ bs))) (P.one_more b n v (omega arith)).step
      ∙ all_stepped (b' ∷ bs) true (n + 1) (shifted_in lsb v n (seen b)) (omega arith) (omega arith)

  module _ (x : ℕ) (some : 0 < width) (small : x < 2 ^ width) (same : map seen (bits_of lsb width x) ≡ bits_of lsb width x) where
    abbrev bits : List Bool
    bits = bits_of lsb width x

    size : length bits ≡ width
    size = length_bits_lem lsb width x

    value : taken_in lsb 0 0 (map seen bits) ≡ x
    value = ap (taken_in lsb 0 0) same ∙ bits_back lsb width x small

    -- the session after the piece of a number
    stepped : (sclk : Bool) → foldl (step_of c) (at sclk 0 0) (clocked (bits_of lsb width x)) ≡ after x
    stepped sclk = all_stepped bits sclk 0 0 (omega (arith, size)) some ∙ ap after value

    -- the piece of a number and what comes after it, stopped after j samples
    stopped : (j : ℕ) (sclk : Bool) (more : List ℕ)
        → events_of c (at sclk 0 0) (take j (clocked (bits_of lsb width x) ++ more))
        ≡ cond (ltb j (2 * width)) [] (then x (take (j - 2 * width) more))
    stopped j sclk more = by_size (dec_lt j (2 * width))
      where
        by_size : Dec (j < 2 * width)
            → events_of c (at sclk 0 0) (take j (clocked bits ++ more)) ≡ cond (ltb j (2 * width)) [] (then x (take (j - 2 * width) more))
        by_size (yes k) =
            rw (lt-ltb j (2 * width) k, take-append-le j (clocked bits) more (omega (arith, length_clocked bits, size)))
            (short bits j sclk 0 0 (omega (arith, size)) (omega (arith, size)))
        by_size (no k) =
            let far : j ≡ length (clocked bits) + (j - 2 * width) = omega (arith, length_clocked bits, size) in
            rw (le-ltb j (2 * width) (omega arith))
            (ap (λ (i : ℕ). events_of c (at sclk 0 0) (take i (clocked bits ++ more))) far
            ∙ ap (events_of c (at sclk 0 0)) (take-append-add (clocked bits) more (j - 2 * width))
            ∙ all_taken bits sclk 0 0 (take (j - 2 * width) more) (omega (arith, size)) some
            ∙ ap (λ (v : ℕ). then v (take (j - 2 * width) more)) value)

sent_bit : (b : Bool) → sdio_of (4 * bit_of b + 2) ≡ b
unfolding bit_at
sent_bit true = refl
sent_bit false = refl

-- SDO stays low in all samples of the sender
quiet_sdo : (b : Bool) → sdo_of (4 * bit_of b + 2) ≡ false
unfolding bit_at
quiet_sdo true = refl
quiet_sdo false = refl

-- a sample that does one thing does what equals it
does_as : {c : Chip} {s : Port} {x : ℕ} {next next' : Port} {e e' : Event} → Does c s x next e → next ≡ next' → e ≡ e' → Does c s x next' e'
does_as d p q = record { step = d.step ∙ p; event = d.event ∙ q }

-- ---- an instruction

instruction_piece : (c : Chip) (t : Settings) (u : InUse)
    → Piece c 16 u.lsb_first (λ b. b) (λ sclk n v. instructing sclk n v t u) (λ x. entered c x t u) (λ x. Nothing)
unfolding bit_event with_instruction_bit
instruction_piece c t u = record {
  half = λ sclk b n v. clock_low c Instruction n v 0 false 0 t u sclk b;
  one_more = λ b n v h. does_as (clock_high c Instruction n v 0 false 0 t u b) (rw (lt-ltb n 15 (omega arith), sent_bit b)) refl;
  last = λ b n v h. does_as (clock_high c Instruction n v 0 false 0 t u b) (rw (le-ltb n 15 (omega arith), sent_bit b)) refl;
}

-- what is left of a run of k bytes behind its instruction
abbrev pub left_of : Chip → ℕ → ℕ
left_of Newer k = 0
left_of (Older part top) k = length_bits k + 1

-- the highest address that an instruction enters data at
abbrev pub highest : Chip → ℕ
highest Newer = 0x7FFF
highest (Older part top) = top

-- the top of an older chip has 13 bits
abbrev pub TopFits : Chip → Type 0
TopFits Newer = Unit {0}
TopFits (Older part top) = top ≤ 0x1FFF

-- the instruction is taken apart as it was put together
entered_instruction : (c : Chip) (k : ℕ) (read : Bool) (a : ℕ) (t : Settings) (u : InUse) → TopFits c → a ≤ highest c
    → entered c (instruction_of read (length_and_address c k a)) t u ≡ in_data true 0 0 a read (left_of c k) t u
unfolding entered
entered_instruction Newer k read a t u f h = by read
  where
    by : (r : Bool) → in_data true 0 0 (instruction_of r a % 0x8000) (leb 0x8000 (instruction_of r a)) 0 t u ≡ in_data true 0 0 a r 0 t u
    by true = let e : (a + 0x8000) % 0x8000 ≡ a = omega arith in rw (e, le-leb 0x8000 (a + 0x8000) (omega arith))
    by false = let e : a % 0x8000 ≡ a = omega arith in rw (e, lt-leb 0x8000 a (omega arith))
entered_instruction (Older part top) k read a t u f h = by read (length_bits k) (length_bits_few k)
  where
    by : (r : Bool) (l : ℕ) → l ≤ 3
        → cond (leb (instruction_of r (l * 0x2000 + a) % 0x2000) top)
        (in_data true 0 0 (instruction_of r (l * 0x2000 + a) % 0x2000) (leb 0x8000 (instruction_of r (l * 0x2000 + a)))
        (instruction_of r (l * 0x2000 + a) / 0x2000 % 4 + 1) t u)
        (passing true t)
        ≡ in_data true 0 0 a r (l + 1) t u
    by true l g =
        let e : (l * 0x2000 + a + 0x8000) % 0x2000 ≡ a = omega arith in
        let q : (l * 0x2000 + a + 0x8000) / 0x2000 ≡ 4 + l = omega arith in
        let d : (l * 0x2000 + a + 0x8000) / 0x2000 % 4 ≡ l = rw q (omega arith) in
        rw (e, d, le-leb a top h, le-leb 0x8000 (l * 0x2000 + a + 0x8000) (omega arith))
    by false l g =
        let e : (l * 0x2000 + a) % 0x2000 ≡ a = omega arith in
        let q : (l * 0x2000 + a) / 0x2000 ≡ l = omega arith in
        let d : (l * 0x2000 + a) / 0x2000 % 4 ≡ l = rw q (omega arith) in
        rw (e, d, le-leb a top h, lt-leb 0x8000 (l * 0x2000 + a) (omega arith))

instruction_lt : (c : Chip) (k : ℕ) (read : Bool) (a : ℕ) → TopFits c → a ≤ highest c → instruction_of read (length_and_address c k a) < 2 ^ 16
instruction_lt Newer k true a f h = omega arith
instruction_lt Newer k false a f h = omega arith
instruction_lt (Older part top) k true a f h = omega (arith, length_bits_few k)
instruction_lt (Older part top) k false a f h = omega (arith, length_bits_few k)

module _ (c : Chip) (k : ℕ) (read : Bool) (t : Settings) (u : InUse) (a : ℕ) (f : TopFits c) (h : a ≤ highest c) where
  -- an instruction and what comes after it, stopped after j samples
  pub stopped_instruction : (j : ℕ) (sclk : Bool) (more : List ℕ)
      → events_of c (instructing sclk 0 0 t u) (take j (clocked (bits_of u.lsb_first 16 (instruction_of read (length_and_address c k a))) ++ more))
      ≡ cond (ltb j 32) [] (events_of c (in_data true 0 0 a read (left_of c k) t u) (take (j - 32) more))
  stopped_instruction j sclk more =
      stopped (instruction_piece c t u) (instruction_of read (length_and_address c k a)) (omega arith) (instruction_lt c k read a f h) (map-id _) j sclk more
      ∙ ap (λ (s : Port). cond (ltb j 32) [] (events_of c s (take (j - 32) more))) (entered_instruction c k read a t u f h)

  pub stepped_instruction : (sclk : Bool)
      → foldl (step_of c) (instructing sclk 0 0 t u) (clocked (bits_of u.lsb_first 16 (instruction_of read (length_and_address c k a))))
      ≡ in_data true 0 0 a read (left_of c k) t u
  stepped_instruction sclk =
      stepped (instruction_piece c t u) (instruction_of read (length_and_address c k a)) (omega arith) (instruction_lt c k read a f h) (map-id _) sclk
      ∙ entered_instruction c k read a t u f h

-- ---- a byte

-- what the reader sees of a data bit that is sent: in a read with SDO active it looks at SDO
abbrev seen : Chip → Bool → InUse → Bool → Bool
seen c read u b = cond (read && (counting c u).sdo_active) false b

-- the reader sees what is sent: a read sends zeros, and SDO is low too
zeros_seen : (lsb sdo : Bool) → map (λ b. cond sdo false b) (bits_of lsb 8 0) ≡ bits_of lsb 8 0
unfolding bits_of high_first low_first bit_at
zeros_seen true true = refl
zeros_seen true false = refl
zeros_seen false true = refl
zeros_seen false false = refl

bits_seen : (c : Chip) (read lsb : Bool) (u : InUse) (v : ℕ) → cond read v 0 ≡ 0 → map (seen c read u) (bits_of lsb 8 v) ≡ bits_of lsb 8 v
bits_seen c true lsb u v e = rw e (zeros_seen lsb (counting c u).sdo_active)
bits_seen c false lsb u v e = map-id (bits_of lsb 8 v)

-- the session after a whole byte
abbrev pub after_whole : Chip → Bool → Settings → InUse → ℕ → ℕ → ℕ → Port
after_whole c read t u a left v = after_byte c (in_data true 7 0 a read left t u) (settings_on c t (Whole read a v))

data_piece : (c : Chip) (a : ℕ) (read : Bool) (left : ℕ) (t : Settings) (u : InUse)
    → Piece c 8 u.lsb_first (seen c read u) (λ sclk n v. in_data sclk n v a read left t u) (after_whole c read t u a left) (Whole read a)
unfolding bit_event with_data_bit
data_piece c a read left t u = record {
  half = λ sclk b n v. clock_low c Data n v a read left t u sclk b;
  one_more = λ b n v h.
      does_as (clock_high c Data n v a read left t u b) (rw (lt-ltb n 7 (omega arith), sent_bit b, quiet_sdo b)) (rw (lt-ltb n 7 (omega arith)));
  last = λ b n v h.
      does_as (clock_high c Data n v a read left t u b) (rw (le-ltb n 7 (omega arith), sent_bit b, quiet_sdo b))
      (rw (le-ltb n 7 (omega arith), sent_bit b, quiet_sdo b));
}

module _ (c : Chip) (read : Bool) (t : Settings) (u : InUse) (a left v : ℕ) (small : v < 256) (zeros : cond read v 0 ≡ 0) where
  -- a byte and what comes after it, stopped after j samples
  pub stopped_byte : (j : ℕ) (sclk : Bool) (more : List ℕ)
      → events_of c (in_data sclk 0 0 a read left t u) (take j (clocked (bits_of u.lsb_first 8 v) ++ more))
      ≡ cond (ltb j 16) [] (Whole read a v ∷ events_of c (after_whole c read t u a left v) (take (j - 16) more))
  stopped_byte j sclk more = stopped (data_piece c a read left t u) v (omega arith) small (bits_seen c read u.lsb_first u v zeros) j sclk more

  pub stepped_byte : (sclk : Bool) → foldl (step_of c) (in_data sclk 0 0 a read left t u) (clocked (bits_of u.lsb_first 8 v)) ≡ after_whole c read t u a left v
  stepped_byte sclk = stepped (data_piece c a read left t u) v (omega arith) small (bits_seen c read u.lsb_first u v zeros) sclk
