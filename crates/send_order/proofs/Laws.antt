-- Laws of the definitions, on every chip: how long the samples of an order are, and what a number of 0 tells of it.
use mathlib.Core.Path.{◌≡◌, refl, ◌∙◌, ap}
use mathlib.Core.Bool.{Bool, true, false, cond, not, ◌&&◌}
use mathlib.Core.List.{List, [], ◌∷◌, ◌++◌}
use Prim.Native.Nat.{ℕ, zero, suc, ◌+◌, ◌*◌, ◌≤◌}
use native.Mathlib.Omega.{arith}
use native.Mathlib.Nat.{suc-ne-zero}
use lib.ListN.{length, length-append, length-replicate}
use lib.Dec.{leb}
use borrow.Author.Tests.{leb-true, le-leb, eqb-true, not-true}
use Rattle.base_bits.specs.Tests.{every, unless}
use Rattle.base_bits.proofs.Cases.{each, and_left, and_right, every_true}
use Rattle.base_chip.specs.Chip.{top_good}
use Rattle.base_chip.specs.declared.Part.{Part}
use Rattle.base_chip.specs.declared.Chip.{Chip}
use Rattle.base_chip.specs.declared.Chip.TheVariants.{Newer, Older}
use Rattle.bus_settings.specs.Settings.{next_address}
use Rattle.send_order.specs.Order.{Order, RunByte, is_read, lsb_first, goes_up, is_single, run_from, sent_of, sent_bytes, run_bytes}
use Rattle.send_order.specs.Samples.{high_first, low_first, bits_of, instruction_of, length_bits, length_and_address, byte_bits, run_bits, order_bits, clocked, samples_of}
use Rattle.send_order.specs.Number.{configures_early, count_tests, most_settings, addresses_good, send_number}
use Rattle.send_order.proofs.Addresses.{starts_within}

length_high : (w x : ℕ) → length (high_first w x) ≡ w
unfolding high_first
length_high zero x = refl
length_high (suc w) x = ap suc (length_high w x)

length_low : (i w x : ℕ) → length (low_first i w x) ≡ w
unfolding low_first
length_low i zero x = refl
length_low i (suc w) x = ap suc (length_low (i + 1) w x)

pub length_bits_lem : (lsb : Bool) (w x : ℕ) → length (bits_of lsb w x) ≡ w
unfolding bits_of
length_bits_lem true w x = length_low 0 w x
length_bits_lem false w x = length_high w x

pub length_clocked : (bs : List Bool) → length (clocked bs) ≡ 2 * length bs
unfolding clocked
length_clocked [] = refl
length_clocked (b ∷ bs) = omega (arith, length_clocked bs)

pub clocked_append : (a b : List Bool) → clocked (a ++ b) ≡ clocked a ++ clocked b
unfolding clocked
clocked_append [] b = refl
clocked_append (x ∷ a) b = rw (clocked_append a b)

pub length_byte_bits : (single read lsb : Bool) (p : RunByte) → length (byte_bits single read lsb p) ≡ cond single 24 8
unfolding byte_bits
length_byte_bits true read lsb p = simp (length-append, length_bits_lem)
length_byte_bits false read lsb p = length_bits_lem lsb 8 p.byte

length_run_bits : (single read lsb : Bool) (ps : List RunByte) → length (run_bits single read lsb ps) ≡ cond single (24 * length ps) (8 * length ps)
unfolding run_bits
length_run_bits true read lsb [] = refl
length_run_bits false read lsb [] = refl
length_run_bits true read lsb (p ∷ ps) = simp (length-append, length_byte_bits, length_run_bits true read lsb ps) (omega arith)
length_run_bits false read lsb (p ∷ ps) = simp (length-append, length_byte_bits, length_run_bits false read lsb ps) (omega arith)

pub length_run_from : (up : Bool) (a : ℕ) (vs : List ℕ) → length (run_from up a vs) ≡ length vs
unfolding run_from
length_run_from up a [] = refl
length_run_from up a (v ∷ vs) = ap suc (length_run_from up (next_address up a) vs)

-- a count of 1 to 1,000 that comes with its data
pub record Counted (o : Order) : Type 0 where
  pub some : 1 ≤ o.count
  pub most : o.count ≤ 1000
  pub data_length : length o.bytes ≡ cond (is_read o) 0 o.count

pub counted : (o : Order) → every (count_tests o) ≡ true → Counted o
counted o h =
    let tests = every_true (count_tests o) h in
    record { some = leb-true _ _ tests.0; most = leb-true _ _ tests.1.0; data_length = eqb-true _ _ tests.1.1.0 }

-- as many bytes go out as counted
pub length_sent : (read : Bool) (k : ℕ) (bytes : List ℕ) → length bytes ≡ cond read 0 k → length (sent_of read k bytes) ≡ k
length_sent true k bytes h = length-replicate k 0
length_sent false k bytes h = h

-- no chip has settings numbers above 7
pub settings_few : (c : Chip) (o : Order) → o.settings ≤ most_settings c → o.settings ≤ 7
settings_few Newer o h = h
settings_few (Older part top) o h = omega arith

-- the top of an older chip has 13 bits
pub top_low : (part : Part) (top : ℕ) → top_good (Older part top) ≡ true → top ≤ 0x1FFF
top_low part top h = leb-true top 0x1FFF (and_right (leb 0x000F top) (leb top 0x1FFF) h)

-- A run that stays from 0 to the top starts there.
pub older_start : (part : Part) (top : ℕ) (o : Order) → Counted o → addresses_good (Older part top) o ≡ true → o.start ≤ top
older_start part top o k h =
    starts_within top (lsb_first o) o.start (sent_bytes o) (omega (arith, k.some, length_sent (is_read o) o.count o.bytes k.data_length)) h

pub start_near : (c : Chip) (o : Order) → top_good c ≡ true → Counted o → addresses_good c o ≡ true → o.start ≤ 0x7FFF
start_near Newer o t k h = leb-true o.start 0x7FFF h
start_near (Older part top) o t k h = omega (arith, top_low part top t, older_start part top o k h)

-- two length bits
pub length_bits_few : (k : ℕ) → length_bits k ≤ 3
length_bits_few k = each (λ (l : ℕ). l ≤ 3) (leb k 3) (λ e. omega (arith, leb-true k 3 e)) (λ e. omega arith)

passed : (test : Bool) (n next : ℕ) → unless test (suc n) next ≡ 0 → (test ≡ true) × (next ≡ 0)
passed true n next h = (refl, h)
passed false n next h = absurd (suc-ne-zero n h)

-- numbers that agree where a test holds
same_rest : (t : Bool) (n : ℕ) {p q : ℕ} → (t ≡ true → p ≡ q) → unless t n p ≡ unless t n q
same_rest true n e = e refl
same_rest false n e = refl

module _ (c : Chip) (o : Order) where
  length_order_bits : length (order_bits c o) ≡ cond (is_single c o) (24 * length (sent_bytes o)) (16 + 8 * length (sent_bytes o))
  unfolding order_bits
  length_order_bits = go (is_single c o)
    where
      n : length (run_bytes c o) ≡ length (sent_bytes o)
      n = length_run_from (goes_up c o) o.start (sent_bytes o)

      go : (single : Bool)
          → length
          (cond single [] (bits_of (lsb_first o) 16 (instruction_of (is_read o) (length_and_address c o.count o.start)))
          ++ run_bits single (is_read o) (lsb_first o) (run_bytes c o))
          ≡ cond single (24 * length (sent_bytes o)) (16 + 8 * length (sent_bytes o))
      go true = omega (arith, length_run_bits true (is_read o) (lsb_first o) (run_bytes c o), n)
      go false = simp (length-append, length_bits_lem) (omega (arith, length_run_bits false (is_read o) (lsb_first o) (run_bytes c o), n))

  -- One instruction gives 35 + 16k samples, single instruction 3 + 48k, for the k bytes that are sent: of a refused order too.
  pub length_samples : length (samples_of c o) ≡ cond (is_single c o) (3 + 48 * length (sent_bytes o)) (35 + 16 * length (sent_bytes o))
  unfolding samples_of
  length_samples = simp (length-append, length_clocked, length_order_bits) (go (is_single c o))
    where
      k : ℕ
      k = length (sent_bytes o)

      go : (single : Bool) → suc (2 * cond single (24 * k) (16 + 8 * k) + 2) ≡ cond single (3 + 48 * k) (35 + 16 * k)
      go true = omega arith
      go false = omega arith

  -- One instruction gives 35 + 16k samples, single instruction 3 + 48k.
  pub length_counted : Counted o → length (samples_of c o) ≡ cond (is_single c o) (3 + 48 * o.count) (35 + 16 * o.count)
  length_counted k = length_samples ∙ rw (length_sent (is_read o) o.count o.bytes k.data_length)

  -- No order takes more than 48,003 samples.
  pub most_samples_lem : Counted o → length (samples_of c o) ≤ 48003
  most_samples_lem k = go (is_single c o) (length_counted k)
    where
      go : (single : Bool) → length (samples_of c o) ≡ cond single (3 + 48 * o.count) (35 + 16 * o.count) → length (samples_of c o) ≤ 48003
      go true e = omega (arith, k.most)
      go false e = omega (arith, k.most)

  -- the tests of a number of 0, but for that of the room
  record Passes : Type 0 where
    tops : top_good c ≡ true
    known : (leb o.direction 1 && leb o.settings (most_settings c)) ≡ true
    counts : every (count_tests o) ≡ true
    stays : addresses_good c o ≡ true
    late : not (is_single c o && not (is_read o) && configures_early (run_bytes c o)) ≡ true

  -- What a number of 0 tells of an order: nothing refuses it.
  pub record Admitted (room : ℕ) : Type 0 where
    pub top : top_good c ≡ true
    pub direction : o.direction ≤ 1
    pub settings : o.settings ≤ most_settings c
    pub count : Counted o
    pub addresses : addresses_good c o ≡ true
    pub start : o.start ≤ 0x7FFF
    pub not_early : (is_single c o && not (is_read o) && configures_early (run_bytes c o)) ≡ false
    pub enough : length (samples_of c o) ≤ room

  module _ (room : ℕ) (h : send_number c o room ≡ 0) where
    passes : Passes × (leb (length (samples_of c o)) room ≡ true)
    unfolding send_number
    passes =
        let h12 = passed _ 11 _ h in
        let h7 = passed _ 6 _ h12.1 in
        let h8 = passed _ 7 _ h7.1 in
        let h9 = passed _ 8 _ h8.1 in
        let h10 = passed _ 9 _ h9.1 in
        let h11 = passed _ 10 _ h10.1 in
        (record { tops = h12.0; known = h7.0; counts = h8.0; stays = h9.0; late = h10.0 }, h11.0)

    pub admitted : Admitted room
    admitted =
        let p = passes in
        record {
          top = p.0.tops;
          direction = leb-true _ _ (and_left (leb o.direction 1) (leb o.settings (most_settings c)) p.0.known);
          settings = leb-true _ _ (and_right (leb o.direction 1) (leb o.settings (most_settings c)) p.0.known);
          count = counted o p.0.counts;
          addresses = p.0.stays;
          start = start_near c o p.0.tops (counted o p.0.counts) p.0.stays;
          not_early = not-true _ p.0.late;
          enough = leb-true _ _ p.1;
        }

    -- An order that is taken with some room is taken with any that suffices.
    pub room_enough : (room' : ℕ) → length (samples_of c o) ≤ room' → send_number c o room' ≡ 0
    unfolding send_number
    room_enough room' enough =
        let p = passes.0 in
        rw (p.tops, p.known, p.counts, p.stays, p.late, le-leb (length (samples_of c o)) room' enough)

  -- With room for any order, the number is the one with just the room that the order needs.
  pub number_alone : (room : ℕ) → 48003 ≤ room → send_number c o room ≡ send_number c o (length (samples_of c o))
  unfolding send_number
  number_alone room h =
      same_rest (top_good c) 12
      (λ t. same_rest (leb o.direction 1 && leb o.settings (most_settings c)) 7
      (λ t. same_rest (every (count_tests o)) 8
      (λ k. same_rest (addresses_good c o) 9
      (λ t. same_rest (not (is_single c o && not (is_read o) && configures_early (run_bytes c o))) 10
      (λ t.
      let n = length (samples_of c o) in
      rw (le-leb n room (omega (arith, most_samples_lem (counted o k))), le-leb n n (omega arith)))))))
