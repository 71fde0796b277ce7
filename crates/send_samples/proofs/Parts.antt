-- How the samples of a run come apart into those of its bytes.
use mathlib.Core.Path.{◌≡◌, refl, sym, ap, ◌∙◌}
use mathlib.Core.Bool.{Bool, true, false, cond}
use mathlib.Core.List.{List, [], ◌++◌, append_assoc}
use Prim.Native.Nat.{ℕ, zero, suc, ◌+◌, ◌*◌, ◌<◌, ◌≤◌}
use native.Mathlib.Omega.{arith}
use native.Mathlib.Numerals.{add-one}
use lib.ListN.{length, length-append, get_or, drop, get_or-replicate, drop_of_length-le}
use lib.Seq.{drop-cons}
use Rattle.base_bits.specs.Bits.{bit_at}
use Rattle.base_bits.proofs.Putting.{Splits}
use Rattle.bus_settings.specs.Settings.{next_address}
use Rattle.base_chip.specs.Chip.{is_newer}
use Rattle.base_chip.specs.declared.Chip.{Chip}
use Rattle.base_chip.specs.declared.Part.TheVariants.{Ad9557}
use Rattle.base_chip.specs.declared.Chip.TheVariants.{Newer, Older}
use Rattle.send_samples.specs.declared.RunSettings.{RunSettings}
use Rattle.send_order.specs.Order.{Order, order, is_read, run_from, sent_of, sent_bytes}
use Rattle.send_order.specs.Samples.{bits_of, instruction_of, length_bits, length_and_address, byte_bits, run_bits, order_bits, clocked, samples_of}
use Rattle.send_samples.specs.Run.{order_run, sent_byte, own_samples, byte_samples, run_samples, closing_samples, whole_samples}
use Rattle.send_order.proofs.Laws.{clocked_append, length_bits_lem, length_clocked, length_samples, length_sent}

-- the samples of a byte: its own instruction, if it has one, goes before it
module _ (r : RunSettings) (a v : ℕ) where
  pub byte_parts : byte_samples r a v ≡ own_samples r a ++ clocked (bits_of r.lsb_first 8 v)
  unfolding byte_bits
  byte_parts = clocked_append (cond r.single_instruction (bits_of r.lsb_first 16 (instruction_of r.read a)) []) (bits_of r.lsb_first 8 v)

  pub length_parts : length (byte_samples r a v) ≡ length (own_samples r a) + 16
  length_parts = ap length byte_parts ∙ simp (length-append, length_clocked, length_bits_lem)

-- what goes out in the data bits of byte i
sent_at : (read : Bool) (k i : ℕ) (bytes : List ℕ) → i < k → sent_byte read bytes i ≡ get_or (sent_of read k bytes) i 0
sent_at true k i bytes h = sym (get_or-replicate k i 0 0 h)
sent_at false k i bytes h = refl

-- the samples of the bytes from i on are those of byte i, and of the bytes after it from the next address on
pub next_byte : (r : RunSettings) (a k i : ℕ) (bytes : List ℕ) → length bytes ≡ cond r.read 0 k → i < k
    → Splits (run_samples r a (drop i (sent_of r.read k bytes))) (byte_samples r a (sent_byte r.read bytes i))
    (run_samples r (next_address r.ascending a) (drop (i + 1) (sent_of r.read k bytes)))
unfolding run_bits run_from
next_byte r a k i bytes l h =
    let vs : List ℕ = sent_of r.read k bytes in
    let hv : i < length vs = omega (arith, length_sent r.read k bytes l) in
    record { split = rw (sent_at r.read k i bytes h, add-one i, drop-cons vs i 0 hv) (clocked_append _ _) }

pub no_more_bytes : (r : RunSettings) (a k i : ℕ) (bytes : List ℕ)
    → length bytes ≡ cond r.read 0 k → k ≤ i → run_samples r a (drop i (sent_of r.read k bytes)) ≡ []
unfolding run_bits run_from clocked
no_more_bytes r a k i bytes l h =
    let vs : List ℕ = sent_of r.read k bytes in
    let hv : length vs ≤ i = omega (arith, length_sent r.read k bytes l) in
    rw (drop_of_length-le vs hv)

-- the closing is the end
pub closing_last : Splits closing_samples closing_samples []
closing_last = record { split = refl }

-- those of an order are those of its run
pub order_samples : (c : Chip) (o : Order) (r : RunSettings) (x : ℕ) → r ≡ order_run c o → x ≡ length_and_address c o.count o.start
    → whole_samples r x o.start (sent_bytes o) ≡ samples_of c o
unfolding samples_of order_bits
order_samples c o r x e l = rw (e, l, clocked_append, append_assoc)

-- LSB first times 3 is LSB first and ascending
times_three : (s : ℕ) → s ≤ 1 → (bit_at (s * 3) 0 ≡ bit_at s 0) × (bit_at (s * 3) 1 ≡ bit_at s 0) × (bit_at (s * 3) 2 ≡ false)
unfolding bit_at
times_three zero h = (refl, refl, refl)
times_three (suc zero) h = (refl, refl, refl)
times_three (suc (suc s)) h = absurd (omega arith)

-- An older chip's run is that of a newer chip which ascends with LSB first, with its length over the address.
module _ (o : Order) (x : ℕ) (h : o.settings ≤ 1) (l : x ≡ length_bits o.count * 0x2000 + o.start) where
  abbrev pub older_run : RunSettings
  older_run = order_run Newer (order o.direction (o.settings * 3) o.start o.count [])

  abbrev pub older_samples : List ℕ
  older_samples = whole_samples older_run x o.start (sent_bytes o)

  older_run_lem : (c : Chip) → is_newer c ≡ false → older_run ≡ order_run c o
  older_run_lem c e = let b = times_three o.settings h in rw (e, b.0, b.1, b.2)

  pub older_samples_lem : (c : Chip) → is_newer c ≡ false → older_samples ≡ samples_of c o
  older_samples_lem c e = order_samples c o older_run x (older_run_lem c e) (rw e l)

  pub length_older : length o.bytes ≡ cond (is_read o) 0 o.count → length older_samples ≡ 35 + 16 * o.count
  length_older d =
      ap length (older_samples_lem (Older Ad9557 0) refl)
      ∙ length_samples (Older Ad9557 0) o
      ∙ ap (λ (k : ℕ). 35 + 16 * k) (length_sent (is_read o) o.count o.bytes d)
