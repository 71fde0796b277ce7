-- Eight samples that give four bits: the bits at once are those taken one by one.
use mathlib.Core.Path.{◌≡◌, refl, sym, ◌∙◌, ap, subst}
use mathlib.Core.Bool.{Bool, true, false}
use mathlib.Core.List.{List}
use Prim.Native.Nat.{ℕ, zero, suc, ◌+◌, ◌-◌, ◌*◌, ◌/◌, ◌%◌, ◌^◌, ◌<◌, ◌≤◌}
use native.Mathlib.Omega.{arith}
use native.Mathlib.Nat.{pow-suc, suc-mul, mul-le-mul_right}
use native.Mathlib.Numerals.{add-one}
use lib.Dec.{lit<}
use lib.ListN.{length, get_or}
use lib.Bits.{bit_and}
use lib.Count.{count_trailing_zeros}
use lib.Pow.{pow_mono}
use Rattle.base_bits.specs.Bits.{bit_at, bit_of, shifted_in}
use Rattle.base_card.specs.Card.{turned}
use Rattle.bus_words.specs.Words.{word_of}
use Rattle.bus_words.specs.Lanes.{levels_in, level_in, rises_in, nibble}
use Rattle.bus_words.proofs.Lanes.{clock_mask, lows_all, dense_lanes}
use Rattle.bus_words.proofs.Samples.{level_in_lem}
use Rattle.bus_words.proofs.Seconds.{lane_bit}
use Rattle.bus_trace.specs.declared.scan.Progress.{Progress}
use Rattle.bus_trace.specs.declared.scan.Bits.{Bits}
use Rattle.bus_trace.specs.Scan.{progress, ProgressBounds, LowScanAfter, RisesAhead, LanesTaken, BitsAfter, shifted_three, shifted_four}
use Rattle.bus_trace.proofs.Onward.{Going, going_begun, going_join, took_join}
use Rattle.bus_trace.proofs.Lanes.{taken_bits, took_rise, word_passed, gathered_begun, next_rise, gathered_more}

-- ---- the value

powers : (n : ℕ) → (2 ^ (n + 1) ≡ 2 ^ n * 2) × (2 ^ (n + 1 + 1) ≡ 2 ^ n * 4) × (2 ^ (n + 1 + 1 + 1) ≡ 2 ^ n * 8)
powers n =
    let a : (k : ℕ) → 2 ^ (k + 1) ≡ 2 ^ k * 2 = λ (k : ℕ). ap (λ (m : ℕ). 2 ^ m) (add-one k) ∙ pow-suc 2 k in
    (a n, omega (arith, a n, a (n + 1)), omega (arith, a n, a (n + 1), a (n + 1 + 1)))

pub low_four : (v n : ℕ) (a b c d : Bool) → v + turned 8 (nibble a b c d * 16) * 2 ^ n ≡ shifted_four true v n a b c d
unfolding turned
low_four v n true true true true = omega (arith, powers n)
low_four v n true true true false = omega (arith, powers n)
low_four v n true true false true = omega (arith, powers n)
low_four v n true true false false = omega (arith, powers n)
low_four v n true false true true = omega (arith, powers n)
low_four v n true false true false = omega (arith, powers n)
low_four v n true false false true = omega (arith, powers n)
low_four v n true false false false = omega (arith, powers n)
low_four v n false true true true = omega (arith, powers n)
low_four v n false true true false = omega (arith, powers n)
low_four v n false true false true = omega (arith, powers n)
low_four v n false true false false = omega (arith, powers n)
low_four v n false false true true = omega (arith, powers n)
low_four v n false false true false = omega (arith, powers n)
low_four v n false false false true = omega (arith, powers n)
low_four v n false false false false = omega (arith, powers n)

pub low_three : (v n : ℕ) (a b c d : Bool) → v + turned 8 (nibble a b c d * 16) % 8 * 2 ^ n ≡ shifted_three true v n a b c
unfolding turned
low_three v n true true true true = omega (arith, powers n)
low_three v n true true true false = omega (arith, powers n)
low_three v n true true false true = omega (arith, powers n)
low_three v n true true false false = omega (arith, powers n)
low_three v n true false true true = omega (arith, powers n)
low_three v n true false true false = omega (arith, powers n)
low_three v n true false false true = omega (arith, powers n)
low_three v n true false false false = omega (arith, powers n)
low_three v n false true true true = omega (arith, powers n)
low_three v n false true true false = omega (arith, powers n)
low_three v n false true false true = omega (arith, powers n)
low_three v n false true false false = omega (arith, powers n)
low_three v n false false true true = omega (arith, powers n)
low_three v n false false true false = omega (arith, powers n)
low_three v n false false false true = omega (arith, powers n)
low_three v n false false false false = omega (arith, powers n)

-- four bits turned are four bits
pub turned_lt : (x : ℕ) → x < 16 → turned 8 (x * 16) < 16
unfolding turned
turned_lt zero h = lit< tt
turned_lt (suc zero) h = lit< tt
turned_lt (suc (suc zero)) h = lit< tt
turned_lt (suc (suc (suc zero))) h = lit< tt
turned_lt (suc (suc (suc (suc zero)))) h = lit< tt
turned_lt (suc (suc (suc (suc (suc zero))))) h = lit< tt
turned_lt (suc (suc (suc (suc (suc (suc zero)))))) h = lit< tt
turned_lt (suc (suc (suc (suc (suc (suc (suc zero))))))) h = lit< tt
turned_lt (suc (suc (suc (suc (suc (suc (suc (suc zero)))))))) h = lit< tt
turned_lt (suc (suc (suc (suc (suc (suc (suc (suc (suc zero))))))))) h = lit< tt
turned_lt (suc (suc (suc (suc (suc (suc (suc (suc (suc (suc zero)))))))))) h = lit< tt
turned_lt (suc (suc (suc (suc (suc (suc (suc (suc (suc (suc (suc zero))))))))))) h = lit< tt
turned_lt (suc (suc (suc (suc (suc (suc (suc (suc (suc (suc (suc (suc zero)))))))))))) h = lit< tt
turned_lt (suc (suc (suc (suc (suc (suc (suc (suc (suc (suc (suc (suc (suc zero))))))))))))) h = lit< tt
turned_lt (suc (suc (suc (suc (suc (suc (suc (suc (suc (suc (suc (suc (suc (suc zero)))))))))))))) h = lit< tt
turned_lt (suc (suc (suc (suc (suc (suc (suc (suc (suc (suc (suc (suc (suc (suc (suc zero))))))))))))))) h = lit< tt
turned_lt (suc (suc (suc (suc (suc (suc (suc (suc (suc (suc (suc (suc (suc (suc (suc (suc x)))))))))))))))) h = absurd (omega arith)

-- and stand above the others in two bytes
pub above_fits : (t v n : ℕ) → t < 16 → v < 2 ^ n → n + 4 ≤ 16 → v + t * 2 ^ n < 65536
above_fits t v n h g k =
    let a = mul-le-mul_right {m = suc t} {n = 16} (2 ^ n) h in
    let b : 2 ^ n ≤ 2 ^ 12 = pow_mono {i = n} {j = 12} (omega arith) in
    omega (arith, a, suc-mul t (2 ^ n), b)

pub value_lt : (v n : ℕ) → v < 2 ^ n → n + 4 ≤ 16 → v < 4096
value_lt v n g k = let b : 2 ^ n ≤ 2 ^ 12 = pow_mono {i = n} {j = 12} (omega arith) in omega (arith, b)

-- ---- the samples

-- the level of a line, k samples on
abbrev pub level_of : List ℕ → ℕ → ℕ → ℕ → Bool
level_of xs line i k = bit_at (get_or xs (i + k) 0) line

-- the value with the levels of the next rises, in every second sample: three of them, and four
abbrev three_at : List ℕ → ℕ → Bool → Progress → ℕ
three_at xs line lsb p =
    let l = level_of xs line p.at in
    shifted_three lsb p.value p.bits (l 1) (l 3) (l 5)

abbrev four_at : List ℕ → ℕ → Bool → Progress → ℕ
four_at xs line lsb p =
    let l = level_of xs line p.at in
    shifted_four lsb p.value p.bits (l 1) (l 3) (l 5) (l 7)

module _ {xs : List ℕ} (bytes : (k : ℕ) → get_or xs k 0 < 256) {line : ℕ} {lsb : Bool} {last : ℕ} {p : Progress} (s : ProgressBounds xs last p) where
  -- the rise that is lowest in a mask
  one_more : {r : Bits} → p.at + 8 ≤ length xs → LanesTaken xs line lsb last p r
      → r.bits < last → (k : ℕ) → count_trailing_zeros 64 r.rising / 8 ≡ k → (r.rising ≡ 0 → ⊥)
      → LanesTaken xs line lsb last p (taken_bits (r.bits + 1)
      (shifted_in lsb r.value r.bits (bit_at (get_or xs (p.at + k) 0) line)) (bit_and r.rising (r.rising - 1)))
  one_more {r} room g h k e some =
      let f = next_rise bytes room g some in
      let a : f.place ≡ k = sym f.zeros ∙ e in
      rw a at (gathered_more bytes room g f h)

  -- four rises, one in every second sample
  module _ {rises : ℕ} (m : RisesAhead xs p rises) (dense : rises ≡ 0x0200020002000200) where
    three : p.bits + 3 ≤ last → LanesTaken xs line lsb last p (taken_bits (p.bits + 1 + 1 + 1) (three_at xs line lsb p) 0x0200000000000000)
    unfolding count_trailing_zeros
    three h =
        let g = subst (λ (k : ℕ). LanesTaken xs line lsb last p (taken_bits p.bits p.value k)) dense (gathered_begun p s m) in
        one_more m.room (one_more m.room (one_more m.room g (omega arith) 1 refl (λ z. omega (arith, z)))
        (omega arith) 3 refl (λ z. omega (arith, z))) (omega arith) 5 refl (λ z. omega (arith, z))

    pub dense_three : p.bits + 3 ≡ last → {v : ℕ} → v ≡ three_at xs line lsb p
        → BitsAfter xs line lsb last p (taken_bits last v 0x0200000000000000)
    dense_three e {v} ev =
        let a : p.bits + 1 + 1 + 1 ≡ last = omega (arith, e) in
        let g : BitsAfter xs line lsb last p (taken_bits (p.bits + 1 + 1 + 1) (three_at xs line lsb p) 0x0200000000000000) =
        record { gathered = three (omega (arith, e)); full = λ z. a } in
        rw ev (subst (λ (k : ℕ). BitsAfter xs line lsb last p (taken_bits k (three_at xs line lsb p) 0x0200000000000000)) a g)

    pub dense_four : p.bits + 3 < last → {v n : ℕ} → n ≡ p.bits + 4 → v ≡ four_at xs line lsb p
        → BitsAfter xs line lsb last p (taken_bits n v 0)
    unfolding count_trailing_zeros
    dense_four h {v} {n} en ev =
        let a : n ≡ p.bits + 1 + 1 + 1 + 1 = omega (arith, en) in
        rw (a, ev) (record {
          gathered = one_more m.room (three (omega (arith, h))) (omega (arith, h)) 7 refl (λ z. omega (arith, z));
          full = λ z. absurd (z refl);
        })

-- the four bits of a word are those of its samples
pub nibble_at : (xs : List ℕ) → ((k : ℕ) → get_or xs k 0 < 256) → (w i line : ℕ) → w ≡ word_of xs i 8 → line < 4
    → nibble (bit_at w (8 + line)) (bit_at w (24 + line)) (bit_at w (40 + line)) (bit_at w (56 + line))
    ≡ nibble (level_of xs line i 1) (level_of xs line i 3) (level_of xs line i 5) (level_of xs line i 7)
nibble_at xs bytes w i line e h =
    let at : (j : ℕ) → j < 8 → bit_at w (8 * j + line) ≡ level_of xs line i j =
    λ (j : ℕ) (g : j < 8). ap (λ (v : ℕ). bit_at v (8 * j + line)) e ∙ lane_bit xs bytes j 8 i line g (omega arith) in
    λ t. nibble (at 1 (omega arith) t) (at 3 (omega arith) t) (at 5 (omega arith) t) (at 7 (omega arith) t)

nibble_lt : (a b c d : Bool) → nibble a b c d < 16
nibble_lt a b c d = by (bit_of a) (bit_of b) (bit_of c) (bit_of d) (bit_lt a) (bit_lt b) (bit_lt c) (bit_lt d)
  where
    bit_lt : (b : Bool) → bit_of b < 2
    bit_lt true = omega arith
    bit_lt false = omega arith

    by : (a b c d : ℕ) → a < 2 → b < 2 → c < 2 → d < 2 → ((a * 2 + b) * 2 + c) * 2 + d < 16
    by a b c d ha hb hc hd = omega arith

pub word_nibble_lt : (x w line : ℕ) → x ≡ nibble (bit_at w (8 + line)) (bit_at w (24 + line)) (bit_at w (40 + line)) (bit_at w (56 + line)) → x < 16
word_nibble_lt x w line e = rw e (nibble_lt (bit_at w (8 + line)) (bit_at w (24 + line)) (bit_at w (40 + line)) (bit_at w (56 + line)))

-- ---- words

masked : {xs : List ℕ} {p : Progress} → p.at + 8 ≤ length xs → levels_in 8 (word_of xs p.at 8) ≡ 0x0200020002000200 → RisesAhead xs p 0x0200020002000200
masked {xs} {p} room dense =
    let w = word_of xs p.at 8 in
    let d = dense_lanes p.level w dense in
    record { room = room; mask = sym (ap (λ (k : ℕ). rises_in k p.level w) (lows_all 8 w d.0) ∙ d.1) }

module _ {xs : List ℕ} (bytes : (k : ℕ) → get_or xs k 0 < 256) {line : ℕ} {lsb : Bool}
    {last : ℕ} {p : Progress} (s : ProgressBounds xs last p) (room : p.at + 8 ≤ length xs)
    (dense : levels_in 8 (word_of xs p.at 8) ≡ 0x0200020002000200) where
  -- four bits of eight samples
  four_passed : p.bits + 3 < last → {v : ℕ} → v ≡ four_at xs line lsb p
      → Going xs line lsb last p (progress 2 (p.bits + 4) v (p.at + 8))
  unfolding level_in
  four_passed h {v} e =
      let d = dense_lanes p.level (word_of xs p.at 8) dense in
      let two = clock_mask (get_or xs (p.at + 7) 0) ∙ sym (level_in_lem xs bytes 7 8 p.at 2 (omega arith)) ∙ d.2 in
      subst (λ (l : ℕ). Going xs line lsb last p (progress l (p.bits + 4) v (p.at + 8))) two
      (word_passed bytes (going_begun s) room (dense_four bytes s (masked room dense) refl h refl e) refl d.0)

  -- the last three before the last bit
  three_taken : p.bits + 3 ≡ last → {v : ℕ} → v ≡ three_at xs line lsb p
      → LowScanAfter xs line lsb last p (progress 0 last v (p.at + 7))
  unfolding count_trailing_zeros
  three_taken h e = took_rise bytes (going_begun s) room (dense_three bytes s (masked room dense) refl h e) (λ z. omega (arith, z)) 7 refl

-- what a value with four more bits is, and with the first three of them
abbrev Four : Bool → ℕ → ℕ → ℕ → ℕ → Type 0
Four lsb v n more r = (a b c d : Bool) → more ≡ nibble a b c d → r ≡ shifted_four lsb v n a b c d

abbrev Three : Bool → ℕ → ℕ → ℕ → ℕ → Type 0
Three lsb v n more r = (a b c d : Bool) → more ≡ nibble a b c d → r ≡ shifted_three lsb v n a b c

-- the four bits of a word
abbrev NibbleOf : ℕ → ℕ → ℕ → Type 0
NibbleOf w line x = x ≡ nibble (bit_at w (8 + line)) (bit_at w (24 + line)) (bit_at w (40 + line)) (bit_at w (56 + line))

-- eight samples of four bits, in a word
module _ {xs : List ℕ} (bytes : (k : ℕ) → get_or xs k 0 < 256) {line : ℕ} (h : line < 4) {lsb : Bool} {last : ℕ} {p₀ p : Progress}
    (g : Going xs line lsb last p₀ p) (room : p.at + 8 ≤ length xs)
    {w : ℕ} (ew : w ≡ word_of xs p.at 8) (dense : levels_in 8 w ≡ 0x0200020002000200) {x : ℕ} (ex : NibbleOf w line x) {v at : ℕ} where
  -- all four are taken
  pub four_more : p.bits + 3 < last → Four lsb p.value p.bits x v → {n : ℕ} → n ≡ p.bits + 4 → at ≡ p.at + 8
      → Going xs line lsb last p₀ (progress 2 n v at)
  four_more few ev en ea =
      let l = level_of xs line p.at in
      let value = ev (l 1) (l 3) (l 5) (l 7) (ex ∙ nibble_at xs bytes w p.at line ew h) in
      rw (en, ea) (going_join g (four_passed bytes g.standing room (ap (levels_in 8) (sym ew) ∙ dense) few value))

  -- three are, and then comes the last bit
  pub three_more : p.bits + 3 ≡ last → Three lsb p.value p.bits x v → at ≡ p.at + 7 → LowScanAfter xs line lsb last p₀ (progress 0 last v at)
  three_more few ev ea =
      let l = level_of xs line p.at in
      let value = ev (l 1) (l 3) (l 5) (l 7) (ex ∙ nibble_at xs bytes w p.at line ew h) in
      rw ea (took_join g (three_taken bytes g.standing room (ap (levels_in 8) (sym ew) ∙ dense) few value))
