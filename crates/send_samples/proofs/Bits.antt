-- Bits in the order in which they travel: those of a byte are two nibbles, highest bit first, of the byte or of the turned one.
use mathlib.Core.Path.{◌≡◌, refl, sym, ◌∙◌, ap}
use mathlib.Core.Bool.{Bool, true, false, cond}
use mathlib.Core.List.{List, ◌∷◌, ◌++◌}
use Prim.Native.Nat.{ℕ, zero, suc, ◌+◌, ◌-◌, ◌*◌, ◌/◌, ◌%◌, ◌^◌, ◌≤◌}
use native.Mathlib.Omega.{arith}
use native.Mathlib.Nat.{zero-add, suc-add, add_comm}
use Rattle.base_bits.specs.Bits.{bit_at}
use Rattle.base_bits.specs.Buffer.{Put}
use Rattle.base_bits.proofs.Laws.{bit_above, bit_under}
use Rattle.base_card.specs.Card.{turned}
use Rattle.base_card.proofs.Laws.{turned_bit}
use Rattle.send_order.specs.Samples.{high_first, low_first, bits_of, clocked}
use Rattle.send_order.proofs.Laws.{clocked_append, length_bits_lem, length_clocked}

-- highest first: the bits above place v, then those under it
high_apart : (w v x : ℕ) → high_first (w + v) x ≡ high_first w (x / 2 ^ v) ++ high_first v x
unfolding high_first
high_apart zero v x = ap (λ (k : ℕ). high_first k x) (zero-add v)
high_apart (suc w) v x =
    ap (λ (k : ℕ). high_first k x) (suc-add w v)
    ∙ ap (λ (b : Bool). b ∷ high_first (w + v) x) (ap (bit_at x) (add_comm w v) ∙ sym (bit_above x v w))
    ∙ ap (λ (bs : List Bool). bit_at (x / 2 ^ v) w ∷ bs) (high_apart w v x)

high_under : (w v x : ℕ) → w ≤ v → high_first w (x % 2 ^ v) ≡ high_first w x
unfolding high_first
high_under zero v x h = refl
high_under (suc w) v x h = rw (bit_under x v w (omega arith), high_under w v x (omega arith))

-- lowest first: the bits from place i up to place i + w, then those after them
low_apart : (i w v x : ℕ) → low_first i (w + v) x ≡ low_first i w x ++ low_first (i + w) v x
unfolding low_first
low_apart i zero v x =
    let e : i ≡ i + 0 = omega arith in
    ap (λ (k : ℕ). low_first i k x) (zero-add v) ∙ ap (λ (k : ℕ). low_first k v x) e
low_apart i (suc w) v x =
    let e : i + 1 + w ≡ i + suc w = omega arith in
    ap (λ (k : ℕ). low_first i k x) (suc-add w v)
    ∙ ap (λ (bs : List Bool). bit_at x i ∷ bs) (low_apart (i + 1) w v x ∙ ap (λ (k : ℕ). low_first (i + 1) w x ++ low_first k v x) e)

low_above : (i w v x : ℕ) → low_first (v + i) w x ≡ low_first i w (x / 2 ^ v)
unfolding low_first
low_above i zero v x = refl
low_above i (suc w) v x =
    let e : v + i + 1 ≡ v + (i + 1) = omega arith in
    ap (λ (b : Bool). b ∷ low_first (v + i + 1) w x) (sym (bit_above x v i))
    ∙ ap (λ (bs : List Bool). bit_at (x / 2 ^ v) i ∷ bs) (ap (λ (k : ℕ). low_first k w x) e ∙ low_above (i + 1) w v x)

low_under : (i w v x : ℕ) → i + w ≤ v → low_first i w (x % 2 ^ v) ≡ low_first i w x
unfolding low_first
low_under i zero v x h = refl
low_under i (suc w) v x h = rw (bit_under x v i (omega arith), low_under (i + 1) w v x (omega arith))

-- lowest first is highest first of the turned bits
low_turned : (w x i k : ℕ) → i + k ≡ w → low_first i k x ≡ high_first k (turned w x)
unfolding low_first high_first
low_turned w x i zero h = refl
low_turned w x i (suc k) h =
    let e : i ≡ w - 1 - k = omega arith in
    ap (λ (b : Bool). b ∷ low_first (i + 1) k x) (ap (bit_at x) e ∙ sym (turned_bit w x k (omega arith)))
    ∙ ap (λ (bs : List Bool). bit_at (turned w x) k ∷ bs) (low_turned w x (i + 1) k (omega arith))

-- the eight bits of a byte
pub two_nibbles : (lsb : Bool) (x t : ℕ) → t ≡ cond lsb (turned 8 x) x
    → clocked (bits_of lsb 8 x) ≡ clocked (high_first 4 (t / 16)) ++ clocked (high_first 4 (t % 16))
unfolding bits_of
two_nibbles lsb x t e =
    ap clocked (sent lsb ∙ ap (high_first 8) (sym e) ∙ high_apart 4 4 t
    ∙ ap (λ (bs : List Bool). high_first 4 (t / 16) ++ bs) (sym (high_under 4 4 t (omega arith))))
    ∙ clocked_append (high_first 4 (t / 16)) (high_first 4 (t % 16))
  where
    sent : (l : Bool) → cond l (low_first 0 8 x) (high_first 8 x) ≡ high_first 8 (cond l (turned 8 x) x)
    sent true = low_turned 8 x 0 8 refl
    sent false = refl

-- the sixteen bits of an instruction, two bytes in the order in which they travel
pub two_bytes : (lsb : Bool) (x : ℕ)
    → clocked (bits_of lsb 16 x) ≡ clocked (bits_of lsb 8 (cond lsb (x % 256) (x / 256))) ++ clocked (bits_of lsb 8 (cond lsb (x / 256) (x % 256)))
unfolding bits_of
two_bytes true x =
    ap clocked (low_apart 0 8 8 x ∙ rw (low_under 0 8 8 x (omega arith), low_above 0 8 8 x)) ∙ clocked_append (low_first 0 8 (x % 256)) (low_first 0 8 (x / 256))
two_bytes false x =
    ap clocked (high_apart 8 8 x ∙ rw (high_under 8 8 x (omega arith))) ∙ clocked_append (high_first 8 (x / 256)) (high_first 8 (x % 256))

pub after_bits : (lsb : Bool) (w x : ℕ) {old new : List ℕ} {at n : ℕ} → Put old at (clocked (bits_of lsb w x)) n new → n ≡ at + 2 * w
after_bits lsb w x p = p.next_place ∙ rw (length_clocked, length_bits_lem)
