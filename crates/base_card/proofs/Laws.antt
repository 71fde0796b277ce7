-- Bits turned, once over the width.
use mathlib.Core.Path.{◌≡◌, refl, ap, sym, ◌∙◌}
use mathlib.Core.Bool.{Bool, true, false}
use Prim.Native.Nat.{ℕ, zero, suc, ◌+◌, ◌-◌, ◌*◌, ◌/◌, ◌%◌, ◌^◌, ◌<◌}
use native.Mathlib.Omega.{arith}
use native.Mathlib.Nat.{pow-suc, suc-add, zero-add, add_assoc, add-mul, mul_assoc}
use lib.Dec.{ltb}
use native.Mathlib.Numerals.{add-one}
use lib.Pow.{high, low, pow-add, shr-shr, field, mod-mod-pow}
use borrow.Author.Tests.{ltb-true, ltb-false}
use Rattle.base_bits.specs.Bits.{bit_at}
use Rattle.base_bits.proofs.Laws.{bit_under, bit_above}
use Rattle.base_card.specs.Card.{turned}

-- one bit more above w bits
one_more : (w b r : ℕ) → b < 2 → r < 2 ^ w → b * 2 ^ w + r < 2 ^ suc w
one_more w zero r h l = omega (arith, pow-suc 2 w)
one_more w (suc zero) r h l = omega (arith, pow-suc 2 w)
one_more w (suc (suc b)) r h l = absurd (omega arith)

pub turned_lt : (w x : ℕ) → turned w x < 2 ^ w
unfolding turned
turned_lt zero x = omega arith
turned_lt (suc w) x = one_more w (x % 2) (turned w (x / 2)) (omega arith) (turned_lt w (x / 2))

-- Document 02, Ask 5: bit i of w bits turned is bit w - 1 less i.
pub turned_bit : (w x i : ℕ) → i < w → bit_at (turned w x) i ≡ bit_at x (w - 1 - i)
unfolding turned
turned_bit zero x i h = absurd (omega arith)
turned_bit (suc w) x i h = go (ltb i w) refl (turned_bit w (x / 2) i)
  where
    whole : ℕ
    whole = x % 2 * 2 ^ w + turned w (x / 2)

    go : (b : Bool) → ltb i w ≡ b → (i < w → bit_at (turned w (x / 2)) i ≡ bit_at (x / 2) (w - 1 - i)) → bit_at whole i ≡ bit_at x (suc w - 1 - i)
    go true e before =
        let l = ltb-true i w e in
        let s : 1 + (w - 1 - i) ≡ suc w - 1 - i = omega arith in
        sym (bit_under whole w i l)
        ∙ ap (λ (k : ℕ). bit_at k i) (low (x % 2) w (turned_lt w (x / 2)))
        ∙ before l
        ∙ bit_above x 1 (w - 1 - i)
        ∙ ap (bit_at x) s
    go false e before =
        let l = ltb-false i w e in
        let s : i ≡ w + 0 = omega arith in
        let z : 0 ≡ suc w - 1 - i = omega arith in
        ap (bit_at whole) s
        ∙ sym (bit_above whole w 0)
        ∙ ap (λ (k : ℕ). bit_at k 0) (high (x % 2) w (turned_lt w (x / 2)))
        ∙ bit_under x 1 0 (omega arith)
        ∙ ap (bit_at x) z

-- v and w bits turned: each turned, and the two exchanged
pub turned_both : (v w x : ℕ) → turned (v + w) x ≡ turned v x * 2 ^ w + turned w (x / 2 ^ v)
unfolding turned
turned_both zero w x =
    let e : x ≡ x / 2 ^ 0 = omega arith in
    let z : turned w (x / 2 ^ 0) ≡ 0 * 2 ^ w + turned w (x / 2 ^ 0) = omega arith in
    ap (λ (k : ℕ). turned k x) (zero-add w) ∙ ap (turned w) e ∙ z
turned_both (suc v) w x =
    let e : 1 + v ≡ suc v = omega arith in
    ap (λ (k : ℕ). turned k x) (suc-add v w)
    ∙ ap (λ (k : ℕ). x % 2 * k + turned (v + w) (x / 2)) (pow-add 2 v w)
    ∙ ap (λ (k : ℕ). x % 2 * (2 ^ v * 2 ^ w) + k) (turned_both v w (x / 2))
    ∙ ap (λ (k : ℕ). x % 2 * (2 ^ v * 2 ^ w) + (turned v (x / 2) * 2 ^ w + turned w k)) (shr-shr x 1 v ∙ ap (λ (k : ℕ). x / 2 ^ k) e)
    ∙ rw (← mul_assoc, ← add_assoc, ← add-mul)

-- bits above the lowest v do not count
pub turned_low : (v x : ℕ) → turned v (x % 2 ^ v) ≡ turned v x
unfolding turned
turned_low zero x = refl
turned_low (suc v) x =
    ap (λ (k : ℕ). turned (suc v) (x % 2 ^ k)) (sym (add-one v))
    ∙ ap (λ (k : ℕ). k * 2 ^ v + turned v (x % 2 ^ (v + 1) / 2)) (mod-mod-pow x v 1)
    ∙ ap (λ (k : ℕ). x % 2 * 2 ^ v + turned v k) (field x v 1)
    ∙ ap (λ (k : ℕ). x % 2 * 2 ^ v + k) (turned_low v (x / 2))
