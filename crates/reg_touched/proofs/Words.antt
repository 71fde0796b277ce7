-- A list of words and its bits.
use mathlib.Core.Path.{◌≡◌, refl, sym, ap, ◌∙◌, subst}
use mathlib.Core.Bool.{Bool, true, false}
use mathlib.Core.List.{List, [], ◌∷◌, ◌++◌}
use Prim.Native.Nat.{ℕ, zero, suc, ◌+◌, ◌-◌, ◌*◌, ◌/◌, ◌%◌, ◌^◌, ◌<◌, ◌≤◌}
use native.Mathlib.Omega.{arith}
use native.Mathlib.Nat.{suc-add, le_of_suc-le-suc}
use borrow.Author.Tests.{le-leb, lt-leb}
use lib.ListN.{length, get_or, set, drop, replicate, length-append, get_or-append, replicate-append-replicate}
use lib.Seq.{set-append_left, drop-append-add, drop-append-le, get_or-append-add}
use lib.Bits.{bit_or}
use Rattle.std.specs.List.{sum_by}
use Rattle.std.proofs.lemmas.List.Sums.{sum_by-cons}
use lib.Count.{ones, under, count_trailing_zeros}
use lib.Pow.{shr_lt}
use Rattle.base_bits.specs.Bits.{bit_at}
use Rattle.base_bits.proofs.Cases.{yes, no}
use Rattle.reg_touched.specs.Touched.{word_bits, touched_bits, trues, first_true, next_true}
use Rattle.reg_touched.proofs.Word.{length_word, word_bit, word_set, word_clear, word_trues, word_first, word_none, word_some, word_drop}
use Rattle.reg_touched.proofs.Row.{set_append_right, trues_append, first_here, first_beyond}

pub length_bits_lem : (ws : List ℕ) → length (touched_bits ws) ≡ 64 * length ws
unfolding touched_bits
length_bits_lem [] = refl
length_bits_lem (x ∷ ws) = omega (arith, length-append (word_bits 64 x) (touched_bits ws), length_word 64 x, length_bits_lem ws)

-- a place in the words after the first
behind : (x q r : ℕ) → 64 * suc q + r ≡ length (word_bits 64 x) + (64 * q + r)
behind x q r = omega (arith, length_word 64 x)

-- bit r of word q
pub bits_bit : (ws : List ℕ) (q r : ℕ) → r < 64 → get_or (touched_bits ws) (64 * q + r) false ≡ bit_at (get_or ws q 0) r
unfolding touched_bits
bits_bit [] q r h = sym (sym (word_bit 64 r 0 h) ∙ ap (λ (l : List Bool). get_or l r false) (word_clear 64) ∙ get_d_clear_lem 64 r)
  where
    get_d_clear_lem : (k i : ℕ) → get_or (replicate k false) i false ≡ false
    get_d_clear_lem zero i = refl
    get_d_clear_lem (suc k) zero = refl
    get_d_clear_lem (suc k) (suc i) = get_d_clear_lem k i
bits_bit (x ∷ ws) zero r h =
    let e : 64 * 0 + r ≡ r = omega arith in
    ap (λ (k : ℕ). get_or (word_bits 64 x ++ touched_bits ws) k false) e
    ∙ get_or-append (word_bits 64 x) (touched_bits ws) false r (omega (arith, length_word 64 x)) ∙ word_bit 64 r x h
bits_bit (x ∷ ws) (suc q) r h =
    ap (λ (k : ℕ). get_or (word_bits 64 x ++ touched_bits ws) k false) (behind x q r)
    ∙ get_or-append-add (word_bits 64 x) (touched_bits ws) (64 * q + r) false ∙ bits_bit ws q r h

-- one bit more
pub bits_set : (ws : List ℕ) (q r : ℕ) → r < 64 → touched_bits (set ws q (bit_or (get_or ws q 0) (1 * 2 ^ r))) ≡ set (touched_bits ws) (64 * q + r) true
unfolding touched_bits
bits_set [] q r h = refl
bits_set (x ∷ ws) zero r h =
    let e : 64 * 0 + r ≡ r = omega arith in
    ap (λ (l : List Bool). l ++ touched_bits ws) (word_set 64 r x h)
    ∙ sym
    (ap (λ (k : ℕ). set (word_bits 64 x ++ touched_bits ws) k true) e ∙ set-append_left (word_bits 64 x) (touched_bits ws) r true (omega (arith, length_word 64 x)))
bits_set (x ∷ ws) (suc q) r h =
    ap (λ (l : List Bool). word_bits 64 x ++ l) (bits_set ws q r h)
    ∙ sym (ap (λ (k : ℕ). set (word_bits 64 x ++ touched_bits ws) k true) (behind x q r) ∙ set_append_right (word_bits 64 x) (touched_bits ws) (64 * q + r) true)

-- cleared words
pub bits_clear : (k : ℕ) → touched_bits (replicate k 0) ≡ replicate (64 * k) false
unfolding touched_bits
bits_clear zero = refl
bits_clear (suc k) =
    let e : 64 + 64 * k ≡ 64 * suc k = omega arith in
    ap (λ (l : List Bool). l ++ touched_bits (replicate k 0)) (word_clear 64) ∙ ap (λ (l : List Bool). replicate 64 false ++ l) (bits_clear k)
    ∙ replicate-append-replicate 64 (64 * k) false ∙ ap (λ (n : ℕ). replicate n false) e

-- the ones of the first word, and of the others
pub bits_trues : (x : ℕ) (ws : List ℕ) → x < 2 ^ 64 → trues (touched_bits (x ∷ ws)) ≡ ones x + trues (touched_bits ws)
unfolding touched_bits
bits_trues x ws h = trues_append (word_bits 64 x) (touched_bits ws) ∙ ap (λ (k : ℕ). k + trues (touched_bits ws)) (word_trues 64 x h)

pub ones_trues : (ws : List ℕ) → ((i : ℕ) → get_or ws i 0 < 2 ^ 64) → sum_by ones ws ≡ trues (touched_bits ws)
unfolding touched_bits trues
ones_trues [] h = refl
ones_trues (x ∷ ws) h = sum_by-cons ones x ws ∙ ap (λ (k : ℕ). ones x + k) (ones_trues ws (λ i. h (suc i))) ∙ sym (bits_trues x ws (h 0))

pub first_zero : (ws : List ℕ) → first_true (touched_bits (0 ∷ ws)) ≡ 64 + first_true (touched_bits ws)
unfolding touched_bits
first_zero ws =
    first_beyond (word_bits 64 0) (touched_bits ws) (word_none 64 ∙ sym (length_word 64 0)) ∙ ap (λ (k : ℕ). k + first_true (touched_bits ws)) (length_word 64 0)

pub first_word : (x : ℕ) (ws : List ℕ) → x < 2 ^ 64 → (x ≡ 0 → ⊥) → first_true (touched_bits (x ∷ ws)) ≡ count_trailing_zeros 64 x
unfolding touched_bits
first_word x ws h n =
    first_here (word_bits 64 x) (touched_bits ws) (subst (λ (k : ℕ). first_true (word_bits 64 x) < k) (sym (length_word 64 x)) (word_some 64 x h n))
    ∙ word_first 64 x

-- the bits from an address on: those left of its word, and the words after it
bits_drop : (ws : List ℕ) (q r : ℕ) → r ≤ 64 → q < length ws
    → drop (64 * q + r) (touched_bits ws) ≡ word_bits (64 - r) (get_or ws q 0 / 2 ^ r) ++ touched_bits (drop (suc q) ws)
unfolding touched_bits
bits_drop [] q r hr hq = absurd (omega arith)
bits_drop (x ∷ ws) zero r hr hq =
    let e : 64 * 0 + r ≡ r = omega arith in
    ap (λ (k : ℕ). drop k (word_bits 64 x ++ touched_bits ws)) e ∙ drop-append-le r (word_bits 64 x) (touched_bits ws) (omega (arith, length_word 64 x))
    ∙ ap (λ (l : List Bool). l ++ touched_bits ws) (word_drop 64 r x hr)
bits_drop (x ∷ ws) (suc q) r hr hq =
    ap (λ (k : ℕ). drop k (word_bits 64 x ++ touched_bits ws)) (behind x q r)
    ∙ drop-append-add (word_bits 64 x) (touched_bits ws) (64 * q + r) ∙ bits_drop ws q r hr (omega arith)

under_same : (d a b : ℕ) → (d ≡ 0 → a ≡ b) → under d a ≡ under d b
under_same zero a b f = ap suc (f refl)
under_same (suc d) a b f = refl

-- a word with a bit among its k lowest ones has as many trailing zeros in any wider count
trailing_wider : (k m x : ℕ) → count_trailing_zeros k x < k → count_trailing_zeros (k + m) x ≡ count_trailing_zeros k x
unfolding count_trailing_zeros
trailing_wider zero m x h = absurd (omega arith)
trailing_wider (suc k) m x h =
    ap (λ (j : ℕ). count_trailing_zeros j x) (suc-add k m)
    ∙ under_same (x % 2) _ _ (λ e. trailing_wider k m (x / 2) (le_of_suc-le-suc (subst (λ (d : ℕ). under d (count_trailing_zeros k (x / 2)) < suc k) e h)))

-- what is left of the word is not 0: its trailing zeros
pub next_here : (ws : List ℕ) (q r : ℕ) → r < 64 → q < length ws → get_or ws q 0 < 2 ^ 64 → (get_or ws q 0 / 2 ^ r ≡ 0 → ⊥)
    → first_true (drop (64 * q + r) (touched_bits ws)) ≡ count_trailing_zeros 64 (get_or ws q 0 / 2 ^ r)
next_here ws q r hr hq h n =
    let x = get_or ws q 0 / 2 ^ r in
    let w : 64 - r + r ≡ 64 = omega arith in
    let small = shr_lt (64 - r) r (subst (λ (k : ℕ). get_or ws q 0 < 2 ^ k) (sym w) h) in
    let some = word_some (64 - r) x small n in
    let e = word_first (64 - r) x in
    ap first_true (bits_drop ws q r (omega arith) hq)
    ∙ first_here (word_bits (64 - r) x) (touched_bits (drop (suc q) ws))
    (subst (λ (k : ℕ). first_true (word_bits (64 - r) x) < k) (sym (length_word (64 - r) x)) some)
    ∙ e ∙ sym (trailing_wider (64 - r) r x (subst (λ (k : ℕ). k < 64 - r) e some)) ∙ ap (λ (k : ℕ). count_trailing_zeros k x) w

-- it is 0: the first of the words after it
pub next_beyond : (ws : List ℕ) (q r : ℕ) → r < 64 → q < length ws → get_or ws q 0 / 2 ^ r ≡ 0
    → first_true (drop (64 * q + r) (touched_bits ws)) ≡ 64 - r + first_true (touched_bits (drop (suc q) ws))
next_beyond ws q r hr hq z =
    ap first_true (bits_drop ws q r (omega arith) hq ∙ ap (λ (x : ℕ). word_bits (64 - r) x ++ touched_bits (drop (suc q) ws)) z)
    ∙ first_beyond (word_bits (64 - r) 0) (touched_bits (drop (suc q) ws)) (word_none (64 - r) ∙ sym (length_word (64 - r) 0))
    ∙ ap (λ (k : ℕ). k + first_true (touched_bits (drop (suc q) ws))) (length_word (64 - r) 0)

-- a search from past the end, and from before it
pub next_past : (ws : List ℕ) (a : ℕ) → 64 * length ws ≤ a → 64 * length ws ≡ next_true (touched_bits ws) a
unfolding next_true
next_past ws a h = yes _ (le-leb (length (touched_bits ws)) a (omega (arith, length_bits_lem ws))) (sym (length_bits_lem ws))

pub next_inside : (ws : List ℕ) (a n : ℕ) → a < 64 * length ws → n ≡ a + first_true (drop a (touched_bits ws)) → n ≡ next_true (touched_bits ws) a
unfolding next_true
next_inside ws a n h = no _ (lt-leb (length (touched_bits ws)) a (omega (arith, length_bits_lem ws)))
