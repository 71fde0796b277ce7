-- What the definitions mean, for every list of words.
use mathlib.Core.Path.{◌≡◌, sym, ap, ◌∙◌}
use mathlib.Core.Bool.{true, false}
use mathlib.Core.List.{List}
use Prim.Native.Nat.{ℕ, ◌+◌, ◌*◌, ◌/◌, ◌%◌, ◌^◌}
use native.Mathlib.Omega.{arith}
use lib.Bits.{bit_or}
use lib.ListN.{length, get_or, set, length-set}
use Rattle.reg_touched.specs.Touched.{touched_bits, touched_words, cleared_words}
use Rattle.reg_touched.specs.Meaning.{BitOfAddress, TouchSetsOne, MarkClearsAll, SearchFindsNext}
use Rattle.reg_touched.proofs.Row.{next_from}
use Rattle.reg_touched.proofs.Words.{length_bits_lem, bits_bit, bits_set, bits_clear}

whole : (a : ℕ) → 64 * (a / 64) + a % 64 ≡ a
whole a = omega arith

pub bit_of_address : BitOfAddress
bit_of_address ws a = sym (ap (λ (k : ℕ). get_or (touched_bits ws) k false) (whole a)) ∙ bits_bit ws (a / 64) (a % 64) (omega arith)

pub touch_sets_one : TouchSetsOne
unfolding touched_words
touch_sets_one ws a =
    let one : 2 ^ (a % 64) ≡ 1 * 2 ^ (a % 64) = omega arith in
    ap (λ (y : ℕ). touched_bits (set ws (a / 64) (bit_or (get_or ws (a / 64) 0) y))) one
    ∙ bits_set ws (a / 64) (a % 64) (omega arith) ∙ ap (λ (k : ℕ). set (touched_bits ws) k true) (whole a)

pub mark_clears_all : MarkClearsAll
unfolding cleared_words
mark_clears_all ws = bits_clear (length ws)

pub search_finds_next : SearchFindsNext
search_finds_next ws a = (next_from (touched_bits ws) a, length_bits_lem ws)

-- a touch leaves as many words
pub length_touched : (ws : List ℕ) (a : ℕ) → length (touched_words ws a) ≡ length ws
unfolding touched_words
length_touched ws a = length-set ws (a / 64) _
