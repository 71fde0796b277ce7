-- `first_from` meets its contract: the bit lies in what is left of the address's word, or in the words after it.
use native.Mathlib.Omega.{arith}
use native.Mathlib.Numerals.{add-one}
use Prim.Native.Nat.{ℕ, ◌+◌, ◌*◌, ◌/◌, ◌%◌, ◌^◌}
use mathlib.Core.Path.{◌≡◌, sym, ap, ◌∙◌}
use lib.ListN.{drop, get_or}
use lib.Count.{trailing_le}
use Rattle.reg_touched.specs.Touched.{touched_bits, first_true}
use Rattle.reg_touched.proofs.Words.{next_here, next_beyond, next_past, next_inside}
use Rattle.reg_touched.proofs.first_from.Goals as goal

pub returns-then-end-address : goal.returns-then-end-address
returns-then-end-address c =
    next_past c.args.words.now c.args.address (omega (arith, c.if-end-address.true))

pub overflow_cast-result : goal.overflow_cast-result
overflow_cast-result c =
    let few = trailing_le 64 (get_or c.args.words.now (c.args.address / 64) 0 / 2 ^ (c.args.address % 64)) in
    record { fits = omega (arith, few) }

pub overflow_add-result : goal.overflow_add-result
overflow_add-result c =
    let few = trailing_le 64 (get_or c.args.words.now (c.args.address / 64) 0 / 2 ^ (c.args.address % 64)) in
    record { fits = omega (arith, few, c.if-end-address.false, c.requires) }

pub returns-then-rest-ne0 : goal.returns-then-rest-ne0
returns-then-rest-ne0 c =
    let ws = c.args.words.now in
    let a = c.args.address in
    let e : 64 * (a / 64) + a % 64 ≡ a = omega arith in
    let less = c.if-end-address.false in
    next_inside ws a _ (omega (arith, less))
    (ap (λ (k : ℕ). a + k)
    (sym (next_here ws (a / 64) (a % 64) (omega arith) (omega (arith, less)) (c.type_inv.words (a / 64)).fits c.if-rest-ne0.true)
    ∙ ap (λ (k : ℕ). first_true (drop k (touched_bits ws))) e))

pub first_in_words-requires : goal.first_in_words-requires
first_in_words-requires c = (c.requires, omega (arith, c.if-end-address.false))

pub returns : goal.returns
returns c =
    let ws = c.args.words.now in
    let a = c.args.address in
    let e : 64 * (a / 64) + a % 64 ≡ a = omega arith in
    let less = c.if-end-address.false in
    let beyond =
    sym (ap (λ (k : ℕ). first_true (drop k (touched_bits ws))) e)
    ∙ next_beyond ws (a / 64) (a % 64) (omega arith) (omega (arith, less)) c.if-rest-ne0.false in
    let from = ap (λ (k : ℕ). first_true (touched_bits (drop k ws))) (add-one (a / 64)) in
    next_inside ws a _ (omega (arith, less)) (omega (arith, c.first_in_words.ensures, beyond, from, e))
