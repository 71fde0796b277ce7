-- `first_in_words` meets its contract: the words so far are 0, so that the first bit lies beyond them.
use native.Mathlib.Omega.{arith}
use native.Mathlib.Numerals.{add-one}
use Prim.Native.Nat.{ℕ, suc}
use mathlib.Core.Path.{◌≡◌, refl, ap}
use mathlib.Core.List.{List, [], ◌∷◌}
use lib.ListN.{drop, get_or, drop_of_length-le}
use lib.Seq.{drop-cons}
use lib.Count.{trailing_le}
use Rattle.reg_touched.specs.Touched.{touched_bits, first_true}
use Rattle.reg_touched.proofs.Words.{first_zero, first_word}
use Rattle.reg_touched.proofs.first_in_words.Goals as goal

pub overflow_mul-result : goal.overflow_mul-result
overflow_mul-result c = record { fits = omega (arith, c.loop-at-test.true, c.requires.0) }

pub overflow_cast-result : goal.overflow_cast-result
overflow_cast-result c =
    record { fits = omega (arith, trailing_le 64 (get_or c.args.words.now c.loop-at.at 0)) }

pub overflow_add-result : goal.overflow_add-result
overflow_add-result c = record {
  fits =
      omega (
        arith,
        trailing_le 64
            (get_or c.args.words.now
            c.loop-at.at 0),
        c.loop-at-test.true,
        c.requires.0,
      );
}

pub returns-then-word-ne0 : goal.returns-then-word-ne0
returns-then-word-ne0 c =
    let loop = c.loop-at in
    let ws = c.args.words.now in
    let here = ap (λ (l : List ℕ). first_true (touched_bits l)) (drop-cons ws loop.at 0 (omega (arith, c.loop-at-test.true))) in
    let first = first_word (get_or ws loop.at 0) (drop (suc loop.at) ws) (c.type_inv.words loop.at).fits c.if-word-ne0.true in
    omega (arith, here, first, loop.invariant)

pub loop-at-preserved : goal.loop-at-preserved
loop-at-preserved c =
    let loop = c.loop-at in
    let ws = c.args.words.now in
    let zero_word = ap (λ (x : ℕ). first_true (touched_bits (x ∷ drop (suc loop.at) ws))) c.if-word-ne0.false in
    let here = ap (λ (l : List ℕ). first_true (touched_bits l)) (drop-cons ws loop.at 0 (omega (arith, c.loop-at-test.true))) in
    let next = ap (λ (k : ℕ). first_true (touched_bits (drop k ws))) (add-one loop.at) in
    omega (arith, zero_word, here, next, first_zero (drop (suc loop.at) ws), loop.invariant)

pub overflow_mul-result-2 : goal.overflow_mul-result-2
overflow_mul-result-2 c = record { fits = omega (arith, c.requires.0) }

pub returns : goal.returns
unfolding touched_bits first_true
returns c =
    let loop = c.loop-at in
    let ws = c.args.words.now in
    let none = ap (λ (l : List ℕ). first_true (touched_bits l)) (drop_of_length-le ws {i = loop.at} (omega (arith, c.loop-at-test.false))) in
    omega (arith, none, nothing, loop.invariant)
  where
    nothing : first_true (touched_bits []) ≡ 0
    nothing = refl
