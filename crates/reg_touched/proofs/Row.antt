-- Bits in a row: those of two rows joined, and the first that is set.
use mathlib.Core.Path.{◌≡◌, refl, sym, ap, ◌∙◌}
use mathlib.Core.Bool.{Bool, true, false}
use mathlib.Core.List.{List, [], ◌∷◌, ◌++◌}
use Prim.Native.Nat.{ℕ, zero, suc, ◌+◌, ◌-◌, ◌<◌, ◌≤◌}
use native.Mathlib.Omega.{arith}
use native.Mathlib.Nat.{zero-add, suc-add}
use borrow.Author.Tests.{leb-true, leb-false}
use lib.Dec.{leb}
use lib.ListN.{length, get_or, set, drop, length-drop}
use lib.Seq.{get_or-drop}
use Rattle.base_bits.proofs.Cases.{each}
use Rattle.reg_touched.specs.Touched.{trues, first_true, next_true}
use Rattle.reg_touched.specs.Meaning.{NextFrom}

pub set_append_right : (xs ys : List Bool) (i : ℕ) (b : Bool) → set (xs ++ ys) (length xs + i) b ≡ xs ++ set ys i b
set_append_right [] ys i b = ap (λ (k : ℕ). set ys k b) (zero-add i)
set_append_right (x ∷ xs) ys i b =
    ap (λ (k : ℕ). set (x ∷ (xs ++ ys)) k b) (suc-add (length xs) i) ∙ ap (λ (l : List Bool). x ∷ l) (set_append_right xs ys i b)

pub trues_append : (xs ys : List Bool) → trues (xs ++ ys) ≡ trues xs + trues ys
unfolding trues
trues_append [] ys = sym (zero-add (trues ys))
trues_append (x ∷ xs) ys = omega (arith, trues_append xs ys)

-- the first one that is set lies in the first row, or beyond it
pub first_here : (xs ys : List Bool) → first_true xs < length xs → first_true (xs ++ ys) ≡ first_true xs
unfolding first_true
first_here [] ys h = absurd (omega arith)
first_here (true ∷ xs) ys h = refl
first_here (false ∷ xs) ys h = ap (λ (k : ℕ). 1 + k) (first_here xs ys (omega arith))

pub first_beyond : (xs ys : List Bool) → first_true xs ≡ length xs → first_true (xs ++ ys) ≡ length xs + first_true ys
unfolding first_true
first_beyond [] ys h = sym (zero-add (first_true ys))
first_beyond (true ∷ xs) ys h = absurd (omega (arith, h))
first_beyond (false ∷ xs) ys h =
    let e : first_true xs ≡ length xs = omega (arith, h) in
    omega (arith, first_beyond xs ys e)

first_most : (bs : List Bool) → first_true bs ≤ length bs
unfolding first_true
first_most [] = omega arith
first_most (true ∷ bs) = omega arith
first_most (false ∷ bs) = omega (arith, first_most bs)

first_set : (bs : List Bool) → first_true bs < length bs → get_or bs (first_true bs) false ≡ true
unfolding first_true
first_set [] h = absurd (omega arith)
first_set (true ∷ bs) h = refl
first_set (false ∷ bs) h = ap (λ (k : ℕ). get_or (false ∷ bs) k false) e ∙ first_set bs (omega arith)
  where
    e : 1 + first_true bs ≡ suc (first_true bs)
    e = omega arith

first_none : (bs : List Bool) (i : ℕ) → i < first_true bs → get_or bs i false ≡ false
unfolding first_true
first_none [] i h = refl
first_none (true ∷ bs) i h = absurd (omega arith)
first_none (false ∷ bs) zero h = refl
first_none (false ∷ bs) (suc i) h = first_none bs i (omega arith)

-- a search from a place on finds the next one
pub next_from : (bs : List Bool) (a : ℕ) → NextFrom bs a (next_true bs a)
unfolding next_true
next_from bs a = each (NextFrom bs a) (leb (length bs) a) past (λ t. inside (leb-false (length bs) a t))
  where
    past : leb (length bs) a ≡ true → NextFrom bs a (length bs)
    past t = record {
      most = omega arith;
      touched = λ h. absurd (omega arith);
      none_between = λ b h l. absurd (omega (arith, leb-true (length bs) a t));
      not_before = λ h. h;
    }

    inside : a < length bs → NextFrom bs a (a + first_true (drop a bs))
    inside h =
        let left = length-drop a bs in
        record {
          most = omega (arith, first_most (drop a bs), left);
          touched = λ l. sym (get_or-drop a bs (first_true (drop a bs)) false) ∙ first_set (drop a bs) (omega (arith, left));
          none_between = λ b from l.
              let e : a + (b - a) ≡ b = omega arith in
              sym (get_or-drop a bs (b - a) false ∙ ap (λ (k : ℕ). get_or bs k false) e) ∙ first_none (drop a bs) (b - a) (omega arith);
          not_before = λ l. omega arith;
        }
