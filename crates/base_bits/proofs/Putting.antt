-- Bytes that are put into a buffer piece by piece.
use mathlib.Core.Path.{◌≡◌, refl, sym, ◌∙◌, ap}
use mathlib.Core.List.{List, [], ◌∷◌, ◌++◌}
use Prim.Native.Nat.{ℕ, ◌+◌, ◌≤◌, ◌<◌}
use native.Mathlib.Omega.{arith}
use native.Mathlib.Numerals.{add-one}
use native.Mathlib.Nat.{add_assoc}
use lib.ListN.{length, get_or, drop, length-append}
use lib.Seq.{sets, length-sets, drop-cons}
use Rattle.base_bits.specs.Buffer.{filled, Put}
use Rattle.base_bits.proofs.Buffer.{sets_append, sets_filled}

-- two pieces, the second at the place after the first
pub put_both : {old mid new : List ℕ} {at n m : ℕ} {xs ys : List ℕ} → Put old at xs n mid → Put mid n ys m new → Put old at (xs ++ ys) m new
put_both {old} {at = at} {xs = xs} {ys = ys} p q = record {
  next_place = q.next_place ∙ rw (p.next_place, length-append, add_assoc);
  buffer = q.buffer ∙ rw (p.buffer, p.next_place) (sym (sets_append xs ys old at));
}

-- at the start of a buffer
pub put_filled : {old new : List ℕ} {n : ℕ} {xs : List ℕ} → length xs ≤ length old → Put old 0 xs n new → new ≡ filled xs old
put_filled {old} {xs = xs} h p = p.buffer ∙ sets_filled xs old h

-- In a loop that puts `all` at a place: what is put so far, with the rest from n on, is the whole.
pub record Putting (old : List ℕ) (at : ℕ) (all rest : List ℕ) (n : ℕ) (new : List ℕ) : Type 0 where
  pub same : length new ≡ length old
  pub room : at + length all ≤ length old
  pub place : n + length rest ≡ at + length all
  pub whole : sets new n rest ≡ sets old at all

pub putting_begun : (old : List ℕ) (at : ℕ) (all : List ℕ) → at + length all ≤ length old → Putting old at all all at old
putting_begun old at all h = record { same = refl; room = h; place = refl; whole = refl }

-- what is to be put next, and what is left then
pub record Splits (rest next more : List ℕ) : Type 0 where
  pub split : rest ≡ next ++ more

-- the next byte of a list, and those after it
pub next_byte : (l : List ℕ) (i : ℕ) → i < length l → Splits (drop i l) (get_or l i 0 ∷ []) (drop (i + 1) l)
next_byte l i h = record { split = rw add-one (drop-cons l i 0 h) }

module _ {old new all rest : List ℕ} {at n : ℕ} (k : Putting old at all rest n new) where
  pub next_fits : {next more : List ℕ} → Splits rest next more → n + length next ≤ length new
  next_fits {next} {more} e = omega (arith, ap length e.split, length-append next more, k)

  pub further : {next more : List ℕ} {n' : ℕ} {new' : List ℕ} → Splits rest next more → Put new n next n' new' → Putting old at all more n' new'
  further {next} {more} e p = record {
    same = ap length p.buffer ∙ length-sets new n next ∙ k.same;
    room = k.room;
    place = omega (arith, ap length e.split, length-append next more, k.place, p.next_place);
    whole = rw (p.buffer, p.next_place) (sym (sets_append next more new n)) ∙ ap (sets new n) (sym e.split) ∙ k.whole;
  }

  pub ended : rest ≡ [] → Put old at all n new
  ended e = record { next_place = omega (arith, ap length e, k.place); buffer = ap (sets new n) (sym e) ∙ k.whole }
