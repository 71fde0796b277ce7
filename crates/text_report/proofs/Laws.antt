-- Texts one after another, the lines of records, and the digits of a number.
use mathlib.Core.Path.{◌≡◌, refl, sym, ap, subst, ◌∙◌}
use mathlib.Core.List.{List, [], ◌∷◌, ◌++◌, append_assoc}
use Prim.Native.Nat.{ℕ, zero, suc, ◌+◌, ◌-◌, ◌*◌, ◌/◌, ◌%◌, ◌^◌, ◌<◌, ◌≤◌, min}
use native.Mathlib.Omega.{arith}
use native.Mathlib.Numerals.{unary_clauses, sub-one}
use native.Mathlib.Nat.{pow-suc, one-le-pow, pow-le-pow_right, lt_of_not-le}
use lib.ListN.{length, take, drop, length-append}
use lib.Seq.{sets, sets-eq, length-sets, length-take-le, drop-drop}
use lib.Dec.{eqb}
use borrow.Author.Tests.{eq-eqb, ne_eqb, lt-ltb}
use Rattle.io.specs.Digits.{last_digits, hex_digit_ascii, IsDigitCount}
use borrow.Rule.Slice.PartMut.{put_mid}
use Rattle.std.proofs.lemmas.Slice.{put_mid-paste}
use Rattle.std.proofs.lemmas.List.Edits.{paste_all}
use Rattle.base_bits.proofs.Buffer.{sets_append, sets_filled}
use Rattle.base_bits.specs.Buffer.{Put}
use Rattle.base_bits.proofs.Putting.{put_both}
use Rattle.base_bits.proofs.Cases.{each}
use Rattle.base_sizes.specs.Sizes.{record_size}
use Rattle.text_lines.specs.Text.{digit_of}
use Rattle.text_lines.specs.Line.{line_size, line_of}
use Rattle.text_lines.proofs.Laws.{line_length}
use Rattle.text_report.specs.Numbers.{decimal_in, decimal_of}
use Rattle.text_report.specs.Text.{lines_of}
use Rattle.text_report.specs.Put.{Printed, LinesPut}

-- a word and its number after a text
pub put_more : (b d : List ℕ) {a : List ℕ} {at : ℕ} {old mid new : List ℕ} {i j : ℕ}
    → Put old at a i mid → Put mid i (b ++ d) j new → Put old at (a ++ b ++ d) j new
put_more b d {a} {at} {old} {mid} {new} {i} {j} p q =
    subst (λ (l : List ℕ). Put old at l j new) (sym (append_assoc a b d)) (put_both p q)

-- a part of a buffer that bytes were copied into
pub put_part : (bytes old part : List ℕ) (at k : ℕ) → part ≡ bytes → length bytes ≡ k → at + length bytes ≤ length old → put_mid at k old part ≡ sets old at bytes
put_part bytes old part at k same long fits =
    put_mid-paste at k old part bytes (length bytes) same long refl
    ∙ paste_all old at bytes (length bytes) refl
    ∙ sym (append_assoc (take at old) bytes (drop (at + length bytes) old))
    ∙ sym (sets-eq bytes old at fits)

-- a text at the start of a buffer
pub put_printed : {line old new : List ℕ} {n : ℕ} → n ≤ length old → Put old 0 line n new → Printed line old new n
put_printed {line} {old} {new} {n} h p = record {
  bytes = omega (arith, p.next_place);
  buffer = p.buffer ∙ sets_filled line old (omega (arith, p.next_place));
  within = (fits, sym (length-take-le n new fits));
}
  where
    fits : n ≤ length new
    fits = omega (arith, h, ap length p.buffer ∙ length-sets old 0 line)

-- a text from the start of a buffer on, and the bytes that end it
pub line_ended : {text end : List ℕ} {old mid new : List ℕ} {i n : ℕ}
    → n ≤ length old → Put old 0 text i mid → Put mid i end n new → Printed (text ++ end) old new n
line_ended h p q = put_printed h (put_both p q)

lines_length : (n : ℕ) (records : List ℕ) → length (lines_of n records) ≡ n * line_size
unfolding lines_of
lines_length zero records = refl
lines_length (suc n) records = simp length-append (omega (arith, line_length records, lines_length n (drop record_size records)))

-- n of `all` lines are put: those of the records that are left, from there on, would make the buffer what it is to be
pub record Listing (records old new : List ℕ) (all n : ℕ) : Type 0 where
  pub same : length new ≡ length old
  pub rest : sets new (n * line_size) (lines_of (all - n) (drop (n * record_size) records)) ≡ sets old 0 (lines_of all records)

pub listing_begun : (records old : List ℕ) (all : ℕ) → Listing records old old all 0
listing_begun records old all = record { same = refl; rest = rw (ap (λ (k : ℕ). lines_of k records) e) }
  where
    e : all - 0 ≡ all
    e = omega arith

module _ {records old new : List ℕ} {all n : ℕ} (k : Listing records old new all n) where
  pub turned : n < all → Listing records old (sets new (n * line_size) (line_of (drop (n * record_size) records))) all (n + 1)
  unfolding lines_of
  turned h = record {
    same = length-sets new (n * line_size) (line_of (drop (n * record_size) records)) ∙ k.same;
    rest =
        ap (λ (i : ℕ). sets (sets new (n * line_size) first) i (lines_of (all - (n + 1)) (drop ((n + 1) * record_size) records))) place
        ∙ ap (λ (l : List ℕ). sets (sets new (n * line_size) first) (n * line_size + length first) (lines_of (all - (n + 1)) l)) left
        ∙ sym (sets_append first _ new (n * line_size))
        ∙ ap (λ (j : ℕ). sets new (n * line_size) (lines_of j (drop (n * record_size) records))) one
        ∙ k.rest;
  }
    where
      first : List ℕ
      first = line_of (drop (n * record_size) records)

      place : (n + 1) * line_size ≡ n * line_size + length (line_of (drop (n * record_size) records))
      place = omega (arith, line_length (drop (n * record_size) records))

      one_record : (n + 1) * record_size ≡ n * record_size + record_size
      one_record = omega arith

      left : drop ((n + 1) * record_size) records ≡ drop record_size (drop (n * record_size) records)
      left = ap (λ (i : ℕ). drop i records) one_record ∙ sym (drop-drop record_size (n * record_size) records)

      one : suc (all - (n + 1)) ≡ all - n
      one = omega arith

  pub ended : all ≤ n → all ≡ min (length records / record_size) (length old / line_size) → LinesPut records old new all
  unfolding lines_of
  ended h e = record {
    lines = e;
    buffer =
        sym (ap (λ (j : ℕ). sets new (n * line_size) (lines_of j (drop (n * record_size) records))) none)
        ∙ k.rest
        ∙ sets_filled (lines_of all records) old (omega (arith, lines_length all records));
  }
    where
      none : all - n ≡ 0
      none = omega arith

-- a number has at most as many digits as the bound
decimal_length : (k n : ℕ) → length (decimal_in k n) ≤ k
unfolding decimal_in
decimal_length zero n = omega arith
decimal_length (suc k) n =
    simp length-append
    (each (λ (l : List ℕ). length l + 1 ≤ suc k) (eqb (n / 10) 0) (λ e. omega arith) (λ e. omega (arith, decimal_length k (n / 10))))

-- how far a word and its number reach, and that the buffer is as long as before
pub number_put : (word : List ℕ) (n : ℕ) {at : ℕ} {old new : List ℕ} {next : ℕ}
    → Put old at (word ++ decimal_of n) next new → (next ≤ at + length word + 20) × (length new ≡ length old)
number_put word n {at} {old} p =
    (omega (arith, p.next_place, length-append word (decimal_of n), decimal_length 20 n), ap length p.buffer ∙ length-sets old at (word ++ decimal_of n))

glyph_digit : (n : ℕ) → hex_digit_ascii (n % 10) ≡ digit_of (n % 10)
glyph_digit n = rw (lt-ltb (n % 10) 10 (omega arith))

-- the fewest digits that hold a number are its decimal
fewest_decimal : (b k n : ℕ) → k ≤ b → IsDigitCount 10 1 n k → last_digits 10 k n ≡ decimal_in b n
unfolding decimal_in
fewest_decimal b zero n h f = absurd (omega (arith, f.0))
fewest_decimal zero (suc k) n h f = absurd (omega arith)
fewest_decimal (suc b) (suc zero) n h f = rw (eq-eqb (n / 10) 0 (omega (arith, f.1)), glyph_digit n)
fewest_decimal (suc b) (suc (suc k)) n h f =
    let high : 10 ^ suc k ≤ n = simp sub-one at (f.2 (omega arith)) in
    let p : 10 ^ suc (suc k) ≡ 10 ^ suc k * 10 = pow-suc 10 (suc k) in
    let q : 10 ^ suc k ≡ 10 ^ k * 10 = pow-suc 10 k in
    let tens : n / 10 ≡ 0 → ⊥ = λ e. omega (arith, one-le-pow k 10 (omega arith)) in
    rw (ne_eqb (n / 10) 0 tens, glyph_digit n)
    (ap (λ (l : List ℕ). l ++ (digit_of (n % 10) ∷ []))
    (fewest_decimal b (suc k) (n / 10) (omega arith) (omega arith, omega (arith, f.1), λ e. simp unary_clauses (omega arith))))

-- a number of 64 bits has at most 20 digits
pub at_most_20 : (k n : ℕ) → n < 2 ^ 64 → IsDigitCount 10 1 n k → k ≤ 20
at_most_20 k n h f = omega (arith, lt_of_not-le {n = 21} {m = k} more)
  where
    more : 21 ≤ k → ⊥
    more e = omega (arith, f.2 (omega arith), pow-le-pow_right {n = 10} (omega arith) {i = 20} {j = k - 1} (omega arith))

pub decimal_digits : (k n : ℕ) → n < 2 ^ 64 → IsDigitCount 10 1 n k → last_digits 10 k n ≡ decimal_of n
decimal_digits k n h f = fewest_decimal 20 k n (at_most_20 k n h f) f
