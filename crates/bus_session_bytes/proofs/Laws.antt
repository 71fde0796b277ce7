-- A session goes to bytes and back unchanged, and so do bytes that are a session.
use Prim.Native.Nat.{ℕ, zero, suc, ◌+◌, ◌/◌, ◌%◌, ◌<◌, ◌≤◌}
use mathlib.Core.Path.{◌≡◌, refl, sym, ◌∙◌, ap}
use mathlib.Core.Bool.{Bool, true, false, ◌&&◌}
use mathlib.Core.List.{List, [], ◌∷◌}
use native.Mathlib.Omega.{arith}
use lib.Dec.{eqb, leb}
use lib.ListN.{length, get_or, take, drop, drop_of_length-le}
use lib.Seq.{drop-cons}
use borrow.Author.Tests.{eqb-true, leb-true}
use mir.Val.{bool_byte}
use Rattle.std.specs.List.{list_all}
use Rattle.base_bits.specs.Bits.{bit_of}
use Rattle.base_bits.specs.Tests.{every}
use Rattle.base_bits.proofs.Cases.{every_true}
use Rattle.bus_session.specs.declared.Phase.{Phase}
use Rattle.bus_session.specs.declared.Phase.TheVariants.{Rest, Instruction, Data}
use Rattle.bus_session.specs.declared.Session.{Session}
use Rattle.bus_session_bytes.specs.Layout.{session_size, layout_version, phase_byte, phase_of_byte, word_of_bytes, session_bytes, field_tests, are_session, session_of}

-- a flag as the language makes it a byte
pub flag_byte : (b : Bool) → bool_byte b ≡ bit_of b
flag_byte true = refl
flag_byte false = refl

-- from a field to its byte and back
flag_back : (b : Bool) → eqb (bit_of b) 1 ≡ b
flag_back true = refl
flag_back false = refl

flag_small : (b : Bool) → leb (bit_of b) 1 ≡ true
flag_small true = refl
flag_small false = refl

phase_back : (p : Phase) → phase_of_byte (phase_byte p) ≡ p
phase_back Rest = refl
phase_back Instruction = refl
phase_back Data = refl

phase_small : (p : Phase) → leb (phase_byte p) 2 ≡ true
phase_small Rest = refl
phase_small Instruction = refl
phase_small Data = refl

halves_back : (x : ℕ) → word_of_bytes (x / 256) (x % 256) ≡ x
halves_back x = omega arith

-- The bytes of a session are one.
pub bytes_are : (s : Session) → are_session (session_bytes s) ≡ true
unfolding are_session session_bytes every
bytes_are s = simp (flag_small, phase_small)

-- Every session goes to bytes and back unchanged.
pub session_back : (s : Session) → session_of (session_bytes s) ≡ s
unfolding session_of session_bytes
session_back s = simp (flag_back, phase_back, halves_back)

-- from a byte to its field and back
bit_back : (x : ℕ) → leb x 1 ≡ true → bit_of (eqb x 1) ≡ x
bit_back zero h = refl
bit_back (suc zero) h = refl
bit_back (suc (suc x)) h = omega (arith, leb-true (suc (suc x)) 1 h)

number_back : (x : ℕ) → leb x 2 ≡ true → phase_byte (phase_of_byte x) ≡ x
number_back zero h = refl
number_back (suc zero) h = refl
number_back (suc (suc zero)) h = refl
number_back (suc (suc (suc x))) h = omega (arith, leb-true (suc (suc (suc x))) 2 h)

high_back : (high low : ℕ) → low < 256 → word_of_bytes high low / 256 ≡ high
high_back high low h = omega arith

low_back : (high low : ℕ) → low < 256 → word_of_bytes high low % 256 ≡ low
low_back high low h = omega arith

-- a number of 16 bits has a high byte
pub high_small : (x : ℕ) → x < 65536 → x / 256 % 256 ≡ x / 256
high_small x h = omega arith

-- whether each of n bytes of a list is a flag, from place i on
abbrev pub flags_from : ℕ → List ℕ → ℕ → List Bool
flags_from zero b i = []
flags_from (suc n) b i = leb (get_or b i 0) 1 ∷ flags_from n b (suc i)

pub flags_are : (n : ℕ) (b : List ℕ) (i : ℕ) → i + n ≤ length b → list_all (λ x. leb x 1) (take n (drop i b)) ≡ every (flags_from n b i)
unfolding every
flags_are zero b i h = refl
flags_are (suc n) b i h = rw (drop-cons b i 0 (omega arith)) (ap (λ (t : Bool). leb (get_or b i 0) 1 && t) (flags_are n b (suc i) (omega arith)))

-- n bytes of a list from place i on
by_byte : ℕ → List ℕ → ℕ → List ℕ
by_byte zero b i = []
by_byte (suc n) b i = get_or b i 0 ∷ by_byte n b (suc i)

all_by_byte : (n : ℕ) (b : List ℕ) (i : ℕ) → length b ≡ i + n → drop i b ≡ by_byte n b i
unfolding by_byte
all_by_byte zero b i e = drop_of_length-le b {i = i} (omega arith)
all_by_byte (suc n) b i e = drop-cons b i 0 (omega arith) ∙ ap (λ (l : List ℕ). get_or b i 0 ∷ l) (all_by_byte n b (suc i) (omega arith))

-- Bytes that are a session come back from it unchanged.
pub bytes_back : (b : List ℕ) → are_session b ≡ true → ((i : ℕ) → get_or b i 0 < 256) → session_bytes (session_of b) ≡ b
unfolding are_session session_of session_bytes by_byte
bytes_back b h small =
    let t = every_true (eqb (length b) session_size ∷ field_tests b) h in
    let f = t.1.1 in
    let g = f.1.1.1 in
    let u = g.1.1.1.1.1.1 in
    let at : ℕ → ℕ = λ i. get_or b i 0 in
    (λ i. (sym (eqb-true (at 0) layout_version t.1.0) i)
    ∷ bit_back (at 1) f.0 i ∷ bit_back (at 2) f.1.0 i ∷ number_back (at 3) f.1.1.0 i
    ∷ at 4 ∷ high_back (at 5) (at 6) (small 6) i ∷ low_back (at 5) (at 6) (small 6) i
    ∷ high_back (at 7) (at 8) (small 8) i ∷ low_back (at 7) (at 8) (small 8) i ∷ bit_back (at 9) g.0 i
    ∷ bit_back (at 10) g.1.0 i ∷ bit_back (at 11) g.1.1.0 i ∷ bit_back (at 12) g.1.1.1.0 i
    ∷ bit_back (at 13) g.1.1.1.1.0 i ∷ bit_back (at 14) g.1.1.1.1.1.0 i
    ∷ bit_back (at 15) u.0 i ∷ bit_back (at 16) u.1.0 i ∷ bit_back (at 17) u.1.1.0 i ∷ bit_back (at 18) u.1.1.1.0 i
    ∷ at 19 ∷ bit_back (at 20) u.1.1.1.1.0 i ∷ [])
    ∙ sym (all_by_byte session_size b 0 (eqb-true (length b) session_size t.0))
