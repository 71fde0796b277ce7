-- The tests of the registers that are listed: what is left of a list decides.
use mathlib.Core.Path.{◌≡◌, refl, sym, ap, ◌∙◌}
use mathlib.Core.Bool.{true, false, ◌&&◌}
use mathlib.Core.List.{List, [], ◌∷◌}
use Prim.Native.Nat.{ℕ, ◌+◌, ◌<◌, ◌≤◌}
use native.Mathlib.Omega.{arith}
use native.Mathlib.Numerals.{add-one}
use denote.Ref.{Bor}
use lib.ListN.{length, get_or, take, drop, drop_of_length-le}
use lib.Seq.{drop-cons}
use lib.Dec.{ltb}
use Rattle.std.specs.Prelude.{Option, Some, None}
use Rattle.std.specs.Option.{MatchOption}
use Rattle.std.specs.Slice.Iter.{windows_rest, windows_size}
use Rattle.std.specs.declared.slice.Windows.{Windows}
use Rattle.std.proofs.lemmas.Option.{MatchOption-at_some, MatchOption-at_none}
use Rattle.send_frames.specs.Calls.{rising, may_be_listed, all_may_be_listed}

-- ---- whether the addresses rise

-- the first two of what is left, and those from the second on
pair_decides : (rest pair : List ℕ) → 2 ≤ length rest → pair ≡ take 2 rest
    → rising rest ≡ (ltb (get_or pair 0 0) (get_or pair 1 0) && rising (drop 1 rest))
unfolding rising
pair_decides [] pair h e = absurd (omega arith)
pair_decides (a ∷ []) pair h e = absurd (omega arith)
pair_decides (a ∷ b ∷ rest) pair h e = rw e

-- no two are left
none_decides : (rest : List ℕ) → length rest < 2 → true ≡ rising rest
unfolding rising
none_decides [] h = refl
none_decides (a ∷ []) h = refl
none_decides (a ∷ b ∷ rest) h = absurd (omega arith)

-- what a turn over the pairs tells, as the library says it
abbrev Turn : Windows ℕ → Windows ℕ → Option (Bor (List ℕ)) → Type 0
Turn s t r =
    (windows_size t ≡ windows_size s) × MatchOption r ((length (windows_rest s) < windows_size s) × (t ≡ s))
    (λ x. (windows_size s ≤ length (windows_rest s)) × (x.now ≡ take (windows_size s) (windows_rest s))
    × (windows_rest t ≡ drop 1 (windows_rest s)) × (length x.now ≡ windows_size s))

pub next_pair : (s t : Windows ℕ) (r : Option (Bor (List ℕ))) (w : Bor (List ℕ)) → r ≡ Some w → Turn s t r → windows_size s ≡ 2
    → (windows_size t ≡ 2) × (rising (windows_rest s) ≡ (ltb (get_or w.now 0 0) (get_or w.now 1 0) && rising (windows_rest t)))
next_pair s t r w is h size =
    let p = MatchOption-at_some _ _ w is h.1 in (
      h.0 ∙ size,
      pair_decides (windows_rest s) w.now (omega (arith, p.0, size)) (p.1 ∙ ap (λ (n : ℕ). take n (windows_rest s)) size)
          ∙ ap (λ (l : List ℕ). ltb (get_or w.now 0 0) (get_or w.now 1 0) && rising l) (sym p.2),
    )

pub no_pair : (s t : Windows ℕ) (r : Option (Bor (List ℕ))) → r ≡ None → Turn s t r → windows_size s ≡ 2 → true ≡ rising (windows_rest s)
no_pair s t r is h size =
    let p = MatchOption-at_none _ _ is h.1 in
    none_decides (windows_rest s) (omega (arith, p.0, size))

-- ---- whether each may be listed

all_next : (l : List ℕ) (i : ℕ) → i < length l → all_may_be_listed (drop i l) ≡ (may_be_listed (get_or l i 0) && all_may_be_listed (drop (i + 1) l))
unfolding all_may_be_listed
all_next l i h = rw (add-one i, drop-cons l i 0 h)

pub record Allowed (l : List ℕ) (i : ℕ) : Type 0 where
  pub rest : all_may_be_listed (drop i l) ≡ all_may_be_listed l

module _ {l : List ℕ} {i : ℕ} (k : Allowed l i) where
  pub forbidden : i < length l → may_be_listed (get_or l i 0) ≡ false → false ≡ all_may_be_listed l
  forbidden h t = sym (all_next l i h ∙ rw t) ∙ k.rest

  pub allowed_on : i < length l → may_be_listed (get_or l i 0) ≡ true → Allowed l (i + 1)
  allowed_on h t = record { rest = sym (all_next l i h ∙ rw t) ∙ k.rest }

  pub allowed_all : length l ≤ i → true ≡ all_may_be_listed l
  unfolding all_may_be_listed
  allowed_all h = sym (rw (drop_of_length-le l {i = i} h)) ∙ k.rest
