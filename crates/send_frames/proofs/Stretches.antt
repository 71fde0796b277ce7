-- Stretches: of a good list they lie apart, and one after the other they have its registers and bytes.
use mathlib.Core.Path.{◌≡◌, refl, ap, sym, ◌∙◌}
use mathlib.Core.Bool.{Bool, true, false, ◌||◌, false≢true, or_assoc}
use mathlib.Core.List.{List, [], ◌∷◌, ◌++◌}
use mathlib.Core.Logic.{◌⊎◌, ⊎_elim}
use Prim.Native.Nat.{ℕ, suc, ◌+◌, ◌≤◌, ◌<◌}
use native.Mathlib.Omega.{arith}
use lib.ListN.{length}
use lib.Dec.{eqb, leb, ltb}
use borrow.Author.Tests.{eqb-true, eqb-false, leb-true, ltb-true, not-true}
use Rattle.base_bits.specs.Tests.{every}
use Rattle.base_bits.proofs.Cases.{each, and_left, and_right, or_left, or_cases, every_true}
use Rattle.base_chip.specs.Registers.{configuration_a, configuration_b, transfer_register}
use Rattle.send_order.specs.Order.{RunByte}
use Rattle.send_frames.specs.Frames.{Stretch, joined_to, stretches_of, wanted_of}
use Rattle.send_frames.specs.Calls.{rising, may_be_listed, all_may_be_listed, registers_tests}

-- ---- they lie apart

-- registers from l on, each above the one before it, up to 0x7FFF
abbrev RisingFrom : ℕ → List RunByte → Type 0
RisingFrom l [] = Unit {0}
RisingFrom l (p ∷ ps) = (l ≤ p.address) × (p.address < 0x8000) × RisingFrom (p.address + 1) ps

-- stretches from l on, each of one register at least, up to 0x7FFF, with a gap after each
abbrev pub Apart : ℕ → List Stretch → Type 0
Apart l [] = Unit {0}
Apart l (s ∷ ss) =
    (l ≤ s.lowest) × (1 ≤ length s.bytes) × (s.lowest + length s.bytes ≤ 0x8000) × Apart (s.lowest + length s.bytes + 1) ss

joined_apart : (l : ℕ) (p : RunByte) (ss : List Stretch) → l ≤ p.address → p.address < 0x8000 → Apart (p.address + 1) ss → Apart l (joined_to p ss)
unfolding joined_to
joined_apart l p [] h k t = (h, omega arith, omega arith, tt)
joined_apart l p (s ∷ ss) h k t =
    each (Apart l) (eqb (p.address + 1) s.lowest)
    (λ e.
    let next = eqb-true (p.address + 1) s.lowest e in
    let end : s.lowest + length s.bytes + 1 ≡ p.address + suc (length s.bytes) + 1 = omega arith in
    (h, omega arith, omega arith, rw end at t.3))
    (λ e.
    let gap : p.address + 1 ≡ s.lowest → ⊥ = eqb-false (p.address + 1) s.lowest e in
    (h, omega arith, omega arith, (omega arith, t.1, t.2, t.3)))

stretches_apart : (l : ℕ) (ps : List RunByte) → RisingFrom l ps → Apart l (stretches_of ps)
unfolding stretches_of
stretches_apart l [] h = tt
stretches_apart l (p ∷ ps) h = joined_apart l p (stretches_of ps) h.0 h.1 (stretches_apart (p.address + 1) ps h.2)

-- the registers after one that is listed
rising_after : (a : ℕ) (rest bytes : List ℕ) → rising (a ∷ rest) ≡ true → all_may_be_listed rest ≡ true → RisingFrom (a + 1) (wanted_of rest bytes)
unfolding rising all_may_be_listed wanted_of
rising_after a [] bytes r m = tt
rising_after a (b ∷ rest) [] r m = tt
rising_after a (b ∷ rest) (v ∷ bytes) r m =
    let above = ltb-true a b (and_left (ltb a b) (rising (b ∷ rest)) r) in
    let low = leb-true b 0x7FFF (and_left (leb b 0x7FFF) _ (and_left (may_be_listed b) (all_may_be_listed rest) m)) in (
      omega arith,
      omega arith,
      rising_after b rest bytes (and_right (ltb a b) (rising (b ∷ rest)) r) (and_right (may_be_listed b) (all_may_be_listed rest) m),
    )

-- a good list begins above 0x0000
good_rising : (addresses bytes : List ℕ) → rising addresses ≡ true → all_may_be_listed addresses ≡ true → RisingFrom 1 (wanted_of addresses bytes)
unfolding all_may_be_listed wanted_of
good_rising [] bytes r m = tt
good_rising (a ∷ rest) [] r m = tt
good_rising (a ∷ rest) (v ∷ bytes) r m =
    let here = and_left (may_be_listed a) (all_may_be_listed rest) m in
    let low = leb-true a 0x7FFF (and_left (leb a 0x7FFF) _ here) in
    let control = not-true (eqb a configuration_a || eqb a configuration_b || eqb a transfer_register) (and_right (leb a 0x7FFF) _ here) in
    let first =
    or_left (eqb a configuration_a) (eqb a configuration_b) (or_left (eqb a configuration_a || eqb a configuration_b) (eqb a transfer_register) control) in
    let above : a ≡ 0 → ⊥ = eqb-false a 0 first in
    (omega arith, omega arith, rising_after a rest bytes r (and_right (may_be_listed a) (all_may_be_listed rest) m))

pub good_apart : (addresses bytes : List ℕ) → every (registers_tests addresses bytes) ≡ true → Apart 1 (stretches_of (wanted_of addresses bytes))
good_apart addresses bytes h =
    let t = every_true (registers_tests addresses bytes) h in
    stretches_apart 1 (wanted_of addresses bytes) (good_rising addresses bytes t.1.1.0 t.1.1.1.0)

-- ---- they have the registers and bytes of the list

-- the registers of a stretch with their bytes
abbrev pub up_from : ℕ → List ℕ → List RunByte
up_from a [] = []
up_from a (v ∷ vs) = record { address = a; byte = v } ∷ up_from (a + 1) vs

abbrev pub registers_in : List Stretch → List RunByte
registers_in [] = []
registers_in (s ∷ ss) = up_from s.lowest s.bytes ++ registers_in ss

joined_registers : (p : RunByte) (ss : List Stretch) → registers_in (joined_to p ss) ≡ p ∷ registers_in ss
unfolding joined_to
joined_registers p [] = refl
joined_registers p (s ∷ ss) =
    each (λ (joined : List Stretch). registers_in joined ≡ p ∷ registers_in (s ∷ ss)) (eqb (p.address + 1) s.lowest)
    (λ e. ap (λ (a : ℕ). p ∷ (up_from a s.bytes ++ registers_in ss)) (eqb-true (p.address + 1) s.lowest e))
    (λ e. refl)

pub same_registers : (ps : List RunByte) → registers_in (stretches_of ps) ≡ ps
unfolding stretches_of
same_registers [] = refl
same_registers (p ∷ ps) = joined_registers p (stretches_of ps) ∙ ap (λ (l : List RunByte). p ∷ l) (same_registers ps)

-- ---- which addresses they have

-- whether some byte goes to an address
abbrev pub goes_to : ℕ → List RunByte → Bool
goes_to a [] = false
goes_to a (p ∷ ps) = eqb p.address a || goes_to a ps

pub goes_append : (a : ℕ) (ps qs : List RunByte) → goes_to a (ps ++ qs) ≡ (goes_to a ps || goes_to a qs)
goes_append a [] qs = refl
goes_append a (p ∷ ps) qs = rw (goes_append a ps qs) (sym (or_assoc (eqb p.address a) (goes_to a ps) (goes_to a qs)))

pub goes_cases : (a : ℕ) (ps qs : List RunByte) → goes_to a (ps ++ qs) ≡ true → (goes_to a ps ≡ true) ⊎ (goes_to a qs ≡ true)
goes_cases a ps qs h = or_cases (goes_to a ps) (goes_to a qs) (sym (goes_append a ps qs) ∙ h)

-- those of one stretch are from its lowest up to its highest
pub within_stretch : (q a : ℕ) (vs : List ℕ) → goes_to q (up_from a vs) ≡ true → (a ≤ q) × (q < a + length vs)
within_stretch q a [] h = absurd (false≢true h)
within_stretch q a (v ∷ vs) h =
    ⊎_elim
    (λ (e : eqb a q ≡ true). let same = eqb-true a q e in (omega arith, omega arith))
    (λ (e : goes_to q (up_from (a + 1) vs) ≡ true). let t = within_stretch q (a + 1) vs e in (omega arith, omega arith))
    (or_cases (eqb a q) (goes_to q (up_from (a + 1) vs)) h)

-- and all of these
pub in_stretch : (q a : ℕ) (vs : List ℕ) → a ≤ q → q < a + length vs → goes_to q (up_from a vs) ≡ true
in_stretch q a [] h k = absurd (omega arith)
in_stretch q a (v ∷ vs) h k = go (eqb a q) refl (λ above. in_stretch q (a + 1) vs above (omega arith))
  where
    go : (b : Bool) → eqb a q ≡ b → (a + 1 ≤ q → goes_to q (up_from (a + 1) vs) ≡ true) → (b || goes_to q (up_from (a + 1) vs)) ≡ true
    go true e later = refl
    go false e later = let other : a ≡ q → ⊥ = eqb-false a q e in later (omega arith)

pub within_stretches : (q l : ℕ) (ss : List Stretch) → Apart l ss → goes_to q (registers_in ss) ≡ true → (l ≤ q) × (q < 0x8000)
within_stretches q l [] t h = absurd (false≢true h)
within_stretches q l (s ∷ ss) t h =
    ⊎_elim
    (λ (e : goes_to q (up_from s.lowest s.bytes) ≡ true). let w = within_stretch q s.lowest s.bytes e in (omega arith, omega arith))
    (λ (e : goes_to q (registers_in ss) ≡ true).
    let w = within_stretches q (s.lowest + length s.bytes + 1) ss t.3 e in
    (omega arith, omega arith))
    (goes_cases q (up_from s.lowest s.bytes) (registers_in ss) h)
