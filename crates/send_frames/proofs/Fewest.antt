-- No set of such orders is smaller. No listed register leads on to the one where an order of ours starts, so every such set has an order
-- that starts there too; and ours start at different registers.
use mathlib.Core.Path.{◌≡◌, refl, ap, sym, ◌∙◌}
use mathlib.Core.Bool.{Bool, true, false, cond, ◌||◌, false≢true, or-true}
use mathlib.Core.List.{List, [], ◌∷◌, map}
use mathlib.Core.Logic.{◌⊎◌, inl, inr, ⊎_elim}
use Prim.Native.Nat.{ℕ, suc, ◌+◌, ◌-◌, ◌≤◌, ◌<◌}
use native.Mathlib.Omega.{arith}
use lib.ListN.{length, length-map}
use lib.Dec.{eqb, leb}
use borrow.Author.Tests.{eqb-true, eq-eqb, leb-true, le-leb, lt-leb}
use Rattle.base_bits.proofs.Cases.{or_cases}
use Rattle.bus_settings.specs.Settings.{next_address}
use Rattle.base_chip.specs.declared.Chip.TheVariants.{Newer}
use Rattle.send_order.specs.Order.{Order, RunByte, sent_bytes, run_bytes, run_from}
use Rattle.send_frames.specs.Frames.{Stretch, wanted_of, stretches_of, start_of, frame_of, frames_of}
use Rattle.send_frames.specs.Fewest.{AllFrames, all_bytes, bytes_to, FewestFrames}
use Rattle.send_frames.proofs.Stretches.{Apart, good_apart, up_from, registers_in, same_registers, goes_to, goes_append, goes_cases, within_stretch, in_stretch, within_stretches}

-- ---- counting the numbers of a list from l on

abbrev count_from : ℕ → List ℕ → ℕ
count_from l [] = 0
count_from l (x ∷ xs) = cond (leb l x) 1 0 + count_from l xs

abbrev is_in : ℕ → List ℕ → Bool
is_in a [] = false
is_in a (x ∷ xs) = eqb x a || is_in a xs

one_less : (l m x : ℕ) → l ≤ m → cond (leb m x) 1 0 ≤ cond (leb l x) 1 0
one_less l m x h = go (leb m x) refl
  where
    go : (b : Bool) → leb m x ≡ b → cond b 1 0 ≤ cond (leb l x) 1 0
    go true e = let t = leb-true m x e in rw (le-leb l x (omega arith)) (omega arith)
    go false e = omega arith

fewer_from : (l m : ℕ) (xs : List ℕ) → l ≤ m → count_from m xs ≤ count_from l xs
fewer_from l m [] h = omega arith
fewer_from l m (x ∷ xs) h = omega (arith, one_less l m x h, fewer_from l m xs h)

count_most : (l : ℕ) (xs : List ℕ) → count_from l xs ≤ length xs
count_most l [] = omega arith
count_most l (x ∷ xs) = go (leb l x) (count_most l xs)
  where
    go : (b : Bool) → count_from l xs ≤ length xs → cond b 1 0 + count_from l xs ≤ suc (length xs)
    go true h = omega arith
    go false h = omega arith

-- a number of the list counts for itself
counts_itself : (a : ℕ) (xs : List ℕ) → is_in a xs ≡ true → suc (count_from (a + 1) xs) ≤ count_from a xs
counts_itself a [] m = absurd (false≢true m)
counts_itself a (x ∷ xs) m =
    ⊎_elim
    (λ (e : eqb x a ≡ true).
    let same = eqb-true x a e in
    rw (lt-leb (a + 1) x (omega arith), le-leb a x (omega arith)) (omega (arith, fewer_from a (a + 1) xs (omega arith))))
    (λ (e : is_in a xs ≡ true). omega (arith, counts_itself a xs e, one_less a (a + 1) x (omega arith)))
    (or_cases (eqb x a) (is_in a xs) m)

-- ---- stretches that lie apart start at different numbers

abbrev AllStartIn : Bool → List ℕ → List Stretch → Type 0
AllStartIn up xs [] = Unit {0}
AllStartIn up xs (s ∷ ss) = (is_in (start_of up s) xs ≡ true) × AllStartIn up xs ss

start_within : (up : Bool) (s : Stretch) → 1 ≤ length s.bytes → (s.lowest ≤ start_of up s) × (start_of up s < s.lowest + length s.bytes)
start_within true s h = (omega arith, omega arith)
start_within false s h = (omega arith, omega arith)

as_many_starts : (up : Bool) (l : ℕ) (xs : List ℕ) (ss : List Stretch) → Apart l ss → AllStartIn up xs ss → length ss ≤ count_from l xs
as_many_starts up l xs [] a h = omega arith
as_many_starts up l xs (s ∷ ss) a h =
    let w = start_within up s a.1 in
    omega (
      arith,
      as_many_starts up (s.lowest + length s.bytes + 1) xs ss a.3 h.1,
      fewer_from (start_of up s + 1) (s.lowest + length s.bytes + 1) xs (omega arith),
      counts_itself (start_of up s) xs h.0,
      fewer_from l (start_of up s) xs (omega arith),
    )

-- ---- a register that no written register leads on to is where an order starts

-- some register that is written leads on to h
abbrev Leads : Bool → ℕ → List RunByte → Type 0
Leads up h ps = (q : ℕ) × ((goes_to q ps ≡ true) × (next_address up q ≡ h))

-- in one run
reached : (up : Bool) (h a : ℕ) (vs : List ℕ) → goes_to h (run_from up a vs) ≡ true → (a ≡ h) ⊎ Leads up h (run_from up a vs)
unfolding run_from
reached up h a [] t = absurd (false≢true t)
reached up h a (v ∷ vs) t =
    ⊎_elim
    (λ (e : eqb a h ≡ true). inl (eqb-true a h e))
    (λ (e : goes_to h (run_from up (next_address up a) vs) ≡ true). later (reached up h (next_address up a) vs e))
    (or_cases (eqb a h) (goes_to h (run_from up (next_address up a) vs)) t)
  where
    later : (next_address up a ≡ h) ⊎ Leads up h (run_from up (next_address up a) vs)
        → (a ≡ h) ⊎ Leads up h (record { address = a; byte = v } ∷ run_from up (next_address up a) vs)
    later (inl e) = inr (a, (rw (eq-eqb a a refl), e))
    later (inr m) = inr (m.0, (rw m.1.0 (or-true (eqb a m.0)), m.1.1))

abbrev starts : List Order → List ℕ
starts os = map (λ (o : Order). o.start) os

-- what leads on in the first order, or in the others, leads on in all of them
leads_first : (up : Bool) (h : ℕ) (o : Order) (os : List Order) → Leads up h (run_bytes Newer o) → Leads up h (all_bytes (o ∷ os))
unfolding all_bytes
leads_first up h o os m = (m.0, (rw (goes_append m.0 (run_bytes Newer o) (all_bytes os), m.1.0), m.1.1))

leads_later : (up : Bool) (h : ℕ) (o : Order) (os : List Order) → Leads up h (all_bytes os) → Leads up h (all_bytes (o ∷ os))
unfolding all_bytes
leads_later up h o os m =
    (m.0, (rw (goes_append m.0 (run_bytes Newer o) (all_bytes os), m.1.0) (or-true (goes_to m.0 (run_bytes Newer o))), m.1.1))

-- in a set
started :
    (up : Bool) (h : ℕ) (os : List Order) → AllFrames up os → goes_to h (all_bytes os) ≡ true → (Leads up h (all_bytes os) → ⊥)
    → is_in h (starts os) ≡ true
unfolding AllFrames all_bytes
started up h [] fs t none = absurd (false≢true t)
started up h (o ∷ os) fs t none =
    ⊎_elim
    (λ (e : goes_to h (run_bytes Newer o) ≡ true). here (reached up h o.start (sent_bytes o) (rw fs.0.direction at e)))
    (λ (e : goes_to h (all_bytes os) ≡ true). rw (started up h os fs.1 e (λ m. none (leads_later up h o os m))) (or-true (eqb o.start h)))
    (goes_cases h (run_bytes Newer o) (all_bytes os) t)
  where
    here : (o.start ≡ h) ⊎ Leads up h (run_from up o.start (sent_bytes o)) → (eqb o.start h || is_in h (starts os)) ≡ true
    here (inl e) = rw (eq-eqb o.start h e)
    here (inr m) = absurd (none (leads_first up h o os (rw fs.0.direction m)))

-- ---- no listed register leads on to the start of a stretch

-- below some stretches from l on, with a gap
abbrev Before : ℕ → ℕ → Type 0
Before l q = (1 ≤ q) × (q + 1 < l)

-- A stretch of k registers from f on, in either direction. A listed register is before it, in it or after it; from 0x7FFF or from 0x0001
-- a run would go on to 0x0000, which is not listed.
leads_nowhere :
    (up : Bool) (q l f k : ℕ) → 1 ≤ l → l ≤ f → 1 ≤ k → f + k ≤ 0x8000 → q < 0x8000
    → Before l q ⊎ ((f ≤ q) × (q < f + k)) ⊎ (f + k + 1 ≤ q) → next_address up q ≡ cond up f (f + k - 1) → ⊥
leads_nowhere true q l f k h1 h2 h3 h4 h5 (inl b) e = omega arith
leads_nowhere true q l f k h1 h2 h3 h4 h5 (inr (inl b)) e = omega arith
leads_nowhere true q l f k h1 h2 h3 h4 h5 (inr (inr b)) e = omega arith
leads_nowhere false q l f k h1 h2 h3 h4 h5 (inl b) e = omega arith
leads_nowhere false q l f k h1 h2 h3 h4 h5 (inr (inl b)) e = omega arith
leads_nowhere false q l f k h1 h2 h3 h4 h5 (inr (inr b)) e = omega arith

-- every register that is wanted is before some stretches or in them
abbrev Covered : ℕ → List Stretch → List RunByte → Type 0
Covered l ss ps = (q : ℕ) → goes_to q ps ≡ true → Before l q ⊎ (goes_to q (registers_in ss) ≡ true)

module _ (up : Bool) (ps : List RunByte) (os : List Order) (fs : AllFrames up os) (same : (a : ℕ) → goes_to a (all_bytes os) ≡ goes_to a ps) where
  -- the first stretch of some
  module _ (l : ℕ) (s : Stretch) (ss : List Stretch) (h : 1 ≤ l) (a : Apart l (s ∷ ss)) where
    places : (q : ℕ) → Before l q ⊎ (goes_to q (registers_in (s ∷ ss)) ≡ true)
        → (q < 0x8000) × (Before l q ⊎ ((s.lowest ≤ q) × (q < s.lowest + length s.bytes)) ⊎ (s.lowest + length s.bytes + 1 ≤ q))
    places q (inl b) = (omega arith, inl b)
    places q (inr e) =
        ⊎_elim
        (λ (e : goes_to q (up_from s.lowest s.bytes) ≡ true). let w = within_stretch q s.lowest s.bytes e in (omega arith, inr (inl w)))
        (λ (e : goes_to q (registers_in ss) ≡ true).
        let w = within_stretches q (s.lowest + length s.bytes + 1) ss a.3 e in
        (w.1, inr (inr w.0)))
        (goes_cases q (up_from s.lowest s.bytes) (registers_in ss) e)

    start_in : Covered l (s ∷ ss) ps → goes_to (start_of up s) ps ≡ true → is_in (start_of up s) (starts os) ≡ true
    start_in c t =
        started up (start_of up s) os fs (same (start_of up s) ∙ t)
        (λ (m : Leads up (start_of up s) (all_bytes os)).
        let w = places m.0 (c m.0 (sym (same m.0) ∙ m.1.0)) in
        leads_nowhere up m.0 l s.lowest (length s.bytes) h a.0 a.1 a.2 w.0 w.1 m.1.1)

    -- what is before it or in it is before the others
    behind : (q : ℕ) → Before l q ⊎ (goes_to q (registers_in (s ∷ ss)) ≡ true) → Before (s.lowest + length s.bytes + 1) q ⊎ (goes_to q (registers_in ss) ≡ true)
    behind q (inl b) = inl (omega arith, omega (arith, a.0))
    behind q (inr e) =
        ⊎_elim
        (λ (e : goes_to q (up_from s.lowest s.bytes) ≡ true).
        let w = within_stretch q s.lowest s.bytes e in
        inl (omega (arith, a.0), omega arith))
        (λ (e : goes_to q (registers_in ss) ≡ true). inr e)
        (goes_cases q (up_from s.lowest s.bytes) (registers_in ss) e)

  all_start_in :
      (l : ℕ) (ss : List Stretch) → 1 ≤ l → Apart l ss → Covered l ss ps → ((q : ℕ) → goes_to q (registers_in ss) ≡ true → goes_to q ps ≡ true)
      → AllStartIn up (starts os) ss
  all_start_in l [] h a c i = tt
  all_start_in l (s ∷ ss) h a c i =
      let w = start_within up s a.1 in
      let mine = up_from s.lowest s.bytes in
      let t : goes_to (start_of up s) mine ≡ true = in_stretch (start_of up s) s.lowest s.bytes w.0 w.1 in (
        start_in l s ss h a c (i (start_of up s) (rw (goes_append (start_of up s) mine (registers_in ss), t))),
        all_start_in (s.lowest + length s.bytes + 1) ss (omega arith) a.3
            (λ q e. behind l s ss h a q (c q e))
            (λ q e. i q (rw (goes_append q mine (registers_in ss), e) (or-true (goes_to q mine)))),
      )

-- ---- the theorem

abbrev some : List ℕ → Bool
some [] = false
some (v ∷ vs) = true

goes_some : (a : ℕ) (ps : List RunByte) → goes_to a ps ≡ some (bytes_to a ps)
unfolding bytes_to
goes_some a [] = refl
goes_some a (p ∷ ps) = go (eqb p.address a) (goes_some a ps)
  where
    go : (b : Bool) → goes_to a ps ≡ some (bytes_to a ps) → (b || goes_to a ps) ≡ some (cond b (p.byte ∷ bytes_to a ps) (bytes_to a ps))
    go true e = refl
    go false e = e

pub fewest_frames : FewestFrames
unfolding frames_of
fewest_frames up addresses bytes others good w =
    let ps = wanted_of addresses bytes in
    let ss = stretches_of ps in
    let same : (a : ℕ) → goes_to a (all_bytes others) ≡ goes_to a ps = λ a. goes_some a (all_bytes others) ∙ ap some (w.exactly a) ∙ sym (goes_some a ps) in
    let apart = good_apart addresses bytes good in
    let whole = same_registers ps in
    let all = all_start_in up ps others w.frames same 1 ss (omega arith) apart (λ q e. inr (rw whole e)) (λ q e. rw whole at e) in
    omega (
      arith,
      as_many_starts up 1 (starts others) ss apart all,
      count_most 1 (starts others),
      length-map others (λ (o : Order). o.start),
      length-map ss (frame_of up),
    )
