-- What it means that a call on several chips is not refused.
use mathlib.Core.Path.{◌≡◌, refl, sym, ap, ◌∙◌}
use mathlib.Core.Bool.{Bool, true, false, ◌&&◌, ◌||◌}
use mathlib.Core.List.{List, [], ◌∷◌}
use mathlib.Core.Logic.{◌⊎◌, inl, inr}
use Prim.Native.Nat.{ℕ, ◌+◌, ◌*◌, ◌≤◌}
use native.Mathlib.Omega.{arith}
use borrow.Author.Tests.{leb-true, leb-false, eqb-true, eqb-false}
use lib.Dec.{eqb, leb}
use lib.ListN.{length}
use Rattle.base_bits.specs.Tests.{unless}
use Rattle.base_bits.proofs.Cases.{and_left, and_right, or_cases}
use Rattle.base_chip.specs.declared.Chip.TheVariants.{Newer}
use Rattle.map_format.specs.Format.{count_of}
use Rattle.map_test.specs.MapTest.{map_number}
use Rattle.reg_ranges.specs.Ranges.{Far}
use Rattle.several_chips.specs.declared.Member.{Member}
use Rattle.several_chips.specs.Samples.{samples_in}
use Rattle.several_chips.specs.Numbers.{Range, inside, apart, ranges_of, apart_from, ranges_good, chips_good, all_sound, ranges_fit, several_samples_good, count_from, several_record_size, several_number}
use Rattle.several_chips.proofs.Memory.{SeparateFrom, AllRanged}

pub record SeveralTests (m : List ℕ) (ws : List Member) (size : ℕ) (bytes : List ℕ) (room : ℕ) : Type 0 where
  pub one : 1 ≤ length ws
  pub eight : length ws ≤ 8
  pub ranged : AllRanged m size ws
  pub sound : all_sound ws ≡ true
  pub samples : several_samples_good (length ws) bytes ≡ true
  pub enough : several_record_size * count_from 0 ws (samples_in bytes) ≤ room

-- ---- ranges

total : (a b : ℕ) → (a ≤ b) ⊎ (b ≤ a)
total a b = go (leb a b) refl
  where
    go : (t : Bool) → leb a b ≡ t → (a ≤ b) ⊎ (b ≤ a)
    go true e = inl (leb-true a b e)
    go false e = inr (let h = leb-false a b e in omega arith)

-- two ranges of n bytes that share none
far : (n a b : ℕ) → apart (record { start = a; size = n }) (record { start = b; size = n }) ≡ true → Far n a b
far n a b e = first (or_cases (eqb n 0 || eqb n 0) (leb (a + n) b || leb (b + n) a) e)
  where
    empty : n ≡ 0 → Far n a b
    empty z = ends (total a b)
      where
        ends : (a ≤ b) ⊎ (b ≤ a) → Far n a b
        ends (inl h) = inl (omega (arith, z, h))
        ends (inr h) = inr (omega (arith, z, h))

    second : (leb (a + n) b ≡ true) ⊎ (leb (b + n) a ≡ true) → Far n a b
    second (inl h) = inl (leb-true (a + n) b h)
    second (inr h) = inr (leb-true (b + n) a h)

    either : (eqb n 0 ≡ true) ⊎ (eqb n 0 ≡ true) → Far n a b
    either (inl h) = empty (eqb-true n 0 h)
    either (inr h) = empty (eqb-true n 0 h)

    first : ((eqb n 0 || eqb n 0) ≡ true) ⊎ ((leb (a + n) b || leb (b + n) a) ≡ true) → Far n a b
    first (inl h) = either (or_cases (eqb n 0) (eqb n 0) h)
    first (inr h) = second (or_cases (leb (a + n) b) (leb (b + n) a) h)

-- the same of ranges whose lengths are told to be n
far_ranges : (n : ℕ) (r s : Range) → r.size ≡ n → s.size ≡ n → apart r s ≡ true → Far n r.start s.start
far_ranges n r s er es e =
    far n r.start s.start (sym (ap (λ (k : ℕ). apart (record { start = r.start; size = k }) s) er
    ∙ ap (λ (k : ℕ). apart (record { start = r.start; size = n }) (record { start = s.start; size = k })) es) ∙ e)

abbrev active_range : Member → Range
active_range w = record { start = w.active_start; size = w.active_length }

abbrev buffer_range : Member → Range
buffer_range w = record { start = w.buffer_start; size = w.buffer_length }

fit_active : (n : ℕ) (w : Member) (ws : List Member) → ranges_fit n (w ∷ ws) ≡ true → w.active_length ≡ n
unfolding ranges_fit
fit_active n w ws e = eqb-true _ _ (and_left (eqb w.active_length n) (eqb w.buffer_length n) (and_left _ (ranges_fit n ws) e))

fit_buffer : (n : ℕ) (w : Member) (ws : List Member) → ranges_fit n (w ∷ ws) ≡ true → w.buffer_length ≡ n
unfolding ranges_fit
fit_buffer n w ws e = eqb-true _ _ (and_right (eqb w.active_length n) (eqb w.buffer_length n) (and_left _ (ranges_fit n ws) e))

fit_rest : (n : ℕ) (w : Member) (ws : List Member) → ranges_fit n (w ∷ ws) ≡ true → ranges_fit n ws ≡ true
unfolding ranges_fit
fit_rest n w ws e = and_right (eqb w.active_length n && eqb w.buffer_length n) (ranges_fit n ws) e

-- a range that is apart from the two of a chip, and from those after it
record FromBoth (r : Range) (v : Member) (ws : List Member) : Type 0 where
  active : apart r (active_range v) ≡ true
  buffer : apart r (buffer_range v) ≡ true
  rest : apart_from r (ranges_of ws) ≡ true

from_both : (r : Range) (v : Member) (ws : List Member) → apart_from r (ranges_of (v ∷ ws)) ≡ true → FromBoth r v ws
unfolding ranges_of apart_from
from_both r v ws e =
    let more = and_right (apart r (active_range v)) (apart r (buffer_range v) && apart_from r (ranges_of ws)) e in
    record {
      active = and_left (apart r (active_range v)) (apart r (buffer_range v) && apart_from r (ranges_of ws)) e;
      buffer = and_left (apart r (buffer_range v)) (apart_from r (ranges_of ws)) more;
      rest = and_right (apart r (buffer_range v)) (apart_from r (ranges_of ws)) more;
    }

separate_from : (n : ℕ) (w : Member) (ws : List Member) → w.active_length ≡ n → w.buffer_length ≡ n → ranges_fit n ws ≡ true
    → apart_from (active_range w) (ranges_of ws) ≡ true → apart_from (buffer_range w) (ranges_of ws) ≡ true → SeparateFrom n w ws
separate_from n w [] ea eb fit a b = tt
separate_from n w (v ∷ ws) ea eb fit a b =
    let fa = fit_active n v ws fit in
    let fb = fit_buffer n v ws fit in
    let active = from_both (active_range w) v ws a in
    let buffer = from_both (buffer_range w) v ws b in (
      record {
        active_active = far_ranges n (active_range w) (active_range v) ea fa active.active;
        active_buffer = far_ranges n (active_range w) (buffer_range v) ea fb active.buffer;
        buffer_active = far_ranges n (buffer_range w) (active_range v) eb fa buffer.active;
        buffer_buffer = far_ranges n (buffer_range w) (buffer_range v) eb fb buffer.buffer;
      },
      separate_from n w ws ea eb (fit_rest n v ws fit) active.rest buffer.rest,
    )

-- what is known of a range at the head of good ones
head_inside : (size : ℕ) (r : Range) (rs : List Range) → ranges_good size (r ∷ rs) ≡ true → r.start + r.size ≤ size
unfolding ranges_good
head_inside size r rs e = leb-true _ _ (and_left (inside size r) (apart_from r rs && ranges_good size rs) e)

head_apart : (size : ℕ) (r : Range) (rs : List Range) → ranges_good size (r ∷ rs) ≡ true → apart_from r rs ≡ true
unfolding ranges_good
head_apart size r rs e = and_left (apart_from r rs) (ranges_good size rs) (and_right (inside size r) (apart_from r rs && ranges_good size rs) e)

tail_good : (size : ℕ) (r : Range) (rs : List Range) → ranges_good size (r ∷ rs) ≡ true → ranges_good size rs ≡ true
unfolding ranges_good
tail_good size r rs e = and_right (apart_from r rs) (ranges_good size rs) (and_right (inside size r) (apart_from r rs && ranges_good size rs) e)

all_ranged : (m : List ℕ) (size : ℕ) (ws : List Member) → ranges_fit (count_of m) ws ≡ true → ranges_good size (ranges_of ws) ≡ true → AllRanged m size ws
unfolding ranges_of apart_from
all_ranged m size [] fit good = tt
all_ranged m size (w ∷ ws) fit good =
    let fa = fit_active (count_of m) w ws fit in
    let fb = fit_buffer (count_of m) w ws fit in
    let rest = fit_rest (count_of m) w ws fit in
    let after = tail_good size (active_range w) (buffer_range w ∷ ranges_of ws) good in
    let apart_from_lem = head_apart size (active_range w) (buffer_range w ∷ ranges_of ws) good in (
      record {
        active_size_is = fa;
        buffer_size_is = fb;
        active_fits = omega (arith, fa, head_inside size (active_range w) (buffer_range w ∷ ranges_of ws) good);
        buffer_fits = omega (arith, fb, head_inside size (buffer_range w) (ranges_of ws) after);
        apart =
            far_ranges (count_of m) (active_range w) (buffer_range w) fa fb
            (and_left (apart (active_range w) (buffer_range w)) (apart_from (active_range w) (ranges_of ws)) apart_from_lem);
      },
      (
        separate_from (count_of m) w ws fa fb rest (and_right (apart (active_range w) (buffer_range w)) (apart_from (active_range w) (ranges_of ws)) apart_from_lem)
            (head_apart size (buffer_range w) (ranges_of ws) after),
        all_ranged m size ws rest (tail_good size (buffer_range w) (ranges_of ws) after),
      ),
    )

-- ---- the number

passes : (t : Bool) (number next : ℕ) → (t ≡ false → number ≡ 0 → ⊥) → unless t number next ≡ 0 → (t ≡ true) × (next ≡ 0)
passes true number next wrong e = (refl, e)
passes false number next wrong e = absurd (wrong refl e)

-- the tests of the number, in their order
abbrev fits_room : List Member → List ℕ → ℕ → Bool
fits_room ws bytes room = leb (several_record_size * count_from 0 ws (samples_in bytes)) room

pub several_tests : (m : List ℕ) (ws : List Member) (size : ℕ) (bytes : List ℕ) (room : ℕ)
    → several_number m ws size bytes room ≡ 0 → SeveralTests m ws size bytes room
unfolding several_number
several_tests m ws size bytes room e =
    let six = unless (fits_room ws bytes room) 6 0 in
    let five = unless (several_samples_good (length ws) bytes) 5 six in
    let four = unless (ranges_fit (count_of m) ws) 4 five in
    let two = unless (eqb (map_number Newer m) 0) (map_number Newer m) four in
    let one = unless (all_sound ws) 1 two in
    let p17 = passes (chips_good size ws) 17 one (λ f z. absurd (omega (arith, z))) e in
    let p1 = passes (all_sound ws) 1 two (λ f z. absurd (omega (arith, z))) p17.1 in
    let p2 = passes (eqb (map_number Newer m) 0) (map_number Newer m) four (λ f z. eqb-false (map_number Newer m) 0 f z) p1.1 in
    let p4 = passes (ranges_fit (count_of m) ws) 4 five (λ f z. absurd (omega (arith, z))) p2.1 in
    let p5 = passes (several_samples_good (length ws) bytes) 5 six (λ f z. absurd (omega (arith, z))) p4.1 in
    let p6 = passes (fits_room ws bytes room) 6 0 (λ f z. absurd (omega (arith, z))) p5.1 in
    let few = and_left (leb 1 (length ws) && leb (length ws) 8) (ranges_good size (ranges_of ws)) p17.0 in
    record {
      one = leb-true _ _ (and_left (leb 1 (length ws)) (leb (length ws) 8) few);
      eight = leb-true _ _ (and_right (leb 1 (length ws)) (leb (length ws) 8) few);
      ranged = all_ranged m size ws p4.0 (and_right (leb 1 (length ws) && leb (length ws) 8) (ranges_good size (ranges_of ws)) p17.0);
      sound = p1.0;
      samples = p5.0;
      enough = leb-true _ _ p6.0;
    }
