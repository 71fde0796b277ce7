-- The walk from stretch to stretch: what is done, with the stretches from a place on, is the whole.
use mathlib.Core.Path.{◌≡◌, refl, ap, sym, ◌∙◌}
use mathlib.Core.Bool.{Bool, true}
use mathlib.Core.List.{List, [], ◌∷◌, map}
use Prim.Native.Nat.{ℕ, suc, ◌+◌, ◌-◌, ◌*◌, ◌≤◌, ◌<◌}
use native.Mathlib.Omega.{arith}
use native.Mathlib.Numerals.{add-one}
use lib.ListN.{length, get_or, take, drop, length-append, length-drop, drop_of_length-le}
use lib.Seq.{drop-cons, drop-drop, length-take-le}
use borrow.Author.Tests.{eqb-true, leb-true}
use Rattle.base_bits.specs.Tests.{every}
use Rattle.base_bits.specs.Buffer.{Put}
use Rattle.base_bits.proofs.Cases.{every_true}
use Rattle.base_bits.proofs.Putting.{Putting, putting_begun, Splits, next_fits, further, ended}
use Rattle.send_setup.specs.Form.{listed_bytes, list_bytes}
use Rattle.send_frames.specs.Frames.{Stretch, stretch, wanted_of, stretches_of, frame_of, frames_of}
use Rattle.send_frames.specs.Calls.{registers_tests, frames_bytes}
use Rattle.send_frames.specs.Rows.{neighbours, stretches_size}
use Rattle.send_frames.proofs.Data.{length_data}
use Rattle.send_frames.proofs.Stretches.{Apart, good_apart}
use Rattle.send_frames.proofs.Rows.{first_stretch, few_neighbours}

-- what is known of a good list
pub record Good (addresses bytes : List ℕ) : Type 0 where
  pub most : length addresses ≤ 1000
  pub pairs : length bytes ≡ length addresses
  pub apart : Apart 1 (stretches_of (wanted_of addresses bytes))

pub good_list : (addresses bytes : List ℕ) → every (registers_tests addresses bytes) ≡ true → Good addresses bytes
good_list addresses bytes h =
    let t = every_true (registers_tests addresses bytes) h in
    record {
      most = leb-true (length addresses) 1000 t.1.0;
      pairs = eqb-true (length bytes) (length addresses) t.1.1.1.1.0;
      apart = good_apart addresses bytes h;
    }

-- the stretches from a place of the list on
abbrev pub stretches_from : List ℕ → List ℕ → ℕ → List Stretch
stretches_from addresses bytes i = stretches_of (wanted_of (drop i addresses) (drop i bytes))

-- where the stretch that begins at a place ends
abbrev pub end_from : List ℕ → ℕ → ℕ
end_from addresses i = i + 1 + neighbours (get_or addresses i 0) (drop (i + 1) addresses)

module _ (addresses bytes : List ℕ) (pairs : length bytes ≡ length addresses) (i : ℕ) where
  pub none_from : length addresses ≤ i → stretches_from addresses bytes i ≡ []
  unfolding stretches_of wanted_of
  none_from h = rw (drop_of_length-le addresses {i = i} h)

  module _ (h : i < length addresses) where
    -- as many bytes as the first of the stretches from i on has registers
    pub length_part : (end : ℕ) → end ≡ end_from addresses i → (length (take (end - i) (drop i bytes)) ≡ end - i) × (end ≤ length addresses)
    length_part end e =
        let few = few_neighbours (get_or addresses i 0) (drop (i + 1) addresses) in
        let left = length-drop (i + 1) addresses in
        (length-take-le (end - i) (drop i bytes) (omega (arith, length-drop i bytes)), omega arith)

    -- the first of them, and the others
    pub next_stretch :
        (end : ℕ) → end ≡ end_from addresses i
        → stretches_from addresses bytes i ≡ stretch (get_or addresses i 0) (take (end - i) (drop i bytes)) ∷ stretches_from addresses bytes end
    next_stretch end e =
        let a = get_or addresses i 0 in
        let v = get_or bytes i 0 in
        let k = neighbours a (drop (i + 1) addresses) in
        let n : end - i ≡ suc k = omega arith in
        let here : drop i addresses ≡ a ∷ drop (i + 1) addresses = rw add-one (drop-cons addresses i 0 h) in
        let there : drop i bytes ≡ v ∷ drop (i + 1) bytes = rw add-one (drop-cons bytes i 0 (omega arith)) in
        let past : (l : List ℕ) → drop k (drop (i + 1) l) ≡ drop end l = λ l. drop-drop k (i + 1) l ∙ ap (λ (j : ℕ). drop j l) (sym e) in
        (λ j. stretches_of (wanted_of (here j) (there j)))
        ∙ first_stretch a v (drop (i + 1) addresses) (drop (i + 1) bytes) (omega (arith, length-drop (i + 1) addresses, length-drop (i + 1) bytes))
        ∙ (λ j. stretch a (sym (same_take n there) j) ∷ stretches_of (wanted_of (past addresses j) (past bytes j)))
      where
        same_take : {n m : ℕ} {l l' : List ℕ} → n ≡ m → l ≡ l' → take n l ≡ take m l'
        same_take e f = λ j. take (e j) (f j)

-- ---- how many bytes the orders take

pub length_frame : (up : Bool) (s : Stretch) → length (listed_bytes (frame_of up s)) ≡ 8 + length s.bytes
unfolding listed_bytes
length_frame up s = omega (arith, length_data up s.bytes)

pub length_frames : (up : Bool) (ss : List Stretch) → length (list_bytes (map (frame_of up) ss)) ≡ stretches_size ss
unfolding list_bytes stretches_size
length_frames up [] = refl
length_frames up (s ∷ ss) =
    omega (arith, length-append (listed_bytes (frame_of up s)) (list_bytes (map (frame_of up) ss)), length_frame up s, length_frames up ss)

-- the size so far, with that of the stretches from a place on
pub record Sizing (addresses bytes : List ℕ) (size from : ℕ) : Type 0 where
  pub within : from ≤ length addresses
  pub sum : size + stretches_size (stretches_from addresses bytes from) ≡ stretches_size (stretches_of (wanted_of addresses bytes))
  pub most : size ≤ 9 * from

pub size_from : (addresses bytes : List ℕ) → Sizing addresses bytes 0 0
size_from addresses bytes = record { within = omega arith; sum = omega arith; most = omega arith }

module _ {addresses bytes : List ℕ} {size from : ℕ} (g : Good addresses bytes) (s : Sizing addresses bytes size from) where
  pub size_on : from < length addresses → (end : ℕ) → end ≡ end_from addresses from
      → Sizing addresses bytes (size + (8 + length (take (end - from) (drop from bytes)))) end
  unfolding stretches_size
  size_on h end e =
      let n = length_part addresses bytes g.pairs from h end e in
      record {
        within = n.1;
        sum = omega (arith, s.sum, ap stretches_size (next_stretch addresses bytes g.pairs from h end e));
        most = omega (arith, s.most, n.0);
      }

  pub size_all : length addresses ≤ from → size ≡ stretches_size (stretches_of (wanted_of addresses bytes))
  unfolding stretches_size
  size_all h = omega (arith, s.sum, ap stretches_size (none_from addresses bytes g.pairs from h))

-- ---- the orders put

-- what is put so far, with the orders of the stretches from a place on
pub record Framing (up : Bool) (addresses bytes old : List ℕ) (from n : ℕ) (new : List ℕ) : Type 0 where
  pub within : from ≤ length addresses
  pub least : ℕ
  pub apart : Apart least (stretches_from addresses bytes from)
  pub put : Putting old 0 (frames_bytes up addresses bytes) (list_bytes (map (frame_of up) (stretches_from addresses bytes from))) n new

pub frame_from :
    (up : Bool) (addresses bytes old : List ℕ) → Good addresses bytes → length (frames_bytes up addresses bytes) ≤ length old
    → Framing up addresses bytes old 0 0 old
unfolding frames_of
frame_from up addresses bytes old g h = record {
  within = omega arith;
  least = 1;
  apart = g.apart;
  put = putting_begun old 0 (frames_bytes up addresses bytes) (omega arith);
}

module _ {up : Bool} {addresses bytes old : List ℕ} {from n : ℕ} {new : List ℕ}
    (g : Good addresses bytes) (s : Framing up addresses bytes old from n new) (h : from < length addresses)
    (end : ℕ) (e : end ≡ end_from addresses from) where
  -- the stretch that is put next, as the code has it
  abbrev here : Stretch
  here = stretch (get_or addresses from 0) (take (end - from) (drop from bytes))

  split : stretches_from addresses bytes from ≡ here ∷ stretches_from addresses bytes end
  split = next_stretch addresses bytes g.pairs from h end e

  next_apart : Apart s.least (here ∷ stretches_from addresses bytes end)
  next_apart = rw split at s.apart

  splits : Splits (list_bytes (map (frame_of up) (stretches_from addresses bytes from))) (listed_bytes (frame_of up here))
      (list_bytes (map (frame_of up) (stretches_from addresses bytes end)))
  unfolding list_bytes
  splits = record { split = ap (λ (ss : List Stretch). list_bytes (map (frame_of up) ss)) split }

  -- its size, its addresses, and the room for its order
  pub record Fits : Type 0 where
    pub inside : end ≤ length addresses
    pub some : 1 ≤ length here.bytes
    pub most : length here.bytes ≤ 1000
    pub low : here.lowest + length here.bytes ≤ 0x8000
    pub room : n + 8 + length here.bytes ≤ length new

  pub fits : Fits
  fits =
      let n = length_part addresses bytes g.pairs from h end e in
      record {
        inside = n.1;
        some = next_apart.1;
        most = omega (arith, n, g.most);
        low = next_apart.2;
        room = omega (arith, next_fits s.put splits, length_frame up here);
      }

  pub framed_on : {n' : ℕ} {new' : List ℕ} → Put new n (listed_bytes (frame_of up here)) n' new' → Framing up addresses bytes old end n' new'
  framed_on p = record { within = fits.inside; least = _; apart = next_apart.3; put = further s.put splits p }

pub framed_all :
    {up : Bool} {addresses bytes old : List ℕ} {from n : ℕ} {new : List ℕ} → Good addresses bytes → Framing up addresses bytes old from n new
    → length addresses ≤ from → Put old 0 (frames_bytes up addresses bytes) n new
unfolding list_bytes
framed_all {up} {addresses} {bytes} {from = from} g s h =
    ended s.put (ap (λ (ss : List Stretch). list_bytes (map (frame_of up) ss)) (none_from addresses bytes g.pairs from h))
