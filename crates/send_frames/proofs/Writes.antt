-- The orders made write each listed register once with its byte and no other, the sender takes each, and their starts rise.
use mathlib.Core.Path.{◌≡◌, refl, ap, sym, ◌∙◌}
use mathlib.Core.Bool.{Bool, true, false, cond}
use mathlib.Core.List.{List, [], ◌∷◌, ◌++◌, map, reverse, reverse-cons, append-nil}
use Prim.Native.Nat.{ℕ, suc, ◌+◌, ◌-◌, ◌%◌, ◌≤◌, ◌<◌}
use native.Mathlib.Omega.{arith}
use native.Mathlib.Nat.{add-zero}
use lib.ListN.{length, length-reverse, length-append}
use lib.Dec.{eqb}
use borrow.Author.Tests.{eqb-true, eq-eqb, ne_eqb, le-leb, lt-ltb}
use Rattle.base_bits.specs.Tests.{every}
use Rattle.base_bits.specs.Bits.{bit_at}
use Rattle.base_chip.specs.declared.Chip.TheVariants.{Newer}
use Rattle.send_order.specs.Order.{Order, order, RunByte, run_bytes, run_from}
use Rattle.send_order.specs.Samples.{samples_of}
use Rattle.send_order.specs.Number.{send_number}
use Rattle.send_setup.specs.Form.{ListedOrder, order_with}
use Rattle.send_setup.specs.Calls.{own_number}
use Rattle.send_frames.specs.Frames.{Stretch, wanted_of, stretches_of, start_of, data_of, frame_of, frames_of}
use Rattle.send_frames.specs.Calls.{rising}
use Rattle.send_frames.specs.Fewest.{AllFrames, all_bytes, bytes_to, Streams, FramesMade}
use Rattle.send_frames.proofs.Data.{length_data}
use Rattle.send_frames.proofs.Stretches.{Apart, up_from, registers_in, same_registers}
use Rattle.send_frames.proofs.Walk.{good_list}

-- ---- a run over a stretch sends to each address what the stretch has for it

to_append : (a : ℕ) (ps qs : List RunByte) → bytes_to a (ps ++ qs) ≡ bytes_to a ps ++ bytes_to a qs
unfolding bytes_to
to_append a [] qs = refl
to_append a (p ∷ ps) qs = go (eqb p.address a) (to_append a ps qs)
  where
    go : (b : Bool) → bytes_to a (ps ++ qs) ≡ bytes_to a ps ++ bytes_to a qs
        → cond b (p.byte ∷ bytes_to a (ps ++ qs)) (bytes_to a (ps ++ qs)) ≡ cond b (p.byte ∷ bytes_to a ps) (bytes_to a ps) ++ bytes_to a qs
    go true e = ap (λ (l : List ℕ). p.byte ∷ l) e
    go false e = e

-- ascending
up_run : (f : ℕ) (vs : List ℕ) → f + length vs ≤ 0x8000 → run_from true f vs ≡ up_from f vs
unfolding run_from
up_run f [] h = refl
up_run f (v ∷ []) h = refl
up_run f (v ∷ w ∷ vs) h =
    let next : (f + 1) % 0x8000 ≡ f + 1 = omega arith in
    rw next (ap (λ (l : List RunByte). record { address = f; byte = v } ∷ l) (up_run (f + 1) (w ∷ vs) (omega arith)))

-- descending, the last byte by itself
down_last :
    (x : ℕ) (ws : List ℕ) (v : ℕ) → length ws ≤ x → x < 0x8000
    → run_from false x (ws ++ (v ∷ [])) ≡ run_from false x ws ++ (record { address = x - length ws; byte = v } ∷ [])
unfolding run_from
down_last x [] v h k = let e : x - 0 ≡ x = omega arith in rw e
down_last x (w ∷ ws) v h k =
    let next : (x + 0x7FFF) % 0x8000 ≡ x - 1 = omega arith in
    let last : x - 1 - length ws ≡ x - suc (length ws) = omega arith in
    rw (next, ← last) (ap (λ (l : List RunByte). record { address = x; byte = w } ∷ l) (down_last (x - 1) ws v (omega arith) (omega arith)))

-- nothing goes to an address below a stretch
none_below : (a f : ℕ) (vs : List ℕ) → a < f → bytes_to a (up_from f vs) ≡ []
unfolding bytes_to
none_below a f [] h = refl
none_below a f (v ∷ vs) h = rw (ne_eqb f a (λ e. omega arith)) (none_below a (f + 1) vs (omega arith))

-- the byte of the lowest register may as well come last
last_first :
    (a f v : ℕ) (ps : List RunByte) (ws : List ℕ) → bytes_to a ps ≡ bytes_to a (up_from (f + 1) ws)
    → bytes_to a (ps ++ (record { address = f; byte = v } ∷ [])) ≡ bytes_to a (up_from f (v ∷ ws))
unfolding bytes_to
last_first a f v ps ws e = to_append a ps (record { address = f; byte = v } ∷ []) ∙ rw e (go (eqb f a) refl)
  where
    above : List ℕ
    above = bytes_to a (up_from (f + 1) ws)

    go : (b : Bool) → eqb f a ≡ b → above ++ cond b (v ∷ []) [] ≡ cond b (v ∷ above) above
    go true t = let same = eqb-true f a t in rw (none_below a (f + 1) ws (omega arith))
    go false t = append-nil above

down_run : (a f v : ℕ) (vs : List ℕ) → f + length vs < 0x8000 → bytes_to a (run_from false (f + length vs) (reverse (v ∷ vs))) ≡ bytes_to a (up_from f (v ∷ vs))
unfolding run_from
down_run a f v [] h = rw (add-zero f)
down_run a f v (w ∷ ws) h =
    let x = f + suc (length ws) in
    let lowest : x - length (reverse (w ∷ ws)) ≡ f = omega (arith, length-reverse (w ∷ ws)) in
    let highest : f + 1 + length ws ≡ x = omega arith in
    ap (λ (l : List ℕ). bytes_to a (run_from false x l)) (reverse-cons v (w ∷ ws))
    ∙ ap (bytes_to a) (down_last x (reverse (w ∷ ws)) v (omega (arith, length-reverse (w ∷ ws))) h)
    ∙ rw lowest (last_first a f v (run_from false x (reverse (w ∷ ws))) (w ∷ ws) (rw highest at (down_run a (f + 1) w ws (omega arith))))

either_run :
    (up : Bool) (a f : ℕ) (vs : List ℕ) → 1 ≤ length vs → f + length vs ≤ 0x8000
    → bytes_to a (run_from up (cond up f (f + length vs - 1)) (data_of up vs)) ≡ bytes_to a (up_from f vs)
either_run true a f vs h k = ap (bytes_to a) (up_run f vs k)
either_run false a f [] h k = absurd (omega arith)
either_run false a f (v ∷ vs) h k =
    let highest : f + suc (length vs) - 1 ≡ f + length vs = omega arith in
    rw highest (down_run a f v vs (omega arith))

-- ---- the sender takes it

write_accepted : (t start k : ℕ) (vs : List ℕ) → t ≤ 7 → bit_at t 2 ≡ false → 1 ≤ k
    → k ≤ 1000 → length vs ≡ k → start ≤ 0x7FFF → own_number (order 0 t start k vs) ≡ 0
unfolding send_number every
write_accepted t start k vs known single some most e low =
    let n = length (samples_of Newer (order 0 t start k vs)) in
    rw (le-leb t 7 known, le-leb 1 k some, le-leb k 1000 most, eq-eqb (length vs) k e, le-leb start 0x7FFF low, single, le-leb n n (omega arith))

start_low : (up : Bool) (s : Stretch) → 1 ≤ length s.bytes → s.lowest + length s.bytes ≤ 0x8000 → start_of up s ≤ 0x7FFF
start_low true s h k = omega arith
start_low false s h k = omega arith

-- no stretch has more registers than are listed
abbrev Short : List Stretch → Type 0
Short [] = Unit {0}
Short (s ∷ ss) = (length s.bytes ≤ 1000) × Short ss

length_up : (f : ℕ) (vs : List ℕ) → length (up_from f vs) ≡ length vs
length_up f [] = refl
length_up f (v ∷ vs) = ap suc (length_up (f + 1) vs)

short : (ss : List Stretch) → length (registers_in ss) ≤ 1000 → Short ss
short [] h = tt
short (s ∷ ss) h =
    let both = length-append (up_from s.lowest s.bytes) (registers_in ss) in
    let mine = length_up s.lowest s.bytes in
    (omega arith, short ss (omega arith))

-- ---- all of them

start_rises :
    (up : Bool) (s r : Stretch) → 1 ≤ length s.bytes → 1 ≤ length r.bytes → s.lowest + length s.bytes + 1 ≤ r.lowest
    → start_of up s < start_of up r
start_rises true s r h k gap = omega arith
start_rises false s r h k gap = omega arith

module _ (up : Bool) (t : ℕ) (streams : Streams up t) where
  abbrev orders : List Stretch → List Order
  orders ss = map (order_with t) (map (frame_of up) ss)

  all_frames : (l : ℕ) (ss : List Stretch) → Apart l ss → Short ss → AllFrames up (orders ss)
  unfolding AllFrames
  all_frames l [] a h = tt
  all_frames l (s ∷ ss) a h = (
    record {
      write = refl;
      streaming = streams.streaming;
      direction = streams.direction;
      accepted = write_accepted t (start_of up s) (length s.bytes) (data_of up s.bytes) streams.known streams.streaming
          a.1 h.0 (length_data up s.bytes) (start_low up s a.1 a.2);
    },
    all_frames (s.lowest + length s.bytes + 1) ss a.3 h.1,
  )

  exactly : (a l : ℕ) (ss : List Stretch) → Apart l ss → bytes_to a (all_bytes (orders ss)) ≡ bytes_to a (registers_in ss)
  unfolding all_bytes
  exactly a l [] h = refl
  exactly a l (s ∷ ss) h =
      to_append a (run_bytes Newer (order_with t (frame_of up s))) (all_bytes (orders ss))
      ∙ rw (exactly a (s.lowest + length s.bytes + 1) ss h.3, streams.direction, either_run up a s.lowest s.bytes h.1 h.2)
      (sym (to_append a (up_from s.lowest s.bytes) (registers_in ss)))

  by_start : (l : ℕ) (ss : List Stretch) → Apart l ss → rising (map (λ (x : ListedOrder). x.start) (map (frame_of up) ss)) ≡ true
  unfolding rising
  by_start l [] h = refl
  by_start l (s ∷ []) h = refl
  by_start l (s ∷ r ∷ ss) h =
      rw (lt-ltb (start_of up s) (start_of up r) (start_rises up s r h.1 h.3.1 h.3.0))
      (by_start (s.lowest + length s.bytes + 1) (r ∷ ss) h.3)

wanted_most : (addresses bytes : List ℕ) → length (wanted_of addresses bytes) ≤ length addresses
unfolding wanted_of
wanted_most [] bytes = omega arith
wanted_most (a ∷ addresses) [] = omega arith
wanted_most (a ∷ addresses) (v ∷ bytes) = omega (arith, wanted_most addresses bytes)

pub frames_made : FramesMade
unfolding frames_of
frames_made up t addresses bytes good streams =
    let g = good_list addresses bytes good in
    let ss = stretches_of (wanted_of addresses bytes) in
    let whole = same_registers (wanted_of addresses bytes) in
    let few : length (registers_in ss) ≤ 1000 = omega (arith, ap length whole, wanted_most addresses bytes, g.most) in
    record {
      writes = record {
        frames = all_frames up t streams 1 ss g.apart (short ss few);
        exactly = λ a. exactly up t streams a 1 ss g.apart ∙ ap (bytes_to a) whole;
      };
      by_start = by_start up t streams 1 ss g.apart;
    }
