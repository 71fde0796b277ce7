-- The eight samples of a nibble, made as one number: proved once by a test over all sixteen nibbles.
use mathlib.Core.Path.{◌≡◌, refl, sym, ◌∙◌}
use mathlib.Core.Bool.{Bool, true}
use mathlib.Core.List.{List, [], ◌∷◌, append_assoc}
use Prim.Native.Nat.{ℕ, ◌+◌, ◌-◌, ◌*◌, ◌/◌, ◌^◌, ◌<◌, ◌≤◌}
use native.Mathlib.Omega.{arith}
use lib.ListN.{length, get_or, take, drop}
use lib.Seq.{sets-eq, drop-drop}
use Rattle.std.specs.Int.{byte_at, to_le_bytes, w64}
use borrow.Rule.Slice.PartMut.{put_mid}
use Rattle.base_bits.specs.Buffer.{Put}
use lib.Dec.{eqb}
use lib.Bits.{bit_and}
use borrow.Author.Tests.{eqb-true}
use Rattle.base_bits.specs.Bits.{bit_at}
use Rattle.base_bits.proofs.Tables.{all_below, below}
use Rattle.send_order.specs.Samples.{high_first, clocked}

abbrev pub nibble_samples : ℕ → List ℕ
nibble_samples x = clocked (high_first 4 x)

-- as the code makes them
abbrev pub made : ℕ → ℕ
made x = 0x0604060406040604 - bit_and ((15 - x) * 0x0808040402020101 / 2 ^ 1) 0x0404040404040404

abbrev right : ℕ → ℕ → Bool
right x i = eqb (byte_at i (made x)) (get_or (nibble_samples x) i 0)

all_right : all_below (λ (x : ℕ). all_below (right x) 8) 16 ≡ true
unfolding clocked high_first bit_at
all_right = refl

sample : (x i : ℕ) → x < 16 → i < 8 → byte_at i (made x) ≡ get_or (nibble_samples x) i 0
sample x i hx hi =
    eqb-true (byte_at i (made x)) (get_or (nibble_samples x) i 0) (below (right x) 8 (below (λ (x : ℕ). all_below (right x) 8) 16 all_right x hx) i hi)

pub length_nibble : (x : ℕ) → length (nibble_samples x) ≡ 8
unfolding clocked high_first
length_nibble x = refl

eight : {a b c d e f g h a' b' c' d' e' f' g' h' : ℕ} → a ≡ a' → b ≡ b' → c ≡ c' → d ≡ d' → e ≡ e' → f ≡ f' → g ≡ g' → h ≡ h'
    → (a ∷ b ∷ c ∷ d ∷ e ∷ f ∷ g ∷ h ∷ []) ≡ (a' ∷ b' ∷ c' ∷ d' ∷ e' ∷ f' ∷ g' ∷ h' ∷ [])
eight i j k l m n o p = rw (i, j, k, l, m, n, o, p)

-- the bytes of the number, the lowest first, are the samples
bytes_made : (x : ℕ) → x < 16 → to_le_bytes w64 (made x) ≡ nibble_samples x
unfolding clocked high_first
bytes_made x h =
    let s : (i : ℕ) → i < 8 → byte_at i (made x) ≡ get_or (nibble_samples x) i 0 = λ i l. sample x i h l in
    eight (s 0 (omega arith)) (s 1 (omega arith)) (s 2 (omega arith)) (s 3 (omega arith)) (s 4 (omega arith)) (s 5 (omega arith)) (s 6 (omega arith)) (s 7 (omega arith))

-- they are copied into the buffer in one piece
pub nibble_put : (x at k : ℕ) (old new : List ℕ) → x < 16 → at + 8 ≤ length old → k ≡ 8 → new ≡ to_le_bytes w64 (made x)
    → Put old at (nibble_samples x) (at + 8) (put_mid at k old new)
nibble_put x at k old new h fits e made_new =
    let l = length_nibble x in
    let same : new ≡ nibble_samples x = made_new ∙ bytes_made x h in
    let after : drop (at + length (nibble_samples x)) old ≡ drop k (drop at old) = rw (l, e) (sym (drop-drop 8 at old)) in
    record {
      next_place = rw l;
      buffer = rw same
          (sym (sets-eq (nibble_samples x) old at (omega (arith, l)) ∙ rw after (append_assoc (take at old) (nibble_samples x) _)));
    }
