-- A record that is put after the number of its chip.
use mathlib.Core.Path.{◌≡◌, ◌∙◌, ap}
use mathlib.Core.List.{List, ◌∷◌}
use Prim.Native.Nat.{ℕ, ◌+◌, ◌<◌}
use native.Mathlib.Omega.{arith}
use native.Mathlib.Numerals.{add-one}
use lib.ListN.{length, set}
use lib.Seq.{sets, length-sets}
use Rattle.reg_ranges.proofs.Laws.{set_inside}

-- the number i and the record r are put at a place as one; and where byte 5 of the record is stored anew, it is so before it is put
pub record Put (l : List ℕ) (at i : ℕ) (r new : List ℕ) : Type 0 where
  pub whole : new ≡ sets l at (i ∷ r)
  pub same_size : length new ≡ length l
  pub stored : (v : ℕ) → 5 < length r → set new (at + 6) v ≡ sets l at (i ∷ set r 5 v)

-- the code's two steps
pub put_after : (l : List ℕ) (at i : ℕ) (r : List ℕ) {new : List ℕ} → new ≡ sets (set l at i) (at + 1) r → Put l at i r new
put_after l at i r e =
    let whole = e ∙ ap (λ (k : ℕ). sets (set l at i) k r) (add-one at) in
    record {
      whole = whole;
      same_size = ap length whole ∙ length-sets l at (i ∷ r);
      stored = λ v h. ap (λ (k : List ℕ). set k (at + 6) v) whole ∙ set_inside (i ∷ r) l at 6 v (omega arith);
    }
