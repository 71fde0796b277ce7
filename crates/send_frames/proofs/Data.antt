-- The data of a run over a stretch: as long as the bytes of the stretch, and where each of them stands.
use mathlib.Core.Path.{◌≡◌, refl, ap, sym, ◌∙◌}
use mathlib.Core.Bool.{Bool, true, false}
use mathlib.Core.List.{List, [], ◌∷◌, reverse, reverse-cons}
use mathlib.Core.Logic.{⊎_elim}
use Prim.Native.Nat.{ℕ, suc, ◌-◌, ◌<◌}
use native.Mathlib.Omega.{arith}
use native.Mathlib.Nat.{eq-or-lt_of_le, le_of_suc-le-suc}
use lib.ListN.{length, get_or, length-reverse, get_or-append}
use lib.Seq.{get_or_at}
use Rattle.send_frames.specs.Frames.{data_of}

pub length_data : (up : Bool) (vs : List ℕ) → length (data_of up vs) ≡ length vs
length_data true vs = refl
length_data false vs = length-reverse vs

-- a byte of the reversed list stands as far from the end
pub reverse_at : (vs : List ℕ) (i : ℕ) → i < length vs → get_or (reverse vs) i 0 ≡ get_or vs (length vs - 1 - i) 0
reverse_at [] i h = absurd (omega arith)
reverse_at (v ∷ vs) i h =
    ap (λ (l : List ℕ). get_or l i 0) (reverse-cons v vs)
    ∙ ⊎_elim
    (λ (e : i ≡ length vs).
    let z : suc (length vs) - 1 - i ≡ 0 = omega arith in
    get_or_at (reverse vs) v [] 0 i (length-reverse vs ∙ sym e) ∙ ap (λ (k : ℕ). get_or (v ∷ vs) k 0) (sym z))
    (λ (l : i < length vs).
    let s : suc (length vs) - 1 - i ≡ suc (length vs - 1 - i) = omega arith in
    get_or-append (reverse vs) (v ∷ []) 0 i (omega (arith, length-reverse vs))
    ∙ reverse_at vs i l
    ∙ ap (λ (k : ℕ). get_or (v ∷ vs) k 0) (sym s))
    (eq-or-lt_of_le (le_of_suc-le-suc h))
