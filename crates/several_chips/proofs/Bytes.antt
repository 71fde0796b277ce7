-- The bytes of a chip's session: each is below 256, and a last level of SCLK is one of them.
use Prim.Native.Nat.{ℕ, zero, suc, ◌<◌}
use mathlib.Core.Path.{◌≡◌, ap, ◌∙◌}
use mathlib.Core.Bool.{Bool, true}
use mathlib.Core.List.{List, [], ◌∷◌}
use lib.Dec.{lit<}
use lib.ListN.{get_or, set}
use mir.Syntax.{w8}
use mir.Val.{Val}
use denote.Array.{each}
use denote.Laws.{Is}
use denote.Plain.{UInt}
use denote.Shadow.{shadow}
use denote.Struct.Declared.{row}
use Rattle.base_bits.specs.Bits.{bit_of}
use Rattle.bus_session.specs.declared.Port.{Port}
use Rattle.bus_session.specs.State.{at_levels, with_levels}
use Rattle.bus_session.specs.Step.{csb_of, sclk_of}
use Rattle.bus_session_bytes.specs.Layout.{session_bytes, are_session, session_of}
use Rattle.bus_session_bytes.proofs.Laws.{bytes_back}
use Rattle.several_chips.specs.declared.Member.{Member}
use Rattle.several_chips.specs.contracts.Member.{the_type}

-- what an array of bytes by value tells of each
each_small : (xs : List ℕ) (us : List Val) → shadow (each ℕ (UInt w8).own_val xs us) → (i : ℕ) → get_or xs i 0 < 256
each_small [] us s i = lit< tt
each_small (x ∷ xs) [] s i = absurd s
each_small (x ∷ xs) (u ∷ us) s zero = s.0.1
each_small (x ∷ xs) (u ∷ us) s (suc i) = each_small xs us s.1 i

-- the bytes of a chip's session are below 256
pub session_small : (w : Member) (vs : List Val) → Is (row the_type) w vs → (i : ℕ) → get_or w.session i 0 < 256
session_small w vs p = each_small w.session p.1.1.0.0 p.1.1.0.1.1

-- with CSB as it was, the next levels change one byte, that of SCLK
pub clock_byte : (b : List ℕ) (x : ℕ) → are_session b ≡ true → ((i : ℕ) → get_or b i 0 < 256) → csb_of x ≡ (session_of b).port.csb
    → session_bytes (record { port = with_levels (session_of b).port x; armed = (session_of b).armed }) ≡ set b 2 (bit_of (sclk_of x))
unfolding session_bytes
clock_byte b x are small same =
    ap (λ (k : Bool). session_bytes (record { port = at k; armed = (session_of b).armed })) same
    ∙ ap (λ (l : List ℕ). set l 2 (bit_of (sclk_of x))) (bytes_back b are small)
  where
    at : Bool → Port
    at k = at_levels (session_of b).port k (sclk_of x)
