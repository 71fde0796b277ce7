-- A refusal leaves all as it was, the session's bytes too.
use Prim.Native.Nat.{ℕ, ◌<◌}
use mathlib.Core.Path.{◌≡◌, refl}
use mathlib.Core.Bool.{Bool, true, false, cond}
use mathlib.Core.Logic.{◌≢◌}
use mathlib.Core.List.{List}
use lib.Dec.{eqb}
use lib.ListN.{length, get_or}
use Rattle.base_chip.specs.declared.Chip.{Chip}
use Rattle.bus_session_bytes.specs.Layout.{are_session}
use Rattle.bus_session_bytes.proofs.Laws.{bytes_back}
use Rattle.reg_banks.specs.Banks.{Banks}
use Rattle.read_refusals.specs.Numbers.{read_number}
use Rattle.read_calls.specs.Calls as reader
use Rattle.host_calls.specs.Calls.{host_outcome, host_outcome_of, host_state, host_read_of}

pub refused_as_given : (c : Chip) (m s : List ℕ) (b : Banks) (ws xs old : List ℕ) → ((i : ℕ) → get_or s i 0 < 256) → (host_read_of c m s b ws xs old).number ≢ 0
    → host_read_of c m s b ws xs old ≡ host_outcome (host_read_of c m s b ws xs old).number s b ws 0 old
unfolding host_read_of reader.read_of
refused_as_given c m s b ws xs old small = go (are_session s) refl
  where
    n : ℕ
    n = read_number c m (host_state s b ws) xs (length old)

    refused : (d : reader.Outcome) (z : Bool) → d.number ≡ 0 → are_session s ≡ true
        → (host_outcome_of (cond z d (reader.outcome n (host_state s b ws) 0 old))).number ≢ 0
        → host_outcome_of (cond z d (reader.outcome n (host_state s b ws) 0 old))
        ≡ host_outcome (host_outcome_of (cond z d (reader.outcome n (host_state s b ws) 0 old))).number s b ws 0 old
    refused d true e t z = absurd (z e)
    refused d false e t z = rw (bytes_back s t small)

    go : (t : Bool) → are_session s ≡ t → (cond t (host_outcome_of (reader.read_of c m (host_state s b ws) xs old)) (host_outcome 1 s b ws 0 old)).number ≢ 0
        → cond t (host_outcome_of (reader.read_of c m (host_state s b ws) xs old)) (host_outcome 1 s b ws 0 old)
        ≡ host_outcome (cond t (host_outcome_of (reader.read_of c m (host_state s b ws) xs old)) (host_outcome 1 s b ws 0 old)).number s b ws 0 old
    go true t z = refused _ (eqb n 0) refl t z
    go false t z = refl
