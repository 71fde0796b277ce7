-- What a host's call leaves is what the call itself leaves, the session as bytes.
use Prim.Native.Nat.{ℕ}
use mathlib.Core.Path.{◌≡◌, refl, ap}
use mathlib.Core.Bool.{true, false}
use mathlib.Core.List.{List}
use Rattle.std.specs.Prelude.{Result, Ok, Err}
use Rattle.std.specs.Result.{result_unwrap_or}
use Rattle.base_bits.proofs.Cases.{yes, no}
use Rattle.base_numbers.specs.declared.Refusal.{Refusal}
use Rattle.base_numbers.specs.Numbers.{amount_of}
use Rattle.base_chip.specs.declared.Chip.{Chip}
use Rattle.bus_session.specs.declared.Session.{Session}
use Rattle.bus_session_bytes.specs.Layout.{session_bytes, are_session, session_of}
use Rattle.reg_banks.specs.Banks.{Banks, banks}
use Rattle.read_run.specs.Reading.{reader_state}
use Rattle.read_calls.specs.Calls as reader
use Rattle.read_next.specs.declared.NextRecord.{NextRecord}
use Rattle.read_next.specs.NextRecord as nextrecord
use Rattle.host_calls.specs.Calls.{host_opening, host_opening_of, host_open_of, host_outcome, host_outcome_of, host_read_of, host_next, host_next_bytes, host_next_of}

-- a refusal gives no record
pub amount_or : (r : Result ℕ Refusal) → result_unwrap_or r 0 ≡ amount_of r
amount_or (Ok n) = refl
amount_or (Err e) = refl

pub found_or : (r : Result NextRecord Refusal) → result_unwrap_or r (record { count = 0; taken = 0 }) ≡ nextrecord.found_by r
found_or (Ok n) = refl
found_or (Err e) = refl

pub opened : (c : Chip) (m : List ℕ) (b₀ : Banks) {n : ℕ} {s : Session} {b : Banks} (bytes : List ℕ) → bytes ≡ session_bytes s
    → reader.opening n s b ≡ reader.open_of c m b₀ → host_opening n bytes b ≡ host_open_of c m b₀
unfolding host_open_of
opened c m b₀ bytes e o = rw e (ap host_opening_of o)

module _ (c : Chip) (m s : List ℕ) (act buf ws xs old : List ℕ) where
  -- bytes that are no session
  pub no_session : are_session s ≡ false → host_outcome 1 s (banks act buf) ws 0 old ≡ host_read_of c m s (banks act buf) ws xs old
  unfolding host_read_of
  no_session t = no _ t refl

  pub read_bytes : are_session s ≡ true → {given host_next : Session} → given ≡ session_of s → {n count : ℕ} {act' buf' ws' new : List ℕ}
      → reader.outcome n (reader_state host_next act' buf' ws') count new ≡ reader.read_of c m (reader_state given act buf ws) xs old
      → (bytes : List ℕ) → bytes ≡ session_bytes host_next → host_outcome n bytes (banks act' buf') ws' count new ≡ host_read_of c m s (banks act buf) ws xs old
  unfolding host_read_of
  read_bytes t g o bytes e = yes _ t (rw e (ap host_outcome_of (rw g at o)))

  pub no_session_next : are_session s ≡ false → host_next (host_outcome 1 s (banks act buf) ws 0 old) 0 ≡ host_next_of c m s (banks act buf) ws xs old
  unfolding host_next_of
  no_session_next t = no _ t refl

  pub next_bytes : are_session s ≡ true → {given after : Session} → given ≡ session_of s → {n count taken : ℕ} {act' buf' ws' new : List ℕ}
      → nextrecord.next_outcome (reader.outcome n (reader_state after act' buf' ws') count new) taken
      ≡ nextrecord.next_of c m (reader_state given act buf ws) xs old
      → (bytes : List ℕ) → bytes ≡ session_bytes after
      → host_next (host_outcome n bytes (banks act' buf') ws' count new) taken ≡ host_next_of c m s (banks act buf) ws xs old
  unfolding host_next_of
  next_bytes t g o bytes e = yes _ t (rw e (ap host_next_bytes (rw g at o)))
