-- Document 02, Ask 11, for several chips: samples that repeat all selects and SCLK can be put in or left out.
use Rattle.std.specs.Prelude.{ℕ, ◌+◌, ◌*◌, ◌%◌, ◌≤◌, ◌≡◌, Bool, true, ◌&&◌, List, [], ◌∷◌, eqb, length}
use Rattle.std.specs.Bool.{beq}
use Rattle.base_bits.specs.Bits.{bit_at}
use Rattle.bus_session.specs.Step.{sclk_of}
use Rattle.bus_session_bytes.specs.Layout.{session_of}
use Rattle.several_chips.specs.declared.Member.{Member}
use Rattle.several_chips.specs.Samples.{Sample, samples_in, sample_good}
use Rattle.several_chips.specs.Calls.{several_of}

-- the second sample has all selects and SCLK of the first
abbrev pub repeats : Sample → Sample → Bool
repeats x y = eqb y.selects x.selects && beq (sclk_of y.lines) (sclk_of x.lines)

-- a first sample of a call: it has the last levels of every session, from chip i on
unfoldable pub repeats_last : ℕ → List Member → Sample → Bool
repeats_last i [] y = true
repeats_last i (w ∷ ws) y =
    beq (bit_at y.selects i) (session_of w.session).port.csb
    && (beq (sclk_of y.lines) (session_of w.session).port.sclk && repeats_last (i + 1) ws y)

-- The second recording is the first with samples put in, each with no spare bit set and repeating what was before it; SDIO and SDO may
-- be anything.
pub data SlowerAll (chips : ℕ) : (Sample → Bool) → List Sample → List Sample → Type 0 where
  end : {before : Sample → Bool} → SlowerAll chips before [] []
  kept : {before : Sample → Bool} {xs ys : List Sample} (x : Sample) → SlowerAll chips (repeats x) xs ys → SlowerAll chips before (x ∷ xs) (x ∷ ys)
  again : {before : Sample → Bool} {xs ys : List Sample} (y : Sample) → sample_good chips y ≡ true → before y ≡ true
      → SlowerAll chips before xs ys → SlowerAll chips before xs (y ∷ ys)

-- Both recordings are read alike, if the longer one is within the limit on samples: number, chips, memory and records.
abbrev pub RepeatedSeveral : Type 0
RepeatedSeveral =
    (m : List ℕ) (ws : List Member) (mem bytes slow old : List ℕ) → length bytes % 2 ≡ 0 → length slow % 2 ≡ 0 → length slow ≤ 2 * 65536
    → SlowerAll (length ws) (repeats_last 0 ws) (samples_in bytes) (samples_in slow)
    → several_of m ws mem bytes old ≡ several_of m ws mem slow old
