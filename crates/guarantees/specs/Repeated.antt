-- Document 02, Ask 11: samples that repeat the levels of CSB and SCLK can be put in or left out.
use Rattle.std.specs.Prelude.{ℕ, ◌≤◌, ◌≡◌, Bool, List, [], ◌∷◌, length}
use Rattle.base_chip.specs.declared.Chip.{Chip}
use Rattle.bus_session.specs.Step.{csb_of, sclk_of}
use Rattle.read_run.specs.Reading.{ReaderState}
use Rattle.read_calls.specs.Calls.{read_of}
use Rattle.guarantees.specs.Calls.{Call, after_calls, joined}
use Rattle.guarantees.specs.Touched.{recorded_by}

-- After these last levels of CSB and SCLK, the second recording is the first with samples put in, each with no spare bit set and with the CSB and
-- SCLK of the one before it; SDIO and SDO may be anything.
pub data Slower : Bool → Bool → List ℕ → List ℕ → Type 0 where
  end : {csb sclk : Bool} → Slower csb sclk [] []
  kept : {csb sclk : Bool} {xs ys : List ℕ} (x : ℕ) → Slower (csb_of x) (sclk_of x) xs ys → Slower csb sclk (x ∷ xs) (x ∷ ys)
  again : {csb sclk : Bool} {xs ys : List ℕ} (y : ℕ) → y ≤ 15 → csb_of y ≡ csb → sclk_of y ≡ sclk → Slower csb sclk xs ys → Slower csb sclk xs (y ∷ ys)

-- the same from the last levels of a session on
abbrev pub SlowerFrom : ReaderState → List ℕ → List ℕ → Type 0
SlowerFrom w xs ys = Slower w.session.port.csb w.session.port.sclk xs ys

-- Both recordings are read alike, by any chip, from any session, if the longer one is within the limit on samples: numbers, records, both stages,
-- words and session.
abbrev pub RepeatedSamples : Type 0
RepeatedSamples =
    (c : Chip) (m : List ℕ) (w : ReaderState) (xs ys records : List ℕ) → SlowerFrom w xs ys → length ys ≤ 65536
    → read_of c m w xs records ≡ read_of c m w ys records

-- So over any two lists of calls on one map, each cut anywhere, with refused calls anywhere: if the samples that the one reads are so those of the
-- other, both end with the same session, banks and words, and have made the same records.
abbrev pub RepeatedCalls : Type 0
RepeatedCalls =
    (c : Chip) (m : List ℕ) (w : ReaderState) (calls slows : List Call) → SlowerFrom w (joined c m w calls) (joined c m w slows)
    → (after_calls c m w calls ≡ after_calls c m w slows) × (recorded_by c m w calls ≡ recorded_by c m w slows)
