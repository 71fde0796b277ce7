-- What is told of the samples beside their records.
use Rattle.std.specs.Prelude.{ℕ, ◌+◌, Bool, false, cond, not, ◌&&◌, ◌||◌, List, [], ◌∷◌, leb}
use Rattle.bus_session.specs.Step.{csb_of, sclk_of}
use Rattle.text_recording.specs.declared.glance.Seen.{Seen}

abbrev pub seen : ℕ → Bool → Bool → Seen
seen last fell rose = record { last = last; fell = fell; rose = rose }

-- Document 01, "Registers and session": the opened session is at rest, last SCLK low.
abbrev pub nothing_seen : Seen
nothing_seen = seen 1 false false

-- Document 01, "Samples and edges": CSB high to low
unfoldable pub falls_at : ℕ → ℕ → Bool
falls_at last x = csb_of last && not (csb_of x)

-- CSB low before and now, SCLK low before and high now.
unfoldable pub rises_at : ℕ → ℕ → Bool
rises_at last x = not (csb_of last) && not (csb_of x) && not (sclk_of last) && sclk_of x

-- What has been seen after more samples: nothing is looked for after a clock edge with the select low.
unfoldable pub seen_of : Seen → List ℕ → Seen
seen_of s [] = s
seen_of s (x ∷ xs) = cond s.rose s (seen_of (seen x (s.fell || falls_at s.last x) (rises_at s.last x)) xs)

-- Document 01, "Numbers given back", number 5: how many samples come before the first with any of bits 4 to 7 set.
unfoldable pub good_before : List ℕ → ℕ
good_before [] = 0
good_before (x ∷ xs) = cond (leb x 15) (good_before xs + 1) 0
