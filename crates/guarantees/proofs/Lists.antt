-- With the next of the samples and room for their records a call is done; and such lists of calls exist, with a refused call in them.
use Prim.Native.Nat.{ℕ, ◌*◌, ◌<◌, ◌≤◌}
use mathlib.Core.Path.{◌≡◌, refl, ap, ◌∙◌}
use mathlib.Core.Bool.{true, false}
use mathlib.Core.List.{List, [], ◌∷◌, ◌++◌, append-nil}
use native.Mathlib.Omega.{arith}
use lib.ListN.{length, take, drop, replicate, length-append, length-take, length-replicate, take-append-drop}
use borrow.Author.Tests.{le-leb}
use Rattle.base_sizes.specs.Sizes.{record_size}
use Rattle.base_chip.specs.declared.Chip.{Chip}
use Rattle.read_run.specs.Reading.{ReaderState, record_count}
use Rattle.read_refusals.specs.Numbers.{samples_good, read_number}
use Rattle.read_calls.specs.Calls.{read_of}
use Rattle.send_order.specs.Order.{Order}
use Rattle.send_order.specs.Samples.{samples_of}
use Rattle.guarantees.specs.AtRest.{AtRest, Accepted}
use Rattle.guarantees.specs.Calls.{Call, outcome_of, is_done, after_calls, joined}
use Rattle.guarantees.specs.StoppedRun.{stopped_samples}
use Rattle.guarantees.specs.InForce.{NextDone, ListsExist}
use Rattle.guarantees.proofs.Calls.{calls_run}
use Rattle.guarantees.proofs.Done.{run_sound, rest_sound, no_refusal, good_append, good_samples, good_part, few_samples}

stopped_good : (c : Chip) (o : Order) (s raise : ℕ) → raise < 16 → samples_good (stopped_samples c o s raise) ≡ true
unfolding samples_good
stopped_good c o s raise h =
    good_append (take s (samples_of c o)) (raise ∷ [])
    ∙ rw (
      (good_part (take s (samples_of c o)) (drop s (samples_of c o)) (samples_of c o) (take-append-drop s (samples_of c o)) (good_samples c o)).0,
      le-leb raise 15 (omega arith),
    )

stopped_few : (c : Chip) (o : Order) (room s raise : ℕ) → Accepted c o room → length (stopped_samples c o s raise) ≤ 65536
stopped_few c o room s raise accepted =
    omega (arith, length-append (take s (samples_of c o)) (raise ∷ []), length-take s (samples_of c o), few_samples c o room accepted)

pub next_done : NextDone
unfolding read_of
next_done c m w o room s raise calls next rest records run read enough =
    rw (no_refusal c m after next (length records) run.start.good_map run.start.top
    (rw (calls_run c m w calls) (run_sound c m w (joined c m w calls) (rest_sound c m w o run.start))) fine few enough)
  where
    after : ReaderState
    after = after_calls c m w calls

    fine : samples_good next ≡ true
    fine =
        (good_part next rest (next ++ rest) refl
        (good_part (joined c m w calls) (next ++ rest) (stopped_samples c o s raise) read (stopped_good c o s raise run.sample)).1).0

    few : length next ≤ 65536
    few =
        omega (
          arith,
          stopped_few c o room s raise run.accepted,
          ap length read,
          length-append (joined c m w calls) (next ++ rest),
          length-append next rest,
        )

-- a call with one sample, whose bit 4 is set
abbrev bad_call : Call
bad_call = record { samples = 0x10 ∷ []; records = [] }

bad_refused : (c : Chip) (m : List ℕ) (w : ReaderState) (o : Order) → AtRest c m w o → is_done c m w bad_call ≡ false
unfolding read_of read_number samples_good
bad_refused c m w o rest = rw (rest.sound, rest.good_map, rest.bank_sizes, rest.top, rest.words)

pub lists_exist : ListsExist
unfolding after_calls joined
lists_exist c m w o room s raise run = record {
  first = bad_call;
  more = whole ∷ [];
  refused = refused;
  read = rw (refused, done) (append-nil samples);
}
  where
    samples : List ℕ
    samples = stopped_samples c o s raise

    after : ReaderState
    after = (outcome_of c m w bad_call).state

    size : ℕ
    size = record_size * record_count c after.session.port samples

    whole : Call
    whole = record { samples = samples; records = replicate size 0 }

    refused : is_done c m w bad_call ≡ false
    refused = bad_refused c m w o run.start

    done : is_done c m after whole ≡ true
    done =
        next_done c m w o room s raise (bad_call ∷ []) samples [] (replicate size 0) run (rw refused (append-nil samples))
        (omega (arith, length-replicate {A = ℕ} size 0))
