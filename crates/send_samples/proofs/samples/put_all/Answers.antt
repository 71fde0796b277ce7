-- `put_all` meets its contract: the opening, the bytes and the closing one after the other are all samples of the run.
use mathlib.Core.Path.{refl, ap, subst}
use mathlib.Core.List.{List, ◌++◌}
use Prim.Native.Nat.{ℕ}
use native.Mathlib.Omega.{arith}
use lib.ListN.{length}
use Rattle.base_bits.specs.Buffer.{Put}
use Rattle.base_bits.proofs.Putting.{Putting, Splits, putting_begun, next_fits, further, ended}
use Rattle.send_order.specs.Order.{sent_of}
use Rattle.send_samples.specs.declared.RunSettings.{RunSettings}
use Rattle.send_samples.specs.Run.{opening_samples, run_samples, closing_samples, whole_samples}
use Rattle.send_samples.proofs.Parts.{closing_last}
use Rattle.send_samples.proofs.samples.put_all.Goals as goal

-- of a run, with bits 14 to 0 of the instruction before it, a start and the bytes that are sent: all samples, those of the bytes with
-- the closing, and those of the bytes
module _ (r : RunSettings) (x a : ℕ) (vs : List ℕ) where
  abbrev all : List ℕ
  all = whole_samples r x a vs

  abbrev bytes_and_closing : List ℕ
  bytes_and_closing = run_samples r a vs ++ closing_samples

  -- the opening goes first, and then the bytes
  first : Splits all (opening_samples r x) bytes_and_closing
  first = record { split = refl }

  second : Splits bytes_and_closing (run_samples r a vs) closing_samples
  second = record { split = refl }

pub put_opening-first-requires : goal.put_opening-first-requires
put_opening-first-requires c =
    let a = c.args in
    let r = c.run_of-run.result in
    let vs : List ℕ = sent_of r.read a.order.count a.«data».now in
    let whole : Putting a.out.now 0 (all r a.lower a.order.start vs) (all r a.lower a.order.start vs) 0 a.out.now =
    putting_begun _ _ _ (omega (
      arith,
      c.requires.data_in_bounds,
      ap (λ (s : RunSettings). length (all s a.lower a.order.start (sent_of s.read a.order.count a.«data».now))) c.run_of-run.ensures,
    )) in
    let fits = next_fits whole (first r a.lower a.order.start vs) in
    record { lower_bound = (c.requires.settings_bound.2, omega arith) }

pub put_run-last-requires : goal.put_run-last-requires
put_run-last-requires c =
    let a = c.args in
    let r = c.run_of-run.result in
    let vs : List ℕ = sent_of r.read a.order.count a.«data».now in
    let whole : Putting a.out.now 0 (all r a.lower a.order.start vs) (all r a.lower a.order.start vs) 0 a.out.now =
    putting_begun _ _ _ (omega (
      arith,
      c.requires.data_in_bounds,
      ap (λ (s : RunSettings). length (all s a.lower a.order.start (sent_of s.read a.order.count a.«data».now))) c.run_of-run.ensures,
    )) in
    let opened = further whole (first r a.lower a.order.start vs) c.put_opening-first.ensures in
    record {
      start_bound = c.requires.settings_bound.1;
      data_len = rw c.run_of-run.ensures c.requires.data_len;
      data_in_bounds = next_fits opened (second r a.lower a.order.start vs);
    }

pub put_closing-requires : goal.put_closing-requires
put_closing-requires c =
    let a = c.args in
    let r = c.run_of-run.result in
    let vs : List ℕ = sent_of r.read a.order.count a.«data».now in
    let whole : Putting a.out.now 0 (all r a.lower a.order.start vs) (all r a.lower a.order.start vs) 0 a.out.now =
    putting_begun _ _ _ (omega (
      arith,
      c.requires.data_in_bounds,
      ap (λ (s : RunSettings). length (all s a.lower a.order.start (sent_of s.read a.order.count a.«data».now))) c.run_of-run.ensures,
    )) in
    let opened = further whole (first r a.lower a.order.start vs) c.put_opening-first.ensures in
    let ran = further opened (second r a.lower a.order.start vs) c.put_run-last.ensures in
    next_fits ran closing_last

pub returns : goal.returns
returns c =
    let a = c.args in
    let r = c.run_of-run.result in
    let vs : List ℕ = sent_of r.read a.order.count a.«data».now in
    let whole : Putting a.out.now 0 (all r a.lower a.order.start vs) (all r a.lower a.order.start vs) 0 a.out.now =
    putting_begun _ _ _ (omega (
      arith,
      c.requires.data_in_bounds,
      ap (λ (s : RunSettings). length (all s a.lower a.order.start (sent_of s.read a.order.count a.«data».now))) c.run_of-run.ensures,
    )) in
    let opened = further whole (first r a.lower a.order.start vs) c.put_opening-first.ensures in
    let ran = further opened (second r a.lower a.order.start vs) c.put_run-last.ensures in
    let put = c.put_closing in
    subst
    (λ (s : RunSettings).
    Put a.out.now 0 (all s a.lower a.order.start (sent_of s.read a.order.count a.«data».now)) put.result put.new.out)
    c.run_of-run.ensures
    (ended (further ran closing_last put.ensures) refl)
