-- `run_samples` meets its contract: what is passed, with what the samples left will give, is the whole. Each turn goes to a stop, and the
-- sample there has a law of its own.
use mathlib.Core.Path.{refl, sym, ◌∙◌, ap}
use mathlib.Core.Bool.{Bool, ◌&&◌}
use lib.Dec.{eqb}
use native.Mathlib.Omega.{arith}
use Rattle.bus_session.specs.State.{is_counted}
use Rattle.read_run.specs.declared.events.Pass.{Pass}
use Rattle.read_run.specs.declared.scanning.ScanPort.{ScanPort}
use Rattle.read_run.specs.Promises.{run_end}
use Rattle.read_run.proofs.Running.{passing}
use Rattle.read_run.proofs.Loop.{run_to_begun, run_to_ended, start_stands, line_small, stop_ends, stop_at, entering, byte_bounds, byte_taken, stop_whole, turn_starts, turn_goes_on, turn_ends, turn_stalls, turn_enters, turn_byte, turn_passes}
use Rattle.read_run.proofs.run_samples.Goals as goal
use Rattle.read_run.proofs.run_samples.Goals.{then-s+then-s-eq0, then-s+else-s-eq0, else-s+then-x-eq1+then-not-may_stall, else-s+then-x-eq1+else-not-may_stall, else-s+else-x-eq1+then-s-eq-LAST_OF_INSTRUCTION, else-s+else-x-eq1+else-s-eq-LAST_OF_INSTRUCTION+then-s-eq-LAST_OF_BYTE, else-s+else-x-eq1+else-s-eq-LAST_OF_INSTRUCTION+else-s-eq-LAST_OF_BYTE, else-loop-i-test, then-loop-i-test+then-samples-i}

-- whether the run stalls, asked of the port with the levels of the sample
abbrev stall_test : ScanPort → Bool
stall_test s = is_counted s.port.left && eqb s.port.bits 0

pub loop-i-init : goal.loop-i-init
loop-i-init c =
    let a = c.args in (
      (refl, refl, refl, refl),
      run_to_begun a.session c.pass_of-pass.result.newer c.scan_port-s.ensures c.none_told-told.ensures
          (ap (λ (p : Pass). p.newer) c.pass_of-pass.ensures) c.requires,
    )

pub scan-p-requires : goal.scan-p-requires
scan-p-requires c =
    let k = c.loop-i.invariant.1 in
    (start_stands k c.loop-i-test.true, line_small k c.loop-i-test.true)

pub bounds-samples-i : goal.bounds-samples-i
bounds-samples-i c = c.if-samples-i.false

pub pass_end-told-requires : goal.pass_end-told-requires
pass_end-told-requires c =
    let k = stop_at c.loop-i.invariant.1 c.loop-i-test.true c.scanned-s.ensures c.scan-p.ensures in
    rw (c.pass_of-pass.ensures, c.with_levels-s-then-x-eq1.ensures)
    (passing k.run.running
    (stop_ends k c.if-samples-i.false c.if-s.false c.if-x-eq1.true
    (sym (ap stall_test c.with_levels-s-then-x-eq1.ensures) ∙ sym c.may_stall.ensures ∙ c.if-not-may_stall.true))
    c.requires.few)

pub enter-s-requires : goal.enter-s-requires
enter-s-requires c =
    let k = stop_at c.loop-i.invariant.1 c.loop-i-test.true c.scanned-s.ensures c.scan-p.ensures in
    entering k c.if-samples-i.false c.if-s.false c.if-x-eq1.false
    (ap (λ (p : Pass). p.newer) c.pass_of-pass.ensures)

pub byte_at-byte-requires : goal.byte_at-byte-requires
byte_at-byte-requires c =
    let k = stop_at c.loop-i.invariant.1 c.loop-i-test.true c.scanned-s.ensures c.scan-p.ensures in
    byte_bounds k c.if-samples-i.false c.if-s.false c.if-x-eq1.false c.if-s-eq-LAST_OF_BYTE.true

pub pass_byte-told-requires : goal.pass_byte-told-requires
pass_byte-told-requires c =
    let k = stop_at c.loop-i.invariant.1 c.loop-i-test.true c.scanned-s.ensures c.scan-p.ensures in
    rw c.pass_of-pass.ensures (
      passing k.run.running
          (stop_whole k c.if-samples-i.false c.if-s.false c.if-x-eq1.false c.if-s-eq-LAST_OF_BYTE.true
          c.byte_at-byte.ensures)
          c.requires.few,
      refl,
    )

pub after_byte-s-requires : goal.after_byte-s-requires
after_byte-s-requires c =
    let k = stop_at c.loop-i.invariant.1 c.loop-i-test.true c.scanned-s.ensures c.scan-p.ensures in
    byte_taken k c.if-samples-i.false c.if-s.false c.if-x-eq1.false c.if-s-eq-LAST_OF_BYTE.true
    (ap (λ (p : Pass). p.newer) c.pass_of-pass.ensures)

pub overflow_add-i : goal.overflow_add-i
overflow_add-i c =
    omega (arith, c.if-samples-i.false, c.requires.few)

pub loop-i-smaller : goal.loop-i-smaller
loop-i-smaller c =
    omega (arith, c.scan-p.ensures.ahead, c.scan-p.ensures.within, c.loop-i-test.true, c.if-samples-i.false)

pub loop-i-preserved : goal.loop-i-preserved
loop-i-preserved c =
    let t = c.loop-i in
    let h = c.if-samples-i.false in
    let k = stop_at t.invariant.1 c.loop-i-test.true c.scanned-s.ensures c.scan-p.ensures in
    let same = c.pass_of-pass.ensures in
    elim c.if-s.branch [
      | then-s+then-s-eq0 w ↦
          rw (w.active-is, w.buffer-is, w.words-is, w.records-is, w.s-is, w.told-is) (
            t.invariant.0,
            rw (w.start-s.ensures, w.with_levels-s.ensures) (turn_starts k h w.if-s.true
                (sym (ap (λ (s : ScanPort). s.port.left) w.with_levels-s.ensures) ∙ w.if-s-eq0.true)),
          )
      | then-s+else-s-eq0 w ↦
          rw (w.active-is, w.buffer-is, w.words-is, w.records-is, w.s-is, w.told-is) (
            t.invariant.0,
            rw w.with_levels-s.ensures (turn_goes_on k h w.if-s.true
                (λ z. w.if-s-eq0.false (ap (λ (s : ScanPort). s.port.left) w.with_levels-s.ensures ∙ z))),
          )
      | else-s+then-x-eq1+then-not-may_stall w ↦
          let l = w.pass_end-told.auto in
          rw (w.active-is, w.buffer-is, w.words-is, w.records-is, w.s-is, w.told-is) (
            (l.active ∙ t.invariant.0.0, l.buffer ∙ t.invariant.0.1, l.words ∙ t.invariant.0.2, l.records ∙ t.invariant.0.3),
            rw (w.rest-s.ensures, w.with_levels-s-then-x-eq1.ensures) (turn_ends k h w.if-s.false w.if-x-eq1.true
                (sym (ap stall_test w.with_levels-s-then-x-eq1.ensures) ∙ sym w.may_stall.ensures ∙ w.if-not-may_stall.true)
                (rw (same, w.with_levels-s-then-x-eq1.ensures) at w.pass_end-told.ensures)),
          )
      | else-s+then-x-eq1+else-not-may_stall w ↦
          rw (w.active-is, w.buffer-is, w.words-is, w.records-is, w.s-is, w.told-is) (
            t.invariant.0,
            rw w.with_levels-s-then-x-eq1.ensures (turn_stalls k h w.if-s.false w.if-x-eq1.true
                (sym (ap stall_test w.with_levels-s-then-x-eq1.ensures) ∙ sym w.may_stall.ensures ∙ w.if-not-may_stall.false)),
          )
      | else-s+else-x-eq1+then-s-eq-LAST_OF_INSTRUCTION w ↦
          rw (w.active-is, w.buffer-is, w.words-is, w.records-is, w.s-is, w.told-is)
          (t.invariant.0, turn_enters k h w.if-s.false w.if-x-eq1.false w.if-s-eq-LAST_OF_INSTRUCTION.true w.enter-s.ensures)
      | else-s+else-x-eq1+else-s-eq-LAST_OF_INSTRUCTION+then-s-eq-LAST_OF_BYTE w ↦
          let l = w.pass_byte-told.auto in
          rw (w.active-is, w.buffer-is, w.words-is, w.records-is, w.s-is, w.told-is) (
            (l.active ∙ t.invariant.0.0, l.buffer ∙ t.invariant.0.1, l.words ∙ t.invariant.0.2, l.records ∙ t.invariant.0.3),
            turn_byte k h w.if-s.false w.if-x-eq1.false w.if-s-eq-LAST_OF_BYTE.true w.byte_at-byte.ensures
                (rw same at w.pass_byte-told.ensures) w.after_byte-s.ensures,
          )
      | else-s+else-x-eq1+else-s-eq-LAST_OF_INSTRUCTION+else-s-eq-LAST_OF_BYTE w ↦
          rw (w.active-is, w.buffer-is, w.words-is, w.records-is, w.s-is, w.told-is)
          (t.invariant.0, rw w.clocked-s.ensures (turn_passes k h w.if-s.false w.if-x-eq1.false w.if-s-eq-LAST_OF_INSTRUCTION.false w.if-s-eq-LAST_OF_BYTE.false))
    ]

-- where the loop is left: after its last turn, or at a scan that finds no stop
pub returns : goal.returns
returns c =
    let t = c.args.session in
    let newer = c.pass_of-pass.result.newer in
    let es = c.scan_port-s.ensures in
    let et = c.none_told-told.ensures in
    let l = c.loop-i in
    elim c.loop-i-test.branch [
      | else-loop-i-test w ↦
          run_to_ended t newer es et l.invariant.1 w.loop-i-test.false (c.run_end.ensures ∙ ap (λ (s : ScanPort). run_end s l.told) w.s-is)
      | then-loop-i-test+then-samples-i w ↦
          let k = stop_at l.invariant.1 w.loop-i-test.true w.scanned-s.ensures w.scan-p.ensures in
          run_to_ended t newer es et k.run w.if-samples-i.true (c.run_end.ensures ∙ ap (λ (s : ScanPort). run_end s l.told) w.s-is)
    ]
