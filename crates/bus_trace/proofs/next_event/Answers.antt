-- `next_event` meets its contract: samples that give no event, and one sample by itself.
use mathlib.Core.Path.{refl, sym, ◌∙◌}
use native.Mathlib.Omega.{arith}
use Rattle.bus_session.proofs.Laws.{fit_sound}
use Rattle.bus_trace.proofs.Scanning.{scan_begun, quiet_event, scan_quiet, scan_nothing, scan_event, scan_ended}
use Rattle.bus_trace.proofs.next_event.Goals as goal

pub loop-at-init : goal.loop-at-init
loop-at-init c = (refl, scan_begun _ c.requires.0 (omega arith))

pub event-event-requires : goal.event-event-requires
event-event-requires c = fit_sound _ _ c.quiet-p.ensures.good.sound

pub step-s-requires : goal.step-s-requires
step-s-requires c = fit_sound _ _ c.quiet-p.ensures.good.sound

pub returns-then-happened : goal.returns-then-happened
returns-then-happened c =
    scan_event _ (scan_quiet _ c.loop-at.invariant.1
    c.quiet-p.ensures)
    _ _ c.if-samples-at.false c.step-s.ensures c.event-event.ensures

pub loop-at-preserved : goal.loop-at-preserved
loop-at-preserved c =
    let none = sym c.happened.ensures ∙ c.if-happened.false in (
      quiet_event _ none,
      scan_nothing _ (scan_quiet _ c.loop-at.invariant.1
          c.quiet-p.ensures)
          _ _ c.if-samples-at.false c.step-s.ensures c.event-event.ensures none,
    )

pub returns-after-loop-at : goal.returns-after-loop-at
returns-after-loop-at c = scan_ended _ c.loop-at.invariant.1 _ c.loop-at.invariant.0 c.requires.1 c.loop-at-test.false

pub returns-then-samples-at : goal.returns-then-samples-at
returns-then-samples-at c =
    scan_ended _ (scan_quiet _ c.loop-at.invariant.1 c.quiet-p.ensures)
    _ c.loop-at.invariant.0
    c.requires.1 c.if-samples-at.true
