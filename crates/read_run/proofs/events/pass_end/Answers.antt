-- `pass_end` meets its contract: an end that is taken has its record, and one that is only counted too.
use mathlib.Core.Path.{sym, ◌∙◌}
use mathlib.Core.Bool.{false≢true}
use native.Mathlib.Omega.{arith}
use lib.Dec.{eqb}
use Rattle.read_records.proofs.Laws.{place_after}
use Rattle.read_run.proofs.Ending.{end_none, end_one}
use Rattle.read_run.proofs.events.pass_end.Goals as goal

pub take_end-requires : goal.take_end-requires
take_end-requires c =
    c.requires.taking c.if-pass.true

pub returns-then-pass : goal.returns-then-pass
returns-then-pass c =
    let t = c.take_end.ensures in
    record { next_place = place_after t; taken = λ p. t }

pub returns-then-s-eq0 : goal.returns-then-s-eq0
returns-then-s-eq0 c =
    let a = c.args in
    record {
      next_place = end_none a.told.at a.s.port.address a.s.port.bits (eqb a.s.last 7) c.if-s-eq0.true;
      taken = λ p. absurd (false≢true (sym c.if-pass.false ∙ p));
    }

pub overflow_add-result : goal.overflow_add-result
overflow_add-result c =
    let a = c.args in
    omega (arith, c.requires.fits, end_one a.told.at a.s.port.address a.s.port.bits (eqb a.s.last 7) c.if-s-eq0.false)

pub returns : goal.returns
returns c =
    let a = c.args in
    record {
      next_place = end_one a.told.at a.s.port.address a.s.port.bits (eqb a.s.last 7) c.if-s-eq0.false;
      taken = λ p. absurd (false≢true (sym c.if-pass.false ∙ p));
    }
