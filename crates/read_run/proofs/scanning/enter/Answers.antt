-- `enter` meets its contract: what the instruction enters, by the chip, and the line that its data comes from.
use mathlib.Core.Path.{refl, sym, ◌∙◌, ap}
use native.Mathlib.Omega.{arith}
use lib.Dec.{leb}
use Rattle.bus_session.specs.Step.{value_with, entered}
use Rattle.read_run.proofs.Steps.{enters_newer, enters_older, enters_none, data_line_lem}
use Rattle.read_run.proofs.scanning.enter.Goals as goal

pub bit_at-requires : goal.bit_at-requires
bit_at-requires c = omega arith

pub shift_in-value-requires : goal.shift_in-value-requires
shift_in-value-requires c = (c.requires.room.unfinished, c.requires.room.small)

pub returns-then-newer : goal.returns-then-newer
returns-then-newer c =
    let a = c.args in
    let entered_by =
    ap (λ v. entered a.chip v a.s.port.settings a.s.port.in_use) (c.shift_in-value.ensures ∙ ap (value_with a.s.port) c.bit_at.ensures) in
    let framed = c.requires.framed in
    let newer = sym framed.newer_is ∙ c.if-newer.true in
    record {
      next_port = sym (enters_newer a.chip a.s.port c.shift_in-value.result newer framed.low (framed.none_left newer)) ∙ entered_by;
      tracks = record {
        sized = refl;
        line_is = data_line_lem a.chip (leb 0x8000 c.shift_in-value.result) a.s.port.in_use framed.newer_is c.line_at-line.ensures;
      };
    }

pub overflow_add-port : goal.overflow_add-port
overflow_add-port c = omega arith

pub overflow_cast-port : goal.overflow_cast-port
overflow_cast-port c = omega arith

pub returns-then-reaches : goal.returns-then-reaches
returns-then-reaches c =
    let a = c.args in
    let entered_by =
    ap (λ v. entered a.chip v a.s.port.settings a.s.port.in_use) (c.shift_in-value.ensures ∙ ap (value_with a.s.port) c.bit_at.ensures) in
    let framed = c.requires.framed in
    let older = sym framed.newer_is ∙ c.if-newer.false in
    record {
      next_port =
          sym (enters_older a.chip a.s.port c.shift_in-value.result older framed.low (sym c.reaches.ensures ∙ c.if-reaches.true))
          ∙ entered_by;
      tracks = record {
        sized = refl;
        line_is =
            data_line_lem a.chip (leb 0x8000 c.shift_in-value.result) a.s.port.in_use framed.newer_is c.line_at-line.ensures;
      };
    }

pub returns : goal.returns
returns c =
    let a = c.args in
    let entered_by =
    ap (λ v. entered a.chip v a.s.port.settings a.s.port.in_use) (c.shift_in-value.ensures ∙ ap (value_with a.s.port) c.bit_at.ensures) in
    let framed = c.requires.framed in
    let older = sym framed.newer_is ∙ c.if-newer.false in
    let none =
    enters_none a.chip a.s.port c.shift_in-value.result older framed.low (sym c.reaches.ensures ∙ c.if-reaches.false) in
    rw c.rest.ensures (record { next_port = sym none ∙ entered_by; tracks = record { sized = refl; line_is = refl } })
