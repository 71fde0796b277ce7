-- `after_byte` meets its contract: the settings after the byte, and then each way that a byte can go on has its law.
use Prim.Native.Nat.{◌<◌}
use mathlib.Core.Path.{◌≡◌, sym, ◌∙◌, ap, subst}
use mathlib.Core.Bool.{cond}
use native.Mathlib.Omega.{arith}
use Rattle.bus_settings.specs.declared.Settings.{Settings}
use Rattle.bus_session.specs.declared.Port.{Port}
use Rattle.read_run.proofs.Steps.{settled, settings_changed, settings_kept}
use Rattle.read_run.proofs.Bytes.{settings_next, byte_single, byte_next, byte_ends, byte_run}
use Rattle.read_run.proofs.scanning.after_byte.Goals as goal
use Rattle.read_run.proofs.scanning.after_byte.Goals.{then-port, else-port}

pub returns-then-port-2 : goal.returns-then-port-2
returns-then-port-2 c =
    let a = c.args in
    let t = a.s.port in
    let same : c.if-port.port ≡ settled t (settings_next a.chip a.s a.byte) =
    elim c.if-port.branch [
      | then-port w ↦
          w.port-is ∙ ap (settled t)
          (settings_changed t.settings _ t.read _ w.if-port.true ∙ ap (λ (u : Settings). cond t.read t.settings u) w.after-settings.ensures)
      | else-port w ↦ w.port-is ∙ ap (settled t) (settings_kept a.chip t.settings t.read t.address _ w.if-port.false (omega arith))
    ] in
    rw c.start.ensures (byte_single c.requires a.byte same c.if-newer.true c.if-port-2.true)

pub next_address-requires : goal.next_address-requires
next_address-requires c =
    let a = c.args in
    let t = a.s.port in
    let same : c.if-port.port ≡ settled t (settings_next a.chip a.s a.byte) =
    elim c.if-port.branch [
      | then-port w ↦
          w.port-is ∙ ap (settled t)
          (settings_changed t.settings _ t.read _ w.if-port.true ∙ ap (λ (u : Settings). cond t.read t.settings u) w.after-settings.ensures)
      | else-port w ↦ w.port-is ∙ ap (settled t) (settings_kept a.chip t.settings t.read t.address _ w.if-port.false (omega arith))
    ] in
    subst (λ (q : Port). q.address < 0x8000) (sym same) c.requires.near

pub returns-then-newer : goal.returns-then-newer
returns-then-newer c =
    let a = c.args in
    let t = a.s.port in
    let same : c.if-port.port ≡ settled t (settings_next a.chip a.s a.byte) =
    elim c.if-port.branch [
      | then-port w ↦
          w.port-is ∙ ap (settled t)
          (settings_changed t.settings _ t.read _ w.if-port.true ∙ ap (λ (u : Settings). cond t.read t.settings u) w.after-settings.ensures)
      | else-port w ↦ w.port-is ∙ ap (settled t) (settings_kept a.chip t.settings t.read t.address _ w.if-port.false (omega arith))
    ] in
    byte_next c.requires a.byte same c.if-newer.true c.next_address.result (c.if-port-2.false, c.next_address.ensures)

pub returns-then-runs_out : goal.returns-then-runs_out
returns-then-runs_out c =
    let a = c.args in
    let t = a.s.port in
    let same : c.if-port.port ≡ settled t (settings_next a.chip a.s a.byte) =
    elim c.if-port.branch [
      | then-port w ↦
          w.port-is ∙ ap (settled t)
          (settings_changed t.settings _ t.read _ w.if-port.true ∙ ap (λ (u : Settings). cond t.read t.settings u) w.after-settings.ensures)
      | else-port w ↦ w.port-is ∙ ap (settled t) (settings_kept a.chip t.settings t.read t.address _ w.if-port.false (omega arith))
    ] in
    rw c.rest.ensures (byte_ends c.requires a.byte same c.if-newer.false (sym c.runs_out.ensures ∙ c.if-runs_out.true))

pub next_address-requires-2 : goal.next_address-requires-2
next_address-requires-2 c =
    let a = c.args in
    let t = a.s.port in
    let same : c.if-port.port ≡ settled t (settings_next a.chip a.s a.byte) =
    elim c.if-port.branch [
      | then-port w ↦
          w.port-is ∙ ap (settled t)
          (settings_changed t.settings _ t.read _ w.if-port.true ∙ ap (λ (u : Settings). cond t.read t.settings u) w.after-settings.ensures)
      | else-port w ↦ w.port-is ∙ ap (settled t) (settings_kept a.chip t.settings t.read t.address _ w.if-port.false (omega arith))
    ] in
    subst (λ (q : Port). q.address < 0x8000) (sym same) c.requires.near

pub returns : goal.returns
returns c =
    let a = c.args in
    let t = a.s.port in
    let same : c.if-port.port ≡ settled t (settings_next a.chip a.s a.byte) =
    elim c.if-port.branch [
      | then-port w ↦
          w.port-is ∙ ap (settled t)
          (settings_changed t.settings _ t.read _ w.if-port.true ∙ ap (λ (u : Settings). cond t.read t.settings u) w.after-settings.ensures)
      | else-port w ↦ w.port-is ∙ ap (settled t) (settings_kept a.chip t.settings t.read t.address _ w.if-port.false (omega arith))
    ] in
    byte_run c.requires a.byte same c.if-newer.false c.next_address-2.result c.left_after.result
    (sym c.runs_out.ensures ∙ c.if-runs_out.false, c.next_address-2.ensures, c.left_after.ensures)
