-- What comes after a whole byte: a new instruction, the next byte of a run, or nothing more of it.
use Prim.Native.Nat.{ℕ, ◌-◌}
use mathlib.Core.Path.{◌≡◌, refl, sym, ◌∙◌, ap, subst}
use mathlib.Core.Bool.{Bool, true, false, cond}
use Rattle.base_chip.specs.declared.Chip.{Chip}
use Rattle.base_chip.specs.Chip.{is_newer}
use Rattle.bus_settings.specs.declared.Settings.{Settings}
use Rattle.bus_settings.specs.Settings.{next_address}
use Rattle.bus_session.specs.declared.Phase.TheVariants.{Data}
use Rattle.bus_session.specs.declared.Port.{Port}
use Rattle.bus_session.specs.State.{with_phase, at_address, is_counted}
use Rattle.bus_session.specs.Step.{settings_on_byte, runs_out}
use Rattle.bus_trace.specs.Progress.{source_line}
use Rattle.read_run.specs.declared.scanning.ScanPort.{ScanPort}
use Rattle.read_run.specs.ScanPort.{phase_of_last, scanned_port, scan_start, scan_rest}
use Rattle.read_run.specs.Promises.{WholeByteBefore, WholeByteAfter}
use Rattle.read_run.proofs.Steps.{settled, after_single, after_next, after_run, after_run_ends}

-- data on a line
abbrev on_line : Port → ℕ → ScanPort
on_line t line = record { port = t; last = 7; line = line }

-- the settings after the byte
abbrev pub settings_next : Chip → ScanPort → ℕ → Settings
settings_next c s byte = settings_on_byte c (scanned_port s) byte

module _ {c : Chip} {newer : Bool} {s : ScanPort} (pre : WholeByteBefore c newer s) (byte : ℕ) where
  -- the line stays
  line_stays : s.line ≡ source_line c (with_phase s.port Data)
  line_stays = pre.tracks.line_is ∙ ap (λ (n : ℕ). source_line c (with_phase s.port (phase_of_last n))) pre.is_data_piece

  -- q is the port with the settings after it
  module _ {q : Port} (eq : q ≡ settled s.port (settings_next c s byte)) where
    -- a claim of it that some fact asks for
    of_it : (P : Port → Type 0) (f : Port → ScanPort)
        → (P (settled s.port (settings_next c s byte)) → WholeByteAfter c s byte (f (settled s.port (settings_next c s byte))))
        → P q → WholeByteAfter c s byte (f q)
    of_it P f = subst (λ (t : Port). P t → WholeByteAfter c s byte (f t)) (sym eq)

    module _ (n : newer ≡ true) where
      is_newer_lem : is_newer c ≡ true
      is_newer_lem = sym pre.framed.newer_is ∙ n

      pub byte_single : q.in_use.single_instruction ≡ true → WholeByteAfter c s byte (scan_start (on_line (at_address q 0 false q.left) 2))
      byte_single =
          of_it (λ (t : Port). t.in_use.single_instruction ≡ true) (λ (t : Port). scan_start (on_line (at_address t 0 false t.left) 2))
          (λ o. record {
            next_port =
                sym (after_single c (with_phase s.port Data) (settings_next c s byte) is_newer_lem pre.framed.low (pre.framed.none_left is_newer_lem) o);
            tracks = record { sized = refl; line_is = refl };
          })

      pub byte_next : (a : ℕ) → (q.in_use.single_instruction ≡ false) × (a ≡ next_address q.in_use.ascending q.address)
          → WholeByteAfter c s byte (on_line (at_address q a q.read q.left) s.line)
      byte_next a =
          of_it (λ (t : Port). (t.in_use.single_instruction ≡ false) × (a ≡ next_address t.in_use.ascending t.address))
          (λ (t : Port). on_line (at_address t a t.read t.left) s.line)
          (λ o. record {
            next_port =
                rw o.1 (sym (after_next c (with_phase s.port Data) (settings_next c s byte) is_newer_lem pre.framed.low refl
                (pre.framed.none_left is_newer_lem) o.0));
            tracks = record { sized = refl; line_is = line_stays };
          })

    module _ (n : newer ≡ false) where
      is_older : is_newer c ≡ false
      is_older = sym pre.framed.newer_is ∙ n

      pub byte_ends : runs_out c q.left q.address q.in_use.lsb_first ≡ true → WholeByteAfter c s byte (scan_rest (on_line q s.line))
      byte_ends =
          of_it (λ (t : Port). runs_out c t.left t.address t.in_use.lsb_first ≡ true) (λ (t : Port). scan_rest (on_line t s.line))
          (λ o. record {
            next_port = sym (after_run_ends c (with_phase s.port Data) (settings_next c s byte) is_older pre.framed.low o);
            tracks = record { sized = refl; line_is = refl };
          })

      pub byte_run : (a l : ℕ)
          → (runs_out c q.left q.address q.in_use.lsb_first ≡ false)
          × (a ≡ next_address q.in_use.lsb_first q.address)
          × (l ≡ cond (is_counted q.left) (q.left - 1) q.left)
          → WholeByteAfter c s byte (on_line (at_address q a q.read l) s.line)
      byte_run a l =
          of_it (λ (t : Port). (runs_out c t.left t.address t.in_use.lsb_first ≡ false)
          × (a ≡ next_address t.in_use.lsb_first t.address) × (l ≡ cond (is_counted t.left) (t.left - 1) t.left))
          (λ (t : Port). on_line (at_address t a t.read l) s.line)
          (λ o. record {
            next_port =
                rw (o.1, o.2) (sym (after_run c (with_phase s.port Data) (settings_next c s byte) is_older pre.framed.low refl o.0));
            tracks = record { sized = refl; line_is = line_stays };
          })
