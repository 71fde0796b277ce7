-- `take_end` meets its contract: the laws of the two events that end a frame.
use mathlib.Core.Path.{refl, sym, ap}
use borrow.Author.Tests.{eq-eqb, ne_eqb}
use Rattle.base_bits.proofs.Cases.{yes, no}
use Rattle.read_records.specs.Records.{records_in}
use Rattle.read_records.proofs.Taking.{room_for, took_abort, took_end}
use Rattle.read_records.proofs.take_end.Goals as goal

pub returns-then-bits-eq0 : goal.returns-then-bits-eq0
returns-then-bits-eq0 c = took_end (sym (yes _ (eq-eqb _ _ c.if-bits-eq0.true) refl)) c.end_frame.ensures

pub put_abort-requires : goal.put_abort-requires
put_abort-requires c =
    room_for c.requires
    (ap records_in (sym (no _ (ne_eqb _ _ c.if-bits-eq0.false) refl)))

pub returns : goal.returns
returns c =
    took_abort (sym (no _ (ne_eqb _ _ c.if-bits-eq0.false) refl))
    c.end_frame.ensures c.put_abort.ensures
