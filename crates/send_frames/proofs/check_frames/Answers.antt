-- `check_frames` meets its contract: the tests stand in the order of the definition, and the orders take as many bytes in either direction.
use mathlib.Core.Path.{sym, ◌∙◌}
use Rattle.send_frames.proofs.Answer.{number_19, number_11, number_0}
use Rattle.send_frames.proofs.check_frames.Goals as goal

pub returns-then-not-registers_good : goal.returns-then-not-registers_good
returns-then-not-registers_good c =
    λ up. number_19 up c.args.addresses.now c.args.bytes.now c.args.room (sym c.registers_good.ensures ∙ c.if-not-registers_good.true)

pub frames_size-requires : goal.frames_size-requires
frames_size-requires c = sym c.registers_good.ensures ∙ c.if-not-registers_good.false

pub returns-then-room-frames_size : goal.returns-then-room-frames_size
returns-then-room-frames_size c =
    let good = sym c.registers_good.ensures ∙ c.if-not-registers_good.false in
    λ up. number_11 up c.args.addresses.now c.args.bytes.now c.args.room good _ c.frames_size.ensures c.if-room-frames_size.true

pub returns : goal.returns
returns c =
    let good = sym c.registers_good.ensures ∙ c.if-not-registers_good.false in
    λ up. number_0 up c.args.addresses.now c.args.bytes.now c.args.room good _ c.frames_size.ensures c.if-room-frames_size.false
