-- `put_nibble` meets its contract: the bytes of the number are the samples, copied in one piece.
use mathlib.Core.Path.{◌∙◌}
use native.Mathlib.Omega.{arith}
use Rattle.send_samples.proofs.Nibble.{nibble_put}
use Rattle.send_samples.proofs.samples.put_nibble.Goals as goal

pub returns : goal.returns
returns c =
    nibble_put c.args.x c.args.at _ c.args.out.now _ c.requires.0 c.requires.1 (omega arith)
    (c.copy_from_slice.ensures.after ∙ c.to_le_bytes.ensures)
