-- `put_frame` meets its contract: the head of the order, and then its data.
use Rattle.base_bits.proofs.Putting.{put_both}
use Rattle.send_setup.specs.Form.{listed_bytes}
use Rattle.send_frames.proofs.Data.{length_data}
use Rattle.send_frames.proofs.frame.put_frame.Goals as goal

pub returns : goal.returns
unfolding listed_bytes
returns c =
    rw (length_data c.args.ascending c.args.bytes.now, ← c.start_of.ensures)
    (put_both c.put_head-n.ensures c.put_data.ensures)
