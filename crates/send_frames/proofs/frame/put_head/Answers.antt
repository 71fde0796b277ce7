-- `put_head` meets its contract: its four parts are put one after the other.
use Rattle.base_bits.proofs.Putting.{put_both}
use Rattle.send_frames.proofs.frame.put_head.Goals as goal

pub returns : goal.returns
returns c =
    put_both (put_both (put_both c.put_word-a.ensures c.put_pair-b.ensures) c.put_word-c.ensures) c.put_word.ensures
