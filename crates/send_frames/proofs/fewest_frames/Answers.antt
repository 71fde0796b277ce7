-- `fewest_frames` meets its contract: the check decides, and the orders are put only where nothing is refused.
use mathlib.Core.Path.{sym}
use Rattle.std.proofs.lemmas.Result.{err_from_is_err_and}
use Rattle.send_frames.proofs.Answer.{done, refused}
use Rattle.send_frames.proofs.fewest_frames.Goals as goal

pub returns-in_err-check_frames : goal.returns-in_err-check_frames
returns-in_err-check_frames c =
    let p = err_from_is_err_and c.from_residual.result c.from_residual.ensures.1 in
    rw (p.1, p.2) (refused c.args.ascending c.args.addresses.now c.args.bytes.now _ _ (c.in_err-check_frames.ensures _))

pub put_frames-requires : goal.put_frames-requires
put_frames-requires c = sym (c.in_ok-check_frames.ensures _)

pub returns : goal.returns
returns c =
    done c.args.ascending c.args.addresses.now c.args.bytes.now _ _ _ (c.in_ok-check_frames.ensures _) c.put_frames.ensures
