-- `head` meets its contract: the version decides.
use mathlib.Core.Path.{ap, ◌∙◌}
use Rattle.map_format.specs.Format.{head_size_in, head_of}
use Rattle.map_format.proofs.head.Goals as goal

pub returns : goal.returns
unfolding head_of
returns c = c.head_size.ensures ∙ ap head_size_in c.version.ensures
