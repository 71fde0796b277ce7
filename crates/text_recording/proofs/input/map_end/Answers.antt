-- `map_end` meets its contract: the test is the definition's.
use mathlib.Core.Path.{◌≡◌, refl}
use Prim.Native.Nat.{◌+◌, ◌*◌}
use Rattle.base_bits.proofs.Cases.{yes, no}
use Rattle.text_recording.specs.Bounds.{map_end}
use borrow.Author.Rules.{rules}
use Rattle.text_recording.proofs.input.map_end.Goals as goal

pub returns-then-length : goal.returns-then-length
unfolding map_end
returns-then-length c =
    let field : c.from-length.result ≡ c.args.high * 256 + c.args.low = search rules in
    rw (← field) (yes _ c.if-length.true refl)

pub returns : goal.returns
unfolding map_end
returns c =
    let field : c.from-length.result ≡ c.args.high * 256 + c.args.low = search rules in
    rw (← field) (no _ c.if-length.false refl)
