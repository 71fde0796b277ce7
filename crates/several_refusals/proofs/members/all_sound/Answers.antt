-- `all_sound` meets its contract: the chips passed, with the test of those that are left, are the whole test.
use mathlib.Core.Path.{refl, ap, subst, sym, ◌∙◌}
use mathlib.Core.Bool.{Bool, ◌&&◌}
use mathlib.Core.List.{List, [], ◌∷◌, ◌++◌}
use Prim.Native.Nat.{ℕ, ◌+◌}
use native.Mathlib.Numerals.{add-one}
use lib.ListN.{take, drop}
use lib.Seq.{take-suc, take_all}
use Rattle.several_chips.specs.declared.Member.{Member}
use Rattle.several_chips.specs.Numbers.{all_sound}
use Rattle.several_chips.specs.Promises.{AllBytes}
use Rattle.several_refusals.proofs.Passing.{one_more, all_passed}
use Rattle.several_refusals.proofs.members.all_sound.Goals as goal

bytes_more : (ws : List Member) (w : Member) → AllBytes ws → AllBytes (w ∷ []) → AllBytes (ws ++ (w ∷ []))
bytes_more [] w all one = one
bytes_more (v ∷ ws) w all one = (all.0, bytes_more ws w all.1 one)

pub loop-member-preserved : goal.loop-member-preserved
unfolding all_sound
loop-member-preserved c =
    let ws = c.args.members.now in
    let at = c.loop-member in
    let i = at.member-index in
    let here = c.sound_member-good in
    record {
      rest = one_more all_sound ws i at.good _ here.result (ap (λ (t : Bool). t && all_sound (drop (i + 1) ws)) (sym here.ensures.sound)) c.loop-member-test.true at.invariant.rest;
      bytes =
          subst AllBytes (sym (ap (λ (k : ℕ). take k ws) (add-one i) ∙ take-suc ws i _ c.loop-member-test.true))
          (bytes_more (take i ws) _ at.invariant.bytes here.ensures.bytes);
    }

pub returns : goal.returns
unfolding all_sound
returns c =
    let ws = c.args.members.now in
    let at = c.loop-member in
    record {
      sound = all_passed all_sound ws at.member-index at.good refl c.loop-member-test.false at.invariant.rest;
      bytes = subst AllBytes (take_all at.member-index ws c.loop-member-test.false) at.invariant.bytes;
    }
