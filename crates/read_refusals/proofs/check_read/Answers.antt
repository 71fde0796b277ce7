-- `check_read` meets its contract: the tests in the order of their numbers.
use mathlib.Core.Path.{sym, ◌∙◌}
use native.Mathlib.Omega.{arith}
use Rattle.std.proofs.lemmas.Result.{err_from_is_err_and}
use Rattle.map_test.proofs.Laws.{good_count}
use Rattle.read_refusals.proofs.Laws.{unsound, not_opened, other_words, too_many, one_bad, room_found, room_short, some_refusal}
use Rattle.read_refusals.proofs.check_read.Goals as goal

pub returns-then-not-sound : goal.returns-then-not-sound
returns-then-not-sound c = unsound _ _ _ _ _ (sym c.sound.ensures ∙ c.if-not-sound.true)

pub returns-in_err-check_open : goal.returns-in_err-check_open
returns-in_err-check_open c =
    let sound = sym c.sound.ensures ∙ c.if-not-sound.false in
    let given = err_from_is_err_and c.from_residual.result c.from_residual.ensures.1 in
    let opens = c.in_err-check_open.ensures in
    rw (given.1, given.2) (opens ∙ not_opened _ _ _ _ _ sound (λ q. some_refusal _ (opens ∙ q)))

pub words_fit-requires : goal.words_fit-requires
words_fit-requires c =
    omega (arith, c.count.ensures, (good_count _ _ c.requires).1)

pub returns-then-not-words_fit : goal.returns-then-not-words_fit
returns-then-not-words_fit c =
    other_words _ _ _ _ _ (sym c.sound.ensures ∙ c.if-not-sound.false) (sym c.in_ok-check_open.ensures) _ (rw c.count.ensures at c.words_fit.ensures) c.if-not-words_fit.true

pub returns-then-samples-gt65536 : goal.returns-then-samples-gt65536
returns-then-samples-gt65536 c =
    too_many _ _ _ _ _ (sym c.sound.ensures ∙ c.if-not-sound.false) (sym c.in_ok-check_open.ensures) _ (rw c.count.ensures at c.words_fit.ensures) c.if-not-words_fit.false c.if-samples-gt65536.true

pub returns-then-not-samples_good : goal.returns-then-not-samples_good
returns-then-not-samples_good c =
    one_bad _ _ _ _ _ (sym c.sound.ensures ∙ c.if-not-sound.false) (sym c.in_ok-check_open.ensures) _ (rw c.count.ensures at c.words_fit.ensures) c.if-not-words_fit.false c.if-samples-gt65536.false
    _ c.samples_good.ensures c.if-not-samples_good.true

pub room_suffices-requires : goal.room_suffices-requires
room_suffices-requires c = (sym c.sound.ensures ∙ c.if-not-sound.false, c.if-samples-gt65536.false)

pub returns-then-not-room_suffices : goal.returns-then-not-room_suffices
returns-then-not-room_suffices c =
    room_short _ _ _ _ _ (sym c.sound.ensures ∙ c.if-not-sound.false) (sym c.in_ok-check_open.ensures) _ (rw c.count.ensures at c.words_fit.ensures) c.if-not-words_fit.false
    c.if-samples-gt65536.false _ c.samples_good.ensures c.if-not-samples_good.false
    _ c.room_suffices.ensures c.if-not-room_suffices.true

pub returns : goal.returns
returns c =
    room_found _ _ _ _ _ (sym c.sound.ensures ∙ c.if-not-sound.false) (sym c.in_ok-check_open.ensures) _ (rw c.count.ensures at c.words_fit.ensures) c.if-not-words_fit.false
    c.if-samples-gt65536.false _ c.samples_good.ensures c.if-not-samples_good.false
    _ c.room_suffices.ensures c.if-not-room_suffices.false
