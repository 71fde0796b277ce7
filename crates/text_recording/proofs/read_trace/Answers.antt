-- `read_trace` is safe, ends, and ends as one of the known ends: each turn that is not the last takes 4,096 samples, which no
-- count outgrows, and a piece is refused with 1 to 5.
use mathlib.Core.Path.{sym, ◌∙◌}
use Prim.Native.Nat.{◌≤◌}
use native.Mathlib.Omega.{arith}
use lib.Seq.{length-take-le}
use Rattle.std.proofs.Common.{rules}
use Rattle.text_recording.specs.Sizes.{piece}
use Rattle.text_recording.proofs.Laws.{got_within, few_taken, records_within, piece_told, words_still, fewer_left, counts_more}
use Rattle.text_recording.proofs.read_trace.Goals as goal

pub refuse-requires : goal.refuse-requires
refuse-requires g c =
    let h = c.loop-tally.invariant in
    let few : c.in_ok-got.got ≤ piece =
    got_within _ c.fill.result c.map_err.ensures.cases c.map_err.ensures.variant c.in_ok-got.was c.fill.ensures in
    let words = words_still _ c.loop-tally.words c.args.words.now h.same_words c.requires.map.2 in
    rw c.in-Err.is at
    (piece_told _ _ _ _ _ c.read_tested-outcome.ensures h.records_room c.requires.map.1 words
    (few_taken _ (omega (arith, few, c.fill.auto.space, h.samples_room)) few))

pub overflow_mul-found : goal.overflow_mul-found
overflow_mul-found g c =
    let fit = rw c.in-Ok.is at (records_within _ _ _ _ _ c.read_tested-outcome.ensures c.loop-tally.invariant.records_room) in
    omega (arith, fit)

pub slice_bounds-found-end : goal.slice_bounds-found-end
slice_bounds-found-end g c =
    let h = c.loop-tally.invariant in
    let fit = rw c.in-Ok.is at (records_within _ _ _ _ _ c.read_tested-outcome.ensures h.records_room) in
    omega (arith, fit, c.read_tested-outcome.auto.records, h.records_room)

pub slice_bounds-records-end : goal.slice_bounds-records-end
slice_bounds-records-end g c =
    let h = c.loop-tally.invariant in
    let fit = rw c.in-Ok.is at (records_within _ _ _ _ _ c.read_tested-outcome.ensures h.records_room) in
    sym (length-take-le _ _ (omega (arith, fit, c.read_tested-outcome.auto.records, h.records_room)))

pub write_lines-requires : goal.write_lines-requires
write_lines-requires g c = c.loop-tally.invariant.text_room

pub loop-tally-smaller : goal.loop-tally-smaller
loop-tally-smaller g c =
    let h = c.loop-tally.invariant in
    let few : c.in_ok-got.got ≤ piece =
    got_within _ c.fill.result c.map_err.ensures.cases c.map_err.ensures.variant c.in_ok-got.was c.fill.ensures in
    fewer_left _ _ (omega (arith, few, c.fill.auto.space, h.samples_room)) c.loop-tally-test.true _ c.count.ensures c.if-got-lt-PIECE.false

pub loop-tally-preserved : goal.loop-tally-preserved
loop-tally-preserved g c =
    let h = c.loop-tally.invariant in
    let kept = c.read_tested-outcome.auto in
    let few : c.in_ok-got.got ≤ piece =
    got_within _ c.fill.result c.map_err.ensures.cases c.map_err.ensures.variant c.in_ok-got.was c.fill.ensures in
    let fit = rw c.in-Ok.is at (records_within _ _ _ _ _ c.read_tested-outcome.ensures h.records_room) in
    record {
      same_active = kept.active ∙ h.same_active;
      same_buffer = kept.buffer ∙ h.same_buffer;
      same_words = kept.words ∙ h.same_words;
      samples_room = c.fill.auto.space ∙ h.samples_room;
      records_room = kept.records ∙ h.records_room;
      text_room = search rules;
      counts =
          counts_more _ _ (omega (arith, few, c.fill.auto.space, h.samples_room)) h.counts _ fit (omega (arith, fit, kept.records, h.records_room))
          c.count.ensures c.if-got-lt-PIECE.false;
    }
