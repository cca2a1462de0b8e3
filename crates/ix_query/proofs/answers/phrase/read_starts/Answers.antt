use Rattle.std.proofs.Common.{refl, arith}
use Rattle.std.proofs.lemmas.Option.{slice_get-get_or, slice_get_read}
use Rattle.ix_query.proofs.PhraseLemmas.{starts_more, starts_all, none_starts}
use Rattle.ix_query.proofs.answers.phrase.read_starts.Goals as goal

pub returns-in_default-clause-none : goal.returns-in_default-clause-none
returns-in_default-clause-none c = λ _. none_starts c.args.lists.now _ c.loop-place.place _ (slice_get_read c.args.lists.now _ c.loop-place.place c.index-lists-place.result refl (omega arith) c.index-lists-place.is) c.in_default.ensures

pub loop-place-preserved : goal.loop-place-preserved
loop-place-preserved c =
    starts_more c.args.lists.now c.args.offsets.now _ c.loop-place.place _ _ c.in-Some.start (let a = c.loop-place.auto.starts in omega arith)
    (slice_get_read c.args.lists.now _ c.loop-place.place c.index-lists-place.result refl (omega arith) c.index-lists-place.is) (slice_get-get_or c.args.offsets.now c.loop-place.place 0 (omega arith))
    c.in-Some.ensures c.loop-place.invariant

pub returns-clause-read : goal.returns-clause-read
returns-clause-read c = λ _. starts_all _ _ _ c.loop-place.place (omega arith) c.loop-place.invariant
