use Rattle.std.proofs.Common.{◌≡◌, length, refl, arith}
use Rattle.std.specs.Prelude.{Some, slice_get}
use Rattle.std.proofs.lemmas.Option.{slice_get_read}
use Rattle.ix_run.specs.Heads.{row_of_doc}
use Rattle.ix_build.proofs.ReadBackLemmas.{same_there}
use Rattle.ix_build.proofs.read_back.have_same_docs.Goals as goal

pub returns-then-not-is_same_doc-clause-other : goal.returns-then-not-is_same_doc-clause-other
returns-then-not-is_same_doc-clause-other c = λ is same.
    let one = c.args.one.now in
    let other = c.args.other.now in
    let place = c.loop-place.place in
    let long : length one ≡ length other = omega (arith, c.if-one-other.false) in
    let at : slice_get one place ≡ Some c.index-one-place.result = slice_get_read one _ place c.index-one-place.result refl c.loop-place-test.true c.index-one-place.is in
    let there : slice_get other place ≡ Some c.index-other-place.result = slice_get_read other _ place c.index-other-place.result refl (omega (arith, c.loop-place-test.true, long)) c.index-other-place.is in
    c.if-not-is_same_doc.ensures.other refl (same_there row_of_doc one other place c.index-one-place.result c.index-other-place.result at there same)
