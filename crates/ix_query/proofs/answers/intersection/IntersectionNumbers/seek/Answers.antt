use Rattle.std.proofs.Common.{List, sym, ◌∙◌, subst}
use Rattle.std.proofs.lemmas.List.{with_items_is}
use Rattle.std.specs.Vec.{with_items}
use Rattle.ix_query.specs.DocStreams.{IsInIntersection}
use Rattle.ix_query.specs.Streams.{Reaches}
use Rattle.ix_query.specs.declared.answers.doc_stream.DocStream.{DocStream}
use Rattle.ix_query.proofs.answers.intersection.IntersectionNumbers.seek.Goals as goal

pub returns : goal.returns
returns c =
    let P : List DocStream → List DocStream → List DocStream → List DocStream → Type 0 = λ old new absent absent_new.
    Reaches (λ n p. IsInIntersection c.args.self.now.first old absent n) (λ n p. IsInIntersection c.first_document.new.first new absent_new n) c.args.low c.first_document.result in
    let kept = with_items_is c.args.self.now.others c.first_document.new.others (c.first_document.auto.others ∙ c.as_mut_slice.ensures.len) in
    let kept_absent = with_items_is c.args.self.now.absent c.first_document.new.absent (c.first_document.auto.absent ∙ c.as_mut_slice-2.ensures.len) in
    let one = subst (λ (old : List DocStream). P old c.first_document.new.others c.as_mut_slice-2.result.now c.first_document.new.absent) c.as_mut_slice.ensures.value c.first_document.ensures in
    let two = subst (λ (old : List DocStream). P c.args.self.now.others.items c.first_document.new.others old c.first_document.new.absent) c.as_mut_slice-2.ensures.value one in
    let three = subst (λ (new : List DocStream). P c.args.self.now.others.items new c.args.self.now.absent.items c.first_document.new.absent) (sym kept) two in
    subst (λ (new : List DocStream). P c.args.self.now.others.items (with_items c.args.self.now.others c.first_document.new.others).items c.args.self.now.absent.items new) (sym kept_absent) three
