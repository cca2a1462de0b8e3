use Rattle.std.proofs.Common.{◌∙◌, sym, arith}
use Rattle.std.proofs.lemmas.Bool.{iff_false}
use Rattle.ix_text.specs.Parts.{HasPosition}
use Rattle.ix_query.proofs.PhraseLemmas.{phrase_candidate, phrase_both, all_first}
use Rattle.ix_query.proofs.SiftLemmas.{sifted_more, sifted_found, sifted_ended}
use Rattle.ix_query.proofs.answers.phrase.first_phrase.Goals as goal

pub returns-in_default : goal.returns-in_default
returns-in_default c =
    sifted_ended _ _ _ _ _ c.loop-document.invariant
    (λ n place phrase far. c.in_default.ensures.reached.found n place ((c.in_default.ensures.reached.kept n place).1 (phrase_both _ _ _ _ n (c.requires.placed ∙ sym c.loop-document.auto.others) phrase, far)))
    (λ n place phrase. c.in_default.ensures.reached.found n place (phrase_both _ _ _ _ n (c.requires.placed ∙ sym c.loop-document.auto.others ∙ sym c.common.auto.others) phrase))

pub returns-then-stand_together : goal.returns-then-stand_together
returns-then-stand_together c =
    let first = all_first HasPosition _ _ _ _ _ _ c.common.auto.others c.in-Some.ensures.reached c.in-Some.ensures.met in
    sifted_found _ _ _ _ _ _ c.loop-document.invariant (phrase_candidate _ _ c.args.offset _ _ _ _ _ (c.requires.placed ∙ sym c.loop-document.auto.others) c.common.auto.others c.in-Some.ensures.reached c.in-Some.ensures.met)
    (0, (c.stand_together.ensures c.in-Some.document first.0 first.1).0 c.if-stand_together.true)

pub loop-document-smaller : goal.loop-document-smaller
loop-document-smaller c =
    let candidate = phrase_candidate _ _ c.args.offset _ _ c.args.offsets.now _ _ (c.requires.placed ∙ sym c.loop-document.auto.others) c.common.auto.others c.in-Some.ensures.reached c.in-Some.ensures.met in
    let above = candidate.above in let below = candidate.below in omega arith

pub loop-document-preserved : goal.loop-document-preserved
loop-document-preserved c =
    let first = all_first HasPosition _ _ _ _ _ _ c.common.auto.others c.in-Some.ensures.reached c.in-Some.ensures.met in
    sifted_more _ _ _ _ _ _ c.loop-document.invariant (phrase_candidate _ _ c.args.offset _ _ _ _ _ (c.requires.placed ∙ sym c.loop-document.auto.others) c.common.auto.others c.in-Some.ensures.reached c.in-Some.ensures.met)
    (λ (place, phrase). iff_false (c.stand_together.ensures c.in-Some.document first.0 first.1) c.if-stand_together.false phrase)
