use Rattle.std.proofs.Common.{List, Err, ap, subst, sym, ◌∙◌}
use Rattle.ix_text.specs.Collections.{NamedText, collection_of}
use Rattle.ix_text.specs.Docs.{named_text}
use Rattle.ix_run.specs.Runs.{IsRunOf}
use Rattle.ix_build.proofs.BlockRunLemmas.{block_is_small, range-map}
use Rattle.ix_build.proofs.block_maker.BlockMakerMaker.make.Goals as goal

pub unreachable-requires : goal.unreachable-requires
unreachable-requires g c =
    let self = c.args.self.now in
    let order = self.ascending c.args.place c.in-Some.from c.in-Some.to c.in-Some.ensures.some.0 c.in-Some.ensures.some.1 in
    block_is_small self.stop.now named_text self.docs.now c.in-Some.from c.in-Some.to order.0 order.1 self.few_documents self.few_tokens
    (c.invert.ensures.too_large (c.in-Err-TooLarge.is ∙ ap Err c.in-Err-TooLarge.field-0-is))

pub returns-in-Ok-clause-piece : goal.returns-in-Ok-clause-piece
returns-in-Ok-clause-piece g c =
    let self = c.args.self.now in
    let one_run : List NamedText → Type 0 = λ texts. IsRunOf c.in-Ok.run' c.in-Some.from (collection_of self.stop.now texts) in
    record {
      from = c.in-Some.from;
      to = c.in-Some.to;
      begins = c.in-Some.ensures.some.0;
      ends = c.in-Some.ensures.some.1;
      of_block = subst one_run (sym (range-map named_text self.docs.now c.in-Some.from c.in-Some.to)) c.in-Ok.ensures.run;
    }
