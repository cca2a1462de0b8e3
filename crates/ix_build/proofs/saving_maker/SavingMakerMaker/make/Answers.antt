use Rattle.std.proofs.Common.{List, Err, ap, subst, sym, ◌∙◌}
use Rattle.ix_text.specs.Collections.{NamedText, collection_of}
use Rattle.ix_text.specs.Docs.{named_text}
use Rattle.ix_run.specs.Runs.{IsRunOf}
use Rattle.ix_build.proofs.BlockRunLemmas.{block_is_small, range-map}
use Rattle.ix_build.proofs.saving_maker.SavingMakerMaker.make.Goals as goal

pub unreachable-requires : goal.unreachable-requires
unreachable-requires g c =
    let inverter = c.args.self.now.inverter in
    let order = inverter.ascending c.args.place c.in-Some.from c.in-Some.to c.in-Some.ensures.some.0 c.in-Some.ensures.some.1 in
    block_is_small inverter.stop.now named_text inverter.docs.now c.in-Some.from c.in-Some.to order.0 order.1 inverter.few_documents inverter.few_tokens
    (c.invert.ensures.too_large (c.in-Err-TooLarge.is ∙ ap Err c.in-Err-TooLarge.field-0-is))

pub returns-in-Ok-save-clause-piece : goal.returns-in-Ok-save-clause-piece
returns-in-Ok-save-clause-piece g c =
    let inverter = c.args.self.now.inverter in
    let run = c.in-Ok.run' in
    let one_run : List NamedText → Type 0 = λ texts. IsRunOf run c.in-Some.from (collection_of inverter.stop.now texts) in
    record {
      run = run;
      of_block = record {
        from = c.in-Some.from;
        to = c.in-Some.to;
        begins = c.in-Some.ensures.some.0;
        ends = c.in-Some.ensures.some.1;
        of_block = subst one_run (sym (range-map named_text inverter.docs.now c.in-Some.from c.in-Some.to)) c.in-Ok.ensures.run;
      };
      headed = c.into_head.ensures;
    }
