use Rattle.std.proofs.Common.{◌≡◌, map, ap, ◌∙◌, arith}
use Rattle.std.proofs.lemmas.List.{length-map}
use Rattle.std.proofs.lemmas.Result.{err_from_is_err_and}
use Rattle.ix_text.specs.Collections.{collection_of}
use Rattle.ix_text.specs.Docs.{named_text}
use Rattle.ix_run.specs.Inverted.{document_of, documents_of}
use Rattle.ix_run_text.specs.Heads.{row_of_doc}
use Rattle.ix_run.specs.declared.errors.RunError.TheVariants.{TooLarge}
use Rattle.ix_run.proofs.Blocks.{block_run, block_fits, length-tokens_in, numbers_too_large, tokens_too_large}
use Rattle.ix_run.proofs.Numbering.{length_held}
use Rattle.ix_run.specs.Dictionaries.{tokens_in}
use Rattle.ix_run.proofs.inversion.invert.Goals as goal
use Rattle.ix_run.proofs.inversion.invert.Goals.{then-docs-most-via-then-docs-most, then-docs-most-via-else-docs-most+then-first-most}

pub returns-then-docs-most-clause-too_large : goal.returns-then-docs-most-clause-too_large
returns-then-docs-most-clause-too_large c _ =
    let size = length-map c.args.docs.now named_text in
    numbers_too_large c.args.stop.now (map named_text c.args.docs.now) c.args.first
    (elim c.then-docs-most.branch [
      | then-docs-most-via-then-docs-most w ↦ omega (arith, size)
      | then-docs-most-via-else-docs-most+then-first-most w ↦ omega (arith, size)
    ])

pub returns-in_err-rows-clause-too_large : goal.returns-in_err-rows-clause-too_large
returns-in_err-rows-clause-too_large c =
    let p = err_from_is_err_and c.from_residual-in_err-rows.result c.from_residual-in_err-rows.ensures.1 in
    rw (p.1, p.2)
    (λ large.
    let same : c.in_err-rows.field-0.0 ≡ TooLarge = cc in
    tokens_too_large c.args.stop.now (map named_text c.args.docs.now) c.args.first (c.in_err-rows.ensures.many same))

pub code_terms-requires : goal.code_terms-requires
code_terms-requires c =
    let texts = map named_text c.args.docs.now in
    let documents = documents_of c.args.stop.now texts in
    let held = c.in_ok-rows.ensures.held in
    let tokens = length-tokens_in documents in
    let few = c.in_ok-rows.ensures.few in
    record {
      documents = documents;
      held = held;
      ended = c.in_ok-rows.ensures.ends;
      few_tokens = let count = length_held _ _ (tokens_in documents) held in omega (arith, count, tokens, few);
      few_documents = omega (arith, length-map c.args.docs.now named_text, length-map texts (document_of c.args.stop.now));
    }

pub new-requires : goal.new-requires
new-requires c =
    let texts = map named_text c.args.docs.now in
    let size = length-map c.args.docs.now named_text in
    let documents = length-map texts (document_of c.args.stop.now) in
    let terms = c.in_ok-terms.ensures (documents_of c.args.stop.now texts) c.in_ok-rows.ensures.held c.in_ok-rows.ensures.ends in
    record {
      first = c.args.first;
      collection = collection_of c.args.stop.now texts;
      of_collection =
          block_run c.args.stop.now texts c.args.first _ (map row_of_doc c.in_ok-rows.rows.items) c.in_ok-terms.terms c.in_ok-stop_terms.ensures.lawful c.in_ok-rows.ensures.lawful
          (omega (arith, size)) c.in_ok-rows.ensures.few c.in_ok-rows.ensures.rows terms
          (ap (λ stop. record { first = c.args.first; stop = stop; rows = map row_of_doc c.in_ok-rows.rows.items; terms = c.in_ok-terms.terms }) c.in_ok-stop_terms.ensures.same);
    }

pub returns-clause-run : goal.returns-clause-run
returns-clause-run c =
    let texts = map named_text c.args.docs.now in
    let size = length-map c.args.docs.now named_text in
    block_run c.args.stop.now texts c.args.first c.new.result (map row_of_doc c.in_ok-rows.rows.items) c.in_ok-terms.terms c.in_ok-stop_terms.ensures.lawful c.in_ok-rows.ensures.lawful
    (omega (arith, size)) c.in_ok-rows.ensures.few c.in_ok-rows.ensures.rows (c.in_ok-terms.ensures (documents_of c.args.stop.now texts) c.in_ok-rows.ensures.held c.in_ok-rows.ensures.ends)
    (c.new.ensures ∙ ap (λ stop. record { first = c.args.first; stop = stop; rows = map row_of_doc c.in_ok-rows.rows.items; terms = c.in_ok-terms.terms }) c.in_ok-stop_terms.ensures.same)

pub returns-clause-refused : goal.returns-clause-refused
returns-clause-refused c = λ many.
    let size = length-map c.args.docs.now named_text in
    absurd (block_fits c.args.stop.now (map named_text c.args.docs.now) c.args.first (omega (arith, size)) c.in_ok-rows.ensures.few many)
