use Rattle.std.proofs.Common.{◌≡◌, ℕ, ap, subst, sym, ◌∙◌, rules}
use Rattle.ix_run.specs.SeenWords.{AreNoWords}
use Rattle.std.proofs.lemmas.Result.{err_from_is_err_and}
use Rattle.ix_text.specs.Docs.{named_text}
use Rattle.ix_text.specs.Parts.{DocumentRow}
use Rattle.ix_run.specs.Inverted.{document_of}
use Rattle.ix_run.specs.declared.errors.RunError.TheVariants.{TooLarge}
use Rattle.ix_run.proofs.Blocks.{documents_more, nothing_inverted, one_more_inverted, too_many_tokens}
use Rattle.ix_run.proofs.SeenLemmas.{none_seen}
use Rattle.ix_run.proofs.inversion.add_documents.Goals as goal

pub returns-in_err-tokens-clause-many : goal.returns-in_err-tokens-clause-many
returns-in_err-tokens-clause-many c =
    let p = err_from_is_err_and c.from_residual-in_err-tokens.result c.from_residual-in_err-tokens.ensures.1 in
    rw (p.1, p.2)
    (λ large.
    let same : c.in_err-tokens.field-0.0 ≡ TooLarge = cc in
    too_many_tokens c.args.stop.now named_text c.args.docs.now c.loop-doc.doc-index _ c.doc-item.result c.loop-doc-test.true c.doc-item.is c.loop-doc.invariant.before.count (c.in_err-tokens.ensures.many same))

pub loop-doc-init : goal.loop-doc-init
loop-doc-init c = record {
  before = nothing_inverted c.args.stop.now c.args.dictionary.now.numbers _ _ _ c.requires.empty c.requires.ends (search rules);
  seen = none_seen c.args.stop.now c.args.dictionary.now.numbers _ (subst AreNoWords (sym c.as_mut_slice-words.ensures.value) c.in_ok-places.ensures);
}

pub loop-doc-preserved : goal.loop-doc-preserved
loop-doc-preserved c =
    let doc = c.doc-item.result in
    record {
      before =
          one_more_inverted c.args.stop.now _ _ c.loop-doc.dictionary.numbers c.add_text.new.self.numbers c.loop-doc.dictionary.tokens.items c.add_text.new.self.tokens.items c.loop-doc.dictionary.ends.items c.add_text.new.self.ends.items
          c.loop-doc.rows.items c.push.new.self.items (document_of c.args.stop.now (named_text doc)) c.in_ok-make_row.field-0
          (documents_more c.args.stop.now named_text c.args.docs.now c.loop-doc.doc-index doc c.loop-doc-test.true c.doc-item.is)
          c.in_ok-push.ensures.items
          (c.in_ok-make_row.ensures ∙ ap (λ (n : ℕ). let row : DocumentRow = record { name = doc.name.now; tokens = n } in row) c.in_ok-tokens.ensures.count)
          c.in_ok-tokens.ensures.held c.in_ok-tokens.ensures.ends c.in_ok-tokens.ensures.longer c.in_ok-tokens.ensures.few
          (record { name = doc.lawful_name; entries = c.add_text.ensures.lawful }) c.loop-doc.invariant.before;
      seen = c.in_ok-tokens.ensures.seen;
    }
