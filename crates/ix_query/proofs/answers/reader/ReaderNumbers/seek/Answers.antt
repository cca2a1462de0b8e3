use Rattle.std.proofs.Common.{◌-◌, ◌^◌, List, sym, ap, subst, ◌∙◌}
use Rattle.std.proofs.lemmas.Bool.{iff_false}
use Rattle.ix_file.specs.Postings.{Posting, ArePostings}
use Rattle.ix_file.specs.Walking.{from_document}
use Rattle.ix_file.specs.Posting.{Posting as Read}
use Rattle.ix_query.proofs.StreamLemmas.{are_from, reaches_document, sought, stood, none_is}
use Rattle.ix_query.proofs.answers.reader.ReaderNumbers.seek.Goals as goal
use Rattle.ix_query.proofs.answers.reader.ReaderNumbers.seek.Goals.{then-not-is_from, else-not-is_from}

told : Read → Posting
told read = (read.document, read.positions)

pub invariant_of-self : goal.invariant_of-self
unfolding told
invariant_of-self c =
    let here = iff_false (rw (sym c.self.view_is) at c.is_from.ensures) c.if-not-is_from.true in
    let passed = sought told c.args.low c.self.inside.current c.seek-self-inside.result c.self.inside.rest c.seek-self-inside.new.self here c.seek-self-inside.ensures.found c.seek-self-inside.ensures.none in
    (subst (λ (ps : List Posting). ArePostings 0 (2 ^ 32 - 1) ps) (sym passed) (are_from c.args.low 0 (2 ^ 32 - 1) _ c.self.invariant.0), λ ended. (none_is c.seek-self-inside.result ended c.seek-self-inside.ensures.none).1)

pub returns : goal.returns
unfolding told
returns c =
    let are = subst (λ (ps : List Posting). ArePostings 0 (2 ^ 32 - 1) ps) c.self.view_is c.self.invariant.0 in
    elim c.if-not-is_from.branch [
      | then-not-is_from w ↦
          let here = iff_false (rw (sym c.self.view_is) at c.is_from.ensures) w.if-not-is_from.true in
          let passed = sought told c.args.low c.self.inside.current w.seek-self-inside.result c.self.inside.rest w.seek-self-inside.new.self here w.seek-self-inside.ensures.found w.seek-self-inside.ensures.none in
          reaches_document 0 c.args.low c.args.self.now c.if-not-is_from.self c.document.result are (w.self-is ∙ passed ∙ ap (from_document c.args.low) c.self.view_is) c.document.ensures
      | else-not-is_from w ↦
          reaches_document 0 c.args.low c.args.self.now c.if-not-is_from.self c.document.result are (w.self-is ∙ stood c.args.low _ (c.is_from.ensures.0 w.if-not-is_from.false)) c.document.ensures
    ]
