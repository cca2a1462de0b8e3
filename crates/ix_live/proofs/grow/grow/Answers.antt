use Rattle.std.proofs.Common.{ℕ, ap, arith, length, subst, ◌∙◌}
use Rattle.ix_file.specs.Opened.{IsIndexOf}
use Rattle.ix_file.specs.Sections.{FrontCoded}
use Rattle.ix_live.specs.Growing.{documents_under}
use Rattle.ix_live.specs.Pieces.{pieces_in, with_piece}
use Rattle.ix_live.specs.Segments.{rows_in}
use Rattle.ix_live.proofs.Falling.{after_some}
use Rattle.ix_live.proofs.StoredLemmas.{documents_counted, of_its_documents, refused_by_building}
use Rattle.ix_live.proofs.TableLemmas.{rows_counted}
use Rattle.ix_live.proofs.grow.grow.Goals as goal

pub returns-in-Err-clause-refused : goal.returns-in-Err-clause-refused
returns-in-Err-clause-refused g c = refused_by_building c.args.plan.now.workers (length (rows_in c.args.table.now)) c.args.tokens (documents_under c.args.stop.now c.args.documents.now) c.in-Err.error (omega (arith, documents_counted c.args.stop.now c.args.documents.now, c.requires.few)) c.in-Err.ensures.refused

pub merge_alike-requires-clause-few : goal.merge_alike-requires-clause-few
merge_alike-requires-clause-few g c =
    let stop = c.args.stop.now in
    let texts = c.args.documents.now in
    let built = subst (IsIndexOf c.in-Ok.volume FrontCoded) (of_its_documents stop texts) c.in-Ok.ensures.built in
    omega (arith, rows_counted c.in-Ok.volume stop (documents_under stop texts) built, documents_counted stop texts, c.requires.few)

pub merge_alike-requires-clause-indexed : goal.merge_alike-requires-clause-indexed
merge_alike-requires-clause-indexed g c =
    let stop = c.args.stop.now in
    let texts = c.args.documents.now in
    record {
      stop = stop;
      lists = c.requires.indexed.0;
      documents = documents_under stop texts;
      of_lists = c.requires.indexed.1;
      of_documents = subst (IsIndexOf c.in-Ok.volume FrontCoded) (of_its_documents stop texts) c.in-Ok.ensures.built;
    }

pub returns-clause-grown : goal.returns-clause-grown
returns-clause-grown g c =
    let stop = c.args.stop.now in
    let texts = c.args.documents.now in
    let built = subst (IsIndexOf c.in-Ok.volume FrontCoded) (of_its_documents stop texts) c.in-Ok.ensures.built in
    record {
      segment = c.in_ok-left.segment;
      is = c.in_ok-slot.ensures;
      within = c.in_ok-left.ensures.left;
      pieces = c.in_ok-left.ensures.pieces ∙ ap (λ (n : ℕ). with_piece (pieces_in c.args.table.now) (record { generation = 0; documents = n })) (rows_counted c.in-Ok.volume stop (documents_under stop texts) built)
          ∙ after_some (length (documents_under stop texts)) (pieces_in c.args.table.now) (omega (arith, documents_counted stop texts, c.requires.some));
      merged = λ lists are. c.in_ok-left.ensures.merges stop lists (documents_under stop texts) are built;
    }
