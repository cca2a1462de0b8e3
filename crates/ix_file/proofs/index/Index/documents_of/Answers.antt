use Rattle.std.proofs.Common.{◌<◌, length, Some, ap, ◌∙◌}
use Rattle.ix_text.specs.Parts.{DictionaryEntry}
use Rattle.ix_file.specs.Tables.{IsListRow, entry_in, entries_in}
use Rattle.ix_file.specs.declared.open.terms.ListPlace.{ListPlace}
use Rattle.ix_file.proofs.OpenedLemmas.{kept_at, told_documents, told_of}
use Rattle.ix_file.proofs.PlacedLemmas.{term_at}
use Rattle.ix_file.proofs.index.Index.documents_of.Goals as goal

pub returns : goal.returns
returns c =
    let section = c.self.inside.sections.postings.now in
    let terms = c.tables.result.now.terms in
    let below : c.args.number < length (entries_in section terms) = rw c.tables.ensures (rw (← c.self.view_is) at c.requires) in
    let at = term_at terms c.args.number c.list.result c.list.ensures in
    let is = kept_at (IsListRow section) (entry_in section) terms c.args.number at.term (rw c.tables.ensures c.self.invariant.lists) below at.read in
    rw (← c.self.view_is, ← c.tables.ensures)
    (told_of (λ (entry : DictionaryEntry). length entry.postings) (entry_in section) terms c.args.number at.term below at.read
    ∙ ap Some (told_documents _ _ is.coded ∙ ap (λ (p : ListPlace). p.documents) at.is))
