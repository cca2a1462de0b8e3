-- One text has one list of documents, one query one tree, and one collection one scan.
use Rattle.std.proofs.Common.{◌∙◌, List, ℕ, ◌++◌, ap, sym, subst}
use Rattle.ix_text.specs.Collections.{Collection, collection_of}
use Rattle.ix_file.specs.IndexText.{IsIndexText}
use Rattle.ix_file.specs.Opened.{IsIndexOf}
use Rattle.ix_file.specs.Sections.{FrontCoded, Version}
use Rattle.ix_ask.proofs.HeadlineLemmas.{AreAlone, found_is_answered, the_answer}
use Rattle.ix_ask.proofs.laws.what_is_built_opens_and_answers.Goals as goal

pub returns-clause-built : goal.returns-clause-built
returns-clause-built c = λ text bytes stop documents read writes.
    subst (IsIndexText FrontCoded (collection_of stop documents)) (sym writes.written) writes.of_collection

pub returns-clause-one_text : goal.returns-clause-one_text
returns-clause-one_text c = λ bytes others stop documents writes again.
    let same = c.collection_has_one_index_text.ensures.one FrontCoded (collection_of stop documents) writes.text again.text writes.of_collection again.of_collection in
    writes.written ∙ same ∙ sym again.written

pub returns-clause-opened : goal.returns-clause-opened
returns-clause-opened c = λ text bytes stop documents opened version collection read writes index spelled.
    let built = subst (IsIndexText FrontCoded (collection_of stop documents)) (sym writes.written) writes.of_collection in
    let same = c.index_text_tells_version_and_collection.ensures version FrontCoded collection (collection_of stop documents) bytes spelled built in
    let of_collection = subst (λ (other : Collection). IsIndexOf opened version other) same.1 index in
    (same.1, subst (λ (v : Version). IsIndexOf opened v (collection_of stop documents)) same.0 of_collection)

pub returns-clause-asked : goal.returns-clause-asked
returns-clause-asked c = λ text query old new stop documents tree numbers count read reads scanned answered.
    let alone : AreAlone = record { documents = c.has_documents_or_a_fault.ensures.one_list; tree = c.a_text_has_one_tree.ensures; scan = c.a_query_has_one_scan.ensures } in
    let same = the_answer alone text query answered.lines stop documents tree numbers count read reads scanned answered.answer in
    (answered.written ∙ ap (λ (lines : List ℕ). old ++ lines) same.0, same.1)

pub returns-clause-searched : goal.returns-clause-searched
returns-clause-searched c = λ text query lines others stop documents count number read answer found.
    let alone : AreAlone = record { documents = c.has_documents_or_a_fault.ensures.one_list; tree = c.a_text_has_one_tree.ensures; scan = c.a_query_has_one_scan.ensures } in
    found_is_answered alone text query lines others stop documents count number read answer found
