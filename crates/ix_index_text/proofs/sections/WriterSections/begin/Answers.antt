use Rattle.std.proofs.Common.{◌++◌, map, sym, ap, ◌∙◌, string_bytes}
use Rattle.std.proofs.lemmas.List.{length-map}
use Rattle.ix_index_text.specs.IndexText.{magic}
use Rattle.ix_index_text.specs.Rows.{document_row}
use Rattle.ix_index_text.specs.Sections.{FrontCoded, stop_section, documents_section}
use Rattle.ix_index_text.proofs.sections.WriterSections.begin.Goals as goal

pub returns : goal.returns
unfolding magic
returns c empty = record {
  ready = empty.ready;
  pending = c.in_ok-extend_from_slice.ensures.items ∙ ap (λ bytes. bytes ++ magic FrontCoded) (c.in_ok-try_reserve.ensures.items ∙ empty.pending);
  postings = empty.postings;
  no_document = empty.no_document;
  no_bytes = empty.no_bytes;
  no_term = empty.no_term;
  no_dictionary = empty.no_dictionary;
  no_entry = empty.no_entry;
  no_previous = empty.no_previous;
  grams = empty.grams;
  stop_terms = c.in_ok-push_stop.ensures ∙ ap (λ bytes. bytes ++ stop_section (map string_bytes c.terms.result.now)) empty.stop ∙ ap stop_section c.terms.ensures.value;
  documents = c.in_ok-push_rows.ensures ∙ ap (λ bytes. bytes ++ documents_section (map document_row c.args.rows.now)) empty.documents;
  counted = sym (length-map c.args.rows.now document_row);
}
