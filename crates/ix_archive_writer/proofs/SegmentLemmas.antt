-- A new segment has the index text that was written.
use Rattle.std.proofs.Common.{◌≡◌, ◌∙◌, ◌++◌, List, [], ℕ, Option, None, Some, ap, length, sym}
use Rattle.std.specs.Io.KnownBytes.{Appends}
use Rattle.std.proofs.lemmas.List.{length-map}
use Rattle.sha2.specs.Sha256.{sha256}
use Rattle.ix_files.specs.Slots.{Entry, Kept}
use Rattle.ix_text.specs.Collections.{NamedText, collection_of}
use Rattle.ix_index_text.specs.Endings.{WritesIndexText}
use Rattle.ix_index_text.specs.IndexText.{IsIndexText}
use Rattle.ix_index_text.specs.Sections.{FrontCoded}
use Rattle.ix_manifest.specs.declared.manifest.Segment.{Segment}
use Rattle.ix_scan.specs.ScansWithout.{of_documents}
use Rattle.ix_archive_writer.specs.Changes.{IsNewSegment, IsWritten, documents_under}

-- what a writer holds that had nothing
whole : (before now : Option (List ℕ)) (text : List ℕ) → before ≡ Some [] → Appends before now text → now ≡ Some text
whole None now text empty appends = cc
whole (Some bytes) None text empty appends = absurd appends
whole (Some bytes) (Some held) text empty appends =
    let none : bytes ≡ [] = cc in
    ap (λ (l : List ℕ). Some l) (appends ∙ ap (λ (l : List ℕ). l ++ text) none)

as_documents : (stop : List (List ℕ)) (texts : List NamedText) (text : List ℕ) → IsIndexText FrontCoded (collection_of stop texts) text → IsIndexText FrontCoded (of_documents stop (documents_under stop texts)) text
unfolding collection_of
as_documents stop texts text is = is

as_many : (stop : List (List ℕ)) (texts : List NamedText) → length (documents_under stop texts) ≡ length texts
unfolding collection_of
as_many stop texts = length-map texts _

pub written_segment : (stop : List (List ℕ)) (texts : List NamedText) (before now : Option (List ℕ)) (segment : Segment) (file count : ℕ) (entry : Entry) → before ≡ Some [] → WritesIndexText before now (collection_of stop texts) → count ≡ length texts
    → IsNewSegment file count segment → ((text : List ℕ) → now ≡ Some text → entry ≡ Kept text) → ((text : List ℕ) → now ≡ Some text → (segment.bytes ≡ length text) × (segment.digest ≡ sha256 text))
    → IsWritten stop segment (documents_under stop texts) entry
written_segment stop texts before now segment file count entry empty writes counted new kept digested =
    let held = whole before now writes.text empty writes.written in
    let told = digested writes.text held in
    record {
      text = writes.text;
      kept = kept writes.text held;
      of_documents = record {
        version = FrontCoded;
        indexed = as_documents stop texts writes.text writes.of_collection;
        counted = new.counted ∙ counted ∙ sym (as_many stop texts);
        sized = told.0;
        digested = told.1;
      };
    }
