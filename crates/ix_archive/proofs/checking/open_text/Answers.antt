-- The text is opened exactly, so an index text of the segment is opened as its own.
use Rattle.std.proofs.Common.{◌≡◌, ◌∙◌, ℕ, List, length, refl, sym, ap, subst, rules, arith}
use Rattle.std.specs.Prelude.{Option}
use Rattle.std.proofs.lemmas.Grind.{common_steps}
use Rattle.std.proofs.lemmas.List.{length-map}
use Rattle.sha2.specs.Sha256.{sha256}
use Rattle.ix_text.specs.Collections.{Collection, Document}
use Rattle.ix_text.specs.Parts.{row_of}
use Rattle.ix_index_text.specs.IndexText.{IsIndexText}
use Rattle.ix_index_text.specs.Sections.{Version}
use Rattle.ix_file.specs.Opened.{IsIndexOf, Opened as Index}
use Rattle.ix_file.specs.declared.open_error.OpenError.{OpenError}
use Rattle.ix_file.specs.declared.open_error.OpenError.TheVariants as opening
use Rattle.ix_manifest.specs.declared.manifest.Segment.{Segment}
use Rattle.ix_scan.specs.ScansWithout.{of_documents}
use Rattle.ix_ask.proofs.NameLemmas.{names_told}
use Rattle.ix_archive.specs.Checks.{IsVolumeOf, RefusesText}
use Rattle.ix_archive.specs.Findings.{error_of_open}
use Rattle.ix_archive.proofs.checking.open_text.Goals as goal

-- the index of a text has the documents of each collection of which it is the text
rows_counted : (volume : Index) (version : Version) (stop : List (List ℕ)) (documents : List Document) → IsIndexOf volume version (of_documents stop documents) → length volume.parts.rows ≡ length documents
rows_counted volume version stop documents is = ap length is.parts.rows ∙ length-map documents row_of

volume_of : (segment : Segment) (text : List ℕ) (volume : Index) (collection : Collection) → IsIndexOf volume volume.version collection → IsIndexText volume.version collection text → length volume.parts.rows ≡ segment.documents
    → segment.bytes ≡ length text → segment.digest ≡ sha256 text → ((version : Version) (other : Collection) → IsIndexText version other text → IsIndexOf volume version other) → IsVolumeOf segment text volume
volume_of segment text volume collection index indexed rows sized digested exact = record {
  documents = collection.documents;
  of = record {
    version = volume.version;
    indexed = subst (λ (stop : List (List ℕ)). IsIndexText volume.version (of_documents stop collection.documents) text) (sym index.parts.stop) indexed;
    counted = sym rows ∙ rows_counted volume volume.version collection.stop collection.documents index;
    sized = sized;
    digested = digested;
  };
  named = names_told collection volume.parts index.parts;
  only = λ stop others is. (exact is.version (of_documents stop others) is.indexed).parts.stop;
}

open_faults : (stop : Option (List (List ℕ))) (segment : Segment) (text : List ℕ) (error : OpenError) → ((version : Version) (collection : Collection) → IsIndexText version collection text → error ≡ opening.Memory)
    → RefusesText stop segment text (error_of_open segment.file error)
open_faults stop segment text opening.Memory exact = tt
open_faults stop segment text error exact =
    (refl, λ terms documents given is. absurd (let none = exact is.version (of_documents terms documents) is.indexed in cc))

pub returns-in-Ok-clause-opened : goal.returns-in-Ok-clause-opened
returns-in-Ok-clause-opened g c =
    let found = c.in-Ok.ensures.found in
    let rows : length c.in-Ok.volume.parts.rows ≡ c.args.segment.now.documents = first_of (cc, grind (arith, common_steps), search rules) in
    let sized : c.args.segment.now.bytes ≡ length c.args.text.items = first_of (search rules, grind (arith, common_steps)) in
    let digested : c.args.segment.now.digest ≡ sha256 c.args.text.items = first_of (search rules, grind (arith, common_steps)) in
    volume_of c.args.segment.now c.args.text.items c.in-Ok.volume found.0 found.1 found.2 rows sized digested c.in-Ok.ensures.exact

pub returns-in-Ok-2-clause-refused : goal.returns-in-Ok-2-clause-refused
returns-in-Ok-2-clause-refused g c = λ stop. (
  refl,
  λ terms documents given is.
      let same = rows_counted c.in-Ok.volume is.version terms documents (c.in-Ok.ensures.exact is.version (of_documents terms documents) is.indexed) ∙ sym is.counted in
      c.if-doc_count-segment.false (first_of (cc, grind (arith, common_steps), search rules)),
)

pub returns-in-Err-clause-refused : goal.returns-in-Err-clause-refused
returns-in-Err-clause-refused g c = λ stop. rw c.of_open.ensures (open_faults stop c.args.segment.now c.args.text.items c.in-Err.error c.in-Err.ensures.exact)
