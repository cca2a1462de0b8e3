-- What is found in an archive that is open, by what is found in each of its segments.
use Rattle.std.proofs.Common.{◌≡◌, ℕ, zero, suc, ◌-◌, ◌^◌, ◌<◌, ◌⊎◌, inl, inr, List, [], ◌∷◌, Some, None, Option, map, take, drop, length, get_or, refl, sym, ap, ◌∙◌, subst, arith}
use Rattle.std.specs.Prelude.{◌≢◌, Contains, Err, MatchResult, Ok, Result, min, option_map, slice_get}
use Rattle.std.proofs.lemmas.List.{length-map}
use Rattle.std.proofs.lemmas.List.Folds.{flat_map-map}
use Rattle.std.proofs.lemmas.Option.{get_or_from_slice_get, slice_get-map, slice_get_within}
use Rattle.ix_text.specs.Collections.{Document}
use Rattle.ix_text.proofs.PartsLawful.{sum_by-map}
use Rattle.ix_index_text.specs.Sections.{Version}
use Rattle.ix_extract.specs.Projections.{HasIndexText}
use Rattle.ix_manifest.specs.declared.manifest.Segment.{Segment}
use Rattle.ix_scan.specs.ScansWithout.{of_documents}
use Rattle.ix_ask.specs.declared.output.Lines.{Lines}
use Rattle.ix_removals.specs.RemovalsText.{AreRemovals, Removal}
use Rattle.ix_removals.proofs.TextLemmas.{no_removals}
use Rattle.ix_manifest.specs.declared.manifest.Removals.{Removals as RemovalsLine}
use Rattle.ix_archive.specs.Archives.{Archive, IsArchiveFound, joined}
use Rattle.ix_archive.specs.Findings.{FindsIn, RefusesFinding}
use Rattle.ix_archive.specs.Layouts.{AreRemovalsIn, AreSegmentsOf}
use Rattle.ix_archive.specs.OpenedArchives.{AnswersAt, IsOpenedArchive, first_after}
use Rattle.ix_archive.specs.PartsOfAnswers.{AreJoined}
use Rattle.ix_archive.specs.declared.opened.Opened.{Opened}
use Rattle.ix_archive.specs.declared.read_error.ReadError.{ReadError}
use Rattle.ix_archive.specs.declared.read_error.ReadError.TheVariants.{Memory}
use Rattle.ix_archive.proofs.JoinedLemmas.{AreFoundIn, all_found, count_in, lines_in}
use Rattle.ix_archive.proofs.SearchLemmas.{FoundInEach, archive_found, found_in_each, part_of}

-- ---- the layout

some_lists : (stop : List (List ℕ)) (segments : List Segment) (texts : List (List ℕ)) (lists : List (List Document)) → AreSegmentsOf stop segments texts lists → segments ≢ [] → lists ≢ []
some_lists stop [] [] [] of none is = none refl
some_lists stop (segment ∷ segments) (text ∷ texts) (documents ∷ lists) of none is = absurd (let size = ap length is in omega arith)
some_lists stop [] [] (documents ∷ lists) of none is = absurd of
some_lists stop [] (text ∷ texts) lists of none is = absurd of
some_lists stop (segment ∷ segments) [] lists of none is = absurd of
some_lists stop (segment ∷ segments) (text ∷ texts) [] of none is = absurd of

lawful_in : (documents : ℕ) (removals : List Removal) (line : Option RemovalsLine) (removals_file : Option (List ℕ)) → AreRemovalsIn documents removals line removals_file → AreRemovals removals
lawful_in documents removals None None are = subst AreRemovals (sym are) no_removals
lawful_in documents removals (Some line) (Some text) are = are.listed
lawful_in documents removals None (Some text) are = absurd are
lawful_in documents removals (Some line) None are = absurd are

all_found_in : (stop : List (List ℕ)) (removals : List Removal) (query : List ℕ) (lists : List (List Document)) (parts : List (List ℕ × ℕ)) → lists ≢ [] → AreFoundIn stop removals query 0 lists parts
    → FindsIn (of_documents stop (joined lists)) removals 0 query (lines_in parts) (count_in parts)
all_found_in stop removals query [] parts some found = absurd (some refl)
all_found_in stop removals query (documents ∷ lists) [] some found = absurd found
all_found_in stop removals query (documents ∷ lists) (part ∷ parts) some found = all_found stop removals query 0 documents lists part parts found

-- ---- the answer

module _ {S : Type 0} (contents : S → Option (List ℕ)) (opened : Opened S) (query : List ℕ) (parts : List (Result Lines ReadError))
    (answers : (i : ℕ) (d : Result Lines ReadError) → i < length opened.sources.items → AnswersAt contents opened i query (get_or parts i d)) where
  part_is : (each : List Lines) (i : ℕ) (part : Lines) → parts ≡ map (λ one. Ok one) each → slice_get each i ≡ Some part → (d : Result Lines ReadError) → get_or parts i d ≡ Ok part
  part_is each i part all at d =
      let ok : Lines → Result Lines ReadError = λ one. Ok one in
      get_or_from_slice_get parts i (Ok part) d (ap (λ (l : List (Result Lines ReadError)). slice_get l i) all ∙ slice_get-map ok each i ∙ ap (λ (o : Option Lines). option_map ok o) at)

  pub archive_answer : (lines : Lines) → length parts ≡ length opened.sources.items → AreJoined parts lines → (archive : Archive) → IsOpenedArchive contents archive opened → IsArchiveFound archive query lines.bytes.items lines.count
  archive_answer lines size are archive is =
      let laid = is.laid in
      let each = are.each in
      let sized : length each ≡ length opened.sources.items = sym (length-map each (λ (one : Lines). let ok : Result Lines ReadError = Ok one in ok)) ∙ sym (ap length are.all) ∙ size in
      let lawful : AreRemovals opened.removals = subst AreRemovals (sym is.removals) (lawful_in (length archive.documents) archive.removals opened.manifest.removals is.removals_file laid.removals) in
      let found : FoundInEach contents archive.stop opened.removals lawful query 0 opened.manifest.segments.items opened.sources.items each =
      λ i source part version collection at shown has.
      let within : i < length opened.sources.items = slice_get_within opened.sources.items i source at in
      let answer = answers i (Ok part) within source version collection at has in
      let finds = subst (λ (r : Result Lines ReadError). MatchResult r (λ one. FindsIn collection opened.removals (first_after (take i opened.manifest.segments.items)) query one.bytes.items one.count) (RefusesFinding collection.stop query))
      (part_is each i part are.all shown (Ok part)) answer in
      subst (λ (n : ℕ). FindsIn collection opened.removals (min n (2 ^ 64 - 1)) query part.bytes.items part.count) (omega arith) finds in
      let in_all = found_in_each contents archive.stop opened.removals lawful query 0 opened.manifest.segments.items is.texts laid.lists opened.sources.items each laid.segments is.told sized found in
      let whole = all_found_in archive.stop opened.removals query laid.lists (map part_of each) (some_lists archive.stop opened.manifest.segments.items is.texts laid.lists laid.segments laid.has_segment) in_all in
      let lines_are : lines_in (map part_of each) ≡ lines.bytes.items = flat_map-map (λ (p : List ℕ × ℕ). p.0) part_of each ∙ sym are.joined in
      let count_is : count_in (map part_of each) ≡ lines.count = sum_by-map (λ (p : List ℕ × ℕ). p.1) part_of each ∙ sym are.counted in
      archive_found archive (joined laid.lists) query lines.bytes.items lines.count laid.documents
      (subst (λ (r : List Removal). FindsIn (of_documents archive.stop (joined laid.lists)) r 0 query lines.bytes.items lines.count) is.removals
      (subst (λ (l : List ℕ). FindsIn (of_documents archive.stop (joined laid.lists)) opened.removals 0 query l lines.count) lines_are
      (subst (λ (c : ℕ). FindsIn (of_documents archive.stop (joined laid.lists)) opened.removals 0 query (lines_in (map part_of each)) c) count_is whole)))

-- ---- the error

-- the source of a place has the index text of documents under the archive's stop set
pub record SegmentAt {S : Type 0} (contents : S → Option (List ℕ)) (stop : List (List ℕ)) (sources : List S) (i : ℕ) : Type 0 where
  pub source : S
  pub version : Version
  pub documents : List Document
  pub at : slice_get sources i ≡ Some source
  pub has : HasIndexText (contents source) version (of_documents stop documents)

segment_at : {S : Type 0} (contents : S → Option (List ℕ)) (stop : List (List ℕ)) (segments : List Segment) (texts : List (List ℕ)) (lists : List (List Document)) (sources : List S) (i : ℕ) → AreSegmentsOf stop segments texts lists
    → map contents sources ≡ map (λ text. Some text) texts → i < length sources → SegmentAt contents stop sources i
segment_at contents stop segments texts lists [] i of told within = absurd (omega arith)
segment_at contents stop (segment ∷ segments) (text ∷ texts) (documents ∷ lists) (source ∷ sources) zero of told within = record {
  source = source;
  version = of.0.version;
  documents = documents;
  at = refl;
  has = record { bytes = text; known = ap (λ (l : List (Option (List ℕ))). get_or l 0 None) told; text = of.0.indexed };
}
segment_at contents stop (segment ∷ segments) (text ∷ texts) (documents ∷ lists) (source ∷ sources) (suc i) of told within =
    let rest = segment_at contents stop segments texts lists sources i of.1 (ap (λ (l : List (Option (List ℕ))). drop 1 l) told) (omega arith) in
    record { source = rest.source; version = rest.version; documents = rest.documents; at = rest.at; has = rest.has }
segment_at contents stop [] [] lists (source ∷ sources) i of told within = absurd (let same = ap length told in omega arith)
segment_at contents stop (segment ∷ segments) [] lists (source ∷ sources) i of told within = absurd (let same = ap length told in omega arith)
segment_at contents stop [] (text ∷ texts) lists (source ∷ sources) i of told within = absurd of
segment_at contents stop (segment ∷ segments) (text ∷ texts) [] (source ∷ sources) i of told within = absurd of

pub archive_refused : {S : Type 0} (contents : S → Option (List ℕ)) (opened : Opened S) (query : List ℕ) (parts : List (Result Lines ReadError)) (error : ReadError)
    → ((i : ℕ) (d : Result Lines ReadError) → i < length opened.sources.items → AnswersAt contents opened i query (get_or parts i d)) → length parts ≡ length opened.sources.items
    → (error ≡ Memory) ⊎ Contains parts (Err error) → (archive : Archive) → IsOpenedArchive contents archive opened → RefusesFinding archive.stop query error
archive_refused contents opened query parts error answers size (inl is) archive are = subst (RefusesFinding archive.stop query) (sym is) tt
archive_refused contents opened query parts error answers size (inr (i, within, is)) archive are =
    let below : i < length opened.sources.items = omega arith in
    let there = segment_at contents archive.stop opened.manifest.segments.items are.texts are.laid.lists opened.sources.items i are.laid.segments are.told below in
    let collection = of_documents archive.stop there.documents in
    subst (λ (r : Result Lines ReadError). MatchResult r (λ one. FindsIn collection opened.removals (first_after (take i opened.manifest.segments.items)) query one.bytes.items one.count) (RefusesFinding archive.stop query))
    is (answers i (Err error) below there.source there.version collection there.at there.has)
