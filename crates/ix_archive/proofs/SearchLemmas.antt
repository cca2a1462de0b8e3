-- What is found in all segments of an archive.
use Rattle.std.proofs.Common.{◌≡◌, ℕ, zero, suc, ◌+◌, ◌-◌, ◌^◌, List, [], ◌∷◌, Some, None, Option, map, take, drop, length, get_or, refl, sym, ap, subst, arith}
use Rattle.std.specs.Prelude.{◌↔◌, min, option_map, slice_get, sum_by}
use Rattle.std.proofs.lemmas.List.Sums.{sum_by-cons}
use Rattle.std.proofs.lemmas.Option.{same_Some}
use Rattle.ix_text.specs.Collections.{Collection, Document}
use Rattle.ix_index_text.specs.Sections.{Version}
use Rattle.ix_extract.specs.Projections.{HasIndexText}
use Rattle.ix_manifest.specs.declared.manifest.Segment.{Segment}
use Rattle.ix_scan.specs.ScansWithout.{of_documents}
use Rattle.ix_scan.proofs.ScanLemmas.{scan_of_same}
use Rattle.ix_ask.specs.NameLines.{names_indexed}
use Rattle.ix_ask.specs.declared.output.Lines.{Lines}
use Rattle.ix_removals.specs.RemovalsText.{AreRemovals, IsRemoved, Removal}
use Rattle.ix_archive.specs.Archives.{Archive, IsArchiveFound, IsGone}
use Rattle.ix_archive.specs.Findings.{FindsIn, IsGoneFrom}
use Rattle.ix_archive.specs.Layouts.{AreSegmentsOf, IsSegmentOf}
use Rattle.ix_archive.proofs.JoinedLemmas.{AreFoundIn}
use Rattle.ix_archive.proofs.LeftLemmas.{removed_alike}

-- ---- numbers that do not fit

gone_alike : (removals : List Removal) (names : List (List ℕ)) (a b n : ℕ) → AreRemovals removals → min (a + n) (2 ^ 64 - 1) ≡ min (b + n) (2 ^ 64 - 1) → IsGoneFrom removals a names n → IsGoneFrom removals b names n
gone_alike removals names a b n are same gone = record {
  name = gone.name;
  numbered = gone.numbered;
  removed = removed_alike removals gone.name (a + n) (b + n) are same gone.removed;
}

pub finds_from : (collection : Collection) (removals : List Removal) (low first : ℕ) (query lines : List ℕ) (count : ℕ) → AreRemovals removals → low ≡ min first (2 ^ 64 - 1)
    → FindsIn collection removals low query lines count → FindsIn collection removals first query lines count
finds_from collection removals low first query lines count are is found =
    let names = names_indexed collection.documents in
    record {
      tree = found.tree;
      numbers = found.numbers;
      parsed = found.parsed;
      only = found.only;
      scanned = scan_of_same collection (IsGoneFrom removals low names) (IsGoneFrom removals first names) found.tree found.numbers
          (λ n. (gone_alike removals names low first n are (omega arith), gone_alike removals names first low n are (omega arith))) found.scanned;
      named = found.named;
      counted = found.counted;
    }

-- ---- segments

-- the lines and the count of a part
abbrev pub part_of : Lines → List ℕ × ℕ
part_of part = (part.bytes.items, part.count)

abbrev documents_in : List Segment → ℕ
documents_in segments = sum_by (λ segment. segment.documents) segments

module _ {S : Type 0} (contents : S → Option (List ℕ)) (stop : List (List ℕ)) (removals : List Removal) (are : AreRemovals removals) (query : List ℕ) where
  -- what is found in each of these segments, whose documents count from a first number on
  abbrev pub FoundInEach : ℕ → List Segment → List S → List Lines → Type 0
  FoundInEach first segments sources each =
      (i : ℕ) (source : S) (part : Lines) (version : Version) (collection : Collection) → slice_get sources i ≡ Some source → slice_get each i ≡ Some part → HasIndexText (contents source) version collection
      → FindsIn collection removals (min (first + documents_in (take i segments)) (2 ^ 64 - 1)) query part.bytes.items part.count

  pub found_in_each : (first : ℕ) (segments : List Segment) (texts : List (List ℕ)) (lists : List (List Document)) (sources : List S) (each : List Lines) → AreSegmentsOf stop segments texts lists
      → map contents sources ≡ map (λ text. Some text) texts → length each ≡ length sources → FoundInEach first segments sources each
      → AreFoundIn stop removals query first lists (map part_of each)
  found_in_each first [] [] [] [] [] of told size found = tt
  found_in_each first [] [] [] [] (part ∷ each) of told size found = absurd (omega arith)
  found_in_each first [] [] [] (source ∷ sources) each of told size found = absurd (let same = ap length told in omega arith)
  found_in_each first (segment ∷ segments) (text ∷ texts) (documents ∷ lists) [] each of told size found = absurd (let same = ap length told in omega arith)
  found_in_each first (segment ∷ segments) (text ∷ texts) (documents ∷ lists) (source ∷ sources) [] of told size found = absurd (omega arith)
  found_in_each first (segment ∷ segments) (text ∷ texts) (documents ∷ lists) (source ∷ sources) (part ∷ each) of told size found =
      let is : IsSegmentOf stop segment text documents = of.0 in
      let known : contents source ≡ Some text = ap (λ (l : List (Option (List ℕ))). get_or l 0 None) told in
      let has : HasIndexText (contents source) is.version (of_documents stop documents) = record { bytes = text; known = known; text = is.indexed } in
      let more : FoundInEach (first + length documents) segments sources each =
      λ i one other version collection at shown there.
      let sum : first + documents_in (segment ∷ take i segments) ≡ (first + length documents) + documents_in (take i segments) =
      let counted = is.counted in omega (arith, sum_by-cons (λ (one : Segment). one.documents) segment (take i segments)) in
      subst (λ (n : ℕ). FindsIn collection removals (min n (2 ^ 64 - 1)) query other.bytes.items other.count) sum (found (suc i) one other version collection at shown there) in (
        finds_from (of_documents stop documents) removals (min (first + documents_in []) (2 ^ 64 - 1)) first query part.bytes.items part.count are (omega arith)
            (found 0 source part is.version (of_documents stop documents) refl refl has),
        found_in_each (first + length documents) segments texts lists sources each of.1 (ap (λ (l : List (Option (List ℕ))). drop 1 l) told) (omega arith) more,
      )
  found_in_each first [] [] (documents ∷ lists) sources each of told size found = absurd of
  found_in_each first [] (text ∷ texts) lists sources each of told size found = absurd of
  found_in_each first (segment ∷ segments) [] lists sources each of told size found = absurd of
  found_in_each first (segment ∷ segments) (text ∷ texts) [] sources each of told size found = absurd of

-- ---- the archive

document_named : (documents : List Document) (n : ℕ) (name : List ℕ) → slice_get (names_indexed documents) n ≡ Some name → (document : Document) × (slice_get documents n ≡ Some document) × (document.name ≡ name)
document_named [] n name at = absurd (let none = at in cc)
document_named (document ∷ documents) zero name at = (document, refl, same_Some document.name name at)
document_named (document ∷ documents) (suc n) name at = document_named documents n name at

name_numbered : (documents : List Document) (n : ℕ) (document : Document) → slice_get documents n ≡ Some document → slice_get (names_indexed documents) n ≡ Some document.name
name_numbered [] n document at = absurd (let none = at in cc)
name_numbered (first ∷ documents) zero document at = ap (option_map (λ (d : Document). d.name)) at
name_numbered (first ∷ documents) (suc n) document at = name_numbered documents n document at

pub gone_alike_in : (archive : Archive) (n : ℕ) → IsGoneFrom archive.removals 0 (names_indexed archive.documents) n ↔ IsGone archive n
gone_alike_in archive n = (
  λ gone.
      let found = document_named archive.documents n gone.name gone.numbered in
      record {
        document = found.0;
        numbered = found.1;
        removed = subst (λ (name : List ℕ). IsRemoved archive.removals name n) (sym found.2) (subst (λ (m : ℕ). IsRemoved archive.removals gone.name m) (let zero_n : 0 + n ≡ n = omega arith in zero_n) gone.removed);
      },
  λ gone. record {
    name = gone.document.name;
    numbered = name_numbered archive.documents n gone.document gone.numbered;
    removed = subst (λ (m : ℕ). IsRemoved archive.removals gone.document.name m) (let n_zero : n ≡ 0 + n = omega arith in n_zero) gone.removed;
  },
)

pub archive_found : (archive : Archive) (documents : List Document) (query lines : List ℕ) (count : ℕ) → archive.documents ≡ documents → FindsIn (of_documents archive.stop documents) archive.removals 0 query lines count → IsArchiveFound archive query lines count
archive_found archive documents query lines count is given =
    let found : FindsIn (of_documents archive.stop archive.documents) archive.removals 0 query lines count =
    subst (λ (ds : List Document). FindsIn (of_documents archive.stop ds) archive.removals 0 query lines count) (sym is) given in
    record {
      tree = found.tree;
      numbers = found.numbers;
      parsed = found.parsed;
      scanned = scan_of_same (of_documents archive.stop archive.documents) (IsGoneFrom archive.removals 0 (names_indexed archive.documents)) (IsGone archive) found.tree found.numbers (gone_alike_in archive) found.scanned;
      named = found.named;
      counted = found.counted;
    }
