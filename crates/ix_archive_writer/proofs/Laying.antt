-- The files of an archive that a change makes of those of another.
use Rattle.std.proofs.Common.{◌≡◌, ◌≢◌, ◌∙◌, append_assoc, ◌+◌, ◌≤◌, ◌<◌, ◌^◌, ℕ, List, [], ◌∷◌, ◌++◌, Option, None, Some, ap, arith, length, length-append, refl, sym}
use Rattle.std.specs.Prelude.{IfSome}
use Rattle.std.proofs.lemmas.Grind.{flat_map-append}
use Rattle.std.proofs.lemmas.List.{append-nil}
use Rattle.std.proofs.lemmas.List.Elements.{All-push, All-weaker}
use Rattle.std.proofs.lemmas.List.Quantifiers.{all_pairs_push}
use Rattle.ix_text.specs.Collections.{Document}
use Rattle.ix_manifest.specs.ManifestText.{AreFields, IsManifest, IsRemovals, IsSegment, ManifestView}
use Rattle.ix_manifest.specs.declared.manifest.Removals.{Removals as RemovalsLine}
use Rattle.ix_manifest.specs.declared.manifest.Segment.{Segment}
use Rattle.ix_removals.specs.RemovalsText.{Removal}
use Rattle.ix_archive.specs.Archives.{Archive, joined}
use Rattle.ix_archive.specs.Layouts.{AreRemovalsIn, AreSegmentsOf, IsLaidOut, IsRemovalsFile, IsSegmentOf}
use Rattle.ix_archive_writer.specs.Changes.{IsFit, IsFitLine, IsLaid, with_documents, with_merged, with_removals, with_removed, with_segment}

-- ---- manifests

-- what is below a number is below a greater one
fields_later : (next later file count bytes : ℕ) (digest : List ℕ) → next ≤ later → AreFields next file count bytes digest → AreFields later file count bytes digest
fields_later next later file count bytes digest more are =
    record { below = omega (arith, are.below); counted = are.counted; sized = are.sized; long = are.long; octets = are.octets }

segment_later : (next later : ℕ) → next ≤ later → (segment : Segment) → IsSegment next segment → IsSegment later segment
segment_later next later more segment is = record { fields = fields_later next later _ _ _ _ more is.fields; few = is.few }

removals_later : (next later : ℕ) (segments : List Segment) (segment : Segment) (line : Option RemovalsLine) → next ≤ later → next ≤ segment.file → IfSome line (IsRemovals next segments)
    → IfSome line (IsRemovals later (segments ++ segment ∷ []))
removals_later next later segments segment None more high is = is
removals_later next later segments segment (Some line) more high is = record {
  fields = fields_later next later _ _ _ _ more is.fields;
  apart = All-push (λ (one : Segment). one.file ≢ line.file) segments segment is.apart (λ same. absurd (omega (arith, is.fields.below, same)));
}

pub manifest_added : (view : ManifestView) (segment : Segment) → IsManifest view → view.next + 1 < 2 ^ 64 → segment.file ≡ view.next → IsFit segment → IsManifest (with_segment view segment)
manifest_added view segment lawful room numbered fit = record {
  bound = room;
  segments = record {
    each = All-push (IsSegment (view.next + 1)) view.segments segment (All-weaker (IsSegment view.next) (IsSegment (view.next + 1)) (segment_later view.next (view.next + 1) (omega arith)) view.segments lawful.segments.each)
        (record {
          fields = record { below = omega (arith, numbered); counted = omega (arith, fit.few); sized = fit.sized; long = fit.long; octets = fit.octets };
          few = fit.few;
        });
    apart = all_pairs_push (λ (one : Segment) (other : Segment). one.file ≢ other.file) view.segments segment lawful.segments.apart
        (λ k d within same. absurd (omega (arith, (lawful.segments.each k d within).fields.below, same, numbered)));
  };
  removals = removals_later view.next (view.next + 1) view.segments segment view.removals (omega arith) (omega (arith, numbered)) lawful.removals;
}

-- ---- layouts

pub laid : {archive : Archive} {view : ManifestView} {texts : List (List ℕ)} {removals_file : Option (List ℕ)} → IsLaidOut archive view texts removals_file → IsLaid archive view texts removals_file
laid is = record { lawful = is.lawful; lists = is.lists; segments = is.segments; documents = is.documents; removals = is.removals }

-- one segment more
segments_added : (stop : List (List ℕ)) (segments : List Segment) (texts : List (List ℕ)) (lists : List (List Document)) (segment : Segment) (text : List ℕ) (documents : List Document)
    → AreSegmentsOf stop segments texts lists → IsSegmentOf stop segment text documents → AreSegmentsOf stop (segments ++ segment ∷ []) (texts ++ text ∷ []) (lists ++ documents ∷ [])
segments_added stop [] [] [] segment text documents are is = (is, tt)
segments_added stop [] [] (list ∷ lists) segment text documents are is = absurd are
segments_added stop [] (one ∷ texts) lists segment text documents are is = absurd are
segments_added stop (first ∷ segments) [] lists segment text documents are is = absurd are
segments_added stop (first ∷ segments) (one ∷ texts) [] segment text documents are is = absurd are
segments_added stop (first ∷ segments) (one ∷ texts) (list ∷ lists) segment text documents are is =
    (are.0, segments_added stop segments texts lists segment text documents are.1 is)

-- removals take no document behind more documents
removals_in_more : (few many : ℕ) (removals : List Removal) (line : Option RemovalsLine) (file : Option (List ℕ)) → few ≤ many → AreRemovalsIn few removals line file → AreRemovalsIn many removals line file
removals_in_more few many removals None None more are = are
removals_in_more few many removals None (Some text) more are = absurd are
removals_in_more few many removals (Some line) None more are = absurd are
removals_in_more few many removals (Some line) (Some text) more are = record {
  listed = are.listed;
  written = are.written;
  counted = are.counted;
  sized = are.sized;
  digested = are.digested;
  earlier = All-weaker (λ (removal : Removal). removal.below ≤ few) (λ (removal : Removal). removal.below ≤ many) (λ removal low. omega (arith, low)) removals are.earlier;
}

some_segment : {X : Type 0} (xs : List X) (x : X) → xs ++ x ∷ [] ≢ []
some_segment xs x none = absurd (omega (arith, ap length none, length-append xs (x ∷ [])))

-- a segment of further documents
pub laid_added : (archive : Archive) (view : ManifestView) (texts : List (List ℕ)) (removals_file : Option (List ℕ)) (segment : Segment) (text : List ℕ) (documents : List Document)
    → IsLaid archive view texts removals_file → view.next + 1 < 2 ^ 64 → segment.file ≡ view.next → IsFit segment → IsSegmentOf archive.stop segment text documents
    → IsLaidOut (with_documents archive documents) (with_segment view segment) (texts ++ text ∷ []) removals_file
laid_added archive view texts removals_file segment text documents is room numbered fit of = record {
  lawful = manifest_added view segment is.lawful room numbered fit;
  has_segment = some_segment view.segments segment;
  lists = is.lists ++ documents ∷ [];
  segments = segments_added archive.stop view.segments texts is.lists segment text documents is.segments of;
  documents = ap (λ (l : List Document). l ++ documents) is.documents
      ∙ sym (flat_map-append (λ (list : List Document). list) is.lists (documents ∷ []) ∙ ap (λ (l : List Document). joined is.lists ++ l) (append-nil documents));
  removals = removals_in_more (length archive.documents) (length (archive.documents ++ documents)) archive.removals view.removals removals_file (omega (arith, length-append archive.documents documents)) is.removals;
}

pub manifest_removed : (view : ManifestView) (line : RemovalsLine) → IsManifest view → view.next + 1 < 2 ^ 64 → line.file ≡ view.next → IsFitLine line
    → IsManifest (with_removals view line)
manifest_removed view line lawful room numbered fit = record {
  bound = room;
  segments = record {
    each = All-weaker (IsSegment view.next) (IsSegment (view.next + 1)) (segment_later view.next (view.next + 1) (omega arith)) view.segments lawful.segments.each;
    apart = lawful.segments.apart;
  };
  removals = record {
    fields = record { below = omega (arith, numbered); counted = fit.counted; sized = fit.sized; long = fit.long; octets = fit.octets };
    apart = All-weaker (IsSegment view.next) (λ (segment : Segment). segment.file ≢ line.file) (λ segment is same. absurd (omega (arith, is.fields.below, same, numbered))) view.segments lawful.segments.each;
  };
}

-- other removals
pub laid_removed : (archive : Archive) (view : ManifestView) (texts : List (List ℕ)) (removals_file : Option (List ℕ)) (removals : List Removal) (line : RemovalsLine) (text : List ℕ)
    → IsLaidOut archive view texts removals_file → IsManifest (with_removals view line) → IsRemovalsFile (length archive.documents) removals line text
    → IsLaidOut (with_removed archive removals) (with_removals view line) texts (Some text)
laid_removed archive view texts removals_file removals line text is lawful of =
    record { lawful = lawful; has_segment = is.has_segment; lists = is.lists; segments = is.segments; documents = is.documents; removals = of }

-- ---- merging

-- the last two of three lists, and what is before them
pub record LastTwo (stop : List (List ℕ)) (kept : List Segment) (one other : Segment) (texts : List (List ℕ)) (lists : List (List Document)) : Type 0 where
  pub kept_texts : List (List ℕ)
  pub kept_lists : List (List Document)
  pub one_text : List ℕ
  pub other_text : List ℕ
  pub one_documents : List Document
  pub other_documents : List Document
  pub texts_are : texts ≡ kept_texts ++ one_text ∷ other_text ∷ []
  pub lists_are : lists ≡ kept_lists ++ one_documents ∷ other_documents ∷ []
  pub before : AreSegmentsOf stop kept kept_texts kept_lists
  pub first : IsSegmentOf stop one one_text one_documents
  pub second : IsSegmentOf stop other other_text other_documents

pub last_two : (stop : List (List ℕ)) (kept : List Segment) (one other : Segment) (texts : List (List ℕ)) (lists : List (List Document)) → AreSegmentsOf stop (kept ++ one ∷ other ∷ []) texts lists → LastTwo stop kept one other texts lists
last_two stop [] one other [] lists are = absurd are
last_two stop [] one other (a ∷ texts) [] are = absurd are
last_two stop [] one other (a ∷ []) (x ∷ lists) are = absurd are.1
last_two stop [] one other (a ∷ b ∷ texts) (x ∷ []) are = absurd are.1
last_two stop [] one other (a ∷ b ∷ []) (x ∷ y ∷ []) are = record {
  kept_texts = [];
  kept_lists = [];
  one_text = a;
  other_text = b;
  one_documents = x;
  other_documents = y;
  texts_are = refl;
  lists_are = refl;
  before = tt;
  first = are.0;
  second = are.1.0;
}
last_two stop [] one other (a ∷ b ∷ []) (x ∷ y ∷ z ∷ lists) are = absurd are.1.1
last_two stop [] one other (a ∷ b ∷ c ∷ texts) (x ∷ y ∷ lists) are = absurd are.1.1
last_two stop (segment ∷ kept) one other [] lists are = absurd are
last_two stop (segment ∷ kept) one other (a ∷ texts) [] are = absurd are
last_two stop (segment ∷ kept) one other (a ∷ texts) (x ∷ lists) are =
    let rest = last_two stop kept one other texts lists are.1 in
    record {
      kept_texts = a ∷ rest.kept_texts;
      kept_lists = x ∷ rest.kept_lists;
      one_text = rest.one_text;
      other_text = rest.other_text;
      one_documents = rest.one_documents;
      other_documents = rest.other_documents;
      texts_are = ap (λ (l : List (List ℕ)). a ∷ l) rest.texts_are;
      lists_are = ap (λ (l : List (List Document)). x ∷ l) rest.lists_are;
      before = (are.0, rest.before);
      first = rest.first;
      second = rest.second;
    }

joined_pair : (kept : List (List Document)) (one other : List Document) → joined (kept ++ one ∷ other ∷ []) ≡ joined (kept ++ (one ++ other) ∷ [])
joined_pair kept one other =
    flat_map-append (λ (list : List Document). list) kept (one ∷ other ∷ [])
    ∙ ap (λ (l : List Document). joined kept ++ l) (sym (append_assoc one other []))
    ∙ sym (flat_map-append (λ (list : List Document). list) kept ((one ++ other) ∷ []))

-- one segment in place of the last two
pub laid_merged : (archive : Archive) (view : ManifestView) (texts : List (List ℕ)) (removals_file : Option (List ℕ)) (kept : List Segment) (one other segment : Segment) (text : List ℕ)
    → (is : IsLaidOut archive view texts removals_file) → (last : view.segments ≡ kept ++ one ∷ other ∷ []) → (two : LastTwo archive.stop kept one other texts is.lists)
    → IsManifest (with_merged view kept segment) → IsSegmentOf archive.stop segment text (two.one_documents ++ two.other_documents)
    → IsLaidOut archive (with_merged view kept segment) (two.kept_texts ++ text ∷ []) removals_file
laid_merged archive view texts removals_file kept one other segment text is last two lawful of = record {
  lawful = lawful;
  has_segment = some_segment kept segment;
  lists = two.kept_lists ++ (two.one_documents ++ two.other_documents) ∷ [];
  segments = segments_added archive.stop kept two.kept_texts two.kept_lists segment text (two.one_documents ++ two.other_documents) two.before of;
  documents = is.documents ∙ ap (λ (ls : List (List Document)). joined ls) two.lists_are ∙ joined_pair two.kept_lists two.one_documents two.other_documents;
  removals = is.removals;
}
