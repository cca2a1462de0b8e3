-- The documents of segments that a removal takes, one segment after another.
use Rattle.std.proofs.Common.{◌≡◌, ◌∙◌, ◌⊎◌, ◌↔◌, ◌+◌, ◌-◌, ◌≤◌, ◌<◌, ◌^◌, ℕ, zero, suc, List, [], ◌∷◌, ◌++◌, Contains, Option, None, Some, add-one, ap, arith, get_or, inl, inr, length, length-append, refl, subst, sym, take}
use Rattle.std.proofs.lemmas.Grind.{flat_map-append}
use Rattle.std.proofs.lemmas.List.{append-nil, length-map, map-append, take_all}
use Rattle.std.proofs.lemmas.List.Elements.{All-head, All-tail}
use Rattle.ix_files.specs.Slots.{Kept, Slots}
use Rattle.ix_text.specs.Collections.{Document, IsName}
use Rattle.ix_folder.specs.Standings.{AreKept, IsKeptIn, NamedFile}
use Rattle.ix_gram.proofs.Ascending.{none_in_nil}
use Rattle.ix_manifest.specs.declared.manifest.Removals.{Removals as RemovalsLine}
use Rattle.ix_manifest.specs.declared.manifest.Segment.{Segment}
use Rattle.ix_removals.specs.RemovalsText.{IsRemoved, Removal}
use Rattle.ix_archive.specs.Archives.{joined}
use Rattle.ix_archive.specs.Folders.{removals_files, removals_place, segment_files, segment_place}
use Rattle.ix_archive.specs.Layouts.{AreRemovalsIn, AreSegmentsOf, IsRemovalsFile, IsSegmentOf}
use Rattle.ix_archive_writer.specs.Changes.{names_in}
use Rattle.ix_archive_writer.specs.Takings.{AreTaken, AsksFor}
use Rattle.ix_archive_writer.proofs.TakingLemmas.{taken_none}

-- all names are asked for whatever the number
pub asks_for : (names : List (List ℕ)) (none asked : List Removal) → none ≡ []
    → ((name : List ℕ) (number : ℕ) → IsRemoved asked name number ↔ (IsRemoved none name number ⊎ ((Contains names name × IsName name) × (number < 2 ^ 64 - 1)))) → AsksFor names asked
asks_for names none asked empty exact name number = (
  λ is. elim ((exact name number).0 is) [
    | inl was ↦ absurd (none_in_nil was.removal (subst (λ (l : List Removal). Contains l was.removal) empty was.among))
    | inr both ↦ both
  ],
  λ both. (exact name number).1 (inr both),
)

-- ---- segments

-- the segment of a place, and the documents up to it
record SegmentAt (stop : List (List ℕ)) (folder : List ℕ) (slots : Slots) (segment : Segment) (lists : List (List Document)) (place : ℕ) : Type 0 where
  text : List ℕ
  documents : List Document
  kept : (slots (segment_place folder segment.file)).now ≡ Kept text
  is : IsSegmentOf stop segment text documents
  more : take (suc place) lists ≡ take place lists ++ documents ∷ []

segment_at : (stop : List (List ℕ)) (folder : List ℕ) (slots : Slots) (segments : List Segment) (texts : List (List ℕ)) (lists : List (List Document)) (place : ℕ) (default : Segment) → AreSegmentsOf stop segments texts lists
    → AreKept (segment_files folder segments texts) slots → place < length segments → SegmentAt stop folder slots (get_or segments place default) lists place
segment_at stop folder slots [] texts lists place default of kept within = absurd (omega (arith, within))
segment_at stop folder slots (segment ∷ segments) [] lists place default of kept within = absurd of
segment_at stop folder slots (segment ∷ segments) (text ∷ texts) [] place default of kept within = absurd of
segment_at stop folder slots (segment ∷ segments) (text ∷ texts) (documents ∷ lists) zero default of kept within = record {
  text = text;
  documents = documents;
  kept = All-head (IsKeptIn slots) (record { place = segment_place folder segment.file; bytes = text }) (segment_files folder segments texts) kept;
  is = of.0;
  more = refl;
}
segment_at stop folder slots (segment ∷ segments) (text ∷ texts) (documents ∷ lists) (suc place) default of kept within =
    let file : NamedFile = record { place = segment_place folder segment.file; bytes = text } in
    let rest = segment_at stop folder slots segments texts lists place default of.1 (All-tail (IsKeptIn slots) file (segment_files folder segments texts) kept) (omega (arith, within)) in
    record { text = rest.text; documents = rest.documents; kept = rest.kept; is = rest.is; more = ap (λ (l : List (List Document)). documents ∷ l) rest.more }

as_many : (stop : List (List ℕ)) (segments : List Segment) (texts : List (List ℕ)) (lists : List (List Document)) → AreSegmentsOf stop segments texts lists → length lists ≡ length segments
as_many stop [] [] [] of = refl
as_many stop [] [] (list ∷ lists) of = absurd of
as_many stop [] (text ∷ texts) lists of = absurd of
as_many stop (segment ∷ segments) [] lists of = absurd of
as_many stop (segment ∷ segments) (text ∷ texts) [] of = absurd of
as_many stop (segment ∷ segments) (text ∷ texts) (documents ∷ lists) of = ap suc (as_many stop segments texts lists of.1)

-- Of the documents of the segments before a place these were taken, and so many there are.
pub record TakenSoFar (asked removed : List Removal) (folder : List ℕ) (slots : Slots) (segments : List Segment) (place : ℕ) (taken : List (List ℕ)) (next : ℕ) : Type 0 where
  pub told : (stop : List (List ℕ)) (texts : List (List ℕ)) (lists : List (List Document)) → AreSegmentsOf stop segments texts lists → AreKept (segment_files folder segments texts) slots
      → AreTaken asked removed (names_in (joined (take place lists))) taken × (next ≡ length (joined (take place lists)))

module _ (asked removed : List Removal) (folder : List ℕ) (slots : Slots) (segments : List Segment) where
  pub none_taken : (taken : List (List ℕ)) → taken ≡ [] → TakenSoFar asked removed folder slots segments 0 taken 0
  none_taken taken empty = record { told = λ stop texts lists of kept. (subst (AreTaken asked removed []) (sym empty) (taken_none asked removed), refl) }

  pub more_taken : (place : ℕ) (default : Segment) (taken after : List (List ℕ)) (next last : ℕ) → place < length segments → TakenSoFar asked removed folder slots segments place taken next
      → ((stop : List (List ℕ)) (text : List ℕ) (documents : List Document) → (slots (segment_place folder (get_or segments place default).file)).now ≡ Kept text → IsSegmentOf stop (get_or segments place default) text documents
      → (before : List (List ℕ)) → length before ≡ next → AreTaken asked removed before taken → AreTaken asked removed (before ++ names_in documents) after × (last ≡ next + length documents))
      → TakenSoFar asked removed folder slots segments (place + 1) after last
  more_taken place default taken after next last within so_far one = record {
    told = λ stop texts lists of kept.
        let at = segment_at stop folder slots segments texts lists place default of kept within in
        let known = so_far.told stop texts lists of kept in
        let before = joined (take place lists) in
        let found = one stop at.text at.documents at.kept at.is (names_in before) (length-map before (λ (document : Document). document.name) ∙ sym known.1) known.0 in
        let all : joined (take (place + 1) lists) ≡ before ++ at.documents =
        ap (λ (k : ℕ). joined (take k lists)) (add-one place) ∙ ap (λ (l : List (List Document)). joined l) at.more ∙ flat_map-append (λ (list : List Document). list) (take place lists) (at.documents ∷ [])
        ∙ ap (λ (l : List Document). before ++ l) (append-nil at.documents) in (
          subst (λ (names : List (List ℕ)). AreTaken asked removed names after) (sym (ap (λ (l : List Document). names_in l) all ∙ map-append (λ (document : Document). document.name) before at.documents)) found.0,
          omega (arith, found.1, known.1, ap length all, length-append before at.documents),
        );
  }

  pub all_taken : (place : ℕ) (taken : List (List ℕ)) (next : ℕ) → length segments ≤ place → TakenSoFar asked removed folder slots segments place taken next
      → (stop : List (List ℕ)) (texts : List (List ℕ)) (lists : List (List Document)) → AreSegmentsOf stop segments texts lists → AreKept (segment_files folder segments texts) slots
      → AreTaken asked removed (names_in (joined lists)) taken × (next ≡ length (joined lists))
  all_taken place taken next all so_far stop texts lists of kept =
      subst (λ (l : List (List Document)). AreTaken asked removed (names_in (joined l)) taken × (next ≡ length (joined l))) (take_all place lists (omega (arith, all, as_many stop segments texts lists of)))
      (so_far.told stop texts lists of kept)

-- ---- the file of the removals

none_in : (count : ℕ) (removals : List Removal) (file : Option (List ℕ)) → AreRemovalsIn count removals None file → removals ≡ []
none_in count removals None are = are
none_in count removals (Some text) are = absurd are

-- a manifest that names no file of removals is that of an archive without removals
pub no_removals : (count : ℕ) (removals : List Removal) (line : Option RemovalsLine) (file : Option (List ℕ)) → line ≡ None → AreRemovalsIn count removals line file → removals ≡ []
no_removals count removals line file is are = none_in count removals file (subst (λ (l : Option RemovalsLine). AreRemovalsIn count removals l file) is are)

-- The file of removals that a manifest names is there.
pub record IsFileOfLine (folder : List ℕ) (slots : Slots) (count : ℕ) (removals : List Removal) (line : RemovalsLine) : Type 0 where
  pub text : List ℕ
  pub is : IsRemovalsFile count removals line text
  pub kept : (slots (removals_place folder line.file)).now ≡ Kept text

some_in : (folder : List ℕ) (slots : Slots) (count : ℕ) (removals : List Removal) (line : RemovalsLine) (file : Option (List ℕ)) → AreRemovalsIn count removals (Some line) file → AreKept (removals_files folder (Some line) file) slots
    → IsFileOfLine folder slots count removals line
some_in folder slots count removals line None are kept = absurd are
some_in folder slots count removals line (Some text) are kept =
    record { text = text; is = are; kept = All-head (IsKeptIn slots) (record { place = removals_place folder line.file; bytes = text }) [] kept }

pub file_of_line : (folder : List ℕ) (slots : Slots) (count : ℕ) (removals : List Removal) (lines : Option RemovalsLine) (line : RemovalsLine) (file : Option (List ℕ)) → lines ≡ Some line → AreRemovalsIn count removals lines file
    → AreKept (removals_files folder lines file) slots → IsFileOfLine folder slots count removals line
file_of_line folder slots count removals lines line file is are kept =
    some_in folder slots count removals line file (subst (λ (l : Option RemovalsLine). AreRemovalsIn count removals l file) is are) (subst (λ (l : Option RemovalsLine). AreKept (removals_files folder l file) slots) is kept)
