-- A merge of one source, whose documents count from 0, writes what the source has.
use Rattle.std.proofs.Common.{◌≡◌, ◌∙◌, ℕ, ◌+◌, ◌<◌, List, [], ◌∷◌, length, Option, refl, sym, ap, subst, arith, inl, inr}
use Rattle.std.specs.Prelude.{slice_get}
use Rattle.std.proofs.lemmas.Bool.{cases_lt}
use Rattle.std.proofs.lemmas.List.{length-map}
use Rattle.std.proofs.lemmas.List.Elements.{All-head}
use Rattle.std.proofs.lemmas.List.Sums.{sum_by-cons}
use Rattle.std.proofs.lemmas.Option.{slice_get_within}
use Rattle.ix_text.specs.Collections.{Collection}
use Rattle.ix_text.specs.Parts.{ArePartsOf, DictionaryEntry, row_of}
use Rattle.ix_text.proofs.PartsLemmas.{same_by_places, same_collection, same_collection_fields}
use Rattle.ix_file.specs.Endings.{WritesIndexText}
use Rattle.ix_run.specs.Heads.{Heading, parts_with}
use Rattle.ix_run.specs.Sources.{Yielding}
use Rattle.ix_merge.specs.Covers.{Cover}
use Rattle.ix_merge.specs.Pieces.{ArePiecesOf, IsConcatenation, Piece, WritesConcatenation, heading_of_piece}
use Rattle.ix_merge.proofs.Covering.{AreCounted, documents_under, laid_times}

-- how often one head from 0 covers a number
counted : (h : Heading) → h.first ≡ 0 → (n : ℕ) → AreCounted 0 (h ∷ []) n
counted h first n = laid_times 0 (h ∷ []) (first, tt) n

documents_of_one : (h : Heading) → documents_under (h ∷ []) ≡ length h.rows
documents_of_one h = omega (arith, sum_by-cons (λ (g : Heading). length g.rows) h [])

-- so it covers as many numbers as it has documents
covered_length : (h : Heading) (count : ℕ) → h.first ≡ 0 → Cover (h ∷ []) count → count ≡ length h.rows
covered_length h count first cover =
    let total = documents_of_one h in
    elim (cases_lt count (length h.rows)) [
      | inl fewer ↦ absurd (omega (arith, (counted h first count).within (omega arith) (omega (arith, fewer, total)), cover.no_other count (omega arith)))
      | inr others ↦ elim (cases_lt (length h.rows) count) [
        | inl more ↦ absurd (omega (arith, (counted h first (length h.rows)).high (omega (arith, total)), cover.once (length h.rows) more))
        | inr same ↦ omega (arith, others, same)
      ]
    ]

-- the concatenation of one piece that counts from 0 is its collection
concatenation_of_one : (piece : Piece) (whole : Collection) → piece.first ≡ 0 → IsConcatenation (piece ∷ []) whole → whole ≡ piece.collection
concatenation_of_one piece whole first is =
    let one = piece.collection.documents in
    let lengths : length one ≡ length whole.documents =
    sym (covered_length (heading_of_piece piece) (length whole.documents) first is.cover ∙ length-map one row_of) in
    let placed = All-head (λ (p : Piece). (number : ℕ) → number < length p.collection.documents → slice_get whole.documents (p.first + number) ≡ slice_get p.collection.documents number)
    piece [] is.placed in
    let documents = same_by_places one whole.documents lengths (λ k document found.
    let shifted : k ≡ piece.first + k = omega (arith, first) in
    ap (slice_get whole.documents) shifted ∙ placed k (slice_get_within one k document found) ∙ found) in
    same_collection_fields whole piece.collection (sym (All-head (λ (p : Piece). p.collection.stop ≡ whole.stop) piece [] is.stop)) (sym documents)

pub written_of_one : {S : Type 0} (yields : Yielding S) (heading : S → Heading) (source : S) (collection : Collection) (before now : Option (List ℕ))
    → (heading source).first ≡ 0 → ((entries : List DictionaryEntry) → yields source [] entries → ArePartsOf collection (parts_with (heading source) entries))
    → WritesConcatenation yields heading (source ∷ []) before now → WritesIndexText before now collection
written_of_one {S} yields heading source collection before now first parts writes = go writes.pieces writes.yielded writes.concatenation
  where
    go : (pieces : List Piece) → ArePiecesOf yields heading (source ∷ []) pieces → IsConcatenation pieces writes.whole → WritesIndexText before now collection
    go [] are is = absurd (omega (arith, are.as_many))
    go (piece ∷ []) are is =
        let yielded = are.each 0 source piece refl refl in
        let same = same_collection (parts_with (heading source) yielded.entries) piece.collection collection yielded.of_collection (parts yielded.entries yielded.yielded) in
        let from : piece.first ≡ 0 = ap (λ (h : Heading). h.first) yielded.headed ∙ first in
        subst (WritesIndexText before now) (concatenation_of_one piece writes.whole from is ∙ same) writes.written
    go (piece ∷ other ∷ rest) are is = absurd (omega (arith, are.as_many))
