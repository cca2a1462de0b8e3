-- What is written of two sources whose documents follow one another.
use Rattle.std.proofs.Common.{◌≡◌, ◌∙◌, ℕ, ◌+◌, ◌-◌, ◌<◌, List, [], ◌∷◌, ◌++◌, length, map, Some, refl, sym, ap, subst, arith, inl, inr, length-append}
use Rattle.std.specs.Prelude.{Option, slice_get}
use Rattle.std.proofs.lemmas.Bool.{cases_lt}
use Rattle.std.proofs.lemmas.List.{length-map}
use Rattle.std.proofs.lemmas.List.Elements.{All-head, All-tail}
use Rattle.std.proofs.lemmas.List.Sums.{sum_by-cons}
use Rattle.std.proofs.lemmas.Option.{slice_get_within}
use Rattle.ix_text.specs.Collections.{Collection, Document}
use Rattle.ix_text.specs.Parts.{ArePartsOf, DictionaryEntry, row_of}
use Rattle.ix_text.proofs.PartsLemmas.{same_by_places, same_collection, same_collection_fields}
use Rattle.ix_file.specs.Endings.{WritesIndexText}
use Rattle.ix_file.specs.IndexText.{IsIndexText}
use Rattle.ix_file.specs.Sections.{FrontCoded}
use Rattle.ix_merge.specs.Heads.{Heading, parts_with}
use Rattle.ix_merge.specs.Sources.{Yielding}
use Rattle.ix_merge.specs.Covers.{Cover}
use Rattle.ix_merge.specs.Pieces.{ArePiecesOf, IsConcatenation, Piece, WritesConcatenation, heading_of_piece}
use Rattle.ix_merge.proofs.Covering.{documents_under, laid_cover}
use Rattle.ix_merge.proofs.Laying.{slice_get_left, slice_get_right}
use Rattle.ix_scan.specs.ScansWithout.{of_documents}

-- headings cover the numbers below one count
one_count : (headings : List Heading) (n m : ℕ) → Cover headings n → Cover headings m → n ≡ m
one_count headings n m one other =
    elim (cases_lt n m) [
      | inl less ↦ let none = one.no_other n (omega arith) in let some = other.once n less in absurd (omega (arith, none, some))
      | inr high ↦ elim (cases_lt m n) [
        | inl less ↦ let none = other.no_other m (omega arith) in let some = one.once m less in absurd (omega (arith, none, some))
        | inr low ↦ omega (arith, high, low)
      ]
    ]

-- the concatenation of two pieces that follow one another from 0 on
module _ (one two : Piece) (whole : Collection) (from : one.first ≡ 0) (next : two.first ≡ length one.collection.documents) (is : IsConcatenation (one ∷ two ∷ []) whole) where
  abbrev xs : List Document
  xs = one.collection.documents

  abbrev ys : List Document
  ys = two.collection.documents

  abbrev headings : List Heading
  headings = heading_of_piece one ∷ heading_of_piece two ∷ []

  counted : documents_under headings ≡ length (xs ++ ys)
  counted =
      let size : Heading → ℕ = λ h. length h.rows in
      let first = sum_by-cons size (heading_of_piece one) (heading_of_piece two ∷ []) in
      let second = sum_by-cons size (heading_of_piece two) [] in
      omega (arith, first, second, length-map xs row_of, length-map ys row_of, length-append xs ys)

  long : length (xs ++ ys) ≡ length whole.documents
  long =
      let at : two.first ≡ 0 + length (map row_of xs) = omega (arith, next, length-map xs row_of) in
      sym (one_count headings (length whole.documents) (documents_under headings) is.cover (laid_cover headings (from, (at, tt))) ∙ counted)

  placed_one : (number : ℕ) → number < length xs → slice_get whole.documents (one.first + number) ≡ slice_get xs number
  placed_one = All-head (λ (piece : Piece). (number : ℕ) → number < length piece.collection.documents → slice_get whole.documents (piece.first + number) ≡ slice_get piece.collection.documents number) one (two ∷ []) is.placed

  placed_two : (number : ℕ) → number < length ys → slice_get whole.documents (two.first + number) ≡ slice_get ys number
  placed_two =
      let P : Piece → Type 0 = λ piece. (number : ℕ) → number < length piece.collection.documents → slice_get whole.documents (piece.first + number) ≡ slice_get piece.collection.documents number in
      All-head P two [] (All-tail P one (two ∷ []) is.placed)

  at_place : (k : ℕ) (document : Document) → slice_get (xs ++ ys) k ≡ Some document → slice_get whole.documents k ≡ Some document
  at_place k document found = elim (cases_lt k (length xs)) [
    | inl before ↦
        let place : k ≡ one.first + k = omega (arith, from) in
        ap (slice_get whole.documents) place ∙ placed_one k before ∙ sym (slice_get_left xs ys k before) ∙ found
    | inr behind ↦
        let number = k - length xs in
        let place : k ≡ length xs + number = omega (arith, behind) in
        let there = sym (slice_get_right xs ys k number place) ∙ found in
        let shifted : k ≡ two.first + number = omega (arith, place, next) in
        ap (slice_get whole.documents) shifted ∙ placed_two number (slice_get_within ys number document there) ∙ there
  ]

  pub concatenation_of_two : whole ≡ of_documents one.collection.stop (xs ++ ys)
  concatenation_of_two =
      same_collection_fields whole (of_documents one.collection.stop (xs ++ ys)) (sym (All-head (λ (piece : Piece). piece.collection.stop ≡ whole.stop) one (two ∷ []) is.stop))
      (sym (same_by_places (xs ++ ys) whole.documents long at_place))

-- two sources that yield documents of one stop set, the second's behind the first's
module _ {S : Type 0} (yields : Yielding S) (heading : S → Heading) (one two : S) (stop : List (List ℕ)) (first second : List Document) (before now : Option (List ℕ))
    (from : (heading one).first ≡ 0) (next : (heading two).first ≡ length first)
    (of_one : (entries : List DictionaryEntry) → yields one [] entries → ArePartsOf (of_documents stop first) (parts_with (heading one) entries))
    (of_two : (entries : List DictionaryEntry) → yields two [] entries → ArePartsOf (of_documents stop second) (parts_with (heading two) entries)) where
  pub written_of_two : WritesConcatenation yields heading (one ∷ two ∷ []) before now → WritesIndexText before now (of_documents stop (first ++ second))
  written_of_two writes = go writes.pieces writes.yielded writes.concatenation
    where
      go : (pieces : List Piece) → ArePiecesOf yields heading (one ∷ two ∷ []) pieces → IsConcatenation pieces writes.whole → WritesIndexText before now (of_documents stop (first ++ second))
      go [] are is = absurd (omega (arith, are.as_many))
      go (p ∷ []) are is = absurd (omega (arith, are.as_many))
      go (p ∷ q ∷ r ∷ rest) are is = absurd (omega (arith, are.as_many))
      go (p ∷ q ∷ []) are is =
          let a = are.each 0 one p refl refl in
          let b = are.each 1 two q refl refl in
          let same = same_collection (parts_with (heading one) a.entries) p.collection (of_documents stop first) a.of_collection (of_one a.entries a.yielded) in
          let other = same_collection (parts_with (heading two) b.entries) q.collection (of_documents stop second) b.of_collection (of_two b.entries b.yielded) in
          let begins : p.first ≡ 0 = ap (λ (h : Heading). h.first) a.headed ∙ from in
          let follows : q.first ≡ length p.collection.documents = ap (λ (h : Heading). h.first) b.headed ∙ next ∙ sym (ap (λ (c : Collection). length c.documents) same) in
          let whole = concatenation_of_two p q writes.whole begins follows is in
          let all : of_documents p.collection.stop (p.collection.documents ++ q.collection.documents) ≡ of_documents stop (first ++ second) = λ i. of_documents (same i).stop ((same i).documents ++ (other i).documents) in
          subst (WritesIndexText before now) (whole ∙ all) writes.written

-- bytes that gained a whole index text from nothing are it
pub text_of_all : (bytes : List ℕ) (collection : Collection) → WritesIndexText (Some []) (Some bytes) collection → IsIndexText FrontCoded collection bytes
text_of_all bytes collection writes = subst (IsIndexText FrontCoded collection) (sym writes.written) writes.of_collection
