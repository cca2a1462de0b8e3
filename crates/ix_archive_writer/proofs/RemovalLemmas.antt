-- What removals of the names of taken documents make of an archive.
use Rattle.std.proofs.Common.{[], ◌∷◌, ◌≡◌, ◌∙◌, ◌⊎◌, ◌↔◌, ◌-◌, ◌<◌, ◌≤◌, ◌^◌, ℕ, List, All, Contains, Option, None, Some, ap, arith, get_or, inl, inr, length, refl, subst, sym}
use Rattle.std.specs.Prelude.{option_map, slice_get}
use Rattle.std.proofs.lemmas.List.Elements.{All-append, All-contains, All-nil, Contains-get_or}
use Rattle.std.proofs.lemmas.Option.{get_or_from_slice_get, slice_get-map, slice_get_within}
use Rattle.ix_text.specs.Collections.{Document, IsName}
use Rattle.sha2.specs.Sha256.{sha256}
use Rattle.ix_gram.proofs.Ascending.{none_in_nil}
use Rattle.ix_manifest.specs.declared.manifest.Removals.{Removals as RemovalsLine}
use Rattle.ix_manifest.specs.declared.manifest.Segment.{Segment}
use Rattle.ix_removals.specs.RemovalsText.{AreRemovals, IsRemoved, Removal, removals_text}
use Rattle.ix_archive.specs.Archives.{Archive, joined}
use Rattle.ix_archive.specs.Layouts.{AreRemovalsIn, AreSegmentsOf, IsRemovalsFile}
use Rattle.ix_archive_writer.specs.Changes.{IsNamedAmong, IsNewlyGone, IsWithout, names_in, with_removed}
use Rattle.ix_archive_writer.specs.Takings.{AreTaken, AsksFor, Removes}

name_at : (documents : List Document) (number : ℕ) (document : Document) → slice_get documents number ≡ Some document → slice_get (names_in documents) number ≡ Some document.name
name_at documents number document numbered = slice_get-map (λ (d : Document). d.name) documents number ∙ ap (option_map (λ (d : Document). d.name)) numbered

mapped_some : (o : Option Document) (name : List ℕ) → option_map (λ document. document.name) o ≡ Some name → (document : Document) × (o ≡ Some document) × (document.name ≡ name)
mapped_some None name is = cc
mapped_some (Some document) name is = (document, refl, cc)

named_at : (documents : List Document) (number : ℕ) (name : List ℕ) → slice_get (names_in documents) number ≡ Some name → (document : Document) × (slice_get documents number ≡ Some document) × (document.name ≡ name)
named_at documents number name numbered = mapped_some (slice_get documents number) name (sym (slice_get-map (λ (d : Document). d.name) documents number) ∙ numbered)

lawful_at : (documents : List Document) (number : ℕ) (document : Document) → All (λ d. IsName d.name) documents → slice_get documents number ≡ Some document → IsName document.name
lawful_at documents number document lawful numbered =
    subst (λ (d : Document). IsName d.name) (get_or_from_slice_get documents number document document numbered) (lawful number document (slice_get_within documents number document numbered))

same_document : (documents : List Document) (number : ℕ) (one other : Document) → slice_get documents number ≡ Some one → slice_get documents number ≡ Some other → one ≡ other
same_document documents number one other first second = let same : Some one ≡ Some other = sym first ∙ second in cc

module _ (names : List (List ℕ)) (archive : Archive) (asked : List Removal) (taken : List (List ℕ)) (lawful : All (λ d. IsName d.name) archive.documents) (few : length archive.documents ≤ 2 ^ 64 - 1)
    (asks : AsksFor names asked) (are : AreTaken asked archive.removals (names_in archive.documents) taken) where
  asked_for : (number : ℕ) → (named : IsNamedAmong names archive number) → IsRemoved asked named.document.name number
  asked_for number named =
      (asks named.document.name number).1
      ((named.named, lawful_at archive.documents number named.document lawful named.numbered), omega (arith, slice_get_within archive.documents number named.document named.numbered, few))

  pub without : (removals : List Removal) → Removes archive.removals taken (length archive.documents) removals → IsWithout names archive (with_removed archive removals)
  without removals exact = record {
    stop = refl;
    documents = refl;
    gone = λ number. (
      λ is. elim ((exact is.document.name number).0 is.removed) [
        | inl was ↦ inl (record { document = is.document; numbered = is.numbered; removed = was })
        | inr both ↦
            let found = are.no_others is.document.name both.0 in
            inr (record { document = is.document; numbered = is.numbered; named = ((asks is.document.name found.0).0 found.1.wanted).0.0 })
      ],
      λ either. elim either [
        | inl was ↦ record { document = was.document; numbered = was.numbered; removed = (exact was.document.name number).1 (inl was.removed) }
        | inr named ↦ record {
          document = named.document;
          numbered = named.numbered;
          removed = elim (are.all_names number named.document.name (name_at archive.documents number named.document named.numbered) (asked_for number named)) [
            | inl was ↦ (exact named.document.name number).1 (inl was)
            | inr has ↦ (exact named.document.name number).1 (inr (has, slice_get_within archive.documents number named.document named.numbered))
          ];
        }
      ],
    );
    later = λ name number high. (
      λ is. elim ((exact name number).0 is) [
        | inl was ↦ was
        | inr both ↦ absurd (omega (arith, both.1, high))
      ],
      λ was. (exact name number).1 (inl was),
    );
  }

  pub newly_gone : IsNewlyGone names archive (length taken)
  newly_gone = record {
    numbers = are.numbers;
    ascending = are.ascending;
    exact = λ number. (
      λ has.
          let found = are.of_taken number has in
          let at = named_at archive.documents number found.0 found.1.numbered in
          let named : IsNamedAmong names archive number = record { document = at.0; numbered = at.1; named = subst (Contains names) (sym at.2) ((asks found.0 number).0 found.1.wanted).0.0 } in
          (named, λ gone. found.1.there (subst (λ (t : List ℕ). IsRemoved archive.removals t number) (ap (λ (d : Document). d.name) (same_document archive.documents number gone.document at.0 gone.numbered at.1) ∙ at.2) gone.removed)),
      λ both. are.all_numbers number both.0.document.name (record {
        numbered = name_at archive.documents number both.0.document both.0.numbered;
        wanted = asked_for number both.0;
        there = λ removed. both.1 (record { document = both.0.document; numbered = both.0.numbered; removed = removed });
      }),
    );
    counted = are.counted;
  }

-- no removal takes a document behind all that are there
pub none_later : (removed : List Removal) (taken : List (List ℕ)) (total : ℕ) (removals : List Removal) → Removes removed taken total removals → AreRemovals removals → All (λ removal. removal.below ≤ total) removed
    → All (λ removal. removal.below ≤ total) removals
none_later removed taken total removals exact are before = λ k d within.
    let removal = get_or removals k d in
    let some = (are.each k d within).some_number in
    let last : IsRemoved removals removal.name (removal.below - 1) = record { removal = removal; among = Contains-get_or removals k d within; named = refl; earlier = omega (arith, some) } in
    elim ((exact removal.name (removal.below - 1)).0 last) [
      | inl was ↦ omega (arith, was.earlier, All-contains (λ (one : Removal). one.below ≤ total) removed was.removal before was.among)
      | inr both ↦ omega (arith, both.1)
    ]

-- ---- what is written

earlier_in : (documents : ℕ) (removals : List Removal) (line : Option RemovalsLine) (file : Option (List ℕ)) → AreRemovalsIn documents removals line file → All (λ removal. removal.below ≤ documents) removals
earlier_in documents removals None None are = subst (All (λ (removal : Removal). removal.below ≤ documents)) (sym are) (All-nil (λ (removal : Removal). removal.below ≤ documents))
earlier_in documents removals None (Some text) are = absurd are
earlier_in documents removals (Some line) None are = absurd are
earlier_in documents removals (Some line) (Some text) are = are.earlier

-- the file of removals that take no document behind those of the archive
pub removals_file_of : (archive : Archive) (before : Option RemovalsLine) (file : Option (List ℕ)) (taken : List (List ℕ)) (removals : List Removal) (line : RemovalsLine) (text : List ℕ) → AreRemovalsIn (length archive.documents) archive.removals before file
    → Removes archive.removals taken (length archive.documents) removals → AreRemovals removals → text ≡ removals_text removals → line.count ≡ length removals → line.bytes ≡ length text → line.digest ≡ sha256 text
    → IsRemovalsFile (length archive.documents) removals line text
removals_file_of archive before file taken removals line text are exact listed written counted sized digested = record {
  listed = listed;
  written = written;
  counted = counted;
  sized = sized;
  digested = digested;
  earlier = none_later archive.removals taken (length archive.documents) removals exact listed (earlier_in (length archive.documents) archive.removals before file are);
}

-- nothing more is removed if no name is taken
pub removes_none : (removed : List Removal) (total : ℕ) → Removes removed [] total removed
removes_none removed total name number = (
  inl,
  λ either. elim either [
    | inl was ↦ was
    | inr both ↦ absurd (none_in_nil name both.0)
  ],
)

-- what is removed by the names that were taken
pub removes_taken : (asked removed : List Removal) (documents : List Document) (taken : List (List ℕ)) (below : ℕ) (removals : List Removal) → All (λ d. IsName d.name) documents → AreTaken asked removed (names_in documents) taken
    → ((some : 0 < length documents) → below ≡ length documents)
    → ((name : List ℕ) (number : ℕ) → IsRemoved removals name number ↔ (IsRemoved removed name number ⊎ ((Contains taken name × IsName name) × (number < below))))
    → Removes removed taken (length documents) removals
removes_taken asked removed documents taken below removals lawful are bound exact name number =
    let found : Contains taken name → IsName name × (below ≡ length documents)
    = λ has.
    let at = are.no_others name has in
    let document = named_at documents at.0 name at.1.numbered in
    (subst IsName document.2 (lawful_at documents at.0 document.0 lawful document.1), bound (omega (arith, slice_get_within documents at.0 document.0 document.1))) in (
      λ is. elim ((exact name number).0 is) [
        | inl was ↦ inl was
        | inr both ↦ let known = found both.0.0 in inr (both.0.0, omega (arith, both.1, known.1))
      ],
      λ either. elim either [
        | inl was ↦ (exact name number).1 (inl was)
        | inr both ↦ let known = found both.0 in (exact name number).1 (inr ((both.0, known.0), omega (arith, both.1, known.1)))
      ],
    )

-- the names of the documents of segments are lawful
pub lawful_names : (stop : List (List ℕ)) (segments : List Segment) (texts : List (List ℕ)) (lists : List (List Document)) → AreSegmentsOf stop segments texts lists → All (λ d. IsName d.name) (joined lists)
lawful_names stop [] [] [] are = All-nil (λ (d : Document). IsName d.name)
lawful_names stop [] [] (list ∷ lists) are = absurd are
lawful_names stop [] (text ∷ texts) lists are = absurd are
lawful_names stop (segment ∷ segments) [] lists are = absurd are
lawful_names stop (segment ∷ segments) (text ∷ texts) [] are = absurd are
lawful_names stop (segment ∷ segments) (text ∷ texts) (list ∷ lists) are =
    All-append (λ (d : Document). IsName d.name) list (joined lists) are.0.indexed.lawful.names (lawful_names stop segments texts lists are.1)
