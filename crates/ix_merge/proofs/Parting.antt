-- The documents of a collection, cut where shares begin and end, are the collections of the shares.
use Rattle.std.proofs.Common.{◌≡◌, ℕ, zero, suc, ◌+◌, ◌<◌, List, [], ◌∷◌, length, map, take, drop, get_or, slice_get, Contains, refl, sym, ap, ap₂, ◌∙◌, subst, arith, inl, inr}
use Rattle.std.proofs.lemmas.Bool.{cases_lt}
use Rattle.std.proofs.lemmas.List.{length-drop, length-map, length-take-le, nil_from_length}
use Rattle.std.proofs.lemmas.List.Elements.{All-contains, All-map, Contains-get_or}
use Rattle.std.proofs.lemmas.Option.{slice_get_within, slice_get-map}
use Rattle.std.specs.Option.{option_map}
use Rattle.ix_text.specs.Collections.{Collection, HasPosting, IsLawful, IsVocabulary}
use Rattle.ix_text.specs.Parts.{ArePartsOf, DictionaryEntry, DocumentRow, HasPosition, IsEntryOf, Parts, row_of, terms_of}
use Rattle.ix_text.specs.PartsLaws.{IsLawfulTerm}
use Rattle.ix_text.proofs.CollectionTold.{has_collection, same_entry_of_term, some_position}
use Rattle.ix_text.proofs.PartsLemmas.{entry_of_contained, same_by_places, same_collection}
use Rattle.ix_run.specs.Heads.{Heading, parts_with}
use Rattle.ix_run.specs.Sources.{AreWhole}
use Rattle.ix_merge.specs.Covers.{Cover}
use Rattle.ix_merge.specs.Merged.{HasUnder, Share, SomeShareHas}
use Rattle.ix_merge.specs.Pieces.{IsConcatenation, Piece, heading_of_piece}
use Rattle.ix_merge.proofs.Covering.{covered_within}
use Rattle.ix_merge.proofs.Laying.{contains_later, contains_now}
use Rattle.ix_merge.proofs.Shares.{contains_mapped, heading_of_share, row_at, same_share, share_end}
use Rattle.ix_merge.proofs.Uniting.{AreUnited, found, under_entry}

slice_get_taken : {A : Type 0} (count : ℕ) (xs : List A) (n : ℕ) → n < count → slice_get (take count xs) n ≡ slice_get xs n
slice_get_taken zero xs n below = absurd (omega (arith, below))
slice_get_taken (suc count) [] n below = refl
slice_get_taken (suc count) (x ∷ xs) zero below = refl
slice_get_taken (suc count) (x ∷ xs) (suc n) below = slice_get_taken count xs n (omega (arith, below))

slice_get_dropped : {A : Type 0} (first : ℕ) (xs : List A) (n k : ℕ) → k ≡ first + n → slice_get (drop first xs) n ≡ slice_get xs k
slice_get_dropped zero xs n k at = ap (slice_get xs) (omega (arith, at))
slice_get_dropped (suc first) [] n k at = refl
slice_get_dropped (suc first) (x ∷ xs) n zero at = absurd (omega (arith, at))
slice_get_dropped (suc first) (x ∷ xs) n (suc k) at = slice_get_dropped first xs n k (omega (arith, at))

-- so many elements, from a place on
abbrev pub part_of : {A : Type 0} → ℕ → ℕ → List A → List A
part_of first count xs = take count (drop first xs)

slice_get_part : {A : Type 0} (first count : ℕ) (xs : List A) (n : ℕ) → n < count → slice_get (part_of first count xs) n ≡ slice_get xs (first + n)
slice_get_part first count xs n below = slice_get_taken count (drop first xs) n below ∙ slice_get_dropped first xs n (first + n) refl

-- the documents of a share in the whole
abbrev pub piece_of : Collection → Share → Piece
piece_of whole share =
    record {
      first = share.heading.first;
      collection = record { stop = whole.stop; documents = part_of share.heading.first (length share.heading.rows) whole.documents };
    }

same_heading : (one other : Heading) → one.first ≡ other.first → one.stop ≡ other.stop → one.rows ≡ other.rows → one ≡ other
same_heading one other firsts stops rows =
    let with_first : ℕ → Heading = λ first. record { first = first; stop = one.stop; rows = one.rows } in
    let with_stop : List (List ℕ) → Heading = λ stop. record { first = other.first; stop = stop; rows = one.rows } in
    let with_rows : List DocumentRow → Heading = λ rows. record { first = other.first; stop = other.stop; rows = rows } in
    ap with_first firsts ∙ ap with_stop stops ∙ ap with_rows rows

module _ (shares : List Share) (parts : Parts) (united : AreUnited shares parts) (whole : Collection) (of : ArePartsOf whole parts) where
  documents_counted : length whole.documents ≡ length parts.rows
  documents_counted = sym (length-map whole.documents row_of) ∙ sym (ap length of.rows)

  -- positions under terms are the postings of the whole
  posting_in_whole : (term : List ℕ) (number position : ℕ) → HasUnder parts.entries term number position → HasPosting whole term number position
  posting_in_whole term number position under =
      let is = All-contains (IsEntryOf whole) parts.entries under.entry of.entries under.among in
      subst (λ (t : List ℕ). HasPosting whole t number position) under.of_term ((is.posted number position).0 under.has)

  under_in_whole : (term : List ℕ) (number position : ℕ) → HasPosting whole term number position → HasUnder parts.entries term number position
  under_in_whole term number position posting =
      let at = entry_of_contained parts.entries term (of.vocabulary.complete term number position posting) in
      let among : Contains parts.entries at.entry = (at.place, at.within, at.there) in
      let is = All-contains (IsEntryOf whole) parts.entries at.entry of.entries among in
      record {
        entry = at.entry;
        among = among;
        of_term = at.has;
        has = (is.posted number position).1 (subst (λ (t : List ℕ). HasPosting whole t number position) (sym at.has) posting);
      }

  module _ (share : Share) (among : Contains shares share) where
    lawful_share : AreWhole share.heading share.entries
    lawful_share = All-contains (λ (s : Share). AreWhole s.heading s.entries) shares share united.whole among

    -- a share's documents are as many as its rows
    pub own_counted : length (part_of share.heading.first (length share.heading.rows) whole.documents) ≡ length share.heading.rows
    own_counted =
        length-take-le (length share.heading.rows) (drop share.heading.first whole.documents)
        (elim (cases_lt 0 (length share.heading.rows)) [
          | inl some ↦ omega (arith, some, length-drop share.heading.first whole.documents, documents_counted, share_end shares parts.rows united.laid share among some)
          | inr none ↦ omega (arith, none)
        ])

    pub own_document : (n : ℕ) → n < length share.heading.rows → slice_get (part_of share.heading.first (length share.heading.rows) whole.documents) n ≡ slice_get whole.documents (share.heading.first + n)
    own_document n below = slice_get_part share.heading.first (length share.heading.rows) whole.documents n below

    own_row : (n : ℕ) → n < length share.heading.rows → slice_get (map row_of (part_of share.heading.first (length share.heading.rows) whole.documents)) n ≡ slice_get share.heading.rows n
    own_row n below =
        slice_get-map row_of (part_of share.heading.first (length share.heading.rows) whole.documents) n
        ∙ ap (option_map row_of) (own_document n below)
        ∙ sym (slice_get-map row_of whole.documents (share.heading.first + n))
        ∙ ap (λ (rows : List DocumentRow). slice_get rows (share.heading.first + n)) (sym of.rows)
        ∙ row_at shares parts.rows united.laid share among n below

    pub own_rows : map row_of (part_of share.heading.first (length share.heading.rows) whole.documents) ≡ share.heading.rows
    own_rows =
        let documents = part_of share.heading.first (length share.heading.rows) whole.documents in
        let count : length (map row_of documents) ≡ length share.heading.rows = length-map documents row_of ∙ own_counted in
        same_by_places (map row_of documents) share.heading.rows count
        (λ k row there. sym (own_row k (omega (arith, count, slice_get_within (map row_of documents) k row there))) ∙ there)

    pub own_stop : share.heading.stop ≡ whole.stop
    own_stop = All-contains (λ (s : Share). s.heading.stop ≡ parts.stop) shares share united.stop among ∙ of.stop

    pub own_heading : heading_of_piece (piece_of whole share) ≡ share.heading
    own_heading = same_heading (heading_of_piece (piece_of whole share)) share.heading refl (sym own_stop) own_rows

    -- what the share has, its collection has
    posting_of_own : (term : List ℕ) (n position : ℕ) → HasUnder share.entries term n position → HasPosting (piece_of whole share).collection term n position
    posting_of_own term n position under =
        let some : SomeShareHas shares term (share.heading.first + n) position = record { share = share; among = among; place = n; shifted = refl; has = under } in
        let is = All-contains (IsLawfulTerm (parts_with share.heading share.entries)) share.entries under.entry lawful_share.lawful.terms under.among in
        let in_range = is.in_range n position under.has in
        let within = slice_get_within share.heading.rows n in_range.row in_range.numbered in
        let posting = posting_in_whole term (share.heading.first + n) position ((united.merge.merged term (share.heading.first + n) position).1 some) in
        record { document = posting.document; numbered = own_document n within ∙ posting.numbered; entry = posting.entry }

    -- and the other way round
    under_of_own : (term : List ℕ) (n position : ℕ) → HasPosting (piece_of whole share).collection term n position → HasUnder share.entries term n position
    under_of_own term n position posting =
        let documents = part_of share.heading.first (length share.heading.rows) whole.documents in
        let within : n < length share.heading.rows = omega (arith, slice_get_within documents n posting.document posting.numbered, own_counted) in
        let number = share.heading.first + n in
        let in_whole : HasPosting whole term number position = record { document = posting.document; numbered = sym (own_document n within) ∙ posting.numbered; entry = posting.entry } in
        let at = found shares united.whole term number position ((united.merge.merged term number position).0 (under_in_whole term number position in_whole)) in
        let covered = covered_within number share.heading (omega arith) (omega (arith, within)) in
        let same : at.share ≡ share = same_share shares parts.rows united.laid at.share share at.among among number at.covered covered in
        let places : at.place ≡ n = omega (arith, at.shifted, ap (λ (s : Share). s.heading.first) same) in
        let moved = subst (λ (s : Share). HasUnder s.entries term at.place position) same at.under in
        subst (λ k. HasUnder share.entries term k position) places moved

    entry_of_own : (entry : DictionaryEntry) → Contains share.entries entry → IsEntryOf (piece_of whole share).collection entry
    entry_of_own entry here =
        let is = All-contains (IsLawfulTerm (parts_with share.heading share.entries)) share.entries entry lawful_share.lawful.terms here in
        record {
          ordered = is.ordered;
          posted = λ n position. (
            λ has. posting_of_own entry.term n position (under_entry share.entries entry n position here has),
            λ posting.
                let under = under_of_own entry.term n position posting in
                let same = same_entry_of_term share.entries under.entry entry lawful_share.lawful.ascending under.among here under.of_term in
                subst (λ (e : DictionaryEntry). HasPosition e.postings n position) same under.has,
          );
        }

    vocabulary_of_own : IsVocabulary (piece_of whole share).collection (terms_of share.entries)
    vocabulary_of_own = record {
      ascending = lawful_share.lawful.ascending;
      posted = λ term stands.
          let at = entry_of_contained share.entries term stands in
          let here : Contains share.entries at.entry = (at.place, at.within, at.there) in
          let is = All-contains (IsLawfulTerm (parts_with share.heading share.entries)) share.entries at.entry lawful_share.lawful.terms here in
          let (n, (position, has)) = some_position at.entry.postings is.ordered in
          (n, (position, posting_of_own term n position (record { entry = at.entry; among = here; of_term = at.has; has = has })));
      complete = λ term n position posting.
          let under = under_of_own term n position posting in
          subst (λ (t : List ℕ). Contains (terms_of share.entries) t) under.of_term (contains_mapped (λ (e : DictionaryEntry). e.term) share.entries under.entry under.among);
    }

    pub parts_of_own : ArePartsOf (piece_of whole share).collection (parts_with share.heading share.entries)
    parts_of_own = record {
      stop = own_stop;
      rows = sym own_rows;
      vocabulary = vocabulary_of_own;
      entries = λ k d below. entry_of_own (get_or share.entries k d) (Contains-get_or share.entries k d below);
    }

    -- it is the one collection that the share's entries tell
    pub own_lawful : IsLawful (piece_of whole share).collection
    own_lawful =
        let told = has_collection (parts_with share.heading share.entries) lawful_share.lawful in
        subst IsLawful (same_collection (parts_with share.heading share.entries) told.collection (piece_of whole share).collection told.of_collection parts_of_own) told.lawful

  headings_of_pieces : (some : List Share) → ((share : Share) → Contains some share → Contains shares share) → map heading_of_piece (map (piece_of whole) some) ≡ map heading_of_share some
  headings_of_pieces [] inside = refl
  headings_of_pieces (share ∷ some) inside =
      ap₂ (λ (h : Heading) (hs : List Heading). h ∷ hs)
      (own_heading share (inside share (contains_now share some)))
      (headings_of_pieces some (λ other there. inside other (contains_later share some other there)))

  pub pieces_headed : map heading_of_piece (map (piece_of whole) shares) ≡ map heading_of_share shares
  pieces_headed = headings_of_pieces shares (λ share among. among)

  pub concatenated : IsConcatenation (map (piece_of whole) shares) whole
  concatenated =
      let P : List Heading → Type 0 = λ hs. Cover hs (length parts.rows) in
      let Q : ℕ → Type 0 = λ count. Cover (map heading_of_piece (map (piece_of whole) shares)) count in
      record {
        cover = subst Q (sym documents_counted) (subst P (sym pieces_headed) united.laid.cover);
        placed = All-map
            (λ (piece : Piece). (number : ℕ) → number < length piece.collection.documents → slice_get whole.documents (piece.first + number) ≡ slice_get piece.collection.documents number)
            (piece_of whole) shares
            (λ k d within n below.
            let share = get_or shares k d in
            let among = Contains-get_or shares k d within in
            sym (own_document share among n (omega (arith, below, own_counted share among))));
        stop = All-map (λ (piece : Piece). piece.collection.stop ≡ whole.stop) (piece_of whole) shares (λ k d within. refl);
        no_stop = λ none. sym of.stop ∙ united.no_stop (nil_from_length shares (omega (arith, length-map shares (piece_of whole), ap length none)));
      }
