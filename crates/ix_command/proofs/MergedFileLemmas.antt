-- Files that are merged, at their places in a list.
use Rattle.std.proofs.Common.{◌≡◌, ◌∙◌, ◌⊎◌, ℕ, zero, suc, ◌+◌, ◌<◌, ◌≤◌, ◌^◌, List, [], ◌∷◌, ◌++◌, length, map, max, take, get_or, Option, Some, None, All, refl, sym, ap, subst, arith, inl, inr, append_assoc, append-nil}
use Rattle.std.specs.Prelude.{slice_get, option_map}
use Rattle.std.specs.Borrow.{Bor}
use Rattle.std.proofs.Math.Seq.{take-append_seam, take-length}
use Rattle.std.proofs.lemmas.List.{length-map, length-append, length-take, take-append-le}
use Rattle.std.proofs.lemmas.List.Sums.{fold-append}
use Rattle.std.proofs.lemmas.Option.{slice_get-get_or, slice_get-map, slice_get_within}
use Rattle.ix_text.specs.Parts.{ArePartsOf, DictionaryEntry, DocumentRow, row_of}
use Rattle.ix_text.specs.Collections.{Collection}
use Rattle.ix_text.proofs.PartsLawful.{lawful_parts}
use Rattle.ix_text.proofs.PartsLemmas.{same_by_places, same_collection}
use Rattle.ix_file.specs.Opened.{Opened}
use Rattle.ix_file.specs.Sections.{Version}
use Rattle.ix_run.specs.Heads.{Heading, parts_with}
use Rattle.ix_run.specs.RunReaders.{heading_read}
use Rattle.ix_run.specs.RunSources.{HasGiven, HasLeft, SourceValue, heading_shown, unread}
use Rattle.ix_run.specs.RunText.{run_layout}
use Rattle.ix_run.specs.Runs.{run_value}
use Rattle.ix_run.specs.Sources.{IsUnread}
use Rattle.ix_merge.proofs.IndexSources.{index_yields, unread_index}
use Rattle.ix_merge.proofs.Laying.{slice_get_left}
use Rattle.ix_merge.specs.AnySources.{SourceHasGiven, SourceMayYield, heading_of_source}
use Rattle.ix_merge.specs.Pieces.{ArePiecesOf, MayYieldPiece, Piece, heading_of_piece}
use Rattle.ix_merge.specs.declared.any_source.AnySource.{AnySource}
use Rattle.ix_merge.specs.declared.any_source.AnySource.TheVariants as source
use Rattle.ix_files.specs.Reading.{Holding}
use Rattle.ix_command.specs.IndexFiles.{IsIndexHeld}
use Rattle.ix_line.specs.Lines.{texts_of}
use Rattle.ix_command.specs.MergeInputs.{Adds, AreOpened, AreSourcesOf, IsInput, IsNear, IsOpened, IsPart, IsSourceOf, RefusesMore, StandsIn}
use Rattle.ix_command.specs.MergedRuns.{HoldHeadings, HoldPieces, HoldsHead, HoldsHeading, HoldsPiece, IsMerged, IsMergeRefused, RefusesInput, RefusesInputs, RefusesMerge, SavesConcatenation, end_of, greatest_end, unmerged, unread as unread_file}
use Rattle.ix_command.specs.Refusals.{IsUnsaved}
use Rattle.ix_command.specs.declared.commands.merge.inputs.Input.{Input}
use Rattle.ix_command.specs.declared.commands.merge.inputs.Input.TheVariants as input
use Rattle.ix_command.specs.declared.commands.merge.inputs.Inputs.{Inputs}
use Rattle.ix_command.specs.declared.commands.merge.inputs.Part.{Part}
use Rattle.ix_command.specs.declared.commands.merge.inputs.Part.TheVariants as part
use Rattle.ix_ask.specs.declared.refusal.EngineRefusal.TheVariants as engine
use Rattle.ix_command.specs.declared.refusal.Refusal.{Refusal}
use Rattle.ix_command.specs.declared.refusal.Refusal.TheVariants as refusal

-- ---- places in lists

-- an element of a list with one more is one of the list, or the one more
slice_get_push : {X : Type 0} (xs : List X) (x : X) (k : ℕ) (y : X) → slice_get (xs ++ x ∷ []) k ≡ Some y → (slice_get xs k ≡ Some y) ⊎ ((k ≡ length xs) × (x ≡ y))
slice_get_push [] x zero y e = inr (refl, cc)
slice_get_push [] x (suc k) y e = cc
slice_get_push (z ∷ xs) x zero y e = inl e
slice_get_push (z ∷ xs) x (suc k) y e =
    elim (slice_get_push xs x k y e) [ inl before ↦ inl before | inr last ↦ inr (ap suc last.0, last.1) ]

-- the last element
slice_get_last : {X : Type 0} (xs : List X) (x : X) → slice_get (xs ++ x ∷ []) (length xs) ≡ Some x
slice_get_last [] x = refl
slice_get_last (y ∷ xs) x = slice_get_last xs x

-- an element of the front is one of the whole
slice_get_front : {X : Type 0} (n : ℕ) (xs : List X) (k : ℕ) (y : X) → slice_get (take n xs) k ≡ Some y → slice_get xs k ≡ Some y
slice_get_front zero xs k y e = cc
slice_get_front (suc n) [] k y e = cc
slice_get_front (suc n) (x ∷ xs) zero y e = e
slice_get_front (suc n) (x ∷ xs) (suc k) y e = slice_get_front n xs k y e

-- the element at the same place in a list of the same length
at_place : {X Y : Type 0} (xs : List X) (ys : List Y) (k : ℕ) → k < length xs → length xs ≡ length ys → (y : Y) × (slice_get ys k ≡ Some y)
at_place xs [] k below same = absurd (omega (arith, below, same))
at_place xs (y ∷ ys) k below same = (get_or (y ∷ ys) k y, slice_get-get_or (y ∷ ys) k y (omega (arith, below, same)))

-- the end of one more is among the ends
greatest_end-push : (headings : List Heading) (heading : Heading) → greatest_end (headings ++ heading ∷ []) ≡ max (greatest_end headings) (end_of heading)
greatest_end-push headings heading = fold-append (λ (end : ℕ) (h : Heading). max end (end_of h)) 0 headings (heading ∷ [])

-- ---- what was opened

memory_refused : (holds : Holding) (path : List ℕ) (place : ℕ) (told : Refusal) → told ≡ refusal.Engine engine.Memory → RefusesInput holds path place told
memory_refused holds path place told same = subst (RefusesInput holds path place) (sym same) (inl (unread_file tt))

module _ {R : Type 0} (holds : Holding) (remaining : R → Option (List ℕ)) where
  -- a volume more leaves the parts what they are
  part_kept : (path : List ℕ) (volumes : List Opened) (volume : Opened) (before : List Heading) (p : Part R) (heading : Heading) → IsPart holds remaining path volumes before p heading → IsPart holds remaining path (volumes ++ volume ∷ []) before p heading
  part_kept path volumes volume before (part.Run reader) heading is = is
  part_kept path volumes volume before (part.Index first number) heading is = record {
    version = is.version;
    collection = is.collection;
    held = is.held;
    volume = is.volume;
    numbered = slice_get_left volumes (volume ∷ []) number (slice_get_within volumes number is.volume is.numbered) ∙ is.numbered;
    index = is.index;
    behind = is.behind;
    within = is.within;
    headed = is.headed;
  }

  -- the heading of a part is that of the file
  heading_held : (path : List ℕ) (volumes : List Opened) (before : List Heading) (p : Part R) (heading : Heading) → IsPart holds remaining path volumes before p heading → HoldsHeading holds path before heading
  heading_held path volumes before (part.Run reader) heading is = inl (subst (HoldsHead (holds path)) is.1 is.0.head)
  heading_held path volumes before (part.Index first number) heading is =
      let same : heading_of_piece (record { first = first; collection = is.collection }) ≡ heading_shown (run_value first is.volume.parts) =
      ap (λ (stop : List (List ℕ)). record { first = first; stop = stop; rows = map row_of is.collection.documents }) (sym is.index.parts.stop)
      ∙ ap (λ (rows : List DocumentRow). record { first = first; stop = is.volume.parts.stop; rows = rows }) (sym is.index.parts.rows) in
      inr (record {
        piece = record { first = first; collection = is.collection };
        index = record { version = is.version; held = is.held; behind = is.behind };
        headed = same ∙ is.headed;
      })

  module _ (paths : List (List ℕ)) where
    pub opened_none : (inputs : Inputs R) → inputs.parts.items ≡ [] → inputs.end ≡ 0 → AreOpened holds remaining paths inputs 0
    opened_none inputs none end = record {
      headings = [];
      as_many = ap (λ (ps : List (Part R)). length ps) none;
      headed = refl;
      end = end;
      near = omega (arith, end);
      each = λ place path p heading at there headed. cc;
    }

    opened_push : (old new : Inputs R) (count : ℕ) (p : Part R) (h : Heading) (path : List ℕ) → slice_get paths count ≡ Some path → (so_far : AreOpened holds remaining paths old count)
        → new.parts.items ≡ old.parts.items ++ p ∷ [] → new.end ≡ max old.end (end_of h) → new.end ≤ 2 ^ 28
        → ((path' : List ℕ) (before : List Heading) (q : Part R) (heading : Heading) → IsPart holds remaining path' old.volumes.items before q heading → IsPart holds remaining path' new.volumes.items before q heading)
        → IsPart holds remaining path new.volumes.items so_far.headings p h → AreOpened holds remaining paths new (count + 1)
    opened_push old new count p h path at so_far parts end near kept is =
        let hs = so_far.headings in
        record {
          headings = hs ++ h ∷ [];
          as_many = ap (λ (ps : List (Part R)). length ps) parts ∙ omega (arith, length-append old.parts.items (p ∷ []), so_far.as_many);
          headed = omega (arith, length-append hs (h ∷ []), so_far.headed);
          end = end ∙ ap (λ (e : ℕ). max e (end_of h)) so_far.end ∙ sym (greatest_end-push hs h);
          near = near;
          each = λ place other q heading found there headed.
              elim (slice_get_push old.parts.items p place q (sym (ap (λ (ps : List (Part R)). slice_get ps place) parts) ∙ there)) [
                | inl before ↦
                    let within : place < length hs = omega (arith, slice_get_within old.parts.items place q before, so_far.as_many, so_far.headed) in
                    let front = take-append-le place hs (h ∷ []) (omega (arith, within)) in
                    let old_heading = sym (slice_get_left hs (h ∷ []) place within) ∙ headed in
                    subst (λ (hs' : List Heading). IsPart holds remaining other new.volumes.items hs' q heading) (sym front)
                    (kept other (take place hs) q heading (so_far.each place other q heading found before old_heading))
                | inr last ↦
                    let here : place ≡ length hs = omega (arith, last.0, so_far.as_many, so_far.headed) in
                    let at_count : place ≡ count = omega (arith, last.0, so_far.as_many) in
                    let same_path : Some path ≡ Some other = sym at ∙ ap (slice_get paths) (sym at_count) ∙ found in
                    let path_is : path ≡ other = cc in
                    let same_heading : Some h ≡ Some heading = sym (slice_get_last hs h) ∙ ap (slice_get (hs ++ h ∷ [])) (sym here) ∙ headed in
                    let heading_is : h ≡ heading = cc in
                    let front : take place (hs ++ h ∷ []) ≡ hs = ap (λ (n : ℕ). take n (hs ++ h ∷ [])) here ∙ take-append_seam hs (h ∷ []) in
                    subst (λ (hs' : List Heading). IsPart holds remaining other new.volumes.items hs' q heading) (sym front)
                    (subst (λ (q' : Part R). IsPart holds remaining other new.volumes.items hs q' heading) last.1
                    (subst (λ (g : Heading). IsPart holds remaining other new.volumes.items hs p g) heading_is
                    (subst (λ (path' : List ℕ). IsPart holds remaining path' new.volumes.items hs p h) path_is is)))
              ];
        }

    pub opened_more : (old new : Inputs R) (count : ℕ) (i : Input R) (path : List ℕ) → slice_get paths count ≡ Some path → IsInput holds remaining path i → Adds old new i → AreOpened holds remaining paths old count
        → AreOpened holds remaining paths new (count + 1)
    opened_more old new count (input.Run reader) path at is adds so_far =
        opened_push old new count (part.Run reader) (heading_read reader) path at so_far adds.0 adds.2
        (omega (arith, adds.2, so_far.near, is.head.lawful.few_documents))
        (λ path' before q heading kept. subst (λ (vs : List Opened). IsPart holds remaining path' vs before q heading) (sym adds.1) kept)
        (is, refl)
    opened_more old new count (input.Index volume) path at is adds so_far =
        let vs = old.volumes.items in
        let here : slice_get new.volumes.items (length vs) ≡ Some volume = ap (λ (ws : List Opened). slice_get ws (length vs)) adds.1 ∙ slice_get_last vs volume in
        let end : new.end ≡ max old.end (old.end + length volume.parts.rows) = omega (arith, adds.2) in
        opened_push old new count (part.Index old.end (length vs)) (heading_shown (run_value old.end volume.parts)) path at so_far adds.0 end adds.3
        (λ path' before q heading kept. subst (λ (ws : List Opened). IsPart holds remaining path' ws before q heading) (sym adds.1) (part_kept path' vs volume before q heading kept))
        (record {
          version = is.version;
          collection = is.collection;
          held = is.held;
          volume = volume;
          numbered = here;
          index = is.index;
          behind = so_far.end;
          within = omega (arith, adds.2, adds.3);
          headed = refl;
        })

    -- the files so far hold the headings so far
    pub headings_so_far : (inputs : Inputs R) (count : ℕ) (so_far : AreOpened holds remaining paths inputs count) → count ≤ length paths → HoldHeadings holds (take count paths) so_far.headings
    headings_so_far inputs count so_far few = record {
      as_many = omega (arith, so_far.headed, length-take count paths);
      each = λ place path heading at there.
          let within : place < length so_far.headings = slice_get_within so_far.headings place heading there in
          let p = at_place so_far.headings inputs.parts.items place within (so_far.headed ∙ sym so_far.as_many) in
          heading_held path inputs.volumes.items (take place so_far.headings) p.0 heading (so_far.each place path p.0 heading (slice_get_front count paths place path at) p.1 there);
    }

    -- documents of a run in a file have numbers below 2^28
    pub input_near : (count : ℕ) (i : Input R) (path : List ℕ) → slice_get paths count ≡ Some path → IsInput holds remaining path i → IsNear i
    input_near count (input.Run reader) path at is = is.head.lawful.few_documents
    input_near count (input.Index volume) path at is = tt

    -- why one more file was not added
    pub refused_more : (inputs : Inputs R) (count : ℕ) (so_far : AreOpened holds remaining paths inputs count) (i : Input R) (path : List ℕ) (told : Refusal) → slice_get paths count ≡ Some path
        → IsInput holds remaining path i → RefusesMore inputs.end count i told → RefusesInputs holds paths told
    refused_more inputs count so_far (input.Run reader) path told at is refuses = record {
      place = count;
      path = path;
      at_place = at;
      refuses = inl (memory_refused holds path count told refuses);
    }
    refused_more inputs count so_far (input.Index volume) path told at is refuses = record {
      place = count;
      path = path;
      at_place = at;
      refuses = elim refuses [
        | inl memory ↦ inl (memory_refused holds path count told memory)
        | inr many ↦
            let size = ap (λ (rows : List DocumentRow). length rows) is.index.parts.rows in
            inr (record {
              before = so_far.headings;
              held = headings_so_far inputs count so_far (omega (arith, slice_get_within paths count path at));
              piece = record { first = inputs.end; collection = is.collection };
              index = record { version = is.version; held = is.held; behind = so_far.end };
              many = omega (arith, many.0, size);
              is = many.1;
            })
      ];
    }

-- ---- sources

-- The source is that of the index in the file of this path, whose documents stand behind those before.
record IsIndexSource (holds : Holding) (path : List ℕ) (before : List Heading) (index : SourceValue) : Type 0 where
  version : Version
  collection : Collection
  held : IsIndexHeld holds path version collection
  behind : index.heading.first ≡ greatest_end before
  unread : HasGiven index [] None
  yielded : (entries : List DictionaryEntry) → HasLeft index [] entries → ArePartsOf collection (parts_with index.heading entries)

module _ {R : Type 0} (holds : Holding) (remaining : R → Option (List ℕ)) where
  -- the source is that of the file of this path
  abbrev IsSource : List ℕ → List Heading → AnySource R → Type 0
  IsSource path before (source.Run reader) = IsOpened (holds path) remaining reader
  IsSource path before (source.Index index) = IsIndexSource holds path before index

  source_made : (path : List ℕ) (volumes : List Opened) (before : List Heading) (p : Part R) (heading : Heading) (made : AnySource R) → IsPart holds remaining path volumes before p heading → IsSourceOf volumes p made
      → IsSource path before made × (heading_of_source made ≡ heading)
  source_made path volumes before (part.Run reader) heading made is of =
      subst (λ (s : AnySource R). IsSource path before s × (heading_of_source s ≡ heading)) (sym of) is
  source_made path volumes before (part.Index first number) heading made is of =
      let same : is.volume ≡ of.0 = cc (is.numbered, of.1) in
      let made_is : made ≡ source.Index (unread (run_value first is.volume.parts)) = of.2 ∙ ap (λ (v : Opened). source.Index (unread (run_value first v.parts))) (sym same) in
      let lawful = lawful_parts is.collection is.volume.parts is.index.lawful is.index.parts in
      subst (λ (s : AnySource R). IsSource path before s × (heading_of_source s ≡ heading)) (sym made_is) (
        record {
          version = is.version;
          collection = is.collection;
          held = is.held;
          behind = is.behind;
          unread = unread_index first is.volume.parts lawful is.within;
          yielded = index_yields first is.volume.parts lawful is.collection is.index.parts;
        },
        is.headed,
      )

  source_unread : (path : List ℕ) (before : List Heading) (made : AnySource R) → IsSource path before made → IsUnread SourceHasGiven made
  source_unread path before (source.Run reader) is = is.unread
  source_unread path before (source.Index index) is = is.unread

  -- what a source may yield is what its file holds
  piece_held : (path : List ℕ) (before : List Heading) (made : AnySource R) (piece : Piece) → IsSource path before made → MayYieldPiece (SourceMayYield remaining) heading_of_source made piece → HoldsPiece holds path before piece
  piece_held path before (source.Run reader) piece is may =
      let rows : map row_of piece.collection.documents ≡ (heading_read reader).rows = ap (λ (h : Heading). h.rows) may.headed in
      let from : piece.first ≡ (heading_read reader).first = ap (λ (h : Heading). h.first) may.headed in
      let parts = parts_with (heading_read reader) may.entries in
      inl (record {
        run = run_layout (heading_read reader).first parts;
        held = is.yielded may.entries may.yielded;
        spelled = record {
          lawful = may.lawful;
          within = omega (arith, is.head.lawful.few_documents, from, ap length rows, length-map piece.collection.documents row_of);
          parts = parts;
          of_collection = may.of_collection;
          spelled = ap (λ (n : ℕ). run_layout n parts) (sym from);
        };
      })
  piece_held path before (source.Index index) piece is may =
      let same : is.collection ≡ piece.collection =
      same_collection (parts_with index.heading may.entries) is.collection piece.collection (is.yielded may.entries may.yielded) may.of_collection in
      inr (record {
        version = is.version;
        held = subst (λ (c : Collection). IsIndexHeld holds path is.version c) same is.held;
        behind = ap (λ (h : Heading). h.first) may.headed ∙ is.behind;
      })

  module _ (paths : List (List ℕ)) (inputs : Inputs R) (opened : AreOpened holds remaining paths inputs (length paths)) (sources : List (AnySource R))
      (made : AreSourcesOf inputs.volumes.items inputs.parts.items sources) where
    -- the source at a place is that of the file there
    record MadeAt (place : ℕ) (path : List ℕ) (s : AnySource R) : Type 0 where
      heading : Heading
      at_place : slice_get opened.headings place ≡ Some heading
      is : IsSource path (take place opened.headings) s
      headed : heading_of_source s ≡ heading

    made_at : (place : ℕ) (path : List ℕ) (s : AnySource R) → slice_get paths place ≡ Some path → slice_get sources place ≡ Some s → MadeAt place path s
    made_at place path s found there =
        let within : place < length sources = slice_get_within sources place s there in
        let p = at_place sources inputs.parts.items place within made.as_many in
        let heading = at_place sources opened.headings place within (made.as_many ∙ opened.as_many ∙ sym opened.headed) in
        let both = source_made path inputs.volumes.items (take place opened.headings) p.0 heading.0 s (opened.each place path p.0 heading.0 found p.1 heading.1) (made.each place p.0 s p.1 there) in
        record { heading = heading.0; at_place = heading.1; is = both.0; headed = both.1 }

    path_of : (place : ℕ) → place < length sources → (path : List ℕ) × (slice_get paths place ≡ Some path)
    path_of place within = at_place sources paths place within (made.as_many ∙ opened.as_many)

    pub all_unread : All (IsUnread SourceHasGiven) sources
    all_unread = λ k d below.
        let path = path_of k below in
        source_unread path.0 _ (get_or sources k d) (made_at k path.0 (get_or sources k d) path.1 (slice_get-get_or sources k d below)).is

    sources_headed : map heading_of_source sources ≡ opened.headings
    sources_headed =
        same_by_places (map heading_of_source sources) opened.headings (length-map sources heading_of_source ∙ made.as_many ∙ opened.as_many ∙ sym opened.headed)
        (λ place heading at. go place heading (slice_get sources place) refl (sym (slice_get-map heading_of_source sources place) ∙ at))
      where
        go : (place : ℕ) (heading : Heading) (o : Option (AnySource R)) → slice_get sources place ≡ o → option_map heading_of_source o ≡ Some heading → slice_get opened.headings place ≡ Some heading
        go place heading None is e = cc
        go place heading (Some s) is e =
            let path = path_of place (slice_get_within sources place s is) in
            let at = made_at place path.0 s path.1 is in
            let same : heading_of_source s ≡ heading = cc in
            at.at_place ∙ ap Some (sym at.headed ∙ same)

    pub headings_held : HoldHeadings holds paths (map heading_of_source sources)
    headings_held =
        subst (HoldHeadings holds paths) (sym sources_headed)
        (subst (λ (ps : List (List ℕ)). HoldHeadings holds ps opened.headings) (take-length paths) (headings_so_far holds remaining paths inputs (length paths) opened (omega arith)))

    module _ (pieces : List Piece) (are : ArePiecesOf (SourceMayYield remaining) heading_of_source sources pieces) where
      pieces_headed : map heading_of_piece pieces ≡ map heading_of_source sources
      pieces_headed =
          same_by_places (map heading_of_piece pieces) (map heading_of_source sources) (length-map pieces heading_of_piece ∙ are.as_many ∙ sym (length-map sources heading_of_source))
          (λ place heading at. go place heading (slice_get pieces place) refl (sym (slice_get-map heading_of_piece pieces place) ∙ at))
        where
          go : (place : ℕ) (heading : Heading) (o : Option Piece) → slice_get pieces place ≡ o → option_map heading_of_piece o ≡ Some heading → slice_get (map heading_of_source sources) place ≡ Some heading
          go place heading None is e = cc
          go place heading (Some piece) is e =
              let s = at_place pieces sources place (slice_get_within pieces place piece is) are.as_many in
              let same : heading_of_piece piece ≡ heading = cc in
              slice_get-map heading_of_source sources place ∙ ap (option_map heading_of_source) s.1 ∙ ap Some (sym (are.each place s.0 piece s.1 is).headed ∙ same)

      pieces_held : HoldPieces holds paths pieces
      pieces_held = record {
        as_many = are.as_many ∙ made.as_many ∙ opened.as_many;
        each = λ place path piece found there.
            let s = at_place pieces sources place (slice_get_within pieces place piece there) are.as_many in
            let held = piece_held path (take place opened.headings) s.0 piece (made_at place path s.0 found s.1).is (are.each place s.0 piece s.1 there) in
            subst (λ (hs : List Heading). HoldsPiece holds path (take place hs) piece) (sym (pieces_headed ∙ sources_headed)) held;
      }

    pub merged : (saves : Holding) (output : List ℕ) → SavesConcatenation (SourceMayYield remaining) heading_of_source sources saves output → IsMerged holds saves paths output
    merged saves output saved = record {
      pieces = saved.pieces;
      held = pieces_held saved.pieces saved.yielded;
      whole = saved.whole;
      concatenation = saved.concatenation;
      saved = saved.saved;
    }

-- each part has its index among those of the volumes
pub all_stand : {R : Type 0} (holds : Holding) (remaining : R → Option (List ℕ)) (paths : List (List ℕ)) (inputs : Inputs R) → AreOpened holds remaining paths inputs (length paths) → All (StandsIn inputs.volumes.items) inputs.parts.items
all_stand {R} holds remaining paths inputs opened = λ k d below.
    let within : k < length paths = omega (arith, below, opened.as_many) in
    let path = at_place paths paths k within refl in
    let heading = at_place paths opened.headings k within (sym opened.headed) in
    stands path.0 (take k opened.headings) (get_or inputs.parts.items k d) heading.0 (opened.each k path.0 (get_or inputs.parts.items k d) heading.0 path.1 (slice_get-get_or inputs.parts.items k d below) heading.1)
  where
    stands : (path : List ℕ) (before : List Heading) (p : Part R) (heading : Heading) → IsPart holds remaining path inputs.volumes.items before p heading → StandsIn inputs.volumes.items p
    stands path before (part.Run reader) heading is = tt
    stands path before (part.Index first number) heading is = (is.volume, is.numbered, is.within)

-- a file that was not saved
pub refuses_unsaved : (headings : List Heading) (path : List ℕ) (told : Refusal) → IsUnsaved path told → RefusesMerge headings path told
refuses_unsaved headings path (refusal.Engine (engine.Merge error)) is = absurd is
refuses_unsaved headings path told is = is

-- the path at a place of a list that is passed
pub path_at : (paths : List (Bor (List ℕ))) (k : ℕ) (d : Bor (List ℕ)) → k < length paths → slice_get (texts_of paths) k ≡ Some (get_or paths k d).now
path_at paths k d below = slice_get-map (λ (word : Bor (List ℕ)). word.now) paths k ∙ ap (option_map (λ (word : Bor (List ℕ)). word.now)) (slice_get-get_or paths k d below)

-- the source of the index of a number
pub source_of_index : {R : Type 0} (indexes : List Opened) (p : Part R) (first number : ℕ) (index : Opened) (value : SourceValue) → p ≡ part.Index first number → index ≡ get_or indexes number index → StandsIn indexes p
    → value ≡ unread (run_value first index.parts) → IsSourceOf indexes p (source.Index value)
source_of_index {R} indexes p first number index value is at stands made =
    let there : StandsIn {R = R} indexes (part.Index first number) = subst (λ (q : Part R). StandsIn indexes q) is stands in
    let below : number < length indexes = slice_get_within indexes number there.0 there.1 in
    subst (λ (q : Part R). IsSourceOf indexes q (source.Index value)) (sym is) (index, slice_get-get_or indexes number index below ∙ ap Some (sym at), ap source.Index made)

-- ---- sources, one after the other

-- The sources so far are those of the parts that were taken, and these are left.
pub record MadeSoFar {R : Type 0} (indexes : List Opened) (parts left : List (Part R)) (sources : List (AnySource R)) : Type 0 where
  pub taken : List (Part R)
  pub whole : parts ≡ taken ++ left
  pub made : AreSourcesOf indexes taken sources

pub made_none : {R : Type 0} (indexes : List Opened) (parts left : List (Part R)) (sources : List (AnySource R)) → parts ≡ left → sources ≡ [] → MadeSoFar indexes parts left sources
made_none indexes parts left sources all none = record {
  taken = [];
  whole = all;
  made = record {
    as_many = ap length none;
    each = λ place p s at there. cc;
  };
}

pub made_more : {R : Type 0} (indexes : List Opened) (parts left rest : List (Part R)) (sources : List (AnySource R)) (p : Part R) (s : AnySource R) → left ≡ p ∷ rest → IsSourceOf indexes p s → MadeSoFar indexes parts left sources
    → MadeSoFar indexes parts rest (sources ++ s ∷ [])
made_more {R} indexes parts left rest sources p s one is so_far =
    let taken = so_far.taken in
    record {
      taken = taken ++ p ∷ [];
      whole = so_far.whole ∙ ap (λ (l : List (Part R)). taken ++ l) one ∙ sym (append_assoc taken (p ∷ []) rest);
      made = record {
        as_many = omega (arith, length-append sources (s ∷ []), length-append taken (p ∷ []), so_far.made.as_many);
        each = λ place q t found there.
            elim (slice_get_push taken p place q found) [
              | inl before ↦
                  let within : place < length taken = slice_get_within taken place q before in
                  let below : place < length sources = omega (arith, within, so_far.made.as_many) in
                  so_far.made.each place q t before (sym (slice_get_left sources (s ∷ []) place below) ∙ there)
              | inr last ↦
                  let here : place ≡ length sources = omega (arith, last.0, so_far.made.as_many) in
                  let same : Some s ≡ Some t = sym (slice_get_last sources s) ∙ ap (slice_get (sources ++ s ∷ [])) (sym here) ∙ there in
                  let source_is : s ≡ t = cc in
                  subst (λ (q' : Part R). IsSourceOf indexes q' t) last.1 (subst (λ (t' : AnySource R). IsSourceOf indexes p t') source_is is)
            ];
      };
    }

pub made_all : {R : Type 0} (indexes : List Opened) (parts left : List (Part R)) (sources : List (AnySource R)) → length left ≡ 0 → MadeSoFar indexes parts left sources → AreSourcesOf indexes parts sources
made_all {R} indexes parts [] sources none so_far =
    let whole : parts ≡ so_far.taken = so_far.whole ∙ append-nil so_far.taken in
    subst (λ (ps : List (Part R)). AreSourcesOf indexes ps sources) (sym whole) so_far.made
made_all indexes parts (p ∷ left) sources none so_far = absurd (omega (arith, none))

-- what holds of all holds of one in the middle
all_middle : {X : Type 0} (P : X → Type 0) (xs : List X) (x : X) (rest : List X) → All P (xs ++ x ∷ rest) → P x
all_middle P [] x rest all = all 0 x (omega arith)
all_middle P (y ∷ xs) x rest all = all_middle P xs x rest (λ k d below. all (suc k) d (omega (arith, below)))

pub next_stands : {R : Type 0} (indexes : List Opened) (parts left rest : List (Part R)) (sources : List (AnySource R)) (p : Part R) → left ≡ p ∷ rest → All (StandsIn indexes) parts → MadeSoFar indexes parts left sources
    → StandsIn indexes p
next_stands {R} indexes parts left rest sources p one all so_far =
    let whole : parts ≡ so_far.taken ++ p ∷ rest = so_far.whole ∙ ap (λ (l : List (Part R)). so_far.taken ++ l) one in
    all_middle (StandsIn indexes) so_far.taken p rest (subst (All (StandsIn indexes)) whole all)

-- want of memory for the sources
pub sources_without_memory : {R : Type 0} (holds : Holding) (remaining : R → Option (List ℕ)) (paths : List (List ℕ)) (inputs : Inputs R) (output : List ℕ) → AreOpened holds remaining paths inputs (length paths)
    → IsMergeRefused holds paths output (refusal.Engine engine.Memory)
sources_without_memory holds remaining paths inputs output opened =
    let held = subst (λ (ps : List (List ℕ)). HoldHeadings holds ps opened.headings) (take-length paths) (headings_so_far holds remaining paths inputs (length paths) opened (omega arith)) in
    unmerged opened.headings held tt

-- as many files were opened as there are texts of the words
pub all_opened : {R : Type 0} (holds : Holding) (remaining : R → Option (List ℕ)) (words : List (Bor (List ℕ))) (inputs : Inputs R) → AreOpened holds remaining (texts_of words) inputs (length words)
    → AreOpened holds remaining (texts_of words) inputs (length (texts_of words))
all_opened holds remaining words inputs opened =
    subst (λ (n : ℕ). AreOpened holds remaining (texts_of words) inputs n) (sym (length-map words (λ (word : Bor (List ℕ)). word.now))) opened
