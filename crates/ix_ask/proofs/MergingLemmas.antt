-- Run texts at their places in a list, their readers, and what a merge of these writes.
use Rattle.std.proofs.Common.{◌≡◌, ◌∙◌, ◌⊎◌, ℕ, zero, suc, ◌+◌, ◌<◌, ◌≤◌, List, [], ◌∷◌, ◌++◌, length, map, get_or, Option, Some, None, Result, Ok, Err, MatchResult, IfOk, IfErr, All, refl, sym, ap, subst, arith, inl, inr}
use Rattle.std.specs.Prelude.{slice_get, option_map}
use Rattle.std.specs.Borrow.{Bor}
use Rattle.std.specs.Io.KnownBytes.{Consumes}
use Rattle.std.proofs.lemmas.List.{length-map, length-append}
use Rattle.std.proofs.lemmas.Option.{slice_get-get_or, slice_get-map, slice_get_within}
use Rattle.ix_text.specs.Parts.{DictionaryEntry, row_of}
use Rattle.ix_file.specs.IndexText.{IsIndexText}
use Rattle.ix_file.specs.Sections.{FrontCoded}
use Rattle.ix_run.specs.Heads.{Heading, IsLawfulHeading, parts_with}
use Rattle.ix_run.specs.Reading.{HasRead, MayYield}
use Rattle.ix_run.specs.RunReaders.{heading_read}
use Rattle.ix_run.specs.RunText.{IsRunText, heading_bytes, run_layout}
use Rattle.ix_run.specs.RunTextErrors.{IsRefusal}
use Rattle.ix_run.specs.Sources.{AreWhole, IsUnread}
use Rattle.ix_run.specs.RunReader.{RunReader}
use Rattle.ix_run.specs.RunTextError.{RunTextError}
use Rattle.ix_run.specs.RunTextError.TheVariants as run_text_error
use Rattle.ix_merge.specs.Pieces.{ArePiecesOf, MayYieldPiece, Piece, WritesConcatenation}
use Rattle.ix_ask.specs.Merging.{AreBegun, AreReading, AreRunTexts, BeginsRun, IsMergeOf, IsReading, RefusesHead, left_in, texts_behind}

abbrev Reader : Type 0
Reader = RunReader (Bor (List ℕ))

-- ---- one run text

-- an error of a head says that memory was refused, or it does not
is_other_or_not : (error : RunTextError) → IsRefusal error ⊎ ¬ (IsRefusal error)
is_other_or_not run_text_error.Read = inl tt
is_other_or_not run_text_error.Memory = inl tt
is_other_or_not _ = inr (λ wrong. wrong)

-- a reader that was opened stands at the front of its text
pub reading : (run : List ℕ) (result : Result Reader RunTextError) (left : Reader → Option (List ℕ))
    → IfOk result (λ reader. Consumes (Some run) (left reader) (heading_bytes (heading_read reader)))
    → IfOk result (λ reader. IsLawfulHeading (heading_read reader)) → IfOk result (λ reader. IsUnread HasRead reader)
    → ((bytes : List ℕ) (entries : List DictionaryEntry) → Some run ≡ Some bytes → IfOk result (λ reader. MayYield left_in reader [] entries
    → (bytes ≡ run_layout (heading_read reader).first (parts_with (heading_read reader) entries)) × AreWhole (heading_read reader) entries))
    → IfOk result (IsReading run)
reading run (Err error) left taken lawful unread yields = tt
reading run (Ok reader) left taken lawful unread yields = record {
  unread = unread;
  head = front (left reader) taken;
  yielded = λ entries may. (yields run entries refl may).0;
}
  where
    front : (rest : Option (List ℕ)) → Consumes (Some run) rest (heading_bytes (heading_read reader)) → BeginsRun run (heading_read reader)
    front None consumes = absurd consumes
    front (Some rest) consumes = record { rest = rest; begins = consumes; lawful = lawful }

-- a head that was refused is none, or memory was refused
pub refused : {T : Type 0} (P : T → Heading → List ℕ → Type 0) (run : List ℕ) (result : Result T RunTextError)
    → ((heading : Heading) (rest : List ℕ) → IsLawfulHeading heading → Some run ≡ Some (heading_bytes heading ++ rest) → MatchResult result (λ value. P value heading rest) IsRefusal)
    → IfErr result (RefusesHead run)
refused P run (Ok value) accepted = tt
refused P run (Err error) accepted =
    elim (is_other_or_not error) [
      | inl other ↦ inl other
      | inr fault ↦ inr (λ heading begun. fault (accepted heading begun.rest begun.lawful (ap Some begun.begins)))
    ]

-- ---- lists of them

-- an element of a list with one more is one of the list, or the one more
slice_get_push : {X : Type 0} (xs : List X) (x : X) (k : ℕ) (y : X) → slice_get (xs ++ x ∷ []) k ≡ Some y → (slice_get xs k ≡ Some y) ⊎ ((k ≡ length xs) × (x ≡ y))
slice_get_push [] x zero y e = inr (refl, cc)
slice_get_push [] x (suc k) y e = cc
slice_get_push (z ∷ xs) x zero y e = inl e
slice_get_push (z ∷ xs) x (suc k) y e =
    elim (slice_get_push xs x k y e) [ inl before ↦ inl before | inr last ↦ inr (ap suc last.0, last.1) ]

-- the element at the same place in a list of the same length
at_place : {X Y : Type 0} (xs : List X) (ys : List Y) (k : ℕ) → k < length xs → length xs ≡ length ys → (y : Y) × (slice_get ys k ≡ Some y)
at_place xs [] k below same = absurd (omega (arith, below, same))
at_place xs (y ∷ ys) k below same = (get_or (y ∷ ys) k y, slice_get-get_or (y ∷ ys) k y (omega (arith, below, same)))

-- the text behind the reference at a place
pub text_at : (runs : List (Bor (List ℕ))) (k : ℕ) (d : Bor (List ℕ)) → k < length runs → slice_get (texts_behind runs) k ≡ Some (get_or runs k d).now
text_at runs k d below = slice_get-map (λ (text : Bor (List ℕ)). text.now) runs k ∙ ap (option_map (λ (text : Bor (List ℕ)). text.now)) (slice_get-get_or runs k d below)

module _ (runs : List (List ℕ)) where
  -- readers of the first so many of the texts
  pub record AreReadingSoFar (readers : List Reader) (count : ℕ) : Type 0 where
    pub as_many : length readers ≡ count
    pub each : (place : ℕ) (run : List ℕ) (reader : Reader) → slice_get runs place ≡ Some run → slice_get readers place ≡ Some reader → IsReading run reader

  pub reading_more : (readers : List Reader) (count : ℕ) (reader : Reader) (run : List ℕ) → slice_get runs count ≡ Some run → IsReading run reader
      → AreReadingSoFar readers count → AreReadingSoFar (readers ++ reader ∷ []) (count + 1)
  reading_more readers count reader run at is so_far = record {
    as_many = omega (arith, length-append readers (reader ∷ []), so_far.as_many);
    each = λ place other next found there. elim (slice_get_push readers reader place next there) [
      | inl before ↦ so_far.each place other next found before
      | inr last ↦
          let same : Some run ≡ Some other = sym at ∙ ap (slice_get runs) (sym (last.0 ∙ so_far.as_many)) ∙ found in
          let run_is : run ≡ other = cc in
          subst (λ (r : Reader). IsReading other r) last.1 (subst (λ (text : List ℕ). IsReading text reader) run_is is)
    ];
  }

  pub reading_all : (readers : List Reader) (count : ℕ) → count ≡ length runs → AreReadingSoFar readers count → AreReading runs readers
  reading_all readers count whole all = record { as_many = all.as_many ∙ whole; each = all.each }

  module _ (readers : List Reader) (are : AreReading runs readers) where
    pub all_unread : All (IsUnread HasRead) readers
    all_unread = λ k d below.
        let run = at_place readers runs k below are.as_many in
        (are.each k run.0 (get_or readers k d) run.1 (slice_get-get_or readers k d below)).unread

    pub all_begun : AreBegun runs (map heading_read readers)
    all_begun = record {
      as_many = length-map readers heading_read ∙ are.as_many;
      each = λ place run heading at there. go place run heading at (slice_get readers place) refl (sym (slice_get-map heading_read readers place) ∙ there);
    }
      where
        go : (place : ℕ) (run : List ℕ) (heading : Heading) → slice_get runs place ≡ Some run → (o : Option Reader) → slice_get readers place ≡ o → option_map heading_read o ≡ Some heading
            → BeginsRun run heading
        go place run heading at None is e = cc
        go place run heading at (Some reader) is e =
            let same : heading_read reader ≡ heading = cc in
            subst (BeginsRun run) same (are.each place run reader at is).head

    -- what a reader may yield is what its text spells
    piece_of : (run : List ℕ) (reader : Reader) (piece : Piece) → IsReading run reader → MayYieldPiece (MayYield left_in) heading_read reader piece → IsRunText piece.first piece.collection run
    piece_of run reader piece is may =
        let rows : map row_of piece.collection.documents ≡ (heading_read reader).rows = ap (λ (h : Heading). h.rows) may.headed in
        let from : piece.first ≡ (heading_read reader).first = ap (λ (h : Heading). h.first) may.headed in
        let parts = parts_with (heading_read reader) may.entries in
        record {
          lawful = may.lawful;
          within = omega (arith, is.head.lawful.few_documents, from, ap length rows, length-map piece.collection.documents row_of);
          parts = parts;
          of_collection = may.of_collection;
          spelled = is.yielded may.entries may.yielded ∙ ap (λ (n : ℕ). run_layout n parts) (sym from);
        }

    pieces_of : (pieces : List Piece) → ArePiecesOf (MayYield left_in) heading_read readers pieces → AreRunTexts runs pieces
    pieces_of pieces of_readers = record {
      as_many = of_readers.as_many ∙ are.as_many;
      each = λ place run piece at there.
          let within : place < length pieces = slice_get_within pieces place piece there in
          let reader = at_place pieces readers place within of_readers.as_many in
          piece_of run reader.0 piece (are.each place run reader.0 at reader.1) (of_readers.each place reader.0 piece reader.1 there);
    }

    -- what the merge of the readers wrote into an empty vector
    pub merged : (before now : List ℕ) → before ≡ [] → WritesConcatenation (MayYield left_in) heading_read readers (Some before) (Some now) → IsMergeOf runs now
    merged before now empty writes = record {
      pieces = writes.pieces;
      of_runs = pieces_of writes.pieces writes.yielded;
      whole = writes.whole;
      concatenation = writes.concatenation;
      spelled = subst (IsIndexText FrontCoded writes.whole) (sym (writes.written.written ∙ ap (λ (bytes : List ℕ). bytes ++ writes.written.text) empty)) writes.written.of_collection;
    }

pub reading_every : (runs : List (Bor (List ℕ))) (readers : List Reader) (count : ℕ) → length runs ≤ count → count ≤ length runs
    → AreReadingSoFar (texts_behind runs) readers count → AreReading (texts_behind runs) readers
reading_every runs readers count low high =
    reading_all (texts_behind runs) readers count (omega (arith, low, high, length-map runs (λ (text : Bor (List ℕ)). text.now)))
