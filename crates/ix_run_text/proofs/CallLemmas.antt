-- What calls say one by one, over all of them.
use Rattle.std.proofs.Common.{◌≡◌, ℕ, ◌+◌, List, [], ◌∷◌, length, Option, inl, inr, sym, ap, subst, arith}
use Rattle.std.proofs.lemmas.List.{length-map}
use Rattle.ix_text.specs.Collections.{Collection}
use Rattle.ix_text.specs.Parts.{DictionaryEntry, Posting, row_of}
use Rattle.ix_text.proofs.CollectionTold.{has_collection}
use Rattle.ix_run_text.specs.Calls.{CallBegins, CallEnds, CallStays, CallsLead, IsOpened}
use Rattle.ix_run_text.specs.Heads.{parts_with}
use Rattle.ix_run_text.specs.Reading.{Faces, MayYield}
use Rattle.ix_run_text.specs.RunReaders.{heading_read}
use Rattle.ix_run_text.specs.RunText.{IsRunText, run_layout}
use Rattle.ix_run_text.specs.Sources.{AreWhole, entry_with}
use Rattle.ix_run_text.specs.declared.run_reader.RunReader.{RunReader}
use Rattle.ix_run_text.proofs.ReadSteps.{no_entry}

-- something may be yielded
abbrev YieldsSome : {R : Type 0} → (R → Option (List ℕ)) → RunReader R → Type 0
YieldsSome remaining reader = (postings : List Posting) × (entries : List DictionaryEntry) × MayYield remaining reader postings entries

-- something lies ahead, with so many terms begun
abbrev FacesSome : {R : Type 0} → (R → Option (List ℕ)) → RunReader R → ℕ → ℕ → Type 0
FacesSome remaining reader terms all = (postings : List Posting) × (ahead : List DictionaryEntry) × Faces remaining reader postings ahead × (terms + length ahead ≡ all)

module _ {R : Type 0} (remaining : R → Option (List ℕ)) where
  begun_before : (old new : RunReader R) → CallBegins remaining old new → YieldsSome remaining new → YieldsSome remaining old
  begun_before old new call (postings, entries, may) = (call.begun.skipped, entry_with call.term postings ∷ entries, call.begun.yielded postings entries may)

  stayed_before : (old new : RunReader R) → CallStays remaining old new → YieldsSome remaining new → YieldsSome remaining old
  stayed_before old new (inl (posting, call)) (postings, entries, may) = (posting ∷ postings, entries, call.given.yielded postings entries may)
  stayed_before old new (inr (inl call)) (postings, entries, may) = ([], entries, (call.given.yielded postings entries may).1)
  stayed_before old new (inr (inr call)) (postings, entries, may) = (call.given.postings, entries, (call.given.yielded postings entries may).1)

  yields_before : (old : RunReader R) (readers : List (RunReader R)) (terms : ℕ) (last : RunReader R) → CallsLead remaining old readers terms last → YieldsSome remaining last → YieldsSome remaining old
  yields_before old [] terms last lead some = subst (YieldsSome remaining) (sym lead.1) some
  yields_before old (next ∷ readers) terms last (inl (before, is, call, lead)) some = begun_before old next call (yields_before next readers before last lead some)
  yields_before old (next ∷ readers) terms last (inr (call, lead)) some = stayed_before old next call (yields_before next readers terms last lead some)

  -- ---- what was read is a run text

  run_text_of : (bytes : List ℕ) (reader : RunReader R) (entries : List DictionaryEntry) → bytes ≡ run_layout (heading_read reader).first (parts_with (heading_read reader) entries) → AreWhole (heading_read reader) entries
      → (collection : Collection) × IsRunText (heading_read reader).first collection bytes
  run_text_of bytes reader entries spelled whole =
      let has = has_collection (parts_with (heading_read reader) entries) whole.lawful in (
        has.collection,
        record {
          lawful = has.lawful;
          within = (let within = whole.within in let rows = ap length has.of_collection.rows in omega (arith, within, rows, length-map has.collection.documents row_of));
          parts = parts_with (heading_read reader) entries;
          of_collection = has.of_collection;
          spelled = spelled;
        },
      )

  -- of a reader that has given nothing no posting is left
  opened_yields : (bytes : List ℕ) (reader : RunReader R) → IsOpened remaining bytes reader → YieldsSome remaining reader → (entries : List DictionaryEntry) × MayYield remaining reader [] entries
  opened_yields bytes reader opened ([], entries, may) = (entries, may)
  opened_yields bytes reader opened (posting ∷ postings, entries, may) =
      let none = reader.drained (λ here. no_entry reader.place _ here opened.unread.of_term) in
      let counted = may.are.counted in
      absurd (omega (arith, none, counted))

  pub read_run_text : (bytes : List ℕ) (reader : RunReader R) (readers : List (RunReader R)) (terms : ℕ) (last ended : RunReader R) → IsOpened remaining bytes reader → CallsLead remaining reader readers terms last
      → CallEnds remaining last ended → (collection : Collection) × IsRunText (heading_read reader).first collection bytes
  read_run_text bytes reader readers terms last ended opened lead end =
      let (entries, may) = opened_yields bytes reader opened (yields_before reader readers terms last lead (end.ended.skipped, [], end.ended.yielded)) in
      let (spelled, whole) = opened.yields entries may in
      run_text_of bytes reader entries spelled whole

  -- ---- a run text is read

  stayed_behind : (old new : RunReader R) (all : ℕ) → CallStays remaining old new → FacesSome remaining old 0 all → FacesSome remaining new 0 all
  stayed_behind old new all (inl (posting, call)) (postings, entries, faces, count) = let first = call.accepted postings entries faces in (first.rest, entries, first.ahead, count)
  stayed_behind old new all (inr (inl call)) (postings, entries, faces, count) = ([], entries, (call.accepted postings entries faces).1, count)
  stayed_behind old new all (inr (inr call)) (postings, entries, faces, count) = ([], entries, (call.accepted postings entries faces).ahead, count)

  pub lies_ahead : (old : RunReader R) (readers : List (RunReader R)) (terms : ℕ) (last : RunReader R) (postings : List Posting) (entries : List DictionaryEntry) → Faces remaining old postings entries
      → CallsLead remaining old readers terms last → FacesSome remaining last terms (length entries)
  lies_ahead old [] terms last postings entries faces lead =
      (postings, entries, subst (λ (reader : RunReader R). Faces remaining reader postings entries) lead.1 faces, omega (arith, lead.0))
  lies_ahead old (next ∷ readers) terms last postings entries faces (inl (before, is, call, lead)) =
      let first = call.accepted postings entries faces in
      let (left, ahead, there, count) = lies_ahead next readers before last first.entry.postings first.rest first.ahead lead in
      (left, ahead, there, omega (arith, is, count, ap length first.parts))
  lies_ahead old (next ∷ readers) terms last postings entries faces (inr (call, lead)) =
      let (left, ahead, there, count) = stayed_behind old next (length entries) call (postings, entries, faces, omega arith) in
      let (most, later, final, counted) = lies_ahead next readers terms last left ahead there lead in
      (most, later, final, omega (arith, count, counted))
