-- A run text that is read to its end, posting by posting and term by term.
use Rattle.std.proofs.Common.{◌≡◌, ℕ, ◌+◌, ◌-◌, ◌^◌, ◌<◌, ◌≤◌, List, [], ◌∷◌, ◌++◌, length, map, All, sum_by, Option, Some, None, refl, sym, ap, ap₂, subst, ◌∙◌, arith, length-append}
use Rattle.std.proofs.lemmas.List.{append_assoc, append-nil, length-map, map-append}
use Rattle.std.proofs.lemmas.List.Elements.{All-contains, All-get_or, All-head, All-tail, All-weaker, Contains-push}
use Rattle.std.proofs.lemmas.List.Sums.{get_or-le-sum_by, sum_by-cons}
use Rattle.ix_text.specs.Collections.{Collection}
use Rattle.ix_text.specs.Parts.{DictionaryEntry, Parts, Posting, AreTermPostings, IsEntryOf, IsTermPosting, row_of}
use Rattle.ix_text.specs.PartsLaws.{position_count}
use Rattle.ix_text.proofs.CollectionTold.{has_collection}
use Rattle.ix_text.proofs.PartsCounted.{positions_counted}
use Rattle.ix_text.proofs.PartsLemmas.{same_entry_fields, same_parts_fields}
use Rattle.ix_vbyte.specs.Gaps.{Ascends, next_after}
use Rattle.ix_vbyte.specs.Postings.{ArePostings, IsPosting, documents_of, list_bytes, posting_bytes}
use Rattle.ix_vbyte.proofs.Gaps.{Ascends-pop, length-Ascends, next_after-push}
use Rattle.ix_vbyte.proofs.Postings.{list_bytes_from-push}
use Rattle.ix_run_text.specs.Heads.{Heading, heading_of, parts_with}
use Rattle.ix_run_text.specs.Reading.{BeginsFirst, Faces, GivesFirst, HasRead, IsDrained, MayYield, heading_from, term_of}
use Rattle.ix_run.specs.RunFiles.{GivesTerm, HasBegun, ReadsAll}
use Rattle.ix_run.specs.RunSources.{heading_shown}
use Rattle.ix_run_text.specs.RunText.{IsRunText, run_layout}
use Rattle.ix_run.specs.Runs.{IsRun, IsRunOf, RunValue, TermValue, coded, last_document, run_bytes, run_value}
use Rattle.ix_run_text.specs.Sources.{AreWhole, BeginsTerm, EndsPostings, EndsTerms, GivesPosting, closed, entry_with, extended}
use Rattle.ix_run_text.specs.declared.run_reader.RunReader.{RunReader}
use Rattle.ix_run_text.proofs.ReadFronts.{extended-nil}
use Rattle.ix_run.proofs.RunSizes.{spelled}
use Rattle.ix_run_text.proofs.WholeLists.{codable}

-- What a loop over the postings of a term keeps: those that were given, coded.
pub record TakesList {R : Type 0} (remaining : R → Option (List ℕ)) (old now : RunReader R) (next documents : ℕ) (list : List ℕ) : Type 0 where
  pub heading : heading_of now.head ≡ heading_of old.head
  pub at_hand : term_of now ≡ term_of old
  pub told : List Posting
  pub counted : documents ≡ length told
  pub coded : list ≡ list_bytes told
  pub near : next ≡ next_after 0 (documents_of told)
  pub yielded : (postings : List Posting) (entries : List DictionaryEntry) → MayYield remaining now postings entries → MayYield remaining old (told ++ postings) entries
  pub given : (finished : List DictionaryEntry) (entry : DictionaryEntry) → HasRead old finished (Some entry) → HasRead now finished (Some (extended entry told))
  pub accepted : (postings : List Posting) (entries : List DictionaryEntry) → Faces remaining old postings entries
      → (rest : List Posting) × (postings ≡ told ++ rest) × Faces remaining now rest entries

-- What the next posting of a coded list must be.
pub record MayBeCoded (next documents : ℕ) (posting : Posting) : Type 0 where
  pub follows : next ≤ posting.0
  pub low : posting.0 < 2 ^ 32 - 1
  pub ascending : Ascends 0 (2 ^ 32 - 1) posting.1
  pub few : documents + 1 < 2 ^ 32

module _ {R : Type 0} (remaining : R → Option (List ℕ)) where
  pub list_none : (reader : RunReader R) → TakesList remaining reader reader 0 0 []
  list_none reader = record {
    heading = refl;
    at_hand = refl;
    told = [];
    counted = refl;
    coded = refl;
    near = refl;
    yielded = λ postings entries may. may;
    given = λ finished entry read. subst (λ (e : DictionaryEntry). HasRead reader finished (Some e)) (sym (extended-nil entry)) read;
    accepted = λ postings entries faces. (postings, refl, faces);
  }

  module _ (old now new : RunReader R) (next documents : ℕ) (list : List ℕ) (posting : Posting) (takes : TakesList remaining old now next documents list)
      (gives : GivesPosting (MayYield remaining) HasRead now new posting) where
    given_more : (finished : List DictionaryEntry) (entry : DictionaryEntry) → HasRead old finished (Some entry) → HasRead new finished (Some (extended entry (takes.told ++ posting ∷ [])))
    given_more finished entry read =
        subst (λ (ps : List Posting). HasRead new finished (Some (entry_with entry.term ps))) (append_assoc entry.postings takes.told (posting ∷ []))
        (gives.given finished (extended entry takes.told) (takes.given finished entry read))

    pub may_be_coded : HasBegun old → MayBeCoded next documents posting
    may_be_coded begun =
        let all : List Posting = takes.told ++ posting ∷ [] in
        let entry : DictionaryEntry = entry_with begun.term all in
        let read : HasRead new begun.finished (Some entry) = given_more begun.finished (entry_with begun.term []) begun.given in
        let whole = read.lawful.begun.posted (omega (arith, length-append takes.told (posting ∷ []))) in
        let are : ArePostings 0 (2 ^ 32 - 1) all =
        All-contains (λ (e : DictionaryEntry). ArePostings 0 (2 ^ 32 - 1) e.postings) (begun.finished ++ entry ∷ []) entry
        (codable (heading_of new.head) (begun.finished ++ entry ∷ []) whole) (Contains-push begun.finished entry) in
        let documents_ascend : Ascends 0 (2 ^ 32 - 1) (documents_of takes.told ++ posting.0 ∷ []) =
        subst (Ascends 0 (2 ^ 32 - 1)) (map-append (λ (p : Posting). p.0) takes.told (posting ∷ [])) are.documents in
        let last = Ascends-pop 0 (2 ^ 32 - 1) (documents_of takes.told) posting.0 documents_ascend in
        let count = length-Ascends 0 (2 ^ 32 - 1) (documents_of takes.told ++ posting.0 ∷ []) (omega arith) documents_ascend in
        let here : IsPosting (2 ^ 32 - 1) posting = All-contains (IsPosting (2 ^ 32 - 1)) all posting are.each (Contains-push takes.told posting) in
        let near = takes.near in
        let counted = takes.counted in
        let above = last.1 in
        record {
          follows = omega arith;
          low = last.2;
          ascending = here.positions;
          few = omega (arith, length-append (documents_of takes.told) (posting.0 ∷ []), length-map takes.told (λ (p : Posting). p.0));
        }

    pub list_more : (after : List ℕ) → heading_of new.head ≡ heading_of now.head → term_of new ≡ term_of now → after ≡ list ++ posting_bytes (posting.0 + 1 - next) posting
        → ((postings : List Posting) (entries : List DictionaryEntry) → Faces remaining now postings entries → GivesFirst remaining new posting postings entries)
        → TakesList remaining old new (posting.0 + 1) (documents + 1) after
    list_more after same stays grown accepted = record {
      heading = same ∙ takes.heading;
      at_hand = stays ∙ takes.at_hand;
      told = takes.told ++ posting ∷ [];
      counted = (let counted = takes.counted in omega (arith, length-append takes.told (posting ∷ [])));
      coded = grown ∙ ap₂ (λ (bytes : List ℕ) (n : ℕ). bytes ++ posting_bytes (posting.0 + 1 - n) posting) takes.coded takes.near ∙ sym (list_bytes_from-push 0 takes.told posting);
      near = sym (ap (next_after 0) (map-append (λ (p : Posting). p.0) takes.told (posting ∷ [])) ∙ next_after-push 0 (documents_of takes.told) posting.0);
      yielded = λ postings entries may.
          subst (λ (ps : List Posting). MayYield remaining old ps entries) (sym (append_assoc takes.told (posting ∷ []) postings))
          (takes.yielded (posting ∷ postings) entries (gives.yielded postings entries may));
      given = given_more;
      accepted = λ postings entries faces.
          let ahead = takes.accepted postings entries faces in
          let first = accepted ahead.0 entries ahead.2 in
          (first.rest, ahead.1 ∙ ap (λ (ps : List Posting). takes.told ++ ps) first.parts ∙ sym (append_assoc takes.told (posting ∷ []) first.rest), first.ahead);
    }

  -- the list is at its end
  pub list_all : (old now new : RunReader R) (next documents last : ℕ) (list term : List ℕ) → TakesList remaining old now next documents list → last ≡ next - 1 → term_of old ≡ Some term → IsDrained new
      → EndsPostings (MayYield remaining) HasRead now new
      → ((postings : List Posting) (entries : List DictionaryEntry) → Faces remaining now postings entries → (postings ≡ []) × Faces remaining new [] entries)
      → GivesTerm remaining old new (record { term = term; documents = documents; last = last; list = list })
  list_all old now new next documents last list term takes is_last at_hand drained ends accepted = record {
    term = term;
    postings = takes.told;
    at_hand = at_hand;
    shown =
        ap (λ (n : ℕ). let value : TermValue = record { term = term; documents = documents; last = n; list = list } in value) (is_last ∙ ap (λ (n : ℕ). n - 1) takes.near)
        ∙ ap₂ (λ (d : ℕ) (bytes : List ℕ). let value : TermValue = record { term = term; documents = d; last = last_document takes.told; list = bytes } in value) takes.counted takes.coded;
    drained = drained;
    yielded = λ entries may.
        subst (λ (ps : List Posting). MayYield remaining old ps entries) (append-nil takes.told) (takes.yielded [] entries (ends.yielded [] entries may).1);
    given = λ finished entry read. ends.given finished (extended entry takes.told) (takes.given finished entry read);
    accepted = λ postings entries faces.
        let ahead = takes.accepted postings entries faces in
        let last = accepted ahead.0 entries ahead.2 in
        (ahead.1 ∙ ap (λ (ps : List Posting). takes.told ++ ps) last.0 ∙ append-nil takes.told, last.1);
  }

-- ---- all terms

-- a sum of positive numbers is no less than how many they are
length_within : {A : Type 0} (f : A → ℕ) (xs : List A) → All (λ x. 0 < f x) xs → length xs ≤ sum_by f xs
length_within f [] all = omega arith
length_within f (x ∷ xs) all = let rest = length_within f xs (All-tail (λ x. 0 < f x) x xs all) in let first = All-head (λ x. 0 < f x) x xs all in omega (arith, rest, first, sum_by-cons f x xs)

-- postings have some position
some_positions : (postings : List Posting) → AreTermPostings postings → 0 < position_count postings
some_positions postings are =
    let d : Posting = (0, []) in
    let first = All-get_or IsTermPosting postings 0 d are.some are.each in
    let some = first.0 in
    omega (arith, some, get_or-le-sum_by (λ (posting : Posting). length posting.1) postings 0 d are.some)

-- each term of a dictionary has a token of its own
few_terms : (heading : Heading) (entries : List DictionaryEntry) → AreWhole heading entries → length entries ≤ 2 ^ 28
few_terms heading entries whole =
    let has = has_collection (parts_with heading entries) whole.lawful in
    let some = length_within (λ (e : DictionaryEntry). position_count e.postings) entries
    (All-weaker (IsEntryOf has.collection) (λ e. 0 < position_count e.postings) (λ e is. some_positions e.postings is.ordered) entries has.of_collection.entries) in
    let total = positions_counted has.collection (parts_with heading entries) has.of_collection in
    let few = has.lawful.few_tokens in omega (arith, some, total, few)

-- how many entries there are does not rest on the postings of the one at hand
length-closed : (finished : List DictionaryEntry) (at_hand : Option DictionaryEntry) (one other : List Posting) → length (closed finished at_hand one) ≡ length (closed finished at_hand other)
length-closed finished None one other = refl
length-closed finished (Some entry) one other = omega (arith, length-append finished (extended entry one ∷ []), length-append finished (extended entry other ∷ []))

-- What a loop over the terms keeps: those that were given, coded, and no more than there may be tokens.
pub record ReadsOn {R : Type 0} (remaining : R → Option (List ℕ)) (old now : RunReader R) (values : List TermValue) : Type 0 where
  pub heading : heading_of now.head ≡ heading_of old.head
  pub drained : IsDrained now
  pub done : List DictionaryEntry
  pub told : values ≡ map coded done
  pub yielded : (entries : List DictionaryEntry) → MayYield remaining now [] entries → MayYield remaining old [] (done ++ entries)
  pub finished : List DictionaryEntry
  pub at_hand : Option DictionaryEntry
  pub given : HasRead now finished at_hand
  pub counted : length values ≡ length (closed finished at_hand [])
  pub few : length values ≤ 2 ^ 28
  pub accepted : (entries : List DictionaryEntry) → Faces remaining old [] entries → (rest : List DictionaryEntry) × (entries ≡ done ++ rest) × Faces remaining now [] rest

same_term : (at_hand : Option (List ℕ)) (one other : List ℕ) → at_hand ≡ Some one → at_hand ≡ Some other → one ≡ other
same_term at_hand one other p q = cc

module _ {R : Type 0} (remaining : R → Option (List ℕ)) where
  pub reads_none : (reader : RunReader R) → HasRead reader [] None → IsDrained reader → ReadsOn remaining reader reader []
  reads_none reader read drained = record {
    heading = refl;
    drained = drained;
    done = [];
    told = refl;
    yielded = λ entries may. may;
    finished = [];
    at_hand = None;
    given = read;
    counted = refl;
    few = omega arith;
    accepted = λ entries faces. (entries, refl, faces);
  }

  module _ (old now : RunReader R) (values : List TermValue) (on : ReadsOn remaining old now values) where
    module _ (mid : RunReader R) (term : List ℕ) (begins : BeginsTerm (MayYield remaining) HasRead IsDrained now mid term) where
      pub has_begun : HasBegun mid
      has_begun = record { finished = closed on.finished on.at_hand begins.skipped; term = term; given = begins.given on.finished on.at_hand on.given }

      pub reads_more : (new : RunReader R) (value : TermValue) → heading_of mid.head ≡ heading_of now.head → heading_of new.head ≡ heading_of mid.head → term_of mid ≡ Some term
          → GivesTerm remaining mid new value → ((entries : List DictionaryEntry) → Faces remaining now [] entries → BeginsFirst remaining mid entries) → ReadsOn remaining old new (values ++ value ∷ [])
      reads_more new value one two at_hand gives accepted =
          let same : term ≡ gives.term = same_term (term_of mid) term gives.term at_hand gives.at_hand in
          let entry : DictionaryEntry = entry_with gives.term gives.postings in
          let none : begins.skipped ≡ [] = begins.none on.drained in
          let behind : List DictionaryEntry = closed on.finished on.at_hand begins.skipped in
          let last : DictionaryEntry = extended (entry_with term []) gives.postings in
          let after = gives.given behind (entry_with term []) (begins.given on.finished on.at_hand on.given) in
          let grown : length (values ++ value ∷ []) ≡ length (behind ++ last ∷ []) =
          (let counted = on.counted in omega (arith, counted, length-closed on.finished on.at_hand begins.skipped [], length-append values (value ∷ []), length-append behind (last ∷ []))) in
          record {
            heading = two ∙ one ∙ on.heading;
            drained = gives.drained;
            done = on.done ++ entry ∷ [];
            told = ap₂ (λ (vs : List TermValue) (v : TermValue). vs ++ v ∷ []) on.told gives.shown ∙ sym (map-append coded on.done (entry ∷ []));
            yielded = λ entries may.
                let P : List Posting → Type 0 = λ ps. MayYield remaining now ps (entry_with term gives.postings ∷ entries) in
                let Q : List ℕ → Type 0 = λ t. MayYield remaining now [] (entry_with t gives.postings ∷ entries) in
                subst (MayYield remaining old []) (sym (append_assoc on.done (entry ∷ []) entries))
                (on.yielded (entry ∷ entries) (subst Q same (subst P none (begins.yielded gives.postings entries (gives.yielded entries may)))));
            finished = behind;
            at_hand = Some last;
            given = after.0;
            counted = grown ∙ (omega (arith, length-append behind (last ∷ []), length-append behind (extended last [] ∷ [])));
            few = (let few = few_terms (heading_of new.head) (behind ++ last ∷ []) (after.0.lawful.begun.posted after.1) in omega (arith, few, grown));
            accepted = λ entries faces.
                let ahead = on.accepted entries faces in
                let first = accepted ahead.0 ahead.2 in
                let given = gives.accepted first.entry.postings first.rest first.ahead in
                let is : first.entry ≡ entry = same_entry_fields first.entry entry (same_term (term_of mid) first.entry.term gives.term first.begun gives.at_hand) given.0 in (
                  first.rest,
                  ahead.1 ∙ ap (λ (es : List DictionaryEntry). on.done ++ es) (first.parts ∙ ap (λ (e : DictionaryEntry). e ∷ first.rest) is) ∙ sym (append_assoc on.done (entry ∷ []) first.rest),
                  given.1,
                );
          }

    pub reads_all : (new : RunReader R) → EndsTerms (MayYield remaining) HasRead IsDrained now new → ((entries : List DictionaryEntry) → Faces remaining now [] entries → entries ≡ []) → ReadsAll remaining old values
    reads_all new ends accepted =
        let P : List Posting → Type 0 = λ ps. MayYield remaining now ps [] in
        record {
          entries = on.done;
          told = on.told;
          yielded = subst (MayYield remaining old []) (append-nil on.done) (on.yielded [] (subst P (ends.none on.drained) ends.yielded));
          accepted = λ entries faces.
              let ahead = on.accepted entries faces in
              ahead.1 ∙ ap (λ (es : List DictionaryEntry). on.done ++ es) (accepted ahead.0 ahead.2) ∙ append-nil on.done;
        }

-- ---- the run

module _ (run : RunValue) (entries : List DictionaryEntry) (told : run.terms ≡ map coded entries) where
  -- it is that of its heading and the entries
  pub run_told : run ≡ run_value run.first (parts_with (heading_shown run) entries)
  run_told = ap (λ (terms : List TermValue). let value : RunValue = record { first = run.first; stop = run.stop; rows = run.rows; terms = terms } in value) told

  pub is_run : AreWhole (heading_shown run) entries → IsRun run
  is_run whole =
      let has = has_collection (parts_with (heading_shown run) entries) whole.lawful in
      record {
        first = run.first;
        collection = has.collection;
        of_collection = record {
          lawful = has.lawful;
          within = (let within = whole.within in let rows = ap length has.of_collection.rows in omega (arith, length-map has.collection.documents row_of));
          parts = parts_with (heading_shown run) entries;
          of_collection = has.of_collection;
          held = run_told;
        };
      }

  -- and its run text is what spells them
  pub run_exact : (bytes : List ℕ) → bytes ≡ run_layout run.first (parts_with (heading_shown run) entries) → run_bytes run ≡ bytes
  run_exact bytes is = ap run_bytes run_told ∙ spelled run.first (parts_with (heading_shown run) entries) ∙ sym is

  -- so that it is the run of the collection whose text that is
  pub run_accepted : (first : ℕ) (collection : Collection) (bytes : List ℕ) (is : IsRunText first collection bytes) → heading_shown run ≡ heading_from first is.parts → is.parts.entries ≡ entries → IsRunOf run first collection
  run_accepted first collection bytes is same all =
      let parts : parts_with (heading_shown run) entries ≡ is.parts =
      same_parts_fields (parts_with (heading_shown run) entries) is.parts (ap (λ (h : Heading). h.stop) same) (ap (λ (h : Heading). h.rows) same) (sym all) in
      record {
        lawful = is.lawful;
        within = is.within;
        parts = is.parts;
        of_collection = is.of_collection;
        held = run_told ∙ ap₂ (λ (n : ℕ) (ps : Parts). run_value n ps) (ap (λ (h : Heading). h.first) same) parts;
      }
