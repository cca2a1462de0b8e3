-- A reader of a run text that goes over what is left of a list.
use Rattle.std.proofs.Common.{◌≡◌, ◌≢◌, ℕ, ◌-◌, ◌<◌, List, [], ◌∷◌, ◌++◌, string_bytes, Option, Some, None, option_map, take, drop, refl, sym, ap, subst, ◌∙◌, arith}
use Rattle.std.proofs.lemmas.List.{append-nil, nil_from_length}
use Rattle.ix_text.specs.Parts.{DictionaryEntry, Posting}
use Rattle.std.specs.Io.KnownBytes.{Consumes}
use Rattle.ix_run_text.specs.Heads.{heading_of}
use Rattle.ix_run_text.specs.Inputs.{bytes_held, known_left}
use Rattle.ix_run_text.specs.Reading.{Faces, HasRead, IsDrained, LieAhead, LieBehind, MayLieAhead, MayYield, Skips, Standing, postings_ahead, standing, term_at}
use Rattle.ix_run_text.specs.Sources.{AreWhole, EndsPostings, EndsTerms, closed, extended}
use Rattle.ix_run_text.specs.declared.run_reader.Place.{Place}
use Rattle.ix_run_text.specs.declared.run_reader.Place.TheVariants.{Begun, AtTerm, Ended, Failed}
use Rattle.ix_run_text.specs.declared.run_reader.RunReader.{RunReader}
use Rattle.ix_run_text.proofs.ReadFronts.{closed-none, extended-nil}
use Rattle.ix_run_text.proofs.ReadSteps.{no_entry}
use Rattle.ix_run_text.proofs.TakenLists.{Takes, ahead_taken, behind_taken, documents_ahead, faces_taken, takes_front, there}

pub option_same : (at_hand : Option DictionaryEntry) → option_map (λ entry. extended entry []) at_hand ≡ at_hand
option_same None = refl
option_same (Some entry) = ap (λ (e : DictionaryEntry). Some e) (extended-nil entry)

-- no posting is left of the term at hand, and none where there is no term
pub no_documents : (place : Place) (term : List ℕ) (documents : ℕ) → (place ≢ AtTerm → documents ≡ 0) → (term_at place term ≢ None → (place ≢ Failed) × (documents ≡ 0)) → documents ≡ 0
no_documents Begun term documents drained none = drained (λ e. cc)
no_documents AtTerm term documents drained none = (none (λ e. cc)).1
no_documents Ended term documents drained none = drained (λ e. cc)
no_documents Failed term documents drained none = drained (λ e. cc)

-- the postings gone over are the last of the term at hand
pub closed-skipped : (finished : List DictionaryEntry) (at_hand : Option DictionaryEntry) (skipped : List Posting)
    → closed finished (option_map (λ entry. extended entry skipped) at_hand) [] ≡ closed finished at_hand skipped
closed-skipped finished None skipped = refl
closed-skipped finished (Some entry) skipped = closed-none finished (extended entry skipped)

-- none is left where none was
pub none_left_of : {R : Type 0} (reader : RunReader R) → IsDrained reader → postings_ahead reader ≡ []
none_left_of reader none =
    nil_from_length (postings_ahead reader) (let counted = documents_ahead reader in let zero = no_documents reader.place (string_bytes reader.term) reader.documents reader.drained none in omega arith)

module _ {R : Type 0} (remaining : R → Option (List ℕ)) (reader : RunReader R) where
  -- where no posting is left, none was left out
  pub ends_postings : reader.documents ≡ 0 → EndsPostings (MayYield remaining) HasRead reader reader
  ends_postings none = record {
    yielded = none_yielded;
    given = λ finished entry read. (read, read.posted none);
  }
    where
      none_yielded : (postings : List Posting) (entries : List DictionaryEntry) → MayYield remaining reader postings entries → (postings ≡ []) × MayYield remaining reader [] entries
      none_yielded [] entries may = (refl, may)
      none_yielded (p ∷ ps) entries may = absurd (let counted = may.are.counted in omega arith)

  -- at its end a reader stays there
  pub ends_again : reader.place ≡ Ended → reader.documents ≡ 0 → reader.bytes ≡ 0 → EndsTerms (MayYield remaining) HasRead IsDrained reader reader
  ends_again over none empty = record {
    skipped = [];
    yielded = record {
      are = record { counted = sym none; sized = sym empty; ended = λ _. refl };
      spelled = λ not. absurd (not over);
      whole = whole_again;
    };
    given = given_again;
    none = λ _. refl;
  }
    where
      no_hand : {P : Type 0} (place : Place) (term : List ℕ) (entry : DictionaryEntry) → place ≡ Ended → Some entry.term ≡ term_at place term → P
      no_hand {P} place term entry over some =
          let Q : Place → Type 0 = λ p. Some entry.term ≡ term_at p term in
          let e : Some entry.term ≡ None = subst Q over some in absurd (cc)

      whole_again : (finished : List DictionaryEntry) (at_hand : Option DictionaryEntry) → HasRead reader finished at_hand → AreWhole (heading_of reader.head) (closed finished at_hand [] ++ [])
      whole_again finished None read = subst (AreWhole (heading_of reader.head)) (sym (append-nil finished)) read.lawful.whole
      whole_again finished (Some entry) read = no_hand reader.place (string_bytes reader.term) entry over read.of_term

      given_again : (finished : List DictionaryEntry) (at_hand : Option DictionaryEntry) → HasRead reader finished at_hand → HasRead reader (closed finished at_hand []) None
      given_again finished None read = read
      given_again finished (Some entry) read = no_hand reader.place (string_bytes reader.term) entry over read.of_term

-- where no posting is left, none lies ahead, and the same entries do
pub none_left : {R : Type 0} (remaining : R → Option (List ℕ)) (reader : RunReader R) (postings : List Posting) (entries : List DictionaryEntry) → reader.documents ≡ 0
    → Faces remaining reader postings entries → (postings ≡ []) × Faces remaining reader [] entries
none_left remaining reader [] entries none faces = (refl, faces)
none_left remaining reader (p ∷ ps) entries none faces = absurd (let counted = faces.are.counted in omega arith)

-- over all that are left
module _ {at : Standing} {front : List Posting} {later : List ℕ} {left behind : Option (List ℕ)} (takes : Takes at front 0 0 later left behind) where
  all_yielded : (postings : List Posting) (entries : List DictionaryEntry) → MayLieAhead (there takes) behind postings entries → (postings ≡ []) × MayLieAhead at left front entries
  all_yielded [] entries may = (refl, subst (λ (ps : List Posting). MayLieAhead at left ps entries) (append-nil front) (ahead_taken takes [] entries may))
  all_yielded (p ∷ ps) entries may = absurd (let counted = may.are.counted in omega arith)

  all_given : (finished : List DictionaryEntry) (at_hand : Option DictionaryEntry) → LieBehind at finished at_hand → LieBehind (there takes) finished (option_map (λ entry. extended entry front) at_hand)
  all_given finished None lies = no_entry at.place at.last takes.here lies.of_term
  all_given finished (Some entry) lies = behind_taken takes finished entry lies

  all_faced : (postings : List Posting) (entries : List DictionaryEntry) → LieAhead at left postings entries → (postings ≡ front) × LieAhead (there takes) behind [] entries
  all_faced postings entries ahead = let found = faces_taken takes postings entries ahead in by found.0 found.1.0 found.1.1
    where
      by : (rest : List Posting) → postings ≡ front ++ rest → LieAhead (there takes) behind rest entries → (postings ≡ front) × LieAhead (there takes) behind [] entries
      by [] is lies = (is ∙ append-nil front, lies)
      by (p ∷ ps) is lies = absurd (let counted = lies.are.counted in omega arith)

-- its state then that passed a list
abbrev pub emptied : Standing → ℕ → List ℕ → Standing
emptied at next later = record {
  heading = at.heading;
  place = at.place;
  last = at.last;
  next = next;
  documents = 0;
  bytes = 0;
  checked = record { marks = at.checked.marks; held = later };
}

module _ {R : Type 0} (remaining : R → Option (List ℕ)) where
  -- over no posting
  pub skips_none : (reader : RunReader R) → reader.documents ≡ 0 → Skips remaining reader reader
  skips_none reader none =
      let empty : postings_ahead reader ≡ [] = nil_from_length (postings_ahead reader) (let counted = documents_ahead reader in omega (arith, counted, none)) in
      record {
        yielded = λ postings entries may.
            let nothing = (ends_postings remaining reader none).yielded postings entries may in
            (nothing.0, subst (λ (ps : List Posting). MayYield remaining reader ps entries) (sym empty) nothing.1);
        given = λ finished at_hand read. subst (HasRead reader finished) (sym (ap (λ (ps : List Posting). option_map (λ entry. extended entry ps) at_hand) empty ∙ option_same at_hand)) read;
        accepted = λ postings entries faces. let nothing = none_left remaining reader postings entries none faces in (nothing.0 ∙ sym empty, nothing.1);
      }

  -- over all that are left
  pub skips_all : (old new : RunReader R) → 0 < old.documents → Consumes (known_left remaining old.input) (known_left remaining new.input) (take old.bytes (bytes_held old.input)) → bytes_held new.input ≡ drop old.bytes (bytes_held old.input)
      → standing new ≡ emptied (standing old) old.after (bytes_held new.input) → Skips remaining old new
  skips_all old new some consumes stays stands =
      let all : List Posting = postings_ahead old in
      let later : List ℕ = bytes_held new.input in
      let left : Option (List ℕ) = known_left remaining old.input in
      let behind : Option (List ℕ) = known_left remaining new.input in
      let whole : old.bytes ≡ old.bytes - 0 = omega arith in
      let count = documents_ahead old in
      let takes : Takes (standing old) all 0 0 later left behind =
      takes_front old remaining all [] 0 0 new.input (omega (arith, count, some)) (sym (append-nil all)) refl refl
      (subst (λ (n : ℕ). Consumes left behind (take n (bytes_held old.input))) whole consumes) (subst (λ (n : ℕ). later ≡ drop n (bytes_held old.input)) whole stays) in
      let is : standing new ≡ there takes = stands ∙ ap (λ (n : ℕ). emptied (standing old) n later) old.left.last in
      record {
        yielded = λ postings entries may. all_yielded takes postings entries (subst (λ (at : Standing). MayLieAhead at behind postings entries) is may);
        given = λ finished at_hand read.
            subst (λ (at : Standing). LieBehind at finished (option_map (λ entry. extended entry all) at_hand)) (sym is) (all_given takes finished at_hand read);
        accepted = λ postings entries faces.
            let found = all_faced takes postings entries faces in
            (found.0, subst (λ (at : Standing). LieAhead at behind [] entries) (sym is) found.1);
      }
