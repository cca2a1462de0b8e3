-- A reader of a run text that goes on to the next term, or to the end.
use Rattle.std.proofs.Common.{◌≡◌, ◌≢◌, ℕ, List, [], ◌∷◌, ◌++◌, length, Option, Some, None, IfSome, refl, sym, ap, subst, ◌∙◌, arith}
use Rattle.std.proofs.lemmas.List.{append_assoc, append-nil}
use Rattle.std.specs.Io.KnownBytes.{Consumes, IsAtEnd, Keeps}
use Rattle.ix_text.specs.Parts.{DictionaryEntry, Posting, terms_of}
use Rattle.ix_text.specs.TokenNumbers.{AreDistinct, numbers_of_entries, numbers_of_postings}
use Rattle.ix_text.proofs.TokensApart.{numbers_of_entries-push}
use Rattle.ix_vbyte.specs.Code.{code_of}
use Rattle.ix_vbyte.specs.Postings.{list_bytes}
use Rattle.ix_vbyte.specs.Texts.{counted}
use Rattle.ix_postings.specs.NextPostings.{PostingsFit}
use Rattle.ix_run_text.specs.ReadTerms.{TermFits}
use Rattle.ix_run_text.specs.Reading.{LieAhead, LieBehind, Checked, MayLieAhead, Standing, Told, bytes_ahead, last_text}
use Rattle.ix_run_text.specs.Sources.{AreWhole, closed, entry_with}
use Rattle.ix_run_text.specs.declared.run_reader.Place.TheVariants.{AtTerm, Ended}
use Rattle.ix_run_text.proofs.MarkedReaders.{all_fit, all_free}
use Rattle.ix_run_text.proofs.ReadFronts.{front_begun, front_closed, last_text-push, terms_push}
use Rattle.ix_run_text.proofs.ReadWholes.{closed-begun, term_fits}

-- the bytes of a term and of what lies behind it
term_spelled : (term : List ℕ) (postings : List Posting) (entries : List DictionaryEntry)
    → bytes_ahead [] (entry_with term postings ∷ entries)
    ≡ (counted term ++ (code_of (length postings) ++ code_of (length (list_bytes postings)))) ++ bytes_ahead (list_bytes postings) entries
term_spelled term postings entries = simp append_assoc

spelled_term : (left after : Option (List ℕ)) (term : List ℕ) (postings : List Posting) (entries : List DictionaryEntry)
    → Consumes left after (counted term ++ (code_of (length postings) ++ code_of (length (list_bytes postings))))
    → IfSome after (λ bytes. bytes ≡ bytes_ahead (list_bytes postings) entries) → IfSome left (λ bytes. bytes ≡ bytes_ahead [] (entry_with term postings ∷ entries))
spelled_term None after term postings entries consumes spelled = tt
spelled_term (Some xs) None term postings entries consumes spelled = absurd consumes
spelled_term (Some xs) (Some ys) term postings entries consumes spelled =
    consumes ∙ ap (λ (bytes : List ℕ). (counted term ++ (code_of (length postings) ++ code_of (length (list_bytes postings)))) ++ bytes) spelled ∙ sym (term_spelled term postings entries)

spelled_end : (left after : Option (List ℕ)) → Consumes left after (128 ∷ []) → IsAtEnd after → IfSome left (λ bytes. bytes ≡ bytes_ahead [] [])
spelled_end None after consumes end = tt
spelled_end (Some xs) None consumes end = absurd consumes
spelled_end (Some xs) (Some ys) consumes end = consumes ∙ ap (λ (bytes : List ℕ). 128 ∷ bytes) end

-- A reader that has no posting left of the term at hand takes this term.
pub record TakesTerm (at : Standing) (term : List ℕ) (documents bytes : ℕ) (left after : Option (List ℕ)) : Type 0 where
  pub drained : at.documents ≡ 0
  pub empty : at.bytes ≡ 0
  pub going : at.place ≢ Ended
  pub fits : TermFits at.heading.stop at.last term documents bytes
  pub taken : Consumes left after (counted term ++ (code_of documents ++ code_of bytes))

module _ (at : Standing) (term : List ℕ) (documents bytes : ℕ) (checked : Checked) where
  -- where it stands then
  abbrev pub begun : Standing
  begun = record { heading = at.heading; place = AtTerm; last = term; next = 0; documents = documents; bytes = bytes; checked = checked }

  module _ (left after : Option (List ℕ)) (takes : TakesTerm at term documents bytes left after) (told : (numbers : List ℕ) → Told at numbers → Told begun numbers) where
    pub behind_begun : (finished : List DictionaryEntry) (at_hand : Option DictionaryEntry) → LieBehind at finished at_hand → LieBehind begun (closed finished at_hand []) (Some (entry_with term []))
    behind_begun finished at_hand behind =
        let before : List DictionaryEntry = closed finished at_hand [] in
        let rows = at.heading.rows in
        let none : numbers_of_entries rows before ≡ numbers_of_entries rows (before ++ entry_with term [] ∷ []) =
        sym (append-nil (numbers_of_entries rows before)) ∙ sym (numbers_of_entries-push rows before (entry_with term [])) in
        record {
          lawful = front_begun at.heading finished at_hand term documents bytes behind.lawful (behind.posted takes.drained)
              (subst (λ (last : List ℕ). TermFits at.heading.stop last term documents bytes) behind.last takes.fits);
          of_term = refl;
          last = sym (ap last_text (terms_push before (entry_with term [])) ∙ last_text-push (terms_of before) term);
          next = refl;
          posted = λ zero. absurd (let some = takes.fits.some in omega arith);
          marked = subst (Told begun) none (told _ behind.marked);
          distinct = subst AreDistinct none behind.distinct;
        }

    pub ahead_begun : (postings : List Posting) (entries : List DictionaryEntry) → MayLieAhead begun after postings entries → MayLieAhead at left [] (entry_with term postings ∷ entries)
    ahead_begun postings entries ahead = record {
      are = record { counted = sym takes.drained; sized = sym takes.empty; ended = λ end. absurd (takes.going end) };
      spelled = λ not.
          let P : ℕ → ℕ → Type 0 = λ d b. Consumes left after (counted term ++ (code_of d ++ code_of b)) in
          let taken = subst (λ (b : ℕ). P (length postings) b) (sym ahead.are.sized) (subst (λ (d : ℕ). P d bytes) (sym ahead.are.counted) takes.taken) in
          spelled_term left after term postings entries taken (ahead.spelled (λ e. cc));
      whole = λ finished at_hand behind.
          subst (AreWhole at.heading) (closed-begun (closed finished at_hand []) term postings entries)
          (ahead.whole (closed finished at_hand []) (Some (entry_with term [])) (behind_begun finished at_hand behind));
    }

    -- what lies ahead of it then
    pub begun_ahead : (postings : List Posting) (entries : List DictionaryEntry) → LieAhead at left [] (entry_with term postings ∷ entries) → documents ≡ length postings → bytes ≡ length (list_bytes postings)
        → after ≡ Some (bytes_ahead (list_bytes postings) entries) → LieAhead begun after postings entries
    begun_ahead postings entries ahead counted sized known = record {
      finished = closed ahead.finished ahead.at_hand [];
      at_hand = Some (entry_with term []);
      behind = behind_begun ahead.finished ahead.at_hand ahead.behind;
      are = record { counted = sym counted; sized = sym sized; ended = λ end. absurd (cc) };
      whole = subst (AreWhole at.heading) (sym (closed-begun (closed ahead.finished ahead.at_hand []) term postings entries)) ahead.whole;
      going = λ e. cc;
      spelled = λ not. known;
    }

-- A reader that has no posting left of the term at hand takes the end mark, and nothing stands behind it.
pub record TakesEnd (at : Standing) (left after : Option (List ℕ)) : Type 0 where
  pub drained : at.documents ≡ 0
  pub empty : at.bytes ≡ 0
  pub taken : Consumes left after (128 ∷ [])
  pub end : IsAtEnd after

module _ (at : Standing) (last : List ℕ) (stays : last ≡ at.last) (checked : Checked) where
  -- where it stands then
  abbrev pub over : Standing
  over = record { heading = at.heading; place = Ended; last = last; next = at.next; documents = at.documents; bytes = at.bytes; checked = checked }

  pub behind_over : ((numbers : List ℕ) → Told at numbers → Told over numbers) → at.documents ≡ 0 → (finished : List DictionaryEntry) (at_hand : Option DictionaryEntry) → LieBehind at finished at_hand → LieBehind over (closed finished at_hand []) None
  behind_over told drained finished at_hand behind = record {
    lawful = front_closed at.heading finished at_hand behind.lawful (behind.posted drained);
    of_term = refl;
    last = stays ∙ behind.last;
    next = tt;
    posted = λ _. tt;
    marked = told _ behind.marked;
    distinct = behind.distinct;
  }

  pub ahead_over : (left after : Option (List ℕ)) → TakesEnd at left after → MayLieAhead at left [] []
  ahead_over left after takes = record {
    are = record { counted = sym takes.drained; sized = sym takes.empty; ended = λ _. refl };
    spelled = λ not. spelled_end left after takes.taken takes.end;
    whole = λ finished at_hand behind.
        subst (AreWhole at.heading) (sym (append-nil (closed finished at_hand [])))
        (front_closed at.heading finished at_hand behind.lawful (behind.posted takes.drained)).whole;
  }

  pub over_ahead : ((numbers : List ℕ) → Told at numbers → Told over numbers) → (left after : Option (List ℕ)) → TakesEnd at left after → LieAhead at left [] [] → LieAhead over after [] []
  over_ahead told left after takes ahead = record {
    finished = closed ahead.finished ahead.at_hand [];
    at_hand = None;
    behind = behind_over told takes.drained ahead.finished ahead.at_hand ahead.behind;
    are = record { counted = sym takes.drained; sized = sym takes.empty; ended = λ _. refl };
    whole = ahead.whole;
    going = λ e. cc;
    spelled = λ not. absurd (not refl);
  }

-- What the next entry that lies ahead is, and what stands behind it.
pub record EntryLiesNext (at : Standing) (left : Option (List ℕ)) (entry : DictionaryEntry) (entries : List DictionaryEntry) : Type 0 where
  pub fits : TermFits at.heading.stop at.last entry.term (length entry.postings) (length (list_bytes entry.postings))
  pub spelled : left ≡ Some (counted entry.term ++ (code_of (length entry.postings) ++ (code_of (length (list_bytes entry.postings)) ++ bytes_ahead (list_bytes entry.postings) entries)))

entry_spelled : (entry : DictionaryEntry) (entries : List DictionaryEntry)
    → bytes_ahead [] (entry ∷ entries)
    ≡ counted entry.term ++ (code_of (length entry.postings) ++ (code_of (length (list_bytes entry.postings)) ++ bytes_ahead (list_bytes entry.postings) entries))
entry_spelled entry entries = simp append_assoc

pub entry_lies_next : (at : Standing) (left : Option (List ℕ)) (entry : DictionaryEntry) (entries : List DictionaryEntry) → LieAhead at left [] (entry ∷ entries) → EntryLiesNext at left entry entries
entry_lies_next at left entry entries ahead = record {
  fits = subst (λ (last : List ℕ). TermFits at.heading.stop last entry.term (length entry.postings) (length (list_bytes entry.postings))) (sym ahead.behind.last)
      (term_fits at.heading (closed ahead.finished ahead.at_hand []) entry entries ahead.whole);
  spelled = ahead.spelled going ∙ ap (λ (bytes : List ℕ). Some bytes) (entry_spelled entry entries);
}
  where
    going : at.place ≢ Ended
    going end = absurd (let none = ahead.are.ended end in cc)

-- the end mark alone, where no entry lies ahead
pub end_lies_next : (at : Standing) (left : Option (List ℕ)) → at.place ≢ Ended → LieAhead at left [] [] → left ≡ Some (128 ∷ [])
end_lies_next at left going ahead = ahead.spelled going

-- its list fits, and no token of it was told
pub list_lies_next : (at : Standing) (left : Option (List ℕ)) (entry : DictionaryEntry) (entries : List DictionaryEntry) (ahead : LieAhead at left [] (entry ∷ entries))
    → PostingsFit at.heading.rows 0 entry.postings × AreDistinct (numbers_of_entries at.heading.rows (closed ahead.finished ahead.at_hand []) ++ numbers_of_postings at.heading.rows entry.postings)
list_lies_next at left entry entries ahead =
    let before : List DictionaryEntry = closed ahead.finished ahead.at_hand [] in
    let begun : DictionaryEntry = entry_with entry.term [] in
    let whole : AreWhole at.heading (closed before (Some begun) entry.postings ++ entries) = subst (AreWhole at.heading) (sym (closed-begun before entry.term entry.postings entries)) ahead.whole in
    let none : numbers_of_entries at.heading.rows (closed before (Some begun) []) ≡ numbers_of_entries at.heading.rows before =
    numbers_of_entries-push at.heading.rows before begun ∙ append-nil (numbers_of_entries at.heading.rows before) in (
      all_fit at.heading before begun entry.postings entries whole,
      subst (λ (numbers : List ℕ). AreDistinct (numbers ++ numbers_of_postings at.heading.rows entry.postings)) none (all_free at.heading before begun entry.postings entries whole),
    )

-- what is known of what is kept
pub known_kept : (a b : Option (List ℕ)) (bytes : List ℕ) → Keeps a b → a ≡ Some bytes → b ≡ Some bytes
known_kept None b bytes kept is = absurd (cc)
known_kept (Some x) None bytes kept is = absurd kept
known_kept (Some x) (Some y) bytes kept is = ap (λ (xs : List ℕ). Some xs) kept ∙ is
