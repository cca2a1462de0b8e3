-- How what a writer keeps follows postings that it is told in one call.
use Rattle.std.proofs.Common.{◌≡◌, ℕ, ◌+◌, ◌-◌, ◌*◌, ◌^◌, ◌<◌, ◌≤◌, List, [], ◌∷◌, ◌++◌, Option, Some, length, refl, sym, ap, ap₂, ◌∙◌, subst, arith, append_assoc, append-nil, length-append, MatchOption}
use Rattle.std.specs.Option.{option_map, option_to_list}
use Rattle.std.proofs.lemmas.List.{map-append}
use Rattle.std.proofs.lemmas.List.Elements.{All-head, All-tail, All-cons, All-nil}
use Rattle.std.proofs.lemmas.List.Sums.{sum_by-append, sum_by-cons}
use Rattle.ix_vbyte.specs.Gaps.{Ascends, next_after}
use Rattle.ix_vbyte.specs.Postings.{Posting, IsPosting, ArePostings, documents_of, posting_bytes, list_bytes, list_bytes_from}
use Rattle.ix_vbyte.proofs.Sizes.{list_short}
use Rattle.ix_text.specs.Parts.{DictionaryEntry, DocumentRow, terms_of}
use Rattle.ix_text.specs.PartsLaws.{position_count}
use Rattle.ix_output.specs.Sinks.{AppendsFront}
use Rattle.ix_index_text.specs.IndexText.{magic}
use Rattle.ix_index_text.specs.Sections.{FrontCoded, postings_section}
use Rattle.ix_index_text.specs.Told.{Told, entries_of, settled_front, listed, with_postings, position_total}
use Rattle.ix_index_text.specs.GramTables.{HoldsGrams}
use Rattle.ix_index_text.specs.SectionSteps.{Counts, KeepsTold}
use Rattle.ix_index_text.specs.Telling.{IsDictionaryOf, IsListOfEntry, HoldTold, Spells, MayPost, MayList, CanList}
use Rattle.ix_index_text.specs.declared.put_error.PutError.{PutError}
use Rattle.ix_index_text.specs.declared.sections.WriterSections.{WriterSections}
use Rattle.ix_index_text.proofs.TellingLemmas.{postings_section-push, position_total-push, terms_of-push, kept_again, refusal_set}

-- ---- lists one after another
next_after-append : (next : ℕ) (xs ys : List ℕ) → next_after next (xs ++ ys) ≡ next_after (next_after next xs) ys
next_after-append next [] ys = refl
next_after-append next (x ∷ xs) ys = next_after-append (x + 1) xs ys

list_bytes_from-append : (next : ℕ) (ps qs : List Posting) → list_bytes_from next (ps ++ qs) ≡ list_bytes_from next ps ++ list_bytes_from (next_after next (documents_of ps)) qs
list_bytes_from-append next [] qs = refl
list_bytes_from-append next (p ∷ ps) qs =
    let first = posting_bytes (p.0 + 1 - next) p in
    ap (λ bytes. first ++ bytes) (list_bytes_from-append (p.0 + 1) ps qs)
    ∙ sym (append_assoc first (list_bytes_from (p.0 + 1) ps) (list_bytes_from (next_after (p.0 + 1) (documents_of ps)) qs))

-- each posting has a position
few_postings : (low top : ℕ) (ps : List Posting) → ArePostings low top ps → length ps ≤ position_count ps
few_postings low top [] are = omega arith
few_postings low top (p ∷ ps) are =
    let some : 0 < length p.1 = (All-head (IsPosting top) p ps are.each).some in
    let others : length ps ≤ position_count ps = few_postings (p.0 + 1) top ps (record { documents = are.documents.2; each = All-tail (IsPosting top) p ps are.each }) in
    omega (arith, sum_by-cons (λ (posting : Posting). length posting.1) p ps)

-- one above the last document of the entry
abbrev pub next_of : DictionaryEntry → ℕ
next_of entry = next_after 0 (documents_of entry.postings)

-- ---- sections and counts
postings_section-listed : (done : List DictionaryEntry) (entry : DictionaryEntry) (postings : List Posting) → postings_section (done ++ listed postings entry ∷ []) ≡ postings_section (done ++ entry ∷ []) ++ list_bytes_from (next_of entry) postings
postings_section-listed done entry postings =
    let added = list_bytes_from (next_of entry) postings in
    postings_section-push done (listed postings entry)
    ∙ ap (λ bytes. postings_section done ++ bytes) (list_bytes_from-append 0 entry.postings postings)
    ∙ sym (append_assoc (postings_section done) (list_bytes entry.postings) added)
    ∙ ap (λ bytes. bytes ++ added) (sym (postings_section-push done entry))

pub position_total-listed : (done : List DictionaryEntry) (entry : DictionaryEntry) (postings : List Posting) → position_total (done ++ listed postings entry ∷ []) ≡ position_total (done ++ entry ∷ []) + position_count postings
position_total-listed done entry postings =
    let more : position_count (entry.postings ++ postings) ≡ position_count entry.postings + position_count postings = sum_by-append (λ posting. length posting.1) entry.postings postings in
    omega (arith, position_total-push done entry, position_total-push done (listed postings entry), more)

terms_of-listed : (done : List DictionaryEntry) (entry : DictionaryEntry) (postings : List Posting) → terms_of (done ++ entry ∷ []) ≡ terms_of (done ++ listed postings entry ∷ [])
terms_of-listed done entry postings = terms_of-push done entry ∙ sym (terms_of-push done (listed postings entry))

-- ---- what is kept
-- the list at hand is that of the entry at hand
list_of_entry : (sections : WriterSections) (told : Told) (entry : DictionaryEntry) → HoldTold sections told → told.at_hand ≡ Some entry → IsListOfEntry sections.list entry
list_of_entry sections told entry kept is =
    let P : Option DictionaryEntry → Type 0 = λ o. MatchOption o (sections.list.documents ≡ 0) (IsListOfEntry sections.list) in
    subst P is kept.list

-- the list of the same entry with postings more
list_listed : (old new : WriterSections) (entry : DictionaryEntry) (postings : List Posting) (documents next : ℕ) (bytes : List ℕ) → IsListOfEntry old.list entry → Counts old new documents next (length bytes) → documents ≡ length postings → next ≡ next_after (next_of entry) (documents_of postings) → bytes ≡ list_bytes_from (next_of entry) postings → IsListOfEntry new.list (listed postings entry)
list_listed old new entry postings documents next bytes of step count last coded = record {
  term = ap (λ v. v.items) step.term ∙ of.term;
  documents = step.documents ∙ ap₂ (λ n m. n + m) of.documents count ∙ sym (length-append entry.postings postings);
  bytes =
      step.bytes ∙ ap₂ (λ n more. n + length more) of.bytes coded
      ∙ sym (length-append (list_bytes entry.postings) (list_bytes_from (next_of entry) postings))
      ∙ ap length (sym (list_bytes_from-append 0 entry.postings postings));
  next =
      step.next ∙ last ∙ sym (next_after-append 0 (documents_of entry.postings) (documents_of postings))
      ∙ ap (λ numbers. next_after 0 numbers) (sym (map-append (λ (posting : Posting). posting.0) entry.postings postings));
}

-- the bytes of postings are few
coded_short : (told : Told) (postings : List Posting) (documents next : ℕ) (bytes : List ℕ) → MayList told postings documents next bytes → length bytes ≤ 15 * position_count postings
coded_short told postings documents next bytes may =
    let short : length (list_bytes_from (next_of may.entry) postings) ≤ 15 * position_count postings = list_short (next_of may.entry) (2 ^ 32 - 1) postings may.follow (omega arith) in
    omega (arith, ap length may.coded)

kept_listed_some : (old new : WriterSections) (stop : List (List ℕ)) (rows : List DocumentRow) (done : List DictionaryEntry) (entry : DictionaryEntry) (postings : List Posting) (documents next : ℕ) (bytes : List ℕ) → HoldTold old (record { stop = stop; rows = rows; done = done; at_hand = Some entry }) → Counts old new documents next (length bytes) → length postings ≤ position_count postings → length bytes ≤ 15 * position_count postings → position_total (done ++ entry ∷ []) + position_count postings ≤ 2 ^ 28 → documents ≡ length postings → next ≡ next_after (next_of entry) (documents_of postings) → bytes ≡ list_bytes_from (next_of entry) postings → HoldTold new (record { stop = stop; rows = rows; done = done; at_hand = Some (listed postings entry) })
kept_listed_some old new stop rows done entry postings documents next bytes kept step each short few count last coded =
    let added = list_bytes_from (next_of entry) postings in
    let same : length bytes ≡ length added = ap length coded in
    let counted : position_total (done ++ listed postings entry ∷ []) ≡ position_total (done ++ entry ∷ []) + position_count postings = position_total-listed done entry postings in
    let few_bytes : old.postings ≤ 15 * position_total (done ++ entry ∷ []) = kept.few_bytes in
    let few_documents : old.dictionary.count + old.list.documents ≤ position_total (done ++ entry ∷ []) = kept.few_documents in
    let more : new.list.documents ≡ old.list.documents + documents = step.documents in
    let entries : new.dictionary.count ≡ old.dictionary.count = ap (λ d. d.count) step.dictionary in
    let within : old.list.bytes ≤ old.postings = kept.within in
    let grown : new.list.bytes ≡ old.list.bytes + length bytes = step.bytes in
    let all : new.postings ≡ old.postings + length bytes = step.postings in
    record {
      stop = ap (λ v. v.items) step.front.stop ∙ kept.stop;
      documents = ap (λ v. v.items) step.front.documents ∙ kept.documents;
      rows = step.front.rows ∙ kept.rows;
      dictionary = subst (λ d. IsDictionaryOf d done) (sym step.dictionary) kept.dictionary;
      list = list_listed old new entry postings documents next bytes kept.list step count last coded;
      short = subst (λ v. length v.items ≤ 255) (sym step.term) kept.short;
      grams = subst (λ terms. HoldsGrams new.grams terms) (terms_of-listed done entry postings) (subst (λ grams. HoldsGrams grams (terms_of (done ++ entry ∷ []))) (sym step.grams) kept.grams);
      postings = all ∙ ap₂ (λ n m. n + m) kept.postings same ∙ sym (length-append (postings_section (done ++ entry ∷ [])) added) ∙ ap length (sym (postings_section-listed done entry postings));
      within = omega arith;
      few_bytes = omega arith;
      few_documents = omega arith;
      few_positions = omega arith;
    }

-- what is kept follows postings
pub kept_listed : (old new : WriterSections) (told : Told) (postings : List Posting) (documents next : ℕ) (bytes : List ℕ) → HoldTold old told → MayList told postings documents next bytes → Counts old new documents next (length bytes) → HoldTold new (with_postings told postings)
kept_listed old new told postings documents next bytes kept may step =
    let at : Option DictionaryEntry → Told = λ o. record { stop = told.stop; rows = told.rows; done = told.done; at_hand = o } in
    let P : Option DictionaryEntry → Type 0 = λ o. HoldTold old (at o) in
    let Q : Option DictionaryEntry → Type 0 = λ o. HoldTold new (at (option_map (listed postings) o)) in
    let few : position_total (told.done ++ may.entry ∷ []) + position_count postings ≤ 2 ^ 28 = subst (λ o. position_total (told.done ++ option_to_list o) + position_count postings ≤ 2 ^ 28) may.at_hand may.few in
    subst Q (sym may.at_hand)
    (kept_listed_some old new told.stop told.rows told.done may.entry postings documents next bytes (subst P may.at_hand kept) step
    (few_postings (next_of may.entry) (2 ^ 32 - 1) postings may.follow) (coded_short told postings documents next bytes may) few may.count may.last may.coded)

-- ---- the text that is settled
settled_front-listed : (told : Told) (postings : List Posting) (entry : DictionaryEntry) → told.at_hand ≡ Some entry → settled_front (with_postings told postings) ≡ settled_front told ++ list_bytes_from (next_of entry) postings
settled_front-listed told postings entry is =
    let added = list_bytes_from (next_of entry) postings in
    let P : Option DictionaryEntry → Type 0 = λ o. magic FrontCoded ++ postings_section (told.done ++ option_to_list (option_map (listed postings) o)) ≡ (magic FrontCoded ++ postings_section (told.done ++ option_to_list o)) ++ added in
    subst P (sym is) (ap (λ bytes. magic FrontCoded ++ bytes) (postings_section-listed told.done entry postings) ∙ sym (append_assoc (magic FrontCoded) (postings_section (told.done ++ entry ∷ [])) added))

-- what is settled follows postings
pub settled_after : (told : Told) (postings : List Posting) (documents next : ℕ) (bytes : List ℕ) → MayList told postings documents next bytes → settled_front told ++ bytes ≡ settled_front (with_postings told postings)
settled_after told postings documents next bytes may =
    ap (λ more. settled_front told ++ more) may.coded ∙ sym (settled_front-listed told postings may.entry may.at_hand)

-- what went out is the front of what is settled with postings
pub front_of_list : (before now : Option (List ℕ)) (pending : List ℕ) (told : Told) (postings : List Posting) (documents next : ℕ) (bytes : List ℕ) → MayList told postings documents next bytes → Spells before now pending (settled_front told) → AppendsFront before now (settled_front (with_postings told postings))
front_of_list before now pending told postings documents next bytes may spells = record {
  front = spells.gone;
  rest = pending ++ bytes;
  parts =
      sym (settled_after told postings documents next bytes may) ∙ ap (λ text. text ++ bytes) (sym spells.spelled)
      ∙ append_assoc spells.gone pending bytes;
  gained = spells.gained;
}

-- ---- whole calls
-- only the refusal differs from what such a list may be told to, and numbers stay in range with it
pub record FitsList (sections : WriterSections) (documents : ℕ) (bytes : List ℕ) : Type 0 where
  pub documents_fit : sections.list.documents + documents < 2 ^ 32
  pub list_fits : sections.list.bytes + length bytes < 2 ^ 32
  pub postings_fit : sections.postings + length bytes < 2 ^ 32
  pub size_fits : length bytes < 2 ^ 32

pub fits_list : (old now : WriterSections) (documents next : ℕ) (bytes : List ℕ) → CanList old documents next bytes → KeepsTold old now → FitsList now documents bytes
fits_list old now documents next bytes can same =
    let kept = kept_again old now can.told can.kept same in
    let short : length bytes ≤ 15 * position_count can.postings = coded_short can.told can.postings documents next bytes can.may in
    let each : length can.postings ≤ position_count can.postings = few_postings (next_of can.may.entry) (2 ^ 32 - 1) can.postings can.may.follow in
    let few : position_total (entries_of can.told) + position_count can.postings ≤ 2 ^ 28 = can.may.few in
    let few_bytes : now.postings ≤ 15 * position_total (entries_of can.told) = kept.few_bytes in
    let few_documents : now.dictionary.count + now.list.documents ≤ position_total (entries_of can.told) = kept.few_documents in
    let within : now.list.bytes ≤ now.postings = kept.within in
    let count : documents ≡ length can.postings = can.may.count in
    record { documents_fit = omega arith; list_fits = omega arith; postings_fit = omega arith; size_fits = omega arith }

-- ---- a posting is a list of one
-- a posting may be told as the list of it, behind what is kept
pub one_posting : (sections : WriterSections) (told : Told) (document : ℕ) (positions : List ℕ) → HoldTold sections told → MayPost told document (length positions) → document < 2 ^ 32 - 1 → 0 < length positions → Ascends 0 (2 ^ 32 - 1) positions → MayList told ((document, positions) ∷ []) 1 (document + 1) (posting_bytes (document + 1 - sections.list.next) (document, positions))
one_posting sections told document positions kept may low some ascending =
    let next : sections.list.next ≡ next_of may.entry = (list_of_entry sections told may.entry kept may.at_hand).next in
    let above : next_of may.entry ≤ document = may.follows in
    let few : position_total (entries_of told) + length positions ≤ 2 ^ 28 = may.few in
    record {
      entry = may.entry;
      at_hand = may.at_hand;
      follow = record {
        documents = (above, low, tt);
        each = All-cons (IsPosting (2 ^ 32 - 1)) (document, positions) [] (record { some = some; positions = ascending }) (All-nil (IsPosting (2 ^ 32 - 1)));
      };
      few = omega arith;
      count = refl;
      last = refl;
      coded = ap (λ after. posting_bytes (document + 1 - after) (document, positions)) next ∙ sym (append-nil (posting_bytes (document + 1 - next_of may.entry) (document, positions)));
    }

-- the same of a call that was taken up
pub posting_may : (old taken : WriterSections) (refusal : Option PutError) (told : Told) (document : ℕ) (positions : List ℕ) → HoldTold old told → MayPost told document (length positions) → document < 2 ^ 32 - 1 → 0 < length positions → Ascends 0 (2 ^ 32 - 1) positions → taken ≡ record old { refusal = refusal } → MayList told ((document, positions) ∷ []) 1 (document + 1) (posting_bytes (document + 1 - taken.list.next) (document, positions))
posting_may old taken refusal told document positions kept may low some ascending e =
    one_posting taken told document positions (kept_again old taken told kept (refusal_set old taken refusal e)) may low some ascending

-- what is spelled follows bytes that are pending
pub spelled_listed : (before now : Option (List ℕ)) (old taken : WriterSections) (pending : List ℕ) (refusal : Option PutError) (told : Told) (postings : List Posting) (documents next : ℕ) (bytes : List ℕ) → Spells before now old.pending.items (settled_front told) → taken ≡ record old { refusal = refusal } → pending ≡ taken.pending.items ++ bytes → MayList told postings documents next bytes → Spells before now pending (settled_front (with_postings told postings))
spelled_listed before now old taken pending refusal told postings documents next bytes spells e more may = record {
  gone = spells.gone;
  gained = spells.gained;
  spelled =
      ap (λ part. spells.gone ++ part) (more ∙ ap (λ s. s.pending.items ++ bytes) e) ∙ sym (append_assoc spells.gone old.pending.items bytes)
      ∙ ap (λ text. text ++ bytes) spells.spelled ∙ settled_after told postings documents next bytes may;
}

-- what is kept follows a whole call
pub list_kept : (old taken sent counted new : WriterSections) (refusal : Option PutError) (told : Told) (postings : List Posting) (documents next : ℕ) (bytes : List ℕ) → HoldTold old told → MayList told postings documents next bytes → taken ≡ record old { refusal = refusal } → KeepsTold taken sent → Counts sent counted documents next (length bytes) → KeepsTold counted new → HoldTold new (with_postings told postings)
list_kept old taken sent counted new refusal told postings documents next bytes kept may e sending step after =
    kept_again counted new (with_postings told postings)
    (kept_listed sent counted told postings documents next bytes (kept_again taken sent told (kept_again old taken told kept (refusal_set old taken refusal e)) sending) may step) after

pub posting_kept : (old taken staged sent new : WriterSections) (refusal : Option PutError) (told : Told) (postings : List Posting) (documents next : ℕ) (bytes : List ℕ) → HoldTold old told → MayList told postings documents next bytes → taken ≡ record old { refusal = refusal } → Counts taken staged documents next (length bytes) → KeepsTold staged sent → KeepsTold sent new → HoldTold new (with_postings told postings)
posting_kept old taken staged sent new refusal told postings documents next bytes kept may e step sending after =
    kept_again sent new (with_postings told postings)
    (kept_again staged sent (with_postings told postings) (kept_listed taken staged told postings documents next bytes (kept_again old taken told kept (refusal_set old taken refusal e)) may step) sending) after

-- what is spelled when a call is taken up
pub taken_spells : (before now : Option (List ℕ)) (old taken : WriterSections) (refusal : Option PutError) (text : List ℕ) → Spells before now old.pending.items text → taken ≡ record old { refusal = refusal } → Spells before now taken.pending.items text
taken_spells before now old taken refusal text spells e = subst (λ bytes. Spells before now bytes text) (sym (ap (λ s. s.pending.items) e)) spells

-- what was told stays over two steps
pub keeps_then : (old middle new : WriterSections) → KeepsTold old middle → KeepsTold middle new → KeepsTold old new
keeps_then old middle new first second = record {
  front = record { stop = second.front.stop ∙ first.front.stop; documents = second.front.documents ∙ first.front.documents; rows = second.front.rows ∙ first.front.rows };
  dictionary = second.dictionary ∙ first.dictionary;
  grams = second.grams ∙ first.grams;
  list = second.list ∙ first.list;
  postings = second.postings ∙ first.postings;
}

-- what is spelled, and what went out, in terms of what was told
pub spelled_told : (before now : Option (List ℕ)) (pending left : List ℕ) (told : Told) (postings : List Posting) (documents next : ℕ) (bytes : List ℕ) → MayList told postings documents next bytes → Spells before now pending (settled_front told ++ bytes) → left ≡ pending → Spells before now left (settled_front (with_postings told postings))
spelled_told before now pending left told postings documents next bytes may spells same = record {
  gone = spells.gone;
  gained = spells.gained;
  spelled = ap (λ part. spells.gone ++ part) same ∙ spells.spelled ∙ settled_after told postings documents next bytes may;
}

pub front_told : (before now : Option (List ℕ)) (told : Told) (postings : List Posting) (documents next : ℕ) (bytes : List ℕ) → MayList told postings documents next bytes → AppendsFront before now (settled_front told ++ bytes) → AppendsFront before now (settled_front (with_postings told postings))
front_told before now told postings documents next bytes may part = subst (AppendsFront before now) (settled_after told postings documents next bytes may) part
