-- How what a writer keeps follows what it is told.
use Rattle.std.proofs.Common.{◌≡◌, ℕ, ◌+◌, ◌-◌, ◌*◌, ◌^◌, ◌<◌, ◌≤◌, List, [], ◌∷◌, ◌++◌, Option, length, sum_by, sym, ap, ◌∙◌, subst, arith, MatchOption}
use Rattle.std.proofs.lemmas.List.{append-nil, length-map, map-append}
use Rattle.std.proofs.lemmas.List.Sums.{sum_by-append}
use Rattle.std.proofs.lemmas.List.Concat.{flat_map-append}
use Rattle.ix_vbyte.specs.Gaps.{Ascends}
use Rattle.ix_vbyte.specs.Postings.{posting_bytes, list_bytes}
use Rattle.ix_vbyte.proofs.Gaps.{length-Ascends}
use Rattle.ix_vbyte.proofs.Sizes.{posting_short}
use Rattle.ix_text.specs.Parts.{DictionaryEntry, terms_of}
use Rattle.ix_index_text.specs.IndexText.{magic}
use Rattle.ix_index_text.specs.Sections.{FrontCoded, postings_section}
use Rattle.ix_index_text.specs.Told.{Told, entries_of, settled_front, with_term, position_total}
use Rattle.ix_index_text.specs.GramTables.{HoldsGrams}
use Rattle.ix_index_text.specs.SectionSteps.{Closes, Opens, KeepsTold}
use Rattle.ix_index_text.specs.Telling.{IsDictionaryOf, IsListOfEntry, HoldTold, Spells, IsClosable, CanClose}
use Rattle.ix_index_text.specs.declared.put_error.PutError.{PutError}
use Rattle.ix_index_text.specs.declared.sections.WriterSections.{WriterSections}
use Rattle.ix_index_text.proofs.DictionaryLemmas.{dictionary_closed, entries_closed}

-- an entry without postings
abbrev pub entry_of : List ℕ → DictionaryEntry
entry_of term = record { term = term; postings = [] }

-- a posting has at most fifteen bytes a position
pub length-posting_bytes : (gap document : ℕ) (positions : List ℕ) → gap < 2 ^ 32 → 0 < length positions → Ascends 0 (2 ^ 32 - 1) positions → length (posting_bytes gap (document, positions)) ≤ 15 * length positions
length-posting_bytes gap document positions fits some ascending =
    posting_short gap (2 ^ 32 - 1) (document, positions) (omega arith) (omega (arith, length-Ascends 0 (2 ^ 32 - 1) positions (omega arith) ascending))
    (record { some = some; positions = ascending }) (omega arith)

-- ---- sections and counts of entries one after another
postings_section-append : (one other : List DictionaryEntry) → postings_section (one ++ other) ≡ postings_section one ++ postings_section other
unfolding postings_section
postings_section-append one other = flat_map-append (λ entry. list_bytes entry.postings) one other

postings_section-one : (entry : DictionaryEntry) → postings_section (entry ∷ []) ≡ list_bytes entry.postings
unfolding postings_section
postings_section-one entry = append-nil (list_bytes entry.postings)

pub postings_section-push : (done : List DictionaryEntry) (entry : DictionaryEntry) → postings_section (done ++ entry ∷ []) ≡ postings_section done ++ list_bytes entry.postings
postings_section-push done entry = postings_section-append done (entry ∷ []) ∙ ap (λ bytes. postings_section done ++ bytes) (postings_section-one entry)

-- a term without postings adds nothing
postings_section-term : (done : List DictionaryEntry) (term : List ℕ) → postings_section (done ++ entry_of term ∷ []) ≡ postings_section done
postings_section-term done term = postings_section-push done (entry_of term) ∙ append-nil (postings_section done)

-- ---- positions
pub position_total-push : (done : List DictionaryEntry) (entry : DictionaryEntry) → position_total (done ++ entry ∷ []) ≡ position_total done + position_total (entry ∷ [])
position_total-push done entry = sum_by-append (λ e. sum_by (λ posting. length posting.1) e.postings) done (entry ∷ [])

pub position_total-term : (done : List DictionaryEntry) (term : List ℕ) → position_total (done ++ entry_of term ∷ []) ≡ position_total done
position_total-term done term = omega (arith, position_total-push done (entry_of term))

-- ---- terms
pub terms_of-push : (done : List DictionaryEntry) (entry : DictionaryEntry) → terms_of (done ++ entry ∷ []) ≡ terms_of done ++ entry.term ∷ []
terms_of-push done entry = map-append (λ e. e.term) done (entry ∷ [])

-- ---- the steps
-- what is kept follows a term
pub kept_opened : (old middle new : WriterSections) (told : Told) (term : List ℕ) → HoldTold old told → IsClosable told → Closes old middle → length term ≤ 255 → Opens middle new term → HoldTold new (with_term told term)
kept_opened old middle new told term kept may closes short opens =
    let entries = entries_of told in
    let dictionary : IsDictionaryOf middle.dictionary entries = dictionary_closed old.dictionary middle.dictionary old.list told.done told.at_hand kept.dictionary kept.list may closes.entry closes.no_entry in
    let few : length entries ≤ old.dictionary.count + old.list.documents = entries_closed old.dictionary.count old.list told.done told.at_hand kept.dictionary.count kept.list may in
    let none : new.list.documents ≡ 0 = opens.documents ∙ closes.none in
    let no_bytes : new.list.bytes ≡ 0 = opens.bytes ∙ closes.no_bytes in
    let postings : new.postings ≡ old.postings = opens.postings ∙ closes.postings in
    let counted : position_total (entries ++ entry_of term ∷ []) ≡ position_total entries = position_total-term entries term in
    let few_bytes : old.postings ≤ 15 * position_total entries = kept.few_bytes in
    let few_documents : old.dictionary.count + old.list.documents ≤ position_total entries = kept.few_documents in
    let few_positions : position_total entries ≤ 2 ^ 28 = kept.few_positions in
    let count : new.dictionary.count ≡ length entries = ap (λ d. d.count) opens.dictionary ∙ dictionary.count in
    record {
      stop = ap (λ v. v.items) (opens.front.stop ∙ closes.front.stop) ∙ kept.stop;
      documents = ap (λ v. v.items) (opens.front.documents ∙ closes.front.documents) ∙ kept.documents;
      rows = opens.front.rows ∙ closes.front.rows ∙ kept.rows;
      dictionary = subst (λ d. IsDictionaryOf d entries) (sym opens.dictionary) dictionary;
      list = record { term = opens.term_at_hand; documents = none; bytes = no_bytes; next = opens.next ∙ closes.no_document };
      short = subst (λ bytes. length bytes ≤ 255) (sym opens.term_at_hand) short;
      grams = subst (λ terms. HoldsGrams new.grams terms) (sym (terms_of-push entries (entry_of term))) (opens.grams (terms_of entries) (subst (λ grams. HoldsGrams grams (terms_of entries)) (sym closes.grams) kept.grams));
      postings = postings ∙ kept.postings ∙ ap length (sym (postings_section-term entries term));
      within = omega arith;
      few_bytes = omega arith;
      few_documents = omega arith;
      few_positions = omega arith;
    }

-- what is kept stays told where it stays
pub kept_again : (old new : WriterSections) (told : Told) → HoldTold old told → KeepsTold old new → HoldTold new told
kept_again old new told kept same = record {
  stop = ap (λ v. v.items) same.front.stop ∙ kept.stop;
  documents = ap (λ v. v.items) same.front.documents ∙ kept.documents;
  rows = same.front.rows ∙ kept.rows;
  dictionary = subst (λ d. IsDictionaryOf d told.done) (sym same.dictionary) kept.dictionary;
  list = subst (λ list. MatchOption told.at_hand (list.documents ≡ 0) (IsListOfEntry list)) (sym same.list) kept.list;
  short = subst (λ list. length list.term.items ≤ 255) (sym same.list) kept.short;
  grams = subst (λ grams. HoldsGrams grams (terms_of (entries_of told))) (sym same.grams) kept.grams;
  postings = same.postings ∙ kept.postings;
  within = omega (arith, kept.within, ap (λ list. list.bytes) same.list, same.postings);
  few_bytes = omega (arith, kept.few_bytes, same.postings);
  few_documents = omega (arith, kept.few_documents, ap (λ d. d.count) same.dictionary, ap (λ list. list.documents) same.list);
  few_positions = kept.few_positions;
}

-- ---- the text that is settled
settled_front-term : (told : Told) (term : List ℕ) → settled_front (with_term told term) ≡ settled_front told
settled_front-term told term = ap (λ bytes. magic FrontCoded ++ bytes) (postings_section-term (entries_of told) term)

-- what is settled follows a term
pub spelled_term : (before now : Option (List ℕ)) (pending : List ℕ) (told : Told) (term : List ℕ) → Spells before now pending (settled_front told) → Spells before now pending (settled_front (with_term told term))
spelled_term before now pending told term spells = subst (λ text. Spells before now pending text) (sym (settled_front-term told term)) spells

-- ---- whole calls
-- only the refusal changes where a call is taken up, or has done its work
pub refusal_set : (old new : WriterSections) (refusal : Option PutError) → new ≡ record old { refusal = refusal } → KeepsTold old new
refusal_set old new refusal e = record {
  front = record { stop = ap (λ s. s.stop) e; documents = ap (λ s. s.documents) e; rows = ap (λ s. s.rows) e };
  dictionary = ap (λ s. s.dictionary) e;
  grams = ap (λ s. s.grams) e;
  list = ap (λ s. s.list) e;
  postings = ap (λ s. s.postings) e;
}

pub term_spelled : (before now : Option (List ℕ)) (old taken middle new : WriterSections) (refusal : Option PutError) (told : Told) (term : List ℕ) → Spells before now old.pending.items (settled_front told) → taken ≡ record old { refusal = refusal } → Closes taken middle → Opens middle new term → Spells before now new.pending.items (settled_front (with_term told term))
term_spelled before now old taken middle new refusal told term spells e closes opens =
    let same : new.pending.items ≡ old.pending.items = ap (λ v. v.items) (opens.pending ∙ closes.pending) ∙ ap (λ s. s.pending.items) e in
    spelled_term before now new.pending.items told term (subst (λ bytes. Spells before now bytes (settled_front told)) (sym same) spells)

pub term_kept : (old taken middle opened new : WriterSections) (refusal : Option PutError) (told : Told) (term : List ℕ) → HoldTold old told → IsClosable told → length term ≤ 255 → taken ≡ record old { refusal = refusal } → Closes taken middle → Opens middle opened term → KeepsTold opened new → HoldTold new (with_term told term)
term_kept old taken middle opened new refusal told term kept may short e closes opens after =
    kept_again opened new (with_term told term) (kept_opened taken middle opened told term (kept_again old taken told kept (refusal_set old taken refusal e)) may closes short opens) after

-- the term at hand is short
pub short_at_hand : (old taken : WriterSections) (refusal : Option PutError) → CanClose old → taken ≡ record old { refusal = refusal } → length taken.list.term.items < 2 ^ 32
short_at_hand old taken refusal can e =
    let short : length old.list.term.items ≤ 255 = can.kept.short in
    let same : length taken.list.term.items ≡ length old.list.term.items = ap (λ s. length s.list.term.items) e in
    omega arith

-- the grams of the terms so far, which are few
pub grams_told : (old taken closed : WriterSections) (refusal : Option PutError) → CanClose old → taken ≡ record old { refusal = refusal } → Closes taken closed → (terms : List (List ℕ)) × HoldsGrams closed.grams terms × (length terms < 2 ^ 32 - 1)
grams_told old taken closed refusal can e closes =
    let told = can.told in
    let kept = can.kept in
    let entries = entries_of told in
    let few : length entries ≤ old.dictionary.count + old.list.documents = entries_closed old.dictionary.count old.list told.done told.at_hand kept.dictionary.count kept.list can.may in
    let few_documents : old.dictionary.count + old.list.documents ≤ position_total entries = kept.few_documents in
    let few_positions : position_total entries ≤ 2 ^ 28 = kept.few_positions in (
      terms_of entries,
      subst (λ grams. HoldsGrams grams (terms_of entries)) (sym (closes.grams ∙ ap (λ s. s.grams) e)) kept.grams,
      omega (arith, few, few_documents, few_positions, length-map entries (λ (entry : DictionaryEntry). entry.term)),
    )
