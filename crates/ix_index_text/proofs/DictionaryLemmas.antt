-- A dictionary that grows by entries at its end.
use Rattle.std.proofs.Common.{◌≡◌, ℕ, suc, ◌+◌, ◌<◌, ◌≤◌, List, [], ◌∷◌, ◌++◌, Option, None, Some, length, refl, sym, ap, ap₂, ◌∙◌, subst, arith, append_assoc, MatchOption, IfSome}
use Rattle.std.specs.Option.{option_to_list}
use Rattle.std.proofs.lemmas.List.{append-nil, length-append}
use Rattle.ix_vbyte.specs.Code.{code_of}
use Rattle.ix_text.specs.Parts.{DictionaryEntry}
use Rattle.ix_index_text.specs.Sections.{FrontCoded, entry_counts, grouped, front_coded_from, dictionary_section}
use Rattle.ix_index_text.specs.Dictionaries.{GainsEntry}
use Rattle.ix_index_text.specs.Telling.{last_term, IsDictionaryOf, IsListOfEntry}
use Rattle.ix_index_text.specs.declared.writer.dictionary.Dictionary.{Dictionary}
use Rattle.ix_index_text.specs.declared.writer.list.ListAtHand.{ListAtHand}

last_term-push : (before : List ℕ) (entries : List DictionaryEntry) (entry : DictionaryEntry) → last_term before (entries ++ entry ∷ []) ≡ entry.term
last_term-push before [] entry = refl
last_term-push before (x ∷ xs) entry = last_term-push x.term xs entry

-- one entry more
front_coded_from-push : (place : ℕ) (before : List ℕ) (entries : List DictionaryEntry) (entry : DictionaryEntry) → front_coded_from place before (entries ++ entry ∷ []) ≡ front_coded_from place before entries ++ (grouped (place + length entries) (last_term before entries) entry.term ++ entry_counts entry)
front_coded_from-push place before [] entry =
    let same : place ≡ place + 0 = omega arith in
    append-nil (grouped place before entry.term ++ entry_counts entry) ∙ ap (λ n. grouped n before entry.term ++ entry_counts entry) same
front_coded_from-push place before (x ∷ xs) entry =
    let same : place + 1 + length xs ≡ place + suc (length xs) = omega arith in
    let front = grouped place before x.term ++ entry_counts x in
    ap (λ bytes. front ++ bytes) (front_coded_from-push (place + 1) x.term xs entry ∙ ap (λ n. front_coded_from (place + 1) x.term xs ++ (grouped n (last_term x.term xs) entry.term ++ entry_counts entry)) same)
    ∙ sym (append_assoc front (front_coded_from (place + 1) x.term xs) (grouped (place + suc (length xs)) (last_term x.term xs) entry.term ++ entry_counts entry))

dictionary_section-push : (entries : List DictionaryEntry) (entry : DictionaryEntry) → dictionary_section FrontCoded (entries ++ entry ∷ []) ≡ dictionary_section FrontCoded entries ++ (grouped (length entries) (last_term [] entries) entry.term ++ entry_counts entry)
unfolding dictionary_section
dictionary_section-push entries entry =
    let same : 0 + length entries ≡ length entries = omega arith in
    front_coded_from-push 0 [] entries entry ∙ ap (λ n. front_coded_from 0 [] entries ++ (grouped n (last_term [] entries) entry.term ++ entry_counts entry)) same

pub dictionary_none : (dictionary : Dictionary) → dictionary.bytes.items ≡ [] → dictionary.count ≡ 0 → dictionary.previous.items ≡ [] → IsDictionaryOf dictionary []
unfolding dictionary_section
dictionary_none dictionary bytes count previous = record { bytes = bytes; count = count; previous = previous }

-- the entry of a list was gained
dictionary_gained : (old new : Dictionary) (list : ListAtHand) (done : List DictionaryEntry) (entry : DictionaryEntry) → IsDictionaryOf old done → IsListOfEntry list entry → GainsEntry old new list.term.items list.documents list.bytes → IsDictionaryOf new (done ++ entry ∷ [])
dictionary_gained old new list done entry is of gain = record {
  bytes =
      gain.bytes
      ∙ append_assoc (old.bytes.items ++ grouped old.count old.previous.items list.term.items) (code_of list.documents) (code_of list.bytes)
      ∙ append_assoc old.bytes.items (grouped old.count old.previous.items list.term.items) (code_of list.documents ++ code_of list.bytes)
      ∙ ap₂ (λ bytes added. bytes ++ added) is.bytes same_added
      ∙ sym (dictionary_section-push done entry);
  count = gain.count ∙ ap (λ n. n + 1) is.count ∙ sym (length-append done (entry ∷ []));
  previous = gain.previous ∙ of.term ∙ sym (last_term-push [] done entry);
}
  where
    same_added : grouped old.count old.previous.items list.term.items ++ (code_of list.documents ++ code_of list.bytes) ≡ grouped (length done) (last_term [] done) entry.term ++ entry_counts entry
    same_added =
        ap₂ (λ n before. grouped n before list.term.items ++ (code_of list.documents ++ code_of list.bytes)) is.count is.previous
        ∙ ap (λ term. grouped (length done) (last_term [] done) term ++ (code_of list.documents ++ code_of list.bytes)) of.term
        ∙ ap₂ (λ m n. grouped (length done) (last_term [] done) entry.term ++ (code_of m ++ code_of n)) of.documents of.bytes

-- the entry at hand was finished, if there was one
pub dictionary_closed : (old new : Dictionary) (list : ListAtHand) (done : List DictionaryEntry) (at_hand : Option DictionaryEntry) → IsDictionaryOf old done → MatchOption at_hand (list.documents ≡ 0) (IsListOfEntry list) → IfSome at_hand (λ entry. 0 < length entry.postings) → (0 < list.documents → GainsEntry old new list.term.items list.documents list.bytes) → (list.documents ≡ 0 → new ≡ old) → IsDictionaryOf new (done ++ option_to_list at_hand)
dictionary_closed old new list done None is of some gain none =
    let P : List DictionaryEntry → Type 0 = λ entries. IsDictionaryOf new entries in
    let Q : Dictionary → Type 0 = λ dictionary. IsDictionaryOf dictionary done in
    subst P (sym (append-nil done)) (subst Q (sym (none of)) is)
dictionary_closed old new list done (Some entry) is of some gain none =
    let posted : 0 < list.documents = omega (arith, of.documents, some) in
    dictionary_gained old new list done entry is of (gain posted)

-- the finished ones with the one at hand are no more than the documents of the one at hand and them
pub entries_closed : (count : ℕ) (list : ListAtHand) (done : List DictionaryEntry) (at_hand : Option DictionaryEntry) → count ≡ length done → MatchOption at_hand (list.documents ≡ 0) (IsListOfEntry list) → IfSome at_hand (λ entry. 0 < length entry.postings) → length (done ++ option_to_list at_hand) ≤ count + list.documents
entries_closed count list done None is of some = omega (arith, length-append {A = DictionaryEntry} done [])
entries_closed count list done (Some entry) is of some = omega (arith, length-append done (entry ∷ []), of.documents, some)
