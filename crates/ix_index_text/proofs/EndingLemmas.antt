-- How the whole text comes about at the end.
use Rattle.std.proofs.Common.{◌≡◌, ℕ, List, [], ◌++◌, Option, length, refl, sym, ap, ap₂, ◌∙◌, subst, append_assoc, Result, Ok, Err, OnOk}
use Rattle.std.proofs.lemmas.List.{append-nil}
use Rattle.std.specs.Io.KnownBytes.{Appends, Keeps}
use Rattle.std.specs.Int.{to_le_bytes, w32, w64}
use Rattle.ix_text.specs.Collections.{Collection, IsLawful}
use Rattle.ix_text.specs.Parts.{ArePartsOf, AreGramsOf, GramEntry, terms_of}
use Rattle.ix_output.specs.Sinks.{AppendsFront}
use Rattle.ix_output.proofs.SinkLemmas.{appends_then, appends_keeps}
use Rattle.ix_index_text.proofs.SpellLemmas.{all_spelled}
use Rattle.ix_index_text.specs.Endings.{IsEnding, IsFinished, WritesIndexText, trailer_bytes, trailer_of}
use Rattle.ix_index_text.specs.Grams.{AreGramsOfTerms, AppendsGrams}
use Rattle.ix_index_text.specs.GramTables.{HoldsGrams}
use Rattle.ix_index_text.specs.IndexText.{IsIndexText, end_mark, layout, tail}
use Rattle.ix_index_text.specs.SectionSteps.{Closes, KeepsTold}
use Rattle.ix_index_text.specs.Sections.{FrontCoded, postings_section, stop_section, documents_section, dictionary_section, grams_section}
use Rattle.ix_index_text.specs.Telling.{IsDictionaryOf, HoldTold, Spells, IsClosable}
use Rattle.ix_index_text.specs.Told.{Told, entries_of, parts_of, settled_front}
use Rattle.ix_index_text.specs.declared.put_error.PutError.{PutError}
use Rattle.ix_index_text.specs.declared.sections.WriterSections.{WriterSections}
use Rattle.ix_index_text.specs.declared.writer.trailer.Trailer.{Trailer}
use Rattle.ix_index_text.proofs.DictionaryLemmas.{dictionary_closed}
use Rattle.ix_index_text.proofs.TellingLemmas.{kept_again, refusal_set}
use Rattle.ix_index_text.proofs.GramLists.{one_of_terms, of_collection}

-- ---- fronts
-- a front of more
pub front_more : (old new : Option (List ℕ)) (bytes more : List ℕ) → AppendsFront old new bytes → AppendsFront old new (bytes ++ more)
front_more old new bytes more part = record {
  front = part.front;
  rest = part.rest ++ more;
  parts = ap (λ xs. xs ++ more) part.parts ∙ append_assoc part.front part.rest more;
  gained = part.gained;
}

-- a front of what comes behind what went out
pub front_then : (old middle new : Option (List ℕ)) (first second : List ℕ) → Appends old middle first → AppendsFront middle new second → AppendsFront old new (first ++ second)
front_then old middle new first second gained part = record {
  front = first ++ part.front;
  rest = part.rest;
  parts = ap (λ xs. first ++ xs) part.parts ∙ sym (append_assoc first part.front part.rest);
  gained = appends_then old middle new first part.front gained part.gained;
}

-- all of it is a front of it
pub front_of_all : (old new : Option (List ℕ)) (bytes : List ℕ) → Appends old new bytes → AppendsFront old new bytes
front_of_all old new bytes gained = record { front = bytes; rest = []; parts = sym (append-nil bytes); gained = gained }

-- what went out is a front of the text
pub front_of_spelled : (before now : Option (List ℕ)) (pending text : List ℕ) → Spells before now pending text → AppendsFront before now text
front_of_spelled before now pending text spells = record { front = spells.gone; rest = pending; parts = sym spells.spelled; gained = spells.gained }

-- ---- the trailer
-- eight appended one after another, each known by another name
pub eight_appended : (out one two three four five six seven eight a b c d e f g h a' b' c' d' e' f' g' : List ℕ) → one ≡ out ++ a' → two ≡ one ++ b' → three ≡ two ++ c' → four ≡ three ++ d' → five ≡ four ++ e' → six ≡ five ++ f' → seven ≡ six ++ g' → eight ≡ seven ++ h → a' ≡ a → b' ≡ b → c' ≡ c → d' ≡ d → e' ≡ e → f' ≡ f → g' ≡ g → eight ≡ out ++ (a ++ b ++ c ++ d ++ e ++ f ++ g ++ h)
eight_appended out one two three four five six seven eight a b c d e f g h a' b' c' d' e' f' g' p q r s t u v w pa pb pc pd pe pf pg =
    let whole : eight ≡ out ++ a ++ b ++ c ++ d ++ e ++ f ++ g ++ h = cc in
    whole ∙ regroup
  where
    regroup : out ++ a ++ b ++ c ++ d ++ e ++ f ++ g ++ h ≡ out ++ (a ++ b ++ c ++ d ++ e ++ f ++ g ++ h)
    regroup = simp append_assoc

-- the trailer of what is kept, field by field
pub trailer_is : (sections : WriterSections) (stop documents dictionary grams length_of_grams : ℕ) → stop ≡ length sections.stop.items → documents ≡ length sections.documents.items → dictionary ≡ length sections.dictionary.bytes.items → grams ≡ length_of_grams → (let t : Trailer = record { postings = sections.postings; stop = stop; documents = documents; dictionary = dictionary; grams = grams; rows = sections.rows; entries = sections.dictionary.count } in t) ≡ trailer_of sections length_of_grams
trailer_is sections stop documents dictionary grams length_of_grams p q r s = cc

-- GRAMS and the trailer, as they were appended
pub is_ending : (sections : WriterSections) (terms : List (List ℕ)) (grams ending : List ℕ) (trailer : Trailer) → AppendsGrams terms [] grams → trailer ≡ trailer_of sections (length grams) → ending ≡ grams ++ trailer_bytes trailer → IsEnding sections terms ending
is_ending sections terms grams ending trailer appended same spelled = record {
  grams = appended.grams;
  of_terms = appended.of_terms;
  spelled = spelled ∙ ap (λ t. grams ++ trailer_bytes t) same ∙ ap (λ bytes. bytes ++ trailer_bytes (trailer_of sections (length bytes))) appended.appended;
}

-- ---- the tail of the text
-- what is kept at the end: all entries are in the dictionary
pub record IsClosed (sections : WriterSections) (told : Told) : Type 0 where
  pub stop : sections.stop.items ≡ stop_section told.stop
  pub documents : sections.documents.items ≡ documents_section told.rows
  pub rows : sections.rows ≡ length told.rows
  pub dictionary : IsDictionaryOf sections.dictionary (entries_of told)
  pub grams : HoldsGrams sections.grams (terms_of (entries_of told))
  pub postings : sections.postings ≡ length (postings_section (entries_of told))

pub closed : (old taken new : WriterSections) (refusal : Option PutError) (told : Told) → HoldTold old told → IsClosable told → taken ≡ record old { refusal = refusal } → Closes taken new → IsClosed new told
closed old taken new refusal told kept may e closes =
    let P : WriterSections → Type 0 = λ s. HoldTold s told in
    let again : HoldTold taken told = kept_again old taken told kept (refusal_set old taken refusal e) in
    record {
      stop = ap (λ v. v.items) closes.front.stop ∙ again.stop;
      documents = ap (λ v. v.items) closes.front.documents ∙ again.documents;
      rows = closes.front.rows ∙ again.rows;
      dictionary = dictionary_closed taken.dictionary new.dictionary taken.list told.done told.at_hand again.dictionary again.list may closes.entry closes.no_entry;
      grams = subst (λ grams. HoldsGrams grams (terms_of (entries_of told))) (sym closes.grams) again.grams;
      postings = closes.postings ∙ again.postings;
    }

-- the trailer of what was told
told_trailer : Told → List GramEntry → Trailer
told_trailer told grams =
    record {
      postings = length (postings_section (entries_of told));
      stop = length (stop_section told.stop);
      documents = length (documents_section told.rows);
      dictionary = length (dictionary_section FrontCoded (entries_of told));
      grams = length (grams_section grams);
      rows = length told.rows;
      entries = length (entries_of told);
    }

trailer_told : (sections : WriterSections) (told : Told) (grams : List GramEntry) → IsClosed sections told → trailer_of sections (length (grams_section grams)) ≡ told_trailer told grams
unfolding told_trailer
trailer_told sections told grams of =
    let stop : length sections.stop.items ≡ length (stop_section told.stop) = ap length of.stop in
    let documents : length sections.documents.items ≡ length (documents_section told.rows) = ap length of.documents in
    let dictionary : length sections.dictionary.bytes.items ≡ length (dictionary_section FrontCoded (entries_of told)) = ap length of.dictionary.bytes in
    let postings : sections.postings ≡ length (postings_section (entries_of told)) = of.postings in
    let rows : sections.rows ≡ length told.rows = of.rows in
    let entries : sections.dictionary.count ≡ length (entries_of told) = of.dictionary.count in
    cc

regroup_tail : (s k d g a b c e f h i j : List ℕ) → s ++ k ++ d ++ (g ++ (a ++ b ++ c ++ e ++ f ++ h ++ i ++ j)) ≡ s ++ k ++ d ++ g ++ a ++ b ++ c ++ e ++ f ++ h ++ i ++ j
regroup_tail s k d g a b c e f h i j = simp append_assoc

tail_of_trailer : (told : Told) (grams : List GramEntry) → stop_section told.stop ++ documents_section told.rows ++ dictionary_section FrontCoded (entries_of told) ++ (grams_section grams ++ trailer_bytes (told_trailer told grams)) ≡ tail FrontCoded (parts_of told) grams
unfolding tail trailer_bytes told_trailer
tail_of_trailer told grams =
    regroup_tail (stop_section told.stop) (documents_section told.rows) (dictionary_section FrontCoded (entries_of told)) (grams_section grams)
    (to_le_bytes w64 (length (postings_section (entries_of told)))) (to_le_bytes w64 (length (stop_section told.stop))) (to_le_bytes w64 (length (documents_section told.rows)))
    (to_le_bytes w64 (length (dictionary_section FrontCoded (entries_of told)))) (to_le_bytes w64 (length (grams_section grams))) (to_le_bytes w32 (length told.rows))
    (to_le_bytes w32 (length (entries_of told))) (end_mark FrontCoded)

-- the four parts behind POSTINGS are the tail
tail_spelled : (sections : WriterSections) (told : Told) (ending : List ℕ) (is : IsEnding sections (terms_of (entries_of told)) ending) → IsClosed sections told → sections.stop.items ++ sections.documents.items ++ sections.dictionary.bytes.items ++ ending ≡ tail FrontCoded (parts_of told) is.grams
tail_spelled sections told ending is of =
    ap₂ (λ stop documents. stop ++ documents ++ sections.dictionary.bytes.items ++ ending) of.stop of.documents
    ∙ ap₂ (λ dictionary bytes. stop_section told.stop ++ documents_section told.rows ++ dictionary ++ bytes) of.dictionary.bytes is.spelled
    ∙ ap (λ trailer. stop_section told.stop ++ documents_section told.rows ++ dictionary_section FrontCoded (entries_of told) ++ (grams_section is.grams ++ trailer_bytes trailer)) (trailer_told sections told is.grams of)
    ∙ tail_of_trailer told is.grams

layout_of : (told : Told) (grams : List GramEntry) → layout FrontCoded (parts_of told) grams ≡ settled_front told ++ tail FrontCoded (parts_of told) grams
unfolding layout
layout_of told grams = refl

-- a front of what is settled is one of the whole text
pub front_of_layout : (before now : Option (List ℕ)) (told : Told) (grams : List GramEntry) → AppendsFront before now (settled_front told) → AppendsFront before now (layout FrontCoded (parts_of told) grams)
front_of_layout before now told grams part = subst (λ bytes. AppendsFront before now bytes) (sym (layout_of told grams)) (front_more before now (settled_front told) (tail FrontCoded (parts_of told) grams) part)

-- the whole text went out
pub finished : (before sent new : Option (List ℕ)) (pending : List ℕ) (sections : WriterSections) (told : Told) (ending : List ℕ) → Spells before sent pending (settled_front told) → pending ≡ [] → IsClosed sections told → IsEnding sections (terms_of (entries_of told)) ending → Appends sent new (sections.stop.items ++ sections.documents.items ++ sections.dictionary.bytes.items ++ ending) → IsFinished before new told
finished before sent new pending sections told ending spells none of is gained =
    let front : Appends before sent (settled_front told) = all_spelled before sent pending (settled_front told) spells none in
    let back : Appends sent new (tail FrontCoded (parts_of told) is.grams) = subst (λ bytes. Appends sent new bytes) (tail_spelled sections told ending is of) gained in
    record {
      grams = is.grams;
      of_terms = is.of_terms;
      written = subst (λ bytes. Appends before new bytes) (sym (layout_of told is.grams)) (appends_then before sent new (settled_front told) (tail FrontCoded (parts_of told) is.grams) front back);
    }

-- a front of the tail went out behind what is settled
pub front_of_tail : (before sent new : Option (List ℕ)) (pending : List ℕ) (sections : WriterSections) (told : Told) (ending : List ℕ) (grams : List GramEntry) → Spells before sent pending (settled_front told) → pending ≡ [] → IsClosed sections told → IsEnding sections (terms_of (entries_of told)) ending → AreGramsOfTerms (terms_of (entries_of told)) grams → AppendsFront sent new (sections.stop.items ++ sections.documents.items ++ sections.dictionary.bytes.items ++ ending) → AppendsFront before new (layout FrontCoded (parts_of told) grams)
front_of_tail before sent new pending sections told ending grams spells none of is others part =
    let front : Appends before sent (settled_front told) = all_spelled before sent pending (settled_front told) spells none in
    let same : is.grams ≡ grams = one_of_terms (terms_of (entries_of told)) is.grams grams is.of_terms others in
    let back : AppendsFront sent new (tail FrontCoded (parts_of told) grams) = subst (λ bytes. AppendsFront sent new bytes) (tail_spelled sections told ending is of ∙ ap (λ g. tail FrontCoded (parts_of told) g) same) part in
    subst (λ bytes. AppendsFront before new bytes) (sym (layout_of told grams)) (front_then before sent new (settled_front told) (tail FrontCoded (parts_of told) grams) front back)

-- the whole text is a front of it
pub front_of_finished : (before sent new : Option (List ℕ)) (told : Told) (grams : List GramEntry) → IsFinished before sent told → AreGramsOfTerms (terms_of (entries_of told)) grams → Keeps sent new → AppendsFront before new (layout FrontCoded (parts_of told) grams)
front_of_finished before sent new told grams is others keeps =
    let same : is.grams ≡ grams = one_of_terms (terms_of (entries_of told)) is.grams grams is.of_terms others in
    front_of_all before new (layout FrontCoded (parts_of told) grams) (appends_keeps before sent new (layout FrontCoded (parts_of told) grams) (subst (λ g. Appends before sent (layout FrontCoded (parts_of told) g)) same is.written) keeps)

-- and it stays so
pub finished_keeps : (before sent new : Option (List ℕ)) (told : Told) → IsFinished before sent told → Keeps sent new → IsFinished before new told
finished_keeps before sent new told is keeps = record {
  grams = is.grams;
  of_terms = is.of_terms;
  written = appends_keeps before sent new (layout FrontCoded (parts_of told) is.grams) is.written keeps;
}

-- the text that is settled is spelled on where nothing that was told changes
pub spells_on : (before now : Option (List ℕ)) (old taken new : WriterSections) (refusal : Option PutError) (text : List ℕ) → Spells before now old.pending.items text → taken ≡ record old { refusal = refusal } → Closes taken new → Spells before now new.pending.items text
spells_on before now old taken new refusal text spells e closes =
    subst (λ bytes. Spells before now bytes text) (sym (ap (λ v. v.items) closes.pending ∙ ap (λ s. s.pending.items) e)) spells

-- what was kept stays, and the ending stands behind it
pub ending_kept : (old last : WriterSections) (told : Told) (ending : List ℕ) → IsClosed old told → IsEnding old (terms_of (entries_of told)) ending → KeepsTold old last → (last.stop.items ++ last.documents.items ++ last.dictionary.bytes.items ++ ending ≡ old.stop.items ++ old.documents.items ++ old.dictionary.bytes.items ++ ending)
ending_kept old last told ending of is keeps =
    let stop : last.stop ≡ old.stop = keeps.front.stop in
    let documents : last.documents ≡ old.documents = keeps.front.documents in
    let dictionary : last.dictionary ≡ old.dictionary = keeps.dictionary in
    cc

-- where the parts are those of a lawful collection, the whole text is one of it
pub text_of_collection : (before now : Option (List ℕ)) (told : Told) (collection : Collection) → IsLawful collection → ArePartsOf collection (parts_of told) → IsFinished before now told → WritesIndexText before now collection
text_of_collection before now told collection lawful parts is = record {
  text = layout FrontCoded (parts_of told) is.grams;
  of_collection = record {
    lawful = lawful;
    parts = parts_of told;
    grams = is.grams;
    of_collection = parts;
    grams_of_collection = of_collection collection (parts_of told) is.grams parts is.of_terms;
    spelled = refl;
  };
  written = is.written;
}

pub on_ok_text : {T E : Type 0} (result : Result T E) (before now : Option (List ℕ)) (told : Told) (collection : Collection) → IsLawful collection → ArePartsOf collection (parts_of told) → OnOk result (IsFinished before now told) → OnOk result (WritesIndexText before now collection)
on_ok_text (Ok value) before now told collection lawful parts is = text_of_collection before now told collection lawful parts is
on_ok_text (Err error) before now told collection lawful parts is = tt

-- what is settled begins an index text
pub begins_text : (told : Told) (collection : Collection) (grams : List GramEntry) → IsLawful collection → ArePartsOf collection (parts_of told) → AreGramsOf collection grams → IsIndexText FrontCoded collection (settled_front told ++ tail FrontCoded (parts_of told) grams)
begins_text told collection grams lawful parts grams_of = record {
  lawful = lawful;
  parts = parts_of told;
  grams = grams;
  of_collection = parts;
  grams_of_collection = grams_of;
  spelled = sym (layout_of told grams);
}
