-- STOP and DOCS, element by element, and what is kept at the beginning.
use Rattle.std.proofs.Common.{◌≡◌, ℕ, ◌+◌, ◌<◌, ◌≤◌, List, [], ◌∷◌, ◌++◌, Option, Some, None, map, flat_map, length, take, get_or, refl, sym, ap, ap₂, ◌∙◌, arith, append_assoc, All, Result, Ok, Err, OnOk, is_err, false}
use Rattle.std.proofs.lemmas.List.{append-nil, map-append, take_more, get_or-map, length-map}
use Rattle.std.proofs.lemmas.List.Concat.{flat_map-append}
use Rattle.std.proofs.lemmas.List.Elements.{All-get_or}
use Rattle.ix_vbyte.specs.Code.{code_of}
use Rattle.ix_vbyte.specs.Texts.{counted}
use Rattle.ix_text.specs.Parts.{DocumentRow}
use Rattle.ix_text.specs.Terms.{IsTerm}
use Rattle.ix_output.proofs.SinkLemmas.{appends_nothing}
use Rattle.ix_index_text.specs.IndexText.{magic}
use Rattle.ix_index_text.specs.Sections.{FrontCoded, stop_section, documents_section, postings_section}
use Rattle.ix_index_text.specs.Told.{told_first, settled_front}
use Rattle.ix_index_text.specs.SectionSteps.{Begins}
use Rattle.ix_index_text.specs.Telling.{HoldTold, IsTold}
use Rattle.ix_index_text.specs.declared.put_error.PutError.{PutError}
use Rattle.ix_index_text.specs.declared.sections.WriterSections.{WriterSections}
use Rattle.ix_index_text.proofs.DictionaryLemmas.{dictionary_none}

map-more : {X Y : Type 0} (f : X → Y) (xs : List X) (i : ℕ) (d : X) → i < length xs → map f (take (i + 1) xs) ≡ map f (take i xs) ++ f (get_or xs i d) ∷ []
map-more f xs i d within = ap (λ ys. map f ys) (take_more xs i d within) ∙ map-append f (take i xs) (get_or xs i d ∷ [])

pub stop_section-none : stop_section [] ≡ []
unfolding stop_section
stop_section-none = refl

pub stop_section-more : {X : Type 0} (f : X → List ℕ) (xs : List X) (i : ℕ) (d : X) → i < length xs → stop_section (map f (take (i + 1) xs)) ≡ stop_section (map f (take i xs)) ++ counted (f (get_or xs i d))
unfolding stop_section
stop_section-more f xs i d within =
    ap (λ terms. flat_map counted terms) (map-more f xs i d within) ∙ flat_map-append counted (map f (take i xs)) (f (get_or xs i d) ∷ [])
    ∙ ap (λ bytes. flat_map counted (map f (take i xs)) ++ bytes) (append-nil (counted (f (get_or xs i d))))

pub documents_section-none : documents_section [] ≡ []
unfolding documents_section
documents_section-none = refl

pub documents_section-more : {X : Type 0} (f : X → DocumentRow) (xs : List X) (i : ℕ) (d : X) → i < length xs → documents_section (map f (take (i + 1) xs)) ≡ (documents_section (map f (take i xs)) ++ counted (f (get_or xs i d)).name) ++ code_of (f (get_or xs i d)).tokens
unfolding documents_section
documents_section-more f xs i d within =
    let coded : DocumentRow → List ℕ = λ row. counted row.name ++ code_of row.tokens in
    let row = f (get_or xs i d) in
    ap (λ rows. flat_map coded rows) (map-more f xs i d within) ∙ flat_map-append coded (map f (take i xs)) (row ∷ [])
    ∙ ap (λ bytes. flat_map coded (map f (take i xs)) ++ bytes) (append-nil (counted row.name ++ code_of row.tokens))
    ∙ sym (append_assoc (flat_map coded (map f (take i xs))) (counted row.name) (code_of row.tokens))

-- a row more was appended
pub row_appended : (old now middle new section next : List ℕ) (text name : List ℕ) (tokens : ℕ) → middle ≡ now ++ counted text → new ≡ middle ++ code_of tokens → now ≡ old ++ section → text ≡ name → next ≡ (section ++ counted name) ++ code_of tokens → new ≡ old ++ next
row_appended old now middle new section next text name tokens first second so_far same more =
    second ∙ ap (λ bytes. bytes ++ code_of tokens) (first ∙ ap₂ (λ bytes t. bytes ++ counted t) so_far same ∙ append_assoc old section (counted name))
    ∙ append_assoc old (section ++ counted name) (code_of tokens) ∙ ap (λ bytes. old ++ bytes) (sym more)

-- a stop term is short
pub short_term : {X : Type 0} (f : X → List ℕ) (xs : List X) (i : ℕ) (d : X) → i < length xs → All IsTerm (map f xs) → length (f (get_or xs i d)) ≤ 255
short_term f xs i d within terms =
    let term : IsTerm (get_or (map f xs) i []) = All-get_or IsTerm (map f xs) i [] (simp length-map within) terms in
    omega (arith, term.short, ap length (get_or-map f xs i d [] within))

-- the first of what is told
pub kept_first : (sections : WriterSections) (stop : List (List ℕ)) (rows : List DocumentRow) → Begins sections stop rows → HoldTold sections (told_first stop rows)
unfolding postings_section
kept_first sections stop rows begins = record {
  stop = begins.stop_terms;
  documents = begins.documents;
  rows = begins.counted;
  dictionary = dictionary_none sections.dictionary begins.no_dictionary begins.no_entry begins.no_previous;
  list = begins.no_document;
  short = omega (arith, ap length begins.no_term);
  grams = begins.grams;
  postings = begins.postings;
  within = omega (arith, begins.no_bytes);
  few_bytes = omega (arith, begins.postings);
  few_documents = omega (arith, begins.no_entry, begins.no_document);
  few_positions = omega arith;
}

settled_front-first : (stop : List (List ℕ)) (rows : List DocumentRow) → settled_front (told_first stop rows) ≡ magic FrontCoded
unfolding postings_section
settled_front-first stop rows = append-nil (magic FrontCoded)

-- nothing went out yet
pub told_at_first : (known : Option (List ℕ)) (sections : WriterSections) (stop : List (List ℕ)) (rows : List DocumentRow) → Begins sections stop rows → IsTold known known sections (told_first stop rows)
told_at_first known sections stop rows begins = record {
  ready = begins.ready;
  kept = kept_first sections stop rows begins;
  written = record { gone = []; gained = appends_nothing known; spelled = begins.pending ∙ sym (settled_front-first stop rows) };
}

-- what is so at Ok is so where there is no error
pub ok_of_no_error : {T E P : Type 0} (result : Result T E) → is_err result ≡ false → OnOk result P → P
ok_of_no_error (Ok value) none p = p
ok_of_no_error (Err error) none p = absurd (cc)

-- who was refused is not ready
pub not_refused : {P : Type 0} (old new : WriterSections) (error : PutError) → new ≡ record old { refusal = Some error } → new.refusal ≡ None → P
not_refused old new error set ready =
    let no : Some error ≡ None = sym (ap (λ s. s.refusal) set) ∙ ready in
    absurd (cc)
