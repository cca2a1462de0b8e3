-- Terms are text, token lists are lawful, and so is the collection of a collection text under a stop set.
use Rattle.std.proofs.Common.{◌≡◌, ℕ, inl, inr, Bool, true, false, cond, ◌&&◌, Some, List, [], ◌∷◌, ◌++◌, length, flat_map, chars, encode_utf8_all, IsUtf8, All, refl, sym, ap, subst, ◌∙◌, arith, lit<, append_assoc}
use lib.Utf8.{scalar, scalars, low_scalar}
use Rattle.std.proofs.lemmas.Bool.{cases_Bool, and_parts, and_from, ltb-true, leb-true}
use Rattle.std.proofs.lemmas.Bool.Decides.{not_from_Decides}
use Rattle.std.proofs.lemmas.List.{length-map}
use Rattle.std.proofs.lemmas.List.Elements.{All-nil, All-cons, All-head, All-tail, All-map, All-weaker, All-filter}
use Rattle.std.proofs.lemmas.Str.{scalars-chars}
use Rattle.std.specs.List.{list_all}
use Rattle.ucd_case.specs.CaseFolding.{full_folding, full_fold, or_itself as or_unfolded}
use Rattle.ucd_normal.specs.Decomposition.{or_itself, canonical_decomposition}
use Rattle.ucd_normal.proofs.CompositionLemmas.{is_empty}
use Rattle.unicode_normalization.specs.Compose.{primary_composite}
use Rattle.unicode_normalization.specs.Decompose.{decompose}
use Rattle.unicode_normalization.specs.Forms.{Nfd, Nfc, nfd}
use Rattle.unicode_normalization.specs.Hangul.{is_syllable}
use Rattle.unicode_normalization.proofs.ComposeLemmas.{list_all-append}
use Rattle.unicode_normalization.proofs.DecomposeLemmas.{is_empty-true, or_itself-some, primary_composite-some, is_syllable-IsLv, is_syllable-IsLvt}
use Rattle.unicode_normalization.proofs.HangulLemmas.{is_syllable-true}
use Rattle.unicode_normalization.proofs.KeptLemmas.{list_all-normalize}
use Rattle.caseless.specs.Caseless.{default_case_fold}
use Rattle.caseless.proofs.CaselessLemmas.{default_case_fold-nil, default_case_fold-cons}
use Rattle.unicode_segmentation.specs.Segments.{Rule, prepend, cut, segments, has_alphanumeric}
use Rattle.unicode_segmentation.specs.Word.{is_word_break, words}
use Rattle.ix_text.specs.Collections.{NamedText, collection_of, IsName, IsLawfulEntry, IsLawful}
use Rattle.ix_text.specs.CollectionText.{line_of, IsCollectionText}
use Rattle.ix_text.specs.StopSets.{IsStopSet}
use Rattle.ix_text.specs.Terms.{folded, term_of_word}
use Rattle.ix_text.specs.TokenLists.{entry_of_term, is_stop_term, is_term_size, token_list}
use Rattle.ix_text.proofs.CollectionLemmas.{cut_texts}
use Rattle.ix_text.proofs.FoldLemmas.{is_jamo, is_jamo-below, parts, parts_jamos, parts-other}
use Rattle.ix_text.proofs.FoldTables.{folding_scalars, parts_scalars, mapped_scalar}
use Rattle.ix_text.proofs.SizeLemmas.{document_of, tokens_few, lines_hold}
use Rattle.ix_text.proofs.TokenLemmas.{entry_of_term-kept, entry_of_term-stopped, entry_of_term-wrong_size, is_stop_term-Decides}

-- ---- a folded text has scalar values alone

all_scalars : (cs : List ℕ) → scalars cs ≡ list_all scalar cs
all_scalars [] = refl
all_scalars (c ∷ cs) = ap (λ b. scalar c && b) (all_scalars cs)

jamo_scalars : (cs : List ℕ) → list_all is_jamo cs ≡ true → list_all scalar cs ≡ true
jamo_scalars [] all = refl
jamo_scalars (c ∷ cs) all =
    let both = and_parts (is_jamo c) (list_all is_jamo cs) all in
    and_from _ _ (low_scalar c (omega (arith, is_jamo-below c both.0))) (jamo_scalars cs both.1)

parts_scalar : (c : ℕ) → scalar c ≡ true → list_all scalar (parts c) ≡ true
parts_scalar c one =
    elim (cases_Bool (is_syllable c)) [
      | inl syllable ↦ jamo_scalars (parts c) (parts_jamos c syllable)
      | inr other ↦
          elim (cases_Bool (is_empty (canonical_decomposition c))) [
            | inl alone ↦ ap (list_all scalar) (parts-other c other ∙ ap (or_itself c) (is_empty-true _ alone)) ∙ and_from _ _ one refl
            | inr some ↦
                ap (list_all scalar) (parts-other c other ∙ or_itself-some c (canonical_decomposition c) some) ∙ parts_scalars c
          ]
    ]

decompose_scalar-nfd : (c : ℕ) → scalar c ≡ true → list_all scalar (decompose Nfd c) ≡ true
unfolding parts
decompose_scalar-nfd = parts_scalar

decompose_scalar-nfc : (c : ℕ) → scalar c ≡ true → list_all scalar (decompose Nfc c) ≡ true
unfolding decompose
decompose_scalar-nfc c one = decompose_scalar-nfd c one

composite_scalar : (a b p : ℕ) → scalar a ≡ true → scalar b ≡ true → primary_composite a b ≡ Some p → scalar p ≡ true
composite_scalar a b p first second made =
    elim (primary_composite-some a b p made) [
      | inl hangul ↦
          elim hangul [
            | inl lv ↦ low_scalar p (omega (arith, (is_syllable-true p (is_syllable-IsLv a b p lv)).1))
            | inr lvt ↦ low_scalar p (omega (arith, (is_syllable-true p (is_syllable-IsLvt a b p lvt)).1))
          ]
      | inr table ↦ mapped_scalar p (ap is_empty table.mapping)
    ]

fold_scalar : (c : ℕ) → scalar c ≡ true → list_all scalar (full_fold c) ≡ true
fold_scalar c one =
    elim (cases_Bool (is_empty (full_folding c))) [
      | inl none ↦ ap (λ l. list_all scalar (or_unfolded c l)) (is_empty-true _ none) ∙ and_from _ _ one refl
      | inr some ↦ ap (list_all scalar) (folds_to c (full_folding c) some) ∙ folding_scalars c
    ]
  where
    folds_to : (c : ℕ) (xs : List ℕ) → is_empty xs ≡ false → or_unfolded c xs ≡ xs
    folds_to c [] some = cc
    folds_to c (x ∷ xs) some = refl

folding_all_scalars : (cs : List ℕ) → list_all scalar cs ≡ true → list_all scalar (default_case_fold cs) ≡ true
folding_all_scalars [] all = ap (list_all scalar) default_case_fold-nil
folding_all_scalars (c ∷ cs) all =
    let both = and_parts (scalar c) (list_all scalar cs) all in
    ap (list_all scalar) (default_case_fold-cons c cs)
    ∙ list_all-append scalar (full_fold c) (default_case_fold cs) (fold_scalar c both.0) (folding_all_scalars cs both.1)

folded_scalars : (cs : List ℕ) → list_all scalar cs ≡ true → list_all scalar (folded cs) ≡ true
unfolding folded
folded_scalars cs all =
    list_all-normalize Nfc scalar decompose_scalar-nfc composite_scalar (default_case_fold (nfd cs))
    (folding_all_scalars (nfd cs) (list_all-normalize Nfd scalar decompose_scalar-nfd composite_scalar cs all))

pub term_text : (word : List ℕ) → IsUtf8 word → IsUtf8 (term_of_word word)
unfolding term_of_word
term_text word utf8 =
    let all = folded_scalars (chars word) (sym (all_scalars (chars word)) ∙ scalars-chars word utf8) in
    (folded (chars word), (all_scalars (folded (chars word)) ∙ all, refl))

-- ---- the words of a text are text

AreScalars : List ℕ → Type 0
AreScalars cs = scalars cs ≡ true

prepend_scalars : (c : ℕ) (pieces : List (List ℕ)) → scalar c ≡ true → All AreScalars pieces → All AreScalars (prepend (c ∷ []) pieces)
unfolding AreScalars
prepend_scalars c [] one all = All-cons AreScalars (c ∷ []) [] (and_from _ _ one refl) all
prepend_scalars c (piece ∷ pieces) one all =
    All-cons AreScalars (c ∷ piece) pieces (and_from _ _ one (All-head AreScalars piece pieces all)) (All-tail AreScalars piece pieces all)

cut_scalars : (rule : Rule) (before cs after : List ℕ) → scalars cs ≡ true → All AreScalars (cut rule before cs after)
unfolding AreScalars cut
cut_scalars rule before [] after all = All-nil AreScalars
cut_scalars rule before (c ∷ cs) after all =
    let both = and_parts (scalar c) (scalars cs) all in
    attach (rule (c ∷ before) (cs ++ after)) c (cut rule (c ∷ before) cs after) both.0 (cut_scalars rule (c ∷ before) cs after both.1)
  where
    attach : (b : Bool) (c : ℕ) (pieces : List (List ℕ)) → scalar c ≡ true → All AreScalars pieces → All AreScalars (cond b ((c ∷ []) ∷ pieces) (prepend (c ∷ []) pieces))
    attach true c pieces one all = All-cons AreScalars (c ∷ []) pieces (and_from _ _ one refl) all
    attach false c pieces one all = prepend_scalars c pieces one all

words_text : (text : List ℕ) → IsUtf8 text → All IsUtf8 (words text)
unfolding segments AreScalars
words_text text utf8 =
    All-filter has_alphanumeric IsUtf8 (segments is_word_break text)
    (All-map IsUtf8 encode_utf8_all (cut is_word_break [] (chars text) [])
    (All-weaker AreScalars (λ cs. IsUtf8 (encode_utf8_all cs)) (λ cs all. (cs, (all, refl))) (cut is_word_break [] (chars text) [])
    (cut_scalars is_word_break [] (chars text) [] (scalars-chars text utf8))))

-- ---- token lists

lawful_entry : (stop : List (List ℕ)) (term : List ℕ) → IsUtf8 term → IsLawfulEntry stop (entry_of_term stop term)
lawful_entry stop term utf8 =
    elim (cases_Bool (is_term_size term)) [
      | inr wrong ↦ subst (IsLawfulEntry stop) (sym (entry_of_term-wrong_size stop term wrong)) tt
      | inl size ↦
          let decides = is_stop_term-Decides stop term in
          elim (cases_Bool (is_stop_term stop term)) [
            | inl stopped ↦ subst (IsLawfulEntry stop) (sym (entry_of_term-stopped stop term (decides.0 stopped))) tt
            | inr free ↦
                let none = not_from_Decides (is_stop_term stop term) decides free in
                let sizes = and_parts _ _ size in
                subst (IsLawfulEntry stop) (sym (entry_of_term-kept stop term size none))
                (record { text = utf8; some_byte = ltb-true 0 (length term) sizes.0; short = leb-true (length term) 255 sizes.1 }, none)
          ]
    ]

pub lawful_token_list : (stop : List (List ℕ)) (text : List ℕ) → IsUtf8 text → All (IsLawfulEntry stop) (token_list stop text)
unfolding token_list
lawful_token_list stop text utf8 =
    All-map (IsLawfulEntry stop) (λ word. entry_of_term stop (term_of_word word)) (words text)
    (All-weaker IsUtf8 (λ word. IsLawfulEntry stop (entry_of_term stop (term_of_word word))) (λ word u. lawful_entry stop (term_of_word word) (term_text word u)) (words text) (words_text text utf8))

-- ---- collections

-- the lines of documents are text, and so are their texts
rest_text : (d : NamedText) (rest : List ℕ) → IsUtf8 (line_of d ++ rest) → IsUtf8 d.text × IsUtf8 rest
rest_text d rest utf8 =
    let first : line_of d ++ rest ≡ d.name ++ 9 ∷ (d.text ++ 10 ∷ rest) = simp append_assoc in
    let after_tab = (cut_texts (line_of d ++ rest) 9 d.name (d.text ++ 10 ∷ rest) first (lit< tt) utf8).1 in
    cut_texts (d.text ++ 10 ∷ rest) 10 d.text rest refl (lit< tt) after_tab

texts_held : (texts : List NamedText) → IsUtf8 (flat_map line_of texts) → All (λ d. IsUtf8 d.text) texts
texts_held [] utf8 = All-nil (λ d. IsUtf8 d.text)
texts_held (d ∷ ds) utf8 =
    let parts = rest_text d (flat_map line_of ds) utf8 in
    All-cons (λ e. IsUtf8 e.text) d ds parts.0 (texts_held ds parts.1)

pub lawful_collection : (stop : List (List ℕ)) (bytes : List ℕ) (texts : List NamedText) → IsStopSet stop → IsCollectionText bytes texts → IsLawful (collection_of stop texts)
unfolding collection_of document_of
lawful_collection stop bytes texts lawful text =
    let all = texts_held texts (subst IsUtf8 text.lines text.characters) in
    let whole = ap length text.lines in
    let held = lines_hold texts in
    record {
      names = All-map (λ d. IsName d.name) (document_of stop) texts text.names;
      stop_terms = lawful.terms;
      stop_ascending = lawful.ascending;
      entries = All-map (λ d. All (IsLawfulEntry stop) d.tokens) (document_of stop) texts (All-weaker (λ d. IsUtf8 d.text) (λ d. All (IsLawfulEntry stop) (token_list stop d.text)) (λ d utf8. lawful_token_list stop d.text utf8) texts all);
      few_stop_terms = lawful.few;
      few_documents = omega (arith, length-map texts (document_of stop), held.0, whole, text.size);
      few_tokens = omega (arith, tokens_few stop texts, held.1, whole, text.size);
    }
