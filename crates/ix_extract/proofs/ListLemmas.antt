-- Lists that a loop makes, one piece after another.
use Rattle.std.proofs.Common.{◌≡◌, ℕ, ◌+◌, ◌<◌, List, [], ◌∷◌, ◌++◌, length, take, get_or, flat_map, string_bytes, sym, ap, ◌∙◌, subst, append-nil, append_assoc}
use Rattle.std.proofs.lemmas.List.{map_more, take_more}
use Rattle.std.proofs.lemmas.Grind.{flat_map-append}
use Rattle.ix_index_text.specs.GramTables.{HoldsGrams}
use Rattle.ix_index_text.specs.declared.writer.grams.Grams.{Grams}
use Rattle.ix_lookup.specs.declared.found_term.FoundTerm.{FoundTerm}
use Rattle.ix_extract.specs.Assembled.{found_dictionary, found_entry}
use Rattle.ix_extract.specs.FoundTexts.{found_texts}
use Rattle.ix_extract.specs.Gathered.{list_at, lists_at}

one_more : {X : Type 0} (f : X → List ℕ) (xs : List X) (i : ℕ) (d : X) → i < length xs → flat_map f (take (i + 1) xs) ≡ flat_map f (take i xs) ++ f (get_or xs i d)
one_more f xs i d within =
    ap (flat_map f) (take_more xs i d within) ∙ flat_map-append f (take i xs) (get_or xs i d ∷ []) ∙ ap (λ bytes. flat_map f (take i xs) ++ bytes) (append-nil (f (get_or xs i d)))

-- behind what there was, one piece more
piece_more : {X : Type 0} (f : X → List ℕ) (xs : List X) (i : ℕ) (x : X) (old now new : List ℕ) → i < length xs → x ≡ get_or xs i x → now ≡ old ++ flat_map f (take i xs) → new ≡ now ++ f x → new ≡ old ++ flat_map f (take (i + 1) xs)
piece_more f xs i x old now new within is so_far added =
    added ∙ ap (λ bytes. bytes ++ f x) so_far ∙ append_assoc old (flat_map f (take i xs)) (f x)
    ∙ ap (λ bytes. old ++ bytes) (ap (λ y. flat_map f (take i xs) ++ f y) is ∙ sym (one_more f xs i x within))

-- no entry was appended, and one more
pub dictionary_none : (found : List FoundTerm) (old : List ℕ) → old ≡ old ++ found_dictionary (take 0 found)
unfolding found_dictionary
dictionary_none found old = sym (append-nil old)

pub dictionary_more : (found : List FoundTerm) (i : ℕ) (one : FoundTerm) (old now new : List ℕ) → i < length found → one ≡ get_or found i one → now ≡ old ++ found_dictionary (take i found) → new ≡ now ++ found_entry one → new ≡ old ++ found_dictionary (take (i + 1) found)
unfolding found_dictionary
dictionary_more found i one = piece_more found_entry found i one

-- no list was appended, and one more
pub lists_none : (bytes old : List ℕ) (found : List FoundTerm) → old ≡ old ++ lists_at bytes (take 0 found)
unfolding lists_at
lists_none bytes old found = sym (append-nil old)

pub lists_more : (bytes : List ℕ) (found : List FoundTerm) (i : ℕ) (one : FoundTerm) (old now new : List ℕ) → i < length found → one ≡ get_or found i one → now ≡ old ++ lists_at bytes (take i found) → new ≡ now ++ list_at bytes (8 + one.start) one.size → new ≡ old ++ lists_at bytes (take (i + 1) found)
unfolding lists_at
lists_more bytes found i one = piece_more (λ (o : FoundTerm). list_at bytes (8 + o.start) o.size) found i one

-- the grams of one term more are held
pub grams_more : (found : List FoundTerm) (i : ℕ) (one : FoundTerm) (grams : Grams) → i < length found → one ≡ get_or found i one → HoldsGrams grams (found_texts (take i found) ++ string_bytes one.term ∷ []) → HoldsGrams grams (found_texts (take (i + 1) found))
grams_more found i one grams within is holds =
    let text : FoundTerm → List ℕ = λ o. string_bytes o.term in
    subst (HoldsGrams grams) (ap (λ (o : FoundTerm). found_texts (take i found) ++ text o ∷ []) is ∙ sym (map_more text found i one within)) holds
