-- The words that were seen: a key tells its word, and what was right of them stays right as the dictionary grows.
use Rattle.std.proofs.Common.{◌≡◌, ℕ, zero, suc, ◌*◌, ◌^◌, ◌<◌, ◌≤◌, min, List, [], ◌∷◌, ◌++◌, length, get_or, take, drop, ◌⊎◌, inl, inr, String, Result, Ok, Err, IfOk, OnOk, refl, sym, ap, ap₂, subst, ◌∙◌, arith}
use Rattle.std.proofs.lemmas.Bool.{cases_lt}
use Rattle.std.proofs.lemmas.List.{drop_all, length-drop, length-take, take-append-drop, take_all}
use Rattle.std.specs.HashMap.{HashMap}
use Rattle.ix_text.specs.Terms.{term_of_word}
use Rattle.ix_text.specs.TokenLists.{Entry, entry_of_term}
use Rattle.ix_run.specs.Dictionaries.{IsNumbered}
use Rattle.ix_run.specs.SeenWords.{AreBytes, AreHeldWith, AreNoWords, AreSeen, IsHeld, IsKeyOf, IsNumberedNow, number_of_bytes}
use Rattle.ix_run.proofs.Numbering.{kept_now, numbered_kept}
use Rattle.ix_run.specs.declared.seen_words.SeenWord.{SeenWord}
use Rattle.ix_run.specs.declared.seen_words.WordKey.{WordKey}

-- ---- bytes and their number

pub are_bytes : (bytes : List ℕ) → ((k : ℕ) → get_or bytes k 0 < 256) → AreBytes bytes
are_bytes [] each = tt
are_bytes (byte ∷ bytes) each = (each zero, are_bytes bytes (λ k. each (suc k)))

are_bytes-take : (count : ℕ) (bytes : List ℕ) → AreBytes bytes → AreBytes (take count bytes)
are_bytes-take zero bytes are = tt
are_bytes-take (suc count) [] are = tt
are_bytes-take (suc count) (byte ∷ bytes) are = (are.0, are_bytes-take count bytes are.1)

pub are_bytes-drop : (count : ℕ) (bytes : List ℕ) → AreBytes bytes → AreBytes (drop count bytes)
are_bytes-drop zero bytes are = are
are_bytes-drop (suc count) [] are = tt
are_bytes-drop (suc count) (byte ∷ bytes) are = are_bytes-drop count bytes are.1

-- how many numbers so many bytes make
abbrev numbers_of : ℕ → ℕ
numbers_of zero = 1
numbers_of (suc count) = 256 * numbers_of count

some_number : (count : ℕ) → 0 < numbers_of count
some_number zero = omega arith
some_number (suc count) = let some = some_number count in omega (arith, some)

below_numbers : (count : ℕ) (bytes : List ℕ) → AreBytes bytes → length bytes ≤ count → number_of_bytes bytes < numbers_of count
below_numbers count [] are short = some_number count
below_numbers zero (byte ∷ bytes) are short = absurd (omega (arith, short))
below_numbers (suc count) (byte ∷ bytes) are short = let rest = below_numbers count bytes are.1 (omega (arith, short)) in let low = are.0 in omega (arith, rest, low)

-- up to seven bytes leave room for one more
pub number_low : (bytes : List ℕ) → AreBytes bytes → length bytes ≤ 7 → number_of_bytes bytes < 2 ^ 56
number_low = below_numbers 7

-- bytes of one number are one list, where they are as many
same_bytes : (one other : List ℕ) → length one ≡ length other → AreBytes one → AreBytes other → number_of_bytes one ≡ number_of_bytes other → one ≡ other
same_bytes [] [] size are are' same = refl
same_bytes [] (byte ∷ bytes) size are are' same = absurd (omega (arith, size))
same_bytes (byte ∷ bytes) [] size are are' same = absurd (omega (arith, size))
same_bytes (byte ∷ bytes) (byte' ∷ bytes') size are are' same =
    let low = are.0 in
    let low' = are'.0 in
    let here : byte ≡ byte' = omega (arith, low, low', same) in
    let rest : number_of_bytes bytes ≡ number_of_bytes bytes' = omega (arith, low, low', same) in
    ap₂ (λ b bs. b ∷ bs) here (same_bytes bytes bytes' (omega (arith, size)) are.1 are'.1 rest)

-- a key is that of one word
pub key_tells_word : (key : WordKey) (one other : List ℕ) → IsKeyOf key one → IsKeyOf key other → one ≡ other
key_tells_word key one other is is' =
    let size : length one ≡ length other = sym is.size ∙ is'.size in
    let front = same_bytes (take 8 one) (take 8 other) (omega (arith, size, length-take 8 one, length-take 8 other)) (are_bytes-take 8 one is.bytes) (are_bytes-take 8 other is'.bytes) (sym is.front ∙ is'.front) in
    let back = same_bytes (drop 8 one) (drop 8 other) (omega (arith, size, length-drop 8 one, length-drop 8 other)) (are_bytes-drop 8 one is.bytes) (are_bytes-drop 8 other is'.bytes) (sym is.back ∙ is'.back) in
    sym (take-append-drop 8 one) ∙ ap₂ (λ f b. f ++ b) front back ∙ take-append-drop 8 other

-- where a word is cut for its key
pub cut_at_half : (bytes : List ℕ) (at : ℕ) → at ≡ min (length bytes) 8 → (take at bytes ≡ take 8 bytes) × (drop at bytes ≡ drop 8 bytes)
cut_at_half bytes at is = by (cases_lt (length bytes) 8)
  where
    by : (length bytes < 8) ⊎ (8 ≤ length bytes) → (take at bytes ≡ take 8 bytes) × (drop at bytes ≡ drop 8 bytes)
    by (inl short) =
        let whole : length bytes ≤ at = omega (arith, is, short) in
        let within : length bytes ≤ 8 = omega (arith, short) in
        (take_all at bytes whole ∙ sym (take_all 8 bytes within), drop_all at bytes whole ∙ sym (drop_all 8 bytes within))
    by (inr long) = let same : at ≡ 8 = omega (arith, is, long) in (ap (λ n. take n bytes) same, ap (λ n. drop n bytes) same)

-- ---- the words that were seen

pub held_push : (words : List SeenWord) (one word : SeenWord) → IsHeld (words ++ one ∷ []) word → IsHeld words word ⊎ (word ≡ one)
held_push [] one word (zero, is) = inr (cc)
held_push [] one word (suc place, is) = absurd (cc)
held_push (first ∷ words) one word (zero, is) = inl (zero, is)
held_push (first ∷ words) one word (suc place, is) = elim (held_push words one word (place, is)) [ inl (at, held) ↦ inl (suc at, held) | inr same ↦ inr same ]

pub no_words_more : (words : List SeenWord) (none : SeenWord) → none.key.size ≡ 0 → AreNoWords words → AreNoWords (words ++ none ∷ [])
no_words_more words none empty are = record {
  each = λ word held. elim (held_push words none word held) [ inl was ↦ are.each word was | inr is ↦ ap (λ (w : SeenWord). w.key.size) is ∙ empty ];
}

-- no word has an empty key
pub none_seen : {Y S : Type 0} (stop : List (List ℕ)) (numbers : HashMap (String Y) ℕ S) (words : List SeenWord) → AreNoWords words → AreSeen stop numbers words
none_seen stop numbers words are = record {
  each = λ held word in_words is. absurd (let none = are.each held in_words in let size = is.size in let some = is.some in omega (arith, none, size, some));
}

-- the dictionary has grown by a token
pub seen_kept : {Y S : Type 0} (stop : List (List ℕ)) (old new : HashMap (String Y) ℕ S) (words : List SeenWord) (entry : Entry) (number : ℕ) → IsNumberedNow old new entry number → AreSeen stop old words → AreSeen stop new words
seen_kept stop old new words entry number now are = record {
  each = λ held word in_words is. numbered_kept old new (kept_now old new entry number now) (entry_of_term stop (term_of_word word)) held.number (are.each held word in_words is);
}

-- and that token's word was noted
pub seen_noted : {Y S : Type 0} (stop : List (List ℕ)) (numbers : HashMap (String Y) ℕ S) (words more : List SeenWord) (one : SeenWord) (word : List ℕ) → AreHeldWith words more one → IsKeyOf one.key word
    → IsNumbered numbers (entry_of_term stop (term_of_word word)) one.number → AreSeen stop numbers words → AreSeen stop numbers more
seen_noted stop numbers words more one word held_with key numbered are = record {
  each = λ held other in_more is. by held other is (held_with.each held in_more);
}
  where
    by : (held : SeenWord) (other : List ℕ) → IsKeyOf held.key other → IsHeld words held ⊎ (held ≡ one) → IsNumbered numbers (entry_of_term stop (term_of_word other)) held.number
    by held other is (inl was) = are.each held other was is
    by held other is (inr same) =
        let P : SeenWord → Type 0 = λ w. IsKeyOf w.key other in
        let Q : SeenWord → Type 0 = λ w. IsNumbered numbers (entry_of_term stop (term_of_word other)) w.number in
        subst Q (sym same)
        (subst (λ w. IsNumbered numbers (entry_of_term stop (term_of_word w)) one.number) (key_tells_word one.key word other key (subst P same is)) numbered)

pub seen_after : {Y S E : Type 0} (stop : List (List ℕ)) (old new : HashMap (String Y) ℕ S) (words : List SeenWord) (entry : Entry) (result : Result ℕ E) → IfOk result (IsNumberedNow old new entry) → AreSeen stop old words → OnOk result (AreSeen stop new words)
seen_after stop old new words entry (Ok number) now are = seen_kept stop old new words entry number now are
seen_after stop old new words entry (Err error) now are = tt
