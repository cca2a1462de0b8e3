-- Terms: the two ways to make one, and when two are equal.
use Rattle.std.proofs.Common.{◌≡◌, ◌↔◌, ℕ, ◌<◌, ◌≤◌, List, map, length, get_or, inl, inr, arith, chars, encode_utf8_all, IsAscii, IsUtf8, All, sym, ap, ◌∙◌, ◌⊎◌, ⊎_elim, [], ◌∷◌, not, true, false, refl, ap₂}
use Rattle.std.specs.Char.{to_ascii_lowercase}
use Rattle.std.proofs.lemmas.Str.{chars-IsAscii, chars_from_encodes, encodes_same, encodes-IsAscii}
use Rattle.std.specs.List.{list_any, list_all}
use Rattle.std.proofs.lemmas.Bool.{cases_lt, and_from, or_parts, not_from_false}
use Rattle.std.proofs.lemmas.Bool.Decides.{nat_tests}
use Rattle.std.proofs.lemmas.List.{get_or-map, length-map}
use Rattle.std.proofs.lemmas.List.Elements.{All-head, All-map, All-tail, All-weaker}
use Rattle.std.proofs.Math.ListN.{get_or-eq_default}
use Rattle.unicode_normalization.specs.Forms.{Nfc, Nfd, nfc, nfd, IsInForm}
use Rattle.unicode_normalization.proofs.FormsLemmas.{normalize-ascii, nfd_from_nfc, nfc_from_nfd}
use Rattle.caseless.specs.Caseless.{default_case_fold, IsCanonicalMatch}
use Rattle.caseless.proofs.CaselessLemmas.{default_case_fold-ascii, All-chars}
use Rattle.ix_text.specs.IotaSubscript.{may_hold_iota}
use Rattle.ix_text.proofs.FoldLemmas.{folded-at_once}
use Rattle.ix_text.specs.Terms.{folded, term_of_word}

pub equal_folded_match : (a b : List ℕ) → (folded a ≡ folded b) ↔ IsCanonicalMatch a b
unfolding folded
equal_folded_match a b = (
  nfd_from_nfc (default_case_fold (nfd a)) (default_case_fold (nfd b)),
  nfc_from_nfd (default_case_fold (nfd a)) (default_case_fold (nfd b)),
)

pub equal_terms_match : (a b : List ℕ) → (term_of_word a ≡ term_of_word b) ↔ IsCanonicalMatch (chars a) (chars b)
unfolding term_of_word
equal_terms_match a b = (
  λ same. (equal_folded_match (chars a) (chars b)).0 (encodes_same (folded (chars a)) (folded (chars b)) same),
  λ match. ap encode_utf8_all ((equal_folded_match (chars a) (chars b)).1 match),
)

lower_below : (c : ℕ) → c < 128 → to_ascii_lowercase c < 128
lower_below c below = grind (arith, nat_tests)

All-lower : (cs : List ℕ) → All (λ c. c < 128) cs → All (λ c. c < 128) (map to_ascii_lowercase cs)
All-lower cs all = All-map (λ c. c < 128) to_ascii_lowercase cs (All-weaker (λ c. c < 128) (λ c. to_ascii_lowercase c < 128) lower_below cs all)

-- On ASCII only the letters change.
pub folded-ascii : (cs : List ℕ) → All (λ c. c < 128) cs → folded cs ≡ map to_ascii_lowercase cs
unfolding folded
folded-ascii cs all =
    ap (λ l. nfc (default_case_fold l)) (normalize-ascii Nfd cs all) ∙ ap nfc (default_case_fold-ascii cs all)
    ∙ normalize-ascii Nfc (map to_ascii_lowercase cs) (All-lower cs all)

pub term_of_word-ascii : (word : List ℕ) → IsAscii word → term_of_word word ≡ map to_ascii_lowercase word
unfolding term_of_word
term_of_word-ascii word ascii =
    let all = All-chars word ascii in
    ap encode_utf8_all (folded-ascii (chars word) all ∙ ap (map to_ascii_lowercase) (chars-IsAscii word ascii))
    ∙ encodes-IsAscii (map to_ascii_lowercase word) (lower_each word ascii)
  where
    lower_each : (bs : List ℕ) → IsAscii bs → IsAscii (map to_ascii_lowercase bs)
    lower_each bs ascii i = elim (cases_lt i (length bs)) [
      | inl low ↦ rw (get_or-map to_ascii_lowercase bs i 0 0 low) (lower_below (get_or bs i 0) (ascii i))
      | inr high ↦ let past : length (map to_ascii_lowercase bs) ≤ i = rw length-map high in rw (get_or-eq_default (map to_ascii_lowercase bs) 0 past) (omega arith)
    ]

small_ascii : (word : List ℕ) → All (λ byte. (byte < 65) ⊎ ((90 < byte) × (byte < 128))) word → IsAscii word
small_ascii word all i =
    elim (cases_lt i (length word)) [
      | inl low ↦ ⊎_elim (λ below. omega arith) (λ above. above.1) (all i 0 low)
      | inr high ↦ rw (get_or-eq_default word 0 high) (omega arith)
    ]

small_stays : (b : ℕ) → (b < 65) ⊎ ((90 < b) × (b < 128)) → to_ascii_lowercase b ≡ b
small_stays b (inl below) = grind (arith, nat_tests)
small_stays b (inr above) = grind (arith, nat_tests)

map-small : (word : List ℕ) → All (λ byte. (byte < 65) ⊎ ((90 < byte) × (byte < 128))) word → map to_ascii_lowercase word ≡ word
map-small [] all = refl
map-small (b ∷ bs) all =
    ap₂ ◌∷◌ (small_stays b (All-head (λ byte. (byte < 65) ⊎ ((90 < byte) × (byte < 128))) b bs all))
    (map-small bs (All-tail (λ byte. (byte < 65) ⊎ ((90 < byte) × (byte < 128))) b bs all))

-- ASCII without a capital letter is its own term.
pub term_of_word-small_ascii : (word : List ℕ) → All (λ byte. (byte < 65) ⊎ ((90 < byte) × (byte < 128))) word → term_of_word word ≡ word
term_of_word-small_ascii word all = term_of_word-ascii word (small_ascii word all) ∙ map-small word all

-- the word is decomposed, and what that gives is folded
pub term_of_word-by_steps : (word decomposed : List ℕ) → IsUtf8 decomposed → decomposed ≡ encode_utf8_all (nfd (chars word))
    → term_of_word word ≡ encode_utf8_all (nfc (default_case_fold (chars decomposed)))
unfolding term_of_word folded
term_of_word-by_steps word decomposed utf8 is =
    ap (λ l. encode_utf8_all (nfc (default_case_fold l))) (chars_from_encodes (nfd (chars word)) decomposed utf8 (sym is))

-- the word is folded as it is
pub term_of_word-at_once : (word : List ℕ) → list_any may_hold_iota (chars word) ≡ false → term_of_word word ≡ encode_utf8_all (nfc (default_case_fold (chars word)))
unfolding term_of_word
term_of_word-at_once word none = ap encode_utf8_all (folded-at_once (chars word) (all_without (chars word) none))
  where
    all_without : (cs : List ℕ) → list_any may_hold_iota cs ≡ false → list_all (λ c. not (may_hold_iota c)) cs ≡ true
    all_without [] none = refl
    all_without (c ∷ cs) none =
        let parts = or_parts (may_hold_iota c) (list_any may_hold_iota cs) none in
        and_from _ _ (not_from_false _ parts.0) (all_without cs parts.1)

-- what is folded is in NFC already where the quick check says yes
pub folding_in_form : (text folded_text : List ℕ) → IsUtf8 folded_text → folded_text ≡ encode_utf8_all (default_case_fold (chars text)) → IsInForm Nfc (chars folded_text)
    → folded_text ≡ encode_utf8_all (nfc (default_case_fold (chars text)))
folding_in_form text folded_text utf8 is in_form =
    let same = chars_from_encodes (default_case_fold (chars text)) folded_text utf8 (sym is) in
    is ∙ ap encode_utf8_all (same ∙ sym in_form ∙ ap nfc (sym same))

pub folding_composed : (text folded_text : List ℕ) → IsUtf8 folded_text → folded_text ≡ encode_utf8_all (default_case_fold (chars text))
    → encode_utf8_all (nfc (chars folded_text)) ≡ encode_utf8_all (nfc (default_case_fold (chars text)))
folding_composed text folded_text utf8 is = ap (λ l. encode_utf8_all (nfc l)) (sym (chars_from_encodes (default_case_fold (chars text)) folded_text utf8 (sym is)))
