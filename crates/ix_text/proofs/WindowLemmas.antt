-- The first window of three characters of a text, at its bytes.
use Rattle.std.proofs.Common.{refl, ◌<◌, ◌≤◌, ◌≡◌, ℕ, ◌+◌, ◌-◌, List, [], ◌∷◌, ◌++◌, length, take, map, sym, ap, subst, ◌∙◌, arith, append_assoc, length-append, IsUtf8, zero, suc, drop, slice_get, Some, None, ⊎_elim}
use Rattle.std.specs.Char.{encode_utf8}
use Rattle.std.specs.Str.{chars, encode_utf8_all, IsCharBoundary}
use Rattle.std.proofs.lemmas.List.{take_at}
use Rattle.std.proofs.lemmas.Str.{chars-nil, chars_past_char, IsUtf8-past_char, IsCharBoundary-at_seam}
use Rattle.std.proofs.lemmas.Bool.{cases_lt, lt-ltb, le-ltb}
use Rattle.ix_text.specs.WindowLaws.{TrigramsStandByPlace}
use Rattle.ix_text.specs.Windows.{windows_of_three, trigram_list}

-- of the characters
trigrams_of : (text cs : List ℕ) → chars text ≡ cs → trigram_list text ≡ map encode_utf8_all (windows_of_three cs)
unfolding trigram_list
trigrams_of text cs is = ap (λ ds. map encode_utf8_all (windows_of_three ds)) is

no_chars : (text : List ℕ) → length text ≡ 0 → chars text ≡ []
no_chars [] none = chars-nil
no_chars (x ∷ text) none = absurd (omega arith)

-- a text of fewer than three characters has no window
pub trigrams-none : (text : List ℕ) → length text ≡ 0 → trigram_list text ≡ []
trigrams-none text none = trigrams_of text [] (no_chars text none)

pub trigrams-one : (text next : List ℕ) (a : ℕ) → IsUtf8 text → text ≡ encode_utf8 a ++ next → length next ≡ 0 → trigram_list text ≡ []
trigrams-one text next a u is none = trigrams_of text (a ∷ []) (chars_past_char text next a u is ∙ ap (λ cs. a ∷ cs) (no_chars next none))

pub trigrams-two : (text next last : List ℕ) (a b : ℕ) → IsUtf8 text → text ≡ encode_utf8 a ++ next → next ≡ encode_utf8 b ++ last → length last ≡ 0 → trigram_list text ≡ []
trigrams-two text next last a b u is is' none =
    let v = IsUtf8-past_char text next a u is in
    trigrams_of text (a ∷ b ∷ []) (chars_past_char text next a u is ∙ ap (λ cs. a ∷ cs) (chars_past_char next last b v is' ∙ ap (λ cs. b ∷ cs) (no_chars last none)))

heads : {x y : List ℕ} {xs ys : List (List ℕ)} → x ≡ y → xs ≡ ys → x ∷ xs ≡ y ∷ ys
heads p q = cc

-- three characters and what follows them
three : (text next last rest : List ℕ) (a b c : ℕ) → text ≡ encode_utf8 a ++ next → next ≡ encode_utf8 b ++ last → last ≡ encode_utf8 c ++ rest → text ≡ encode_utf8_all (a ∷ b ∷ c ∷ []) ++ rest
three text next last rest a b c is is' is'' =
    let grouped : encode_utf8 a ++ (encode_utf8 b ++ (encode_utf8 c ++ rest)) ≡ encode_utf8_all (a ∷ b ∷ c ∷ []) ++ rest = simp append_assoc in
    is ∙ ap (λ t. encode_utf8 a ++ t) (is' ∙ ap (λ t. encode_utf8 b ++ t) is'') ∙ grouped

-- a front by what follows it
front_length : (text front rest : List ℕ) → text ≡ front ++ rest → length front ≡ length text - length rest
front_length text front rest is = let lengths : length text ≡ length front + length rest = ap length is ∙ length-append front rest in omega arith

front_of : (text front rest : List ℕ) → text ≡ front ++ rest → take (length text - length rest) text ≡ front
front_of text front rest is = ap (take (length text - length rest)) is ∙ take_at front rest (length text - length rest) (front_length text front rest is)

-- the first window ends before what follows its third character
pub window_boundary : (text next last rest : List ℕ) (a b c : ℕ) → IsUtf8 text → text ≡ encode_utf8 a ++ next → next ≡ encode_utf8 b ++ last → last ≡ encode_utf8 c ++ rest → IsCharBoundary text (length text - length rest)
window_boundary text next last rest a b c u is is' is'' =
    let v = IsUtf8-past_char last rest c (IsUtf8-past_char next last b (IsUtf8-past_char text next a u is) is') is'' in
    let whole = three text next last rest a b c is is' is'' in
    let size : length (encode_utf8_all (a ∷ b ∷ c ∷ [])) ≡ length text - length rest = front_length text (encode_utf8_all (a ∷ b ∷ c ∷ [])) rest whole in
    subst (IsCharBoundary text) size (IsCharBoundary-at_seam text (encode_utf8_all (a ∷ b ∷ c ∷ [])) rest whole v)

pub trigrams-first : (text next last rest : List ℕ) (a b c : ℕ) → IsUtf8 text → text ≡ encode_utf8 a ++ next → next ≡ encode_utf8 b ++ last → last ≡ encode_utf8 c ++ rest → trigram_list text ≡ take (length text - length rest) text ∷ trigram_list next
trigrams-first text next last rest a b c u is is' is'' =
    let v = IsUtf8-past_char text next a u is in
    let w = IsUtf8-past_char next last b v is' in
    let later : chars next ≡ b ∷ c ∷ chars rest = chars_past_char next last b v is' ∙ ap (λ cs. b ∷ cs) (chars_past_char last rest c w is'') in
    let all : chars text ≡ a ∷ b ∷ c ∷ chars rest = chars_past_char text next a u is ∙ ap (λ cs. a ∷ cs) later in
    let whole = three text next last rest a b c is is' is'' in
    let front : take (length text - length rest) text ≡ encode_utf8_all (a ∷ b ∷ c ∷ []) = front_of text (encode_utf8_all (a ∷ b ∷ c ∷ [])) rest whole in
    trigrams_of text (a ∷ b ∷ c ∷ chars rest) all ∙ heads (sym front) (sym (trigrams_of next (b ∷ c ∷ chars rest) later))

-- ---- the windows by their places

window_at : (cs : List ℕ) (k : ℕ) → k + 2 < length cs → slice_get (map encode_utf8_all (windows_of_three cs)) k ≡ Some (encode_utf8_all (take 3 (drop k cs)))
window_at [] k within = absurd (omega arith)
window_at (a ∷ []) k within = absurd (omega arith)
window_at (a ∷ b ∷ []) k within = absurd (omega arith)
window_at (a ∷ b ∷ c ∷ cs) zero within = refl
window_at (a ∷ b ∷ c ∷ cs) (suc k) within = window_at (b ∷ c ∷ cs) k (omega arith)

no_window_at : (cs : List ℕ) (k : ℕ) → length cs ≤ k + 2 → slice_get (map encode_utf8_all (windows_of_three cs)) k ≡ None
no_window_at [] k past = refl
no_window_at (a ∷ []) k past = refl
no_window_at (a ∷ b ∷ []) k past = refl
no_window_at (a ∷ b ∷ c ∷ cs) zero past = absurd (omega arith)
no_window_at (a ∷ b ∷ c ∷ cs) (suc k) past = no_window_at (b ∷ c ∷ cs) k (omega arith)

pub trigrams_by_place : TrigramsStandByPlace
unfolding trigram_list
trigrams_by_place text k =
    ⊎_elim
    (λ (within : k + 2 < length (chars text)). rw lt-ltb (window_at (chars text) k within))
    (λ (past : length (chars text) ≤ k + 2). rw le-ltb (no_window_at (chars text) k past))
    (cases_lt (k + 2) (length (chars text)))
