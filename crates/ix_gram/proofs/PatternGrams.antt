-- A term that matches a pattern has the trigrams of `$` and the first piece, of each inner piece, and of the last and `$`.
use Rattle.std.proofs.Common.{◌≡◌, ℕ, ◌+◌, inl, inr, List, [], ◌∷◌, ◌++◌, map, length, refl, sym, ap, ◌∙◌, subst, arith, append_assoc, length-append, get_or}
use Rattle.std.proofs.lemmas.List.{get_or_append_left, append-nil}
use Rattle.std.proofs.lemmas.List.Elements.{Contains-append_left, Contains-push, All-append, All-cons, All-map, All-contains, All-head, All-push, All-tail, All-weaker}
use Rattle.std.proofs.lemmas.Option.{slice_get_within}
use Rattle.std.proofs.lemmas.Str.{chars-append, IsUtf8-append, IsUtf8-from_ascii, IsUtf8-nil}
use Rattle.std.proofs.lemmas.Str.Ascii.{IsAscii-cons, IsAscii-nil}
use Rattle.std.specs.Prelude.{All, Contains, IsUtf8, chars, encode_utf8_all}
use Rattle.ix_text.specs.Parts.{GramEntry, HasNumber, IsGramEntry}
use Rattle.ix_text.specs.Windows.{grams_of, trigram_list, windows_of_three}
use Rattle.ix_text.proofs.AscendingLists.{contained_from_map, contains_cases, contains_first, contains_later, contains_map}
use Rattle.ix_file.specs.Grams.{AreGramsOfTerms}
use Rattle.ix_file.specs.Opened.{gram_texts}
use Rattle.ix_file.proofs.GramLists.{one_entry}
use Rattle.ix_gram.specs.Candidates.{AddsLists, AreCandidates, HasNoMatch, HasTrigrams, HoldTerms, IsOfNoTerm}
use Rattle.ix_gram.specs.Patterns.{Matches}
use Rattle.ix_gram.proofs.Ascending.{none_in_nil}
use Rattle.ix_gram.proofs.Splittings.{Follows, to_front}

-- ---- the windows of a part are windows of the whole

windows_behind : (a : ℕ) (cs w : List ℕ) → Contains (windows_of_three cs) w → Contains (windows_of_three (a ∷ cs)) w
windows_behind a [] w has = absurd (none_in_nil w has)
windows_behind a (b ∷ []) w has = absurd (none_in_nil w has)
windows_behind a (b ∷ c ∷ []) w has = absurd (none_in_nil w has)
windows_behind a (b ∷ c ∷ d ∷ cs) w has = contains_later (a ∷ b ∷ c ∷ []) (windows_of_three (b ∷ c ∷ d ∷ cs)) w has

windows_after : (front cs w : List ℕ) → Contains (windows_of_three cs) w → Contains (windows_of_three (front ++ cs)) w
windows_after [] cs w has = has
windows_after (a ∷ front) cs w has = windows_behind a (front ++ cs) w (windows_after front cs w has)

windows_before : (cs bs w : List ℕ) → Contains (windows_of_three cs) w → Contains (windows_of_three (cs ++ bs)) w
windows_before [] bs w has = absurd (none_in_nil w has)
windows_before (a ∷ []) bs w has = absurd (none_in_nil w has)
windows_before (a ∷ b ∷ []) bs w has = absurd (none_in_nil w has)
windows_before (a ∷ b ∷ c ∷ cs) bs w has = elim (contains_cases (a ∷ b ∷ c ∷ []) (windows_of_three (b ∷ c ∷ cs)) w has) [
  | inl first ↦ let P : List ℕ → Type 0 = λ v. Contains (windows_of_three ((a ∷ b ∷ c ∷ cs) ++ bs)) v in subst P first (contains_first (a ∷ b ∷ c ∷ []) (windows_of_three ((b ∷ c ∷ cs) ++ bs)))
  | inr more ↦ contains_later (a ∷ b ∷ c ∷ []) (windows_of_three ((b ∷ c ∷ cs) ++ bs)) w (windows_before (b ∷ c ∷ cs) bs w more)
]

trigrams_inside : (front text rest gram : List ℕ) → IsUtf8 front → IsUtf8 text → Contains (trigram_list text) gram → Contains (trigram_list (front ++ (text ++ rest))) gram
unfolding trigram_list
trigrams_inside front text rest gram front_is text_is has =
    let (w, there, same) = contained_from_map encode_utf8_all (windows_of_three (chars text)) gram has in
    let whole : chars (front ++ (text ++ rest)) ≡ chars front ++ (chars text ++ chars rest) =
    chars-append front (text ++ rest) front_is ∙ ap (λ cs. chars front ++ cs) (chars-append text rest text_is) in
    let inside : Contains (windows_of_three (chars front ++ (chars text ++ chars rest))) w =
    windows_after (chars front) (chars text ++ chars rest) w (windows_before (chars text) (chars rest) w there) in
    let P : List ℕ → Type 0 = λ g. Contains (map encode_utf8_all (windows_of_three (chars (front ++ (text ++ rest))))) g in
    let Q : List ℕ → Type 0 = λ cs. Contains (map encode_utf8_all (windows_of_three cs)) (encode_utf8_all w) in
    subst P same (subst Q (sym whole) (contains_map encode_utf8_all (windows_of_three (chars front ++ (chars text ++ chars rest))) w inside))

marked_has : (term front text rest : List ℕ) → 36 ∷ (term ++ 36 ∷ []) ≡ front ++ (text ++ rest) → IsUtf8 front → IsUtf8 text → HasTrigrams text term
unfolding grams_of
marked_has term front text rest is front_is text_is gram has =
    let P : List ℕ → Type 0 = λ t. Contains (trigram_list t) gram in subst P (sym is) (trigrams_inside front text rest gram front_is text_is has)

-- ---- a piece in a term

mark_is_text : IsUtf8 (36 ∷ [])
mark_is_text = IsUtf8-from_ascii (36 ∷ []) (IsAscii-cons 36 [] (omega arith) IsAscii-nil)

marked_text : (text : List ℕ) → IsUtf8 text → IsUtf8 (36 ∷ text)
marked_text text is = IsUtf8-append (36 ∷ []) text mark_is_text is

-- each piece stands somewhere in what the pieces follow each other in
stands : (rest : List ℕ) (pieces : List (List ℕ)) (piece : List ℕ) → All IsUtf8 pieces → Follows IsUtf8 rest pieces → Contains pieces piece → (front : List ℕ) × (IsUtf8 front) × ((behind : List ℕ) × (rest ≡ front ++ (piece ++ behind)))
stands rest [] piece texts follows has = absurd (none_in_nil piece has)
stands rest (p ∷ pieces) piece texts (gap, after, text, is, more) has = elim (contains_cases p pieces piece has) [
  | inl same ↦ (gap, text, (after, is ∙ ap (λ q. gap ++ (q ++ after)) same))
  | inr later ↦
      let (front, front_is, (behind, at)) = stands after pieces piece (All-tail IsUtf8 p pieces texts) more later in (
        gap ++ (p ++ front),
        IsUtf8-append gap (p ++ front) text (IsUtf8-append p front (All-head IsUtf8 p pieces texts) front_is),
        (behind, is ∙ ap (λ r. gap ++ (p ++ r)) at ∙ simp append_assoc),
      )
]

-- the last piece stands at the end
ends : (rest : List ℕ) (inner : List (List ℕ)) (last : List ℕ) → All IsUtf8 inner → Follows IsUtf8 rest (inner ++ last ∷ []) → (front : List ℕ) × (IsUtf8 front) × (rest ≡ front ++ last)
ends rest [] last texts (gap, after, text, is, none) = (gap, text, is ∙ ap (λ r. gap ++ (last ++ r)) none ∙ ap (λ r. gap ++ r) (append-nil last))
ends rest (p ∷ inner) last texts (gap, after, text, is, more) =
    let (front, front_is, at) = ends after inner last (All-tail IsUtf8 p inner texts) more in (
      gap ++ (p ++ front),
      IsUtf8-append gap (p ++ front) text (IsUtf8-append p front (All-head IsUtf8 p inner texts) front_is),
      is ∙ ap (λ r. gap ++ (p ++ r)) at ∙ simp append_assoc,
    )

first_has : (term first : List ℕ) (pieces : List (List ℕ)) → IsUtf8 first → Matches term (first ∷ pieces) → HasTrigrams (36 ∷ first) term
first_has term first pieces text h =
    let (rest, is, follows) = to_front term first pieces h in
    marked_has term [] (36 ∷ first) (rest ++ 36 ∷ [])
    (ap (λ t. 36 ∷ (t ++ 36 ∷ [])) is ∙ ap (λ t. 36 ∷ t) (append_assoc first rest (36 ∷ [])))
    IsUtf8-nil (marked_text first text)

inner_has : (term first : List ℕ) (pieces : List (List ℕ)) (piece : List ℕ) → IsUtf8 first → All IsUtf8 pieces → Contains pieces piece → Matches term (first ∷ pieces) → HasTrigrams piece term
inner_has term first pieces piece text texts has h =
    let (rest, is, follows) = to_front term first pieces h in
    let (front, front_is, (behind, at)) = stands rest pieces piece texts follows has in
    let whole : 36 ∷ (term ++ 36 ∷ []) ≡ (36 ∷ (first ++ front)) ++ (piece ++ (behind ++ 36 ∷ [])) =
    ap (λ t. 36 ∷ (t ++ 36 ∷ [])) (is ∙ ap (λ r. first ++ r) at) ∙ simp append_assoc in
    marked_has term (36 ∷ (first ++ front)) piece (behind ++ 36 ∷ []) whole (marked_text (first ++ front) (IsUtf8-append first front text front_is)) (All-contains IsUtf8 pieces piece texts has)

last_has : (term first : List ℕ) (inner : List (List ℕ)) (last : List ℕ) → IsUtf8 first → All IsUtf8 inner → IsUtf8 last → Matches term (first ∷ (inner ++ last ∷ [])) → HasTrigrams (last ++ 36 ∷ []) term
last_has term first inner last text texts last_is h =
    let (rest, is, follows) = to_front term first (inner ++ last ∷ []) h in
    let (front, front_is, at) = ends rest inner last texts follows in
    let whole : 36 ∷ (term ++ 36 ∷ []) ≡ (36 ∷ (first ++ front)) ++ ((last ++ 36 ∷ []) ++ []) =
    ap (λ t. 36 ∷ (t ++ 36 ∷ [])) (is ∙ ap (λ r. first ++ r) at) ∙ simp (append_assoc, append-nil) in
    marked_has term (36 ∷ (first ++ front)) (last ++ 36 ∷ []) [] whole (marked_text (first ++ front) (IsUtf8-append first front text front_is)) (IsUtf8-append last (36 ∷ []) last_is mark_is_text)

-- each term that matches has the trigrams of the text
abbrev pub Tells : List (List ℕ) → List ℕ → Type 0
Tells pieces text = (term : List ℕ) → Matches term pieces → HasTrigrams text term

texts_of_inner : (first : List ℕ) (inner : List (List ℕ)) (last : List ℕ) → All IsUtf8 (first ∷ (inner ++ last ∷ [])) → All IsUtf8 inner
texts_of_inner first inner last texts = All-from_front (All-tail IsUtf8 first (inner ++ last ∷ []) texts)
  where
    All-from_front : All IsUtf8 (inner ++ last ∷ []) → All IsUtf8 inner
    All-from_front all k d low =
        let size : length (inner ++ last ∷ []) ≡ length inner + 1 = length-append inner (last ∷ []) in
        subst IsUtf8 (get_or_append_left inner (last ∷ []) d k low) (all k d (omega arith))

pub first_tells : (pieces : List (List ℕ)) (first : List ℕ) (inner : List (List ℕ)) (last text : List ℕ) → pieces ≡ first ∷ (inner ++ last ∷ []) → All IsUtf8 pieces → text ≡ 36 ∷ first → Tells pieces text
first_tells pieces first inner last text is texts same term h =
    let P : List (List ℕ) → Type 0 = λ ps. Matches term ps in
    let all : All IsUtf8 (first ∷ (inner ++ last ∷ [])) = subst (All IsUtf8) is texts in
    let Q : List ℕ → Type 0 = λ t. HasTrigrams t term in
    subst Q (sym same) (first_has term first (inner ++ last ∷ []) (All-head IsUtf8 first (inner ++ last ∷ []) all) (subst P is h))

pub inner_tells : (pieces : List (List ℕ)) (first : List ℕ) (inner : List (List ℕ)) (last text : List ℕ) → pieces ≡ first ∷ (inner ++ last ∷ []) → All IsUtf8 pieces → Contains inner text → Tells pieces text
inner_tells pieces first inner last text is texts has term h =
    let P : List (List ℕ) → Type 0 = λ ps. Matches term ps in
    let all : All IsUtf8 (first ∷ (inner ++ last ∷ [])) = subst (All IsUtf8) is texts in
    inner_has term first (inner ++ last ∷ []) text (All-head IsUtf8 first (inner ++ last ∷ []) all) (All-tail IsUtf8 first (inner ++ last ∷ []) all)
    (Contains-append_left inner (last ∷ []) text has) (subst P is h)

pub last_tells : (pieces : List (List ℕ)) (first : List ℕ) (inner : List (List ℕ)) (last text : List ℕ) → pieces ≡ first ∷ (inner ++ last ∷ []) → All IsUtf8 pieces → text ≡ last ++ 36 ∷ [] → Tells pieces text
last_tells pieces first inner last text is texts same term h =
    let P : List (List ℕ) → Type 0 = λ ps. Matches term ps in
    let all : All IsUtf8 (first ∷ (inner ++ last ∷ [])) = subst (All IsUtf8) is texts in
    let Q : List ℕ → Type 0 = λ t. HasTrigrams t term in
    subst Q (sym same) (last_has term first inner last (All-head IsUtf8 first (inner ++ last ∷ []) all) (texts_of_inner first inner last all)
    (All-contains IsUtf8 (inner ++ last ∷ []) last (All-tail IsUtf8 first (inner ++ last ∷ []) all) (Contains-push inner last)) (subst P is h))

-- ---- the lists of an index

pub list_holds : (terms : List (List ℕ)) (grams : List GramEntry) (text gram numbers : List ℕ) → AreGramsOfTerms terms grams → Contains (trigram_list text) gram → Contains grams (record { gram = gram; numbers = numbers }) → HoldTerms terms text numbers
list_holds terms grams text gram numbers are windowed has =
    let entry : GramEntry = record { gram = gram; numbers = numbers } in record {
      ascending = (All-contains IsGramEntry grams entry are.each has).1;
      within = λ n listed.
          let is = (are.related gram n).0 (record { numbers = numbers; among = has; listed = listed }) in
          slice_get_within terms n is.term is.numbered;
      complete = λ n term at its.
          let there : HasNumber grams gram n = (are.related gram n).1 (record { term = term; numbered = at; windowed = its gram windowed }) in
          let other : GramEntry = record { gram = gram; numbers = there.numbers } in
          let same = one_entry grams are.ascending other entry there.among has refl in
          subst (λ (ns : List ℕ). Contains ns n) (ap (λ (e : GramEntry). e.numbers) same) there.listed;
    }

pub held_nowhere : (terms : List (List ℕ)) (grams : List GramEntry) (text gram : List ℕ) → AreGramsOfTerms terms grams → Contains (trigram_list text) gram → ¬ (Contains (gram_texts grams) gram) → IsOfNoTerm terms text
held_nowhere terms grams text gram are windowed none n term at its =
    let there : HasNumber grams gram n = (are.related gram n).1 (record { term = term; numbered = at; windowed = its gram windowed }) in
    none (contains_map (λ (entry : GramEntry). entry.gram) grams (record { gram = gram; numbers = there.numbers }) there.among)

-- ---- from texts to the pattern

candidates_of : (terms pieces : List (List ℕ)) (text : List ℕ) → Tells pieces text → (numbers : List ℕ) → HoldTerms terms text numbers → AreCandidates terms pieces numbers
candidates_of terms pieces text told numbers h = record {
  ascending = h.ascending;
  within = h.within;
  complete = λ n is. h.complete n is.term is.numbered (told is.term is.matched);
}

pub more_candidates : (terms pieces : List (List ℕ)) (text : List ℕ) (old new : List (List ℕ)) → Tells pieces text → AddsLists terms text old new → All (AreCandidates terms pieces) old → All (AreCandidates terms pieces) new
more_candidates terms pieces text old new told adds all =
    let P : List ℕ → Type 0 = AreCandidates terms pieces in
    let added : All P adds.added = All-weaker (HoldTerms terms text) P (candidates_of terms pieces text told) adds.added adds.held in
    subst (All P) (sym adds.appended) (All-append P old adds.added all added)

pub no_candidate : (terms pieces : List (List ℕ)) (text : List ℕ) → Tells pieces text → IsOfNoTerm terms text → HasNoMatch terms pieces
no_candidate terms pieces text told none n is = none n is.term is.numbered (told is.term is.matched)

-- ---- one more list

pub adds-more : (terms : List (List ℕ)) (text : List ℕ) (old new : List (List ℕ)) (numbers : List ℕ) → AddsLists terms text old new → HoldTerms terms text numbers → AddsLists terms text old (new ++ numbers ∷ [])
adds-more terms text old new numbers adds holds = record {
  added = adds.added ++ numbers ∷ [];
  held = All-push (HoldTerms terms text) adds.added numbers adds.held holds;
  appended = ap (λ xs. xs ++ numbers ∷ []) adds.appended ∙ append_assoc old adds.added (numbers ∷ []);
}

-- what stands behind others is contained
pub contains_there : (texts passed rest : List (List ℕ)) (text : List ℕ) → texts ≡ passed ++ (text ∷ rest) → Contains texts text
contains_there texts passed rest text is = let P : List (List ℕ) → Type 0 = λ ts. Contains ts text in subst P (sym is) (behind passed)
  where
    behind : (front : List (List ℕ)) → Contains (front ++ (text ∷ rest)) text
    behind [] = contains_first text rest
    behind (t ∷ front) = contains_later t (front ++ (text ∷ rest)) text (behind front)

-- pieces that are texts
pub all_texts : {X : Type 0} (f : X → List ℕ) → ((x : X) → IsUtf8 (f x)) → (first : X) (inner : List X) (last : X) → All IsUtf8 (f first ∷ (map f inner ++ f last ∷ []))
all_texts f texts first inner last =
    let all : All IsUtf8 (map f inner) = All-map IsUtf8 f inner (λ k d low. texts (get_or inner k d)) in
    All-cons IsUtf8 (f first) (map f inner ++ f last ∷ []) (texts first) (All-push IsUtf8 (map f inner) (f last) all (texts last))
