-- The pairs that are held are the trigram relation of the terms, from one term to the next.
use Rattle.std.proofs.Common.{◌≡◌, ℕ, zero, suc, ◌↔◌, ◌⊎◌, inl, inr, List, [], ◌∷◌, ◌++◌, map, length, Contains, slice_get, Some, IsUtf8, refl, sym, ap, subst, ◌∙◌, arith}
use Rattle.std.proofs.lemmas.Str.{chars-append, chars-nil}
use Rattle.std.specs.Str.{chars, encode_utf8_all}
use Rattle.ix_text.proofs.AscendingLists.{contains_cases, contains_none, contains_map, contained_from_map}
use Rattle.ix_text.specs.Windows.{windows_of_three, trigram_list, grams_of}
use Rattle.ix_index_text.specs.declared.windows.GramPair.{GramPair}
use Rattle.ix_index_text.specs.Grams.{IsGramOfTerm}
use Rattle.ix_index_text.specs.WindowPairs.{HasPair, gram_of, pairs_of, pairs_of_term}

-- ---- a list with one element more

pub get-push_before : {A : Type 0} (xs : List A) (x y : A) (k : ℕ) → slice_get xs k ≡ Some y → slice_get (xs ++ x ∷ []) k ≡ Some y
get-push_before [] x y k is = absurd cc
get-push_before (z ∷ xs) x y zero is = is
get-push_before (z ∷ xs) x y (suc k) is = get-push_before xs x y k is

pub get-push_last : {A : Type 0} (xs : List A) (x : A) (k : ℕ) → k ≡ length xs → slice_get (xs ++ x ∷ []) k ≡ Some x
get-push_last [] x zero is = refl
get-push_last [] x (suc k) is = absurd (omega (arith, is))
get-push_last (z ∷ xs) x zero is = absurd (omega (arith, is))
get-push_last (z ∷ xs) x (suc k) is = get-push_last xs x k (omega (arith, is))

pub get-push_cases : {A : Type 0} (xs : List A) (x y : A) (k : ℕ) → slice_get (xs ++ x ∷ []) k ≡ Some y → (slice_get xs k ≡ Some y) ⊎ ((k ≡ length xs) × (x ≡ y))
get-push_cases [] x y zero is = inr (refl, cc)
get-push_cases [] x y (suc k) is = absurd cc
get-push_cases (z ∷ xs) x y zero is = inl is
get-push_cases (z ∷ xs) x y (suc k) is =
    elim (get-push_cases xs x y k is) [ inl before ↦ inl before | inr last ↦ inr (ap suc last.0, last.1) ]

-- ---- the pairs of one term

-- the characters of a term between two marks
chars-after_mark : (bytes : List ℕ) → chars (36 ∷ bytes) ≡ 36 ∷ chars bytes
unfolding chars
chars-after_mark [] = refl
chars-after_mark (b ∷ bytes) = refl

pub chars-marked : (term : List ℕ) → IsUtf8 term → chars (36 ∷ (term ++ 36 ∷ [])) ≡ 36 ∷ (chars term ++ 36 ∷ [])
chars-marked term text =
    let mark : chars (36 ∷ []) ≡ 36 ∷ [] = chars-after_mark [] ∙ ap (λ (cs : List ℕ). 36 ∷ cs) chars-nil in
    chars-after_mark (term ++ 36 ∷ []) ∙ ap (λ (cs : List ℕ). 36 ∷ cs) (chars-append term (36 ∷ []) text ∙ ap (λ (cs : List ℕ). chars term ++ cs) mark)

grams_of-marked : (term : List ℕ) → IsUtf8 term → grams_of term ≡ map encode_utf8_all (windows_of_three (36 ∷ (chars term ++ 36 ∷ [])))
unfolding grams_of trigram_list
grams_of-marked term text = ap (λ (cs : List ℕ). map encode_utf8_all (windows_of_three cs)) (chars-marked term text)

grams-pairs_of : (number : ℕ) (cs : List ℕ) → map gram_of (pairs_of number cs) ≡ map encode_utf8_all (windows_of_three cs)
grams-pairs_of number [] = refl
grams-pairs_of number (a ∷ []) = refl
grams-pairs_of number (a ∷ b ∷ []) = refl
grams-pairs_of number (a ∷ b ∷ c ∷ cs) = ap (λ (gs : List (List ℕ)). encode_utf8_all (a ∷ b ∷ c ∷ []) ∷ gs) (grams-pairs_of number (b ∷ c ∷ cs))

number-pairs_of : (number : ℕ) (cs : List ℕ) (p : GramPair) → Contains (pairs_of number cs) p → p.number ≡ number
number-pairs_of number [] p has = absurd (contains_none p has)
number-pairs_of number (a ∷ []) p has = absurd (contains_none p has)
number-pairs_of number (a ∷ b ∷ []) p has = absurd (contains_none p has)
number-pairs_of number (a ∷ b ∷ c ∷ cs) p has =
    elim (contains_cases (record { first = a; second = b; third = c; number = number }) (pairs_of number (b ∷ c ∷ cs)) p has) [
      | inl first ↦ ap (λ (q : GramPair). q.number) (sym first)
      | inr later ↦ number-pairs_of number (b ∷ c ∷ cs) p later
    ]

-- the pairs of a term have its grams, under its number
pub term_has : (number : ℕ) (term : List ℕ) (g : List ℕ) (n : ℕ) → IsUtf8 term → HasPair (pairs_of_term number term) g n ↔ ((n ≡ number) × Contains (grams_of term) g)
term_has number term g n text =
    let cs = 36 ∷ (chars term ++ 36 ∷ []) in
    let same : grams_of term ≡ map gram_of (pairs_of number cs) = grams_of-marked term text ∙ sym (grams-pairs_of number cs) in (
      λ has. (
        sym has.numbered ∙ number-pairs_of number cs has.pair has.among,
        subst (λ (gs : List (List ℕ)). Contains gs g) (sym same)
            (subst (λ (h : List ℕ). Contains (map gram_of (pairs_of number cs)) h) has.spelled (contains_map gram_of (pairs_of number cs) has.pair has.among)),
      ),
      λ (is, has).
          let (p, among, spelled) = contained_from_map gram_of (pairs_of number cs) g (subst (λ (gs : List (List ℕ)). Contains gs g) same has) in
          record { pair = p; among = among; spelled = spelled; numbered = number-pairs_of number cs p among ∙ sym is },
    )

-- ---- one term more

-- the relation of some terms, and the windows of the next one so far
abbrev pub SeenToo : List (List ℕ) → List GramPair → List ℕ → ℕ → Type 0
SeenToo terms seen gram number = IsGramOfTerm terms gram number ⊎ HasPair seen gram number

pub none_related : (g : List ℕ) (n : ℕ) → ¬ (IsGramOfTerm [] g n)
none_related g n is = let none = is.numbered in cc

pub more_related : (terms : List (List ℕ)) (number : ℕ) (term : List ℕ) → number ≡ length terms → IsUtf8 term
    → (g : List ℕ) (n : ℕ) → SeenToo terms (pairs_of_term number term) g n ↔ IsGramOfTerm (terms ++ term ∷ []) g n
more_related terms number term counted text g n = (
  λ has.
      elim has [
        | inl is ↦ record { term = is.term; numbered = get-push_before terms term is.term n is.numbered; windowed = is.windowed }
        | inr new ↦
            let (last, windowed) = (term_has number term g n text).0 new in
            record { term = term; numbered = get-push_last terms term n (last ∙ counted); windowed = windowed }
      ],
  λ is.
      elim (get-push_cases terms term is.term n is.numbered) [
        | inl before ↦ inl (record { term = is.term; numbered = before; windowed = is.windowed })
        | inr (last, same) ↦ inr ((term_has number term g n text).1 (last ∙ sym counted, subst (λ (t : List ℕ). Contains (grams_of t) g) (sym same) is.windowed))
      ],
)
