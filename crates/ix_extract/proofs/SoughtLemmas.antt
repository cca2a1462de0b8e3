-- What the matchers of a query's words and patterns look for.
use Rattle.std.proofs.Common.{◌≡◌, ℕ, zero, suc, ◌+◌, ◌<◌, ◌≤◌, ◌↔◌, ◌⊎◌, inl, inr, Bool, Result, IfOk, IsTrue, List, [], ◌∷◌, ◌++◌, Option, Some, None, length, take, get_or, map, Any, Contains, Bor, refl, sym, ap, ◌∙◌, subst, arith}
use Rattle.std.proofs.lemmas.List.{append-nil, map-append, take_all, take_more}
use Rattle.std.proofs.lemmas.List.Elements.{Contains-append_cases, Contains-append_left, Contains-append_right}
use Rattle.ix_text.specs.Terms.{IsTerm}
use Rattle.ix_text.proofs.AscendingLists.{contains_cases, contains_first, contains_none}
use Rattle.ix_gram.specs.Patterns.{Matches, in_a_row}
use Rattle.ix_lookup.specs.Fronts.{HasFront}
use Rattle.ix_lookup.specs.declared.any_of.AnyOf.{AnyOf}
use Rattle.ix_lookup.specs.TermOrder.{IsBelow}
use Rattle.ix_query_text.specs.declared.tree.Tree.{Tree}
use Rattle.ix_projection.specs.Asked.{AsksAbout}
use Rattle.ix_extract.specs.Parts.{IsPartAt, IsPartWanted, IsSought, IsText}
use Rattle.ix_extract.specs.declared.query_matcher.Part.{Part}

-- ---- patterns

row_front : (first : List ℕ) (others gaps : List (List ℕ)) → HasFront first (in_a_row (first ∷ others) gaps)
row_front first others [] = ([], sym (append-nil first))
row_front first others (gap ∷ gaps) = (gap ++ in_a_row others gaps, refl)

-- a term that the pieces match begins with the first one
pub matches_front : (first term : List ℕ) (others pieces : List (List ℕ)) → pieces ≡ first ∷ others → Matches term pieces → HasFront first term
matches_front first term others pieces is matches =
    let spelled : term ≡ in_a_row (first ∷ others) matches.gaps = matches.spelled ∙ ap (λ (ps : List (List ℕ)). in_a_row ps matches.gaps) is in
    subst (HasFront first) (sym spelled) (row_front first others matches.gaps)

-- ---- parts

pub wanted_of : (part whole : Part) (wanted : List ℕ → Type 0) → whole ≡ part → ((term : List ℕ) → wanted term ↔ IsPartWanted part term) → (term : List ℕ) → wanted term ↔ IsPartWanted whole term
wanted_of part whole wanted is same = subst (λ (p : Part). (term : List ℕ) → wanted term ↔ IsPartWanted p term) (sym is) same

-- what a step returns
abbrev pub Steps : {E : Type 0} → ℕ → List ℕ → Result Bool E → Part → Type 0
Steps shared own result part =
    (before : List ℕ) → IsPartAt part before → shared ≤ length before → IsBelow before (take shared before ++ own) → IsTerm (take shared before ++ own)
    → IfOk result (λ found. IsTrue found ↔ IsPartWanted part (take shared before ++ own))

pub steps_of : {E : Type 0} (shared : ℕ) (own : List ℕ) (result : Result Bool E) (part whole : Part) → whole ≡ part → Steps shared own result part → Steps shared own result whole
steps_of shared own result part whole is steps = subst (Steps shared own result) (sym is) steps

-- ---- lists with one more

contains_more : {X : Type 0} (xs : List X) (x y : X) → Contains (xs ++ x ∷ []) y ↔ (Contains xs y ⊎ (x ≡ y))
contains_more xs x y = (
  λ has. elim (Contains-append_cases xs (x ∷ []) y has) [
    | inl there ↦ inl there
    | inr here ↦ elim (contains_cases x [] y here) [ inl same ↦ inr same | inr later ↦ absurd (contains_none y later) ]
  ],
  λ which. elim which [
    | inl there ↦ Contains-append_left xs (x ∷ []) y there
    | inr same ↦ Contains-append_right xs (x ∷ []) y (subst (Contains (x ∷ [])) same (contains_first x []))
  ],
)

any_none : {X : Type 0} (P : X → Type 0) → ¬ (Any P [])
any_none P (k, y, below, is, p) = omega arith

any_first : {X : Type 0} (P : X → Type 0) (x : X) (xs : List X) → P x → Any P (x ∷ xs)
any_first P x xs p = (0, x, omega arith, refl, p)

any_later : {X : Type 0} (P : X → Type 0) (x : X) (xs : List X) → Any P xs → Any P (x ∷ xs)
any_later P x xs (k, y, below, is, p) = (suc k, y, omega arith, is, p)

any_cases : {X : Type 0} (P : X → Type 0) (x : X) (xs : List X) → Any P (x ∷ xs) → P x ⊎ Any P xs
any_cases P x xs (zero, y, below, is, p) = inl (subst P (sym is) p)
any_cases P x xs (suc k, y, below, is, p) = inr (k, y, omega arith, is, p)

any_more : {X : Type 0} (P : X → Type 0) (xs : List X) (x : X) → Any P (xs ++ x ∷ []) ↔ (Any P xs ⊎ P x)
any_more P [] x = (
  λ any. elim (any_cases P x [] any) [ inl here ↦ inr here | inr none ↦ inl none ],
  λ which. elim which [ inl none ↦ absurd (any_none P none) | inr here ↦ any_first P x [] here ],
)
any_more P (y ∷ xs) x = (
  λ any. elim (any_cases P y (xs ++ x ∷ []) any) [
    | inl first ↦ inl (any_first P y xs first)
    | inr later ↦ elim ((any_more P xs x).0 later) [ inl there ↦ inl (any_later P y xs there) | inr here ↦ inr here ]
  ],
  λ which. elim which [
    | inl any ↦ elim (any_cases P y xs any) [ inl first ↦ any_first P y (xs ++ x ∷ []) first | inr there ↦ any_later P y (xs ++ x ∷ []) ((any_more P xs x).1 (inl there)) ]
    | inr here ↦ any_later P y (xs ++ x ∷ []) ((any_more P xs x).1 (inr here))
  ],
)

-- ---- one more that is sought

pub same_by : {A B C D : Type 0} → A ↔ (B ⊎ C) → D ↔ C → A ↔ (B ⊎ D)
same_by is known = (
  λ a. elim (is.0 a) [ inl b ↦ inl b | inr c ↦ inr (known.1 c) ],
  λ which. elim which [ inl b ↦ is.1 (inl b) | inr d ↦ is.1 (inr (known.0 d)) ],
)

pub swapped : {A B : Type 0} → A ↔ B → B ↔ A
swapped both = (both.1, both.0)

-- what was sought, and then more
grown : {N M O A B C : Type 0} → M ↔ (O ⊎ A) → N ↔ (M ⊎ B) → C ↔ (A ⊎ B) → N ↔ (O ⊎ C)
grown before now both = (
  λ n. elim (now.0 n) [
    | inl m ↦ elim (before.0 m) [ inl o ↦ inl o | inr a ↦ inr (both.1 (inl a)) ]
    | inr b ↦ inr (both.1 (inr b))
  ],
  λ which. elim which [
    | inl o ↦ now.1 (inl (before.1 (inl o)))
    | inr c ↦ elim (both.0 c) [ inl a ↦ now.1 (inl (before.1 (inr a))) | inr b ↦ now.1 (inr b) ]
  ],
)

none_added : {A B : Type 0} → ¬ B → A ↔ (A ⊎ B)
none_added none = (λ a. inl a, λ which. elim which [ inl a ↦ a | inr b ↦ absurd (none b) ])

one_taken : {X : Type 0} (P : List X → Type 0) (xs : List X) (i : ℕ) (x : X) → i < length xs → x ≡ get_or xs i x → P (take i xs ++ x ∷ []) → P (take (i + 1) xs)
one_taken P xs i x within is holds = subst P (sym (take_more xs i x within ∙ ap (λ y. take i xs ++ y ∷ []) (sym is))) holds

-- a word that was pushed
one_word : (words new : List (Bor (List ℕ))) (word : Bor (List ℕ)) (term : List ℕ) → new ≡ words ++ word ∷ [] → IsText new term ↔ (IsText words term ⊎ (word.now ≡ term))
one_word words new word term pushed =
    let now : Bor (List ℕ) → List ℕ = λ text. text.now in
    subst (λ (ts : List (List ℕ)). Contains ts term ↔ (IsText words term ⊎ (word.now ≡ term))) (sym (ap (map now) pushed ∙ map-append now words (word ∷ []))) (contains_more (map now words) word.now term)

-- ---- the words of a phrase

module _ (parts : List (Option (List ℕ))) (i : ℕ) (part : Option (List ℕ)) (within : i < length parts) (is : part ≡ get_or parts i part) (old words : List (Bor (List ℕ))) (term : List ℕ)
    (before : IsText words term ↔ (IsText old term ⊎ Contains (take i parts) (Some term))) where
  taken : Contains (take (i + 1) parts) (Some term) ↔ (Contains (take i parts) (Some term) ⊎ (part ≡ Some term))
  taken = one_taken (λ ps. Contains ps (Some term) ↔ (Contains (take i parts) (Some term) ⊎ (part ≡ Some term))) parts i part within is (contains_more (take i parts) part (Some term))

  pub word_more : (new : List (Bor (List ℕ))) (word : Bor (List ℕ)) → part ≡ Some word.now → new ≡ words ++ word ∷ [] → IsText new term ↔ (IsText old term ⊎ Contains (take (i + 1) parts) (Some term))
  word_more new word some pushed =
      let same : (part ≡ Some term) ↔ (word.now ≡ term) = (λ e. let both : Some word.now ≡ Some term = sym some ∙ e in cc, λ e. some ∙ ap (λ t. Some t) e) in
      grown before (same_by (one_word words new word term pushed) same) taken

  pub hole_more : part ≡ None → IsText words term ↔ (IsText old term ⊎ Contains (take (i + 1) parts) (Some term))
  hole_more none = grown before (none_added (λ e. let both : None ≡ Some term = sym none ∙ e in cc)) taken

pub words_none : (old : List (Bor (List ℕ))) (parts : List (Option (List ℕ))) (term : List ℕ) → IsText old term ↔ (IsText old term ⊎ Contains (take 0 parts) (Some term))
words_none old parts term = none_added (contains_none (Some term))

-- ---- the parts of a query

pub each_none : (words : List (Bor (List ℕ))) (patterns : AnyOf Part) (parts : List Tree) (term : List ℕ) → IsSought words patterns term ↔ (IsSought words patterns term ⊎ Any (AsksAbout term) (take 0 parts))
each_none words patterns parts term = none_added (any_none (AsksAbout term))

pub each_more : (parts : List Tree) (i : ℕ) (part : Tree) (term : List ℕ) → i < length parts → part ≡ get_or parts i part → {Old Before Now : Type 0}
    → Before ↔ (Old ⊎ Any (AsksAbout term) (take i parts)) → Now ↔ (Before ⊎ AsksAbout term part) → Now ↔ (Old ⊎ Any (AsksAbout term) (take (i + 1) parts))
each_more parts i part term within is before now =
    grown before now (one_taken (λ ps. Any (AsksAbout term) ps ↔ (Any (AsksAbout term) (take i parts) ⊎ AsksAbout term part)) parts i part within is (any_more (AsksAbout term) (take i parts) part))

-- ---- one query

-- in place of what the parts of a query ask for, what the query asks for
pub asked_by : (form query : Tree) (term : List ℕ) {F A B : Type 0} → query ≡ form → AsksAbout term form ↔ F → A ↔ (B ⊎ F) → A ↔ (B ⊎ AsksAbout term query)
asked_by form query term {F} {A} {B} is asks more = subst (λ (q : Tree). A ↔ (B ⊎ AsksAbout term q)) (sym is) (same_by more asks)

-- more words
pub more_words : (old new : List (Bor (List ℕ))) (patterns : AnyOf Part) (term : List ℕ) {F : Type 0} → IsText new term ↔ (IsText old term ⊎ F) → IsSought new patterns term ↔ (IsSought old patterns term ⊎ F)
more_words old new patterns term more = (
  λ sought. elim sought [
    | inl text ↦ elim (more.0 text) [ inl there ↦ inl (inl there) | inr f ↦ inr f ]
    | inr wants ↦ inl (inr wants)
  ],
  λ which. elim which [
    | inl sought ↦ elim sought [ inl text ↦ inl (more.1 (inl text)) | inr wants ↦ inr wants ]
    | inr f ↦ inl (more.1 (inr f))
  ],
)

-- one more matcher
pub more_wanted : {C W N F : Type 0} → N ↔ (W ⊎ F) → (C ⊎ N) ↔ ((C ⊎ W) ⊎ F)
more_wanted more = (
  λ sought. elim sought [
    | inl text ↦ inl (inl text)
    | inr wants ↦ elim (more.0 wants) [ inl there ↦ inl (inr there) | inr f ↦ inr f ]
  ],
  λ which. elim which [
    | inl sought ↦ elim sought [ inl text ↦ inl text | inr wants ↦ inr (more.1 (inl wants)) ]
    | inr f ↦ inr (more.1 (inr f))
  ],
)

-- two more words
pub two_words : (old middle new : List (Bor (List ℕ))) (one other : Bor (List ℕ)) (term : List ℕ) → middle ≡ old ++ one ∷ [] → new ≡ middle ++ other ∷ [] → IsText new term ↔ (IsText old term ⊎ ((one.now ≡ term) ⊎ (other.now ≡ term)))
two_words old middle new one other term first second = grown (one_word old middle one term first) (one_word middle new other term second) (λ which. which, λ which. which)

-- of all parts, what was so far
pub all_taken : {X : Type 0} (P : List X → Type 0) (xs : List X) (i : ℕ) → length xs ≤ i → P (take i xs) → P xs
all_taken P xs i past holds = subst P (take_all i xs past) holds

-- no word and no matcher at first, and at last a matcher of the words
pub all_asked : {N W M T T0 W0 A : Type 0} → N ↔ (W ⊎ M) → M ↔ T → (T ⊎ W) ↔ ((T0 ⊎ W0) ⊎ A) → ¬ T0 → ¬ W0 → N ↔ A
all_asked {N} {W} {M} {T} {T0} {W0} {A} pushed words collected no_word no_matcher =
    let asked : T ⊎ W → A = λ sought. elim (collected.0 sought) [ inl before ↦ absurd (elim before [ inl t ↦ no_word t | inr w ↦ no_matcher w ]) | inr a ↦ a ] in (
      λ n. elim (pushed.0 n) [ inl w ↦ asked (inr w) | inr m ↦ asked (inl (words.0 m)) ],
      λ a. elim (collected.1 (inr a)) [ inl t ↦ pushed.1 (inr (words.1 t)) | inr w ↦ pushed.1 (inl w) ],
    )
