-- The dictionary of a block: the places of a term are those of its number, and one more token.
use Rattle.std.proofs.Common.{◌≡◌, ℕ, zero, suc, ◌+◌, ◌<◌, ◌==◌, ◌⊎◌, inl, inr, Bool, true, false, cond, bytes_eq, List, [], ◌∷◌, ◌++◌, length, Contains, Option, Some, None, MatchOption, String, refl, sym, ap, subst, ◌∙◌, arith}
use Rattle.std.proofs.lemmas.Bool.{eq-eqb, ne_eqb}
use Rattle.std.proofs.lemmas.List.{append-nil, append_assoc, length_push}
use Rattle.std.proofs.lemmas.List.Elements.{Contains-append_left, Contains-push}
use Rattle.std.proofs.lemmas.Slice.Eq.{bytes_eq-Decides}
use Rattle.std.specs.HashMap.{HashMap, get_by_text}
use Rattle.std.specs.List.{AllZip}
use Rattle.std.specs.Map.{update}
use Rattle.ix_text.specs.TokenLists.{Entry}
use Rattle.ix_run.specs.Dictionaries.{HoldsTokens, IsNumbered, IsNumberedAfter, places_of, places_with}
use Rattle.ix_run.specs.SeenWords.{IsNumberedNow}
use Rattle.ix_run.specs.declared.dictionary.TheConstants.{NOTHING}

-- ---- the places of a term and of its number

module _ {Y S : Type 0} (numbers : HashMap (String Y) ℕ S) (term : List ℕ) where
  pub places_numbered : (number : ℕ) → get_by_text numbers term ≡ Some number → number < NOTHING
      → ((one other : List ℕ) (n : ℕ) → get_by_text numbers one ≡ Some n → get_by_text numbers other ≡ Some n → one ≡ other)
      → (place : ℕ) (entries : List Entry) (tokens : List ℕ) → AllZip (IsNumbered numbers) entries tokens → places_of term place entries ≡ places_with number place tokens
  places_numbered number found low own place [] [] all = refl
  places_numbered number found low own place [] (token ∷ tokens) all = absurd all
  places_numbered number found low own place (entry ∷ entries) [] all = absurd all
  places_numbered number found low own place (None ∷ entries) (token ∷ tokens) all =
      let apart : token == number ≡ false = ne_eqb token number (λ same. absurd (let is = all.0 in omega (arith, is, same, low))) in
      places_numbered number found low own (place + 1) entries tokens all.1
      ∙ sym (ap (λ b. cond b (place ∷ places_with number (place + 1) tokens) (places_with number (place + 1) tokens)) apart)
  places_numbered number found low own place (Some other ∷ entries) (token ∷ tokens) all =
      ap (λ places. cond (bytes_eq other term) (place ∷ places) places) (places_numbered number found low own (place + 1) entries tokens all.1)
      ∙ ap (λ b. cond b (place ∷ places_with number (place + 1) tokens) (places_with number (place + 1) tokens)) (by (bytes_eq other term) refl)
    where
      by : (b : Bool) → bytes_eq other term ≡ b → b ≡ token == number
      by true same =
          let equal = (bytes_eq-Decides other term).0 same in
          let both : Some token ≡ Some number = sym all.0 ∙ ap (get_by_text numbers) equal ∙ found in
          let is : token ≡ number = cc in
          sym (eq-eqb token number is)
      by false differ =
          sym (ne_eqb token number
          (λ same.
          let equal = own other term number (all.0 ∙ ap Some same) found in
          let is = (bytes_eq-Decides other term).1 equal in absurd (let both : true ≡ false = sym is ∙ differ in cc)))

  pub no_places : get_by_text numbers term ≡ None → (place : ℕ) (entries : List Entry) (tokens : List ℕ) → AllZip (IsNumbered numbers) entries tokens → places_of term place entries ≡ []
  no_places found place [] [] all = refl
  no_places found place [] (token ∷ tokens) all = absurd all
  no_places found place (entry ∷ entries) [] all = absurd all
  no_places found place (None ∷ entries) (token ∷ tokens) all = no_places found (place + 1) entries tokens all.1
  no_places found place (Some other ∷ entries) (token ∷ tokens) all =
      ap (λ b. cond b (place ∷ places_of term (place + 1) entries) (places_of term (place + 1) entries)) (by (bytes_eq other term) refl)
      ∙ no_places found (place + 1) entries tokens all.1
    where
      by : (b : Bool) → bytes_eq other term ≡ b → b ≡ false
      by true same =
          let equal = (bytes_eq-Decides other term).0 same in
          let both : Some token ≡ None = sym all.0 ∙ ap (get_by_text numbers) equal ∙ found in absurd (cc)
      by false differ = refl

-- a term that occurs has a place
pub some_place : (term : List ℕ) (place : ℕ) (entries : List Entry) → Contains entries (Some term) → 0 < length (places_of term place entries)
some_place term place [] (k, within, is) = absurd (omega arith)
some_place term place (entry ∷ entries) (zero, within, is) =
    let P : Entry → Type 0 = λ e. 0 < length (places_of term place (e ∷ entries)) in
    let same = (bytes_eq-Decides term term).1 refl in
    subst P (sym is) (subst (λ b. 0 < length (cond b (place ∷ places_of term (place + 1) entries) (places_of term (place + 1) entries))) (sym same) (omega arith))
some_place term place (None ∷ entries) (suc k, within, is) = some_place term (place + 1) entries (k, omega arith, is)
some_place term place (Some other ∷ entries) (suc k, within, is) = by (bytes_eq other term) (some_place term (place + 1) entries (k, omega arith, is))
  where
    by : (b : Bool) → 0 < length (places_of term (place + 1) entries) → 0 < length (cond b (place ∷ places_of term (place + 1) entries) (places_of term (place + 1) entries))
    by true rest = omega arith
    by false rest = rest

-- ---- one more token

length_numbered : {Y S : Type 0} (numbers : HashMap (String Y) ℕ S) (entries : List Entry) (tokens : List ℕ) → AllZip (IsNumbered numbers) entries tokens → length tokens ≡ length entries
length_numbered numbers [] [] all = refl
length_numbered numbers [] (token ∷ tokens) all = absurd all
length_numbered numbers (entry ∷ entries) [] all = absurd all
length_numbered numbers (entry ∷ entries) (token ∷ tokens) all = let rest = length_numbered numbers entries tokens all.1 in omega (arith, rest)

pub length_held : {Y S : Type 0} (numbers : HashMap (String Y) ℕ S) (tokens : List ℕ) (entries : List Entry) → HoldsTokens numbers tokens entries → length tokens ≡ length entries
length_held numbers tokens entries holds = length_numbered numbers entries tokens holds.numbered

module _ {Y S : Type 0} (old new : HashMap (String Y) ℕ S) (kept : (term : List ℕ) (number : ℕ) → get_by_text old term ≡ Some number → get_by_text new term ≡ Some number) where
  pub numbered_kept : (entry : Entry) (token : ℕ) → IsNumbered old entry token → IsNumbered new entry token
  numbered_kept None token is = is
  numbered_kept (Some term) token is = kept term token is

  numbered-push : (entries : List Entry) (tokens : List ℕ) (entry : Entry) (token : ℕ) → AllZip (IsNumbered old) entries tokens → IsNumbered new entry token → AllZip (IsNumbered new) (entries ++ entry ∷ []) (tokens ++ token ∷ [])
  numbered-push [] [] entry token all is = (is, tt)
  numbered-push [] (t ∷ tokens) entry token all is = absurd all
  numbered-push (e ∷ entries) [] entry token all is = absurd all
  numbered-push (e ∷ entries) (t ∷ tokens) entry token all is = (numbered_kept e t all.0, numbered-push entries tokens entry token all.1 is)

-- a token that is nothing, or whose term has that number already
pub holds_known_more : {Y S : Type 0} (numbers : HashMap (String Y) ℕ S) (tokens : List ℕ) (entries : List Entry) (entry : Entry) (token : ℕ) → IsNumbered numbers entry token → HoldsTokens numbers tokens entries → HoldsTokens numbers (tokens ++ token ∷ []) (entries ++ entry ∷ [])
holds_known_more numbers tokens entries entry token is holds = record {
  numbered = numbered-push numbers numbers (λ term number found. found) entries tokens entry token holds.numbered is;
  occurs = λ term number found. Contains-append_left entries (entry ∷ []) (Some term) (holds.occurs term number found);
  below = holds.below;
  own = holds.own;
  few = let few = holds.few in omega (arith, length_push tokens token, few);
}

-- a term that is new changes the number of no other
module _ {Y S : Type 0} (old new : HashMap (String Y) ℕ S) (term : List ℕ) (number : ℕ) (updates : (other : List ℕ) → get_by_text new other ≡ update bytes_eq (get_by_text old) term (Some number) other) where
  kept_beside : get_by_text old term ≡ None → (other : List ℕ) (n : ℕ) → get_by_text old other ≡ Some n → get_by_text new other ≡ Some n
  kept_beside absent other n found = updates other ∙ by (bytes_eq term other) refl
    where
      by : (b : Bool) → bytes_eq term other ≡ b → cond b (Some number) (get_by_text old other) ≡ Some n
      by true same =
          let equal = (bytes_eq-Decides term other).0 same in
          let both : None ≡ Some n = sym absent ∙ ap (get_by_text old) equal ∙ found in absurd (cc)
      by false differ = found

  numbered_here : get_by_text new term ≡ Some number
  numbered_here =
      let same = (bytes_eq-Decides term term).1 refl in
      updates term ∙ ap (λ b. cond b (Some number) (get_by_text old term)) same

module _ {Y S : Type 0} (old new : HashMap (String Y) ℕ S) (tokens : List ℕ) (entries : List Entry) (term : List ℕ) (number : ℕ) (absent : get_by_text old term ≡ None) (next : number ≡ length old.entries)
    (longer : length new.entries ≡ length old.entries + 1) (updates : (other : List ℕ) → get_by_text new other ≡ update bytes_eq (get_by_text old) term (Some number) other) (holds : HoldsTokens old tokens entries) where
  -- a term has the number that it had, or it is the new one
  had : (other : List ℕ) (n : ℕ) → get_by_text new other ≡ Some n → (get_by_text old other ≡ Some n) ⊎ ((term ≡ other) × (n ≡ number))
  had other n found = by (bytes_eq term other) refl (sym (updates other) ∙ found)
    where
      by : (b : Bool) → bytes_eq term other ≡ b → cond b (Some number) (get_by_text old other) ≡ Some n → (get_by_text old other ≡ Some n) ⊎ ((term ≡ other) × (n ≡ number))
      by true same is = inr ((bytes_eq-Decides term other).0 same, cc)
      by false differ is = inl is

  pub holds_new_more : HoldsTokens new (tokens ++ number ∷ []) (entries ++ Some term ∷ [])
  holds_new_more = record {
    numbered = numbered-push old new (kept_beside old new term number updates absent) entries tokens (Some term) number holds.numbered (numbered_here old new term number updates);
    occurs = λ other n found.
        elim (had other n found) [
          | inl was ↦ Contains-append_left entries (Some term ∷ []) (Some other) (holds.occurs other n was)
          | inr is ↦ subst (λ t. Contains (entries ++ Some term ∷ []) (Some t)) is.0 (Contains-push entries (Some term))
        ];
    below = λ other n found.
        elim (had other n found) [
          | inl was ↦ let low = holds.below other n was in omega (arith, low, longer)
          | inr is ↦ let same = is.1 in omega (arith, same, next, longer)
        ];
    own = λ one other n found found'. both one other n (had one n found) (had other n found');
    few = let few = holds.few in omega (arith, length_push tokens number, few, longer);
  }
    where
      both : (one other : List ℕ) (n : ℕ) → (get_by_text old one ≡ Some n) ⊎ ((term ≡ one) × (n ≡ number)) → (get_by_text old other ≡ Some n) ⊎ ((term ≡ other) × (n ≡ number)) → one ≡ other
      both one other n (inl was) (inl was') = holds.own one other n was was'
      both one other n (inl was) (inr is) = let low = holds.below one n was in let same = is.1 in absurd (omega (arith, low, same, next))
      both one other n (inr is) (inl was) = let low = holds.below other n was in let same = is.1 in absurd (omega (arith, low, same, next))
      both one other n (inr is) (inr is') = sym is.0 ∙ is'.0

pub numbered_new : {Y S : Type 0} (old new : HashMap (String Y) ℕ S) (term : List ℕ) (number : ℕ) → get_by_text old term ≡ None → number ≡ length old.entries → length new.entries ≡ length old.entries + 1
    → ((other : List ℕ) → get_by_text new other ≡ update bytes_eq (get_by_text old) term (Some number) other) → IsNumberedAfter old new term number
numbered_new old new term number absent next longer updates =
    let P : Option ℕ → Type 0 = λ found.
    MatchOption found ((number ≡ length old.entries) × (length new.entries ≡ length old.entries + 1) × ((other : List ℕ) → get_by_text new other ≡ update bytes_eq (get_by_text old) term (Some number) other)) (λ before. (number ≡ before) × (new ≡ old)) in
    subst P (sym absent) (next, longer, updates)

pub holds_term_more : {Y S : Type 0} (old new : HashMap (String Y) ℕ S) (tokens : List ℕ) (entries : List Entry) (term : List ℕ) (number : ℕ) → IsNumberedAfter old new term number → HoldsTokens old tokens entries
    → HoldsTokens new (tokens ++ number ∷ []) (entries ++ Some term ∷ [])
holds_term_more old new tokens entries term number after holds = by (get_by_text old term) refl after
  where
    by : (found : Option ℕ) → get_by_text old term ≡ found
        → MatchOption found ((number ≡ length old.entries) × (length new.entries ≡ length old.entries + 1) × ((other : List ℕ) → get_by_text new other ≡ update bytes_eq (get_by_text old) term (Some number) other)) (λ before. (number ≡ before) × (new ≡ old))
        → HoldsTokens new (tokens ++ number ∷ []) (entries ++ Some term ∷ [])
    by None absent is = holds_new_more old new tokens entries term number absent is.0 is.1 is.2 holds
    by (Some before) found is =
        subst (λ m. HoldsTokens m (tokens ++ number ∷ []) (entries ++ Some term ∷ [])) (sym is.1)
        (holds_known_more old tokens entries (Some term) number (found ∙ ap Some (sym is.0)) holds)

-- ---- the number that a token has now

module _ {Y S : Type 0} (old new : HashMap (String Y) ℕ S) where
  -- no term that had a number has another
  pub kept_now : (entry : Entry) (number : ℕ) → IsNumberedNow old new entry number → (other : List ℕ) (n : ℕ) → get_by_text old other ≡ Some n → get_by_text new other ≡ Some n
  kept_now None number is other n found = ap (λ (m : HashMap (String Y) ℕ S). get_by_text m other) is.1 ∙ found
  kept_now (Some term) number is other n found = by (get_by_text old term) refl is
    where
      by : (had : Option ℕ) → get_by_text old term ≡ had
          → MatchOption had ((number ≡ length old.entries) × (length new.entries ≡ length old.entries + 1) × ((other : List ℕ) → get_by_text new other ≡ update bytes_eq (get_by_text old) term (Some number) other)) (λ before. (number ≡ before) × (new ≡ old))
          → get_by_text new other ≡ Some n
      by None absent is = kept_beside old new term number is.2 absent other n found
      by (Some before) had is = ap (λ (m : HashMap (String Y) ℕ S). get_by_text m other) is.1 ∙ found

  pub numbered_now : (entry : Entry) (number : ℕ) → IsNumberedNow old new entry number → IsNumbered new entry number
  numbered_now None number is = is.0
  numbered_now (Some term) number is = by (get_by_text old term) refl is
    where
      by : (had : Option ℕ) → get_by_text old term ≡ had
          → MatchOption had ((number ≡ length old.entries) × (length new.entries ≡ length old.entries + 1) × ((other : List ℕ) → get_by_text new other ≡ update bytes_eq (get_by_text old) term (Some number) other)) (λ before. (number ≡ before) × (new ≡ old))
          → get_by_text new term ≡ Some number
      by None absent is = numbered_here old new term number is.2
      by (Some before) had is = ap (λ (m : HashMap (String Y) ℕ S). get_by_text m term) is.1 ∙ had ∙ ap Some (sym is.0)

  -- one more token
  pub holds_one_more : (tokens tokens' : List ℕ) (entries : List Entry) (entry : Entry) (number : ℕ) → tokens' ≡ tokens ++ number ∷ [] → IsNumberedNow old new entry number → HoldsTokens old tokens entries → HoldsTokens new tokens' (entries ++ entry ∷ [])
  holds_one_more tokens tokens' entries None number is now holds =
      subst (λ ts. HoldsTokens new ts (entries ++ None ∷ [])) (sym is)
      (subst (λ m. HoldsTokens m (tokens ++ number ∷ []) (entries ++ None ∷ [])) (sym now.1) (holds_known_more old tokens entries None number now.0 holds))
  holds_one_more tokens tokens' entries (Some term) number is now holds =
      subst (λ ts. HoldsTokens new ts (entries ++ Some term ∷ [])) (sym is) (holds_term_more old new tokens entries term number now holds)

-- a number that is known already
pub known_now : {Y S : Type 0} (numbers : HashMap (String Y) ℕ S) (entry : Entry) (number : ℕ) → IsNumbered numbers entry number → IsNumberedNow numbers numbers entry number
known_now numbers None number is = (is, refl)
known_now numbers (Some term) number found =
    let P : Option ℕ → Type 0 = λ had.
    MatchOption had ((number ≡ length numbers.entries) × (length numbers.entries ≡ length numbers.entries + 1) × ((other : List ℕ) → get_by_text numbers other ≡ update bytes_eq (get_by_text numbers) term (Some number) other)) (λ before. (number ≡ before) × (numbers ≡ numbers)) in
    subst P (sym found) (refl, refl)

-- these entries were added, and with those that are left they are all
pub record HasAdded {Y S : Type 0} (old : HashMap (String Y) ℕ S) (tokens : List ℕ) (new : HashMap (String Y) ℕ S) (tokens' : List ℕ) (left all : List Entry) : Type 0 where
  pub done : List Entry
  pub parts : all ≡ done ++ left
  pub count : length tokens' ≡ length tokens + length done
  pub held : (entries : List Entry) → HoldsTokens old tokens entries → HoldsTokens new tokens' (entries ++ done)

pub nothing_added : {Y S : Type 0} (numbers : HashMap (String Y) ℕ S) (tokens : List ℕ) (left all : List Entry) → all ≡ left → HasAdded numbers tokens numbers tokens left all
nothing_added numbers tokens left all is = record {
  done = [];
  parts = is;
  count = omega arith;
  held = λ entries holds. subst (HoldsTokens numbers tokens) (sym (append-nil entries)) holds;
}

pub one_more_added : {Y S : Type 0} (old : HashMap (String Y) ℕ S) (tokens : List ℕ) (middle : HashMap (String Y) ℕ S) (tokens' : List ℕ) (new : HashMap (String Y) ℕ S) (tokens'' : List ℕ) (left next all : List Entry) (entry : Entry) → left ≡ entry ∷ next
    → ((entries : List Entry) → HoldsTokens middle tokens' entries → HoldsTokens new tokens'' (entries ++ entry ∷ [])) → length tokens'' ≡ length tokens' + 1 → HasAdded old tokens middle tokens' left all → HasAdded old tokens new tokens'' next all
one_more_added old tokens middle tokens' new tokens'' left next all entry step holds longer was = record {
  done = was.done ++ entry ∷ [];
  parts = was.parts ∙ ap (λ rest. was.done ++ rest) step ∙ sym (append_assoc was.done (entry ∷ []) next);
  count = omega (arith, was.count, longer, length_push was.done entry);
  held = λ entries held. subst (HoldsTokens new tokens'') (append_assoc entries was.done (entry ∷ [])) (holds (entries ++ was.done) (was.held entries held));
}
