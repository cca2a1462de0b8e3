-- Token lists: which entry a term gives, and one more entry.
use Rattle.std.proofs.Common.{◌≡◌, ℕ, ◌+◌, ◌↔◌, Bool, IsTrue, true, false, not, ◌&&◌, cond, List, [], ◌∷◌, ◌++◌, map, bytes_eq, Some, None, Contains, refl, sym, ap, ap₂, ◌∙◌, append_assoc, take}
use Rattle.std.proofs.lemmas.Bool.Decides.{Decides-by_or}
use Rattle.std.proofs.lemmas.List.Elements.{Decides-contains}
use Rattle.std.specs.Bool.{Decides}
use Rattle.std.specs.Cmp.Lexicographic.{bytes_decides}
use Rattle.ix_text.specs.TokenLists.{Entry, entry_of_term, is_stop_term, is_term_size}

pub is_stop_term-Decides : (stop : List (List ℕ)) (term : List ℕ) → Decides (is_stop_term stop term) (Contains stop term)
is_stop_term-Decides stop term =
    Decides-contains stop term (is_stop_term stop term)
    (Decides-by_or (λ stopped. bytes_eq stopped term) (λ stopped. stopped ≡ term) (λ stopped. is_stop_term stopped term) (λ stopped. bytes_decides stopped term) refl (λ _ _. refl) stop)

entry_by : Bool → Bool → List ℕ → Entry
entry_by size stopped term = cond (size && not stopped) (Some term) None

-- a term is kept just where its size is lawful and no stop term is it
pub entry_of_term-kept : (stop : List (List ℕ)) (term : List ℕ) → is_term_size term ≡ true → ¬ (Contains stop term) → entry_of_term stop term ≡ Some term
unfolding entry_of_term entry_by
entry_of_term-kept stop term size kept =
    ap₂ (λ a b. entry_by a b term) size (no (is_stop_term stop term) (is_stop_term-Decides stop term))
  where
    no : (b : Bool) → Decides b (Contains stop term) → b ≡ false
    no true d = absurd (kept (d.0 refl))
    no false d = refl

pub entry_of_term-stopped : (stop : List (List ℕ)) (term : List ℕ) → Contains stop term → entry_of_term stop term ≡ None
unfolding entry_of_term entry_by
entry_of_term-stopped stop term has = ap (λ b. entry_by (is_term_size term) b term) ((is_stop_term-Decides stop term).1 has) ∙ by (is_term_size term)
  where
    by : (size : Bool) → entry_by size true term ≡ None
    by true = refl
    by false = refl

pub entry_of_term-wrong_size : (stop : List (List ℕ)) (term : List ℕ) → is_term_size term ≡ false → entry_of_term stop term ≡ None
unfolding entry_of_term entry_by
entry_of_term-wrong_size stop term size = ap (λ a. entry_by a (is_stop_term stop term) term) size

same_decided : (a b : Bool) (P : Type 0) → IsTrue a ↔ P → Decides b P → a ≡ b
same_decided true b P i d = sym (d.1 (i.0 refl))
same_decided false false P i d = refl
same_decided false true P i d = let t : false ≡ true = i.1 (d.0 refl) in absurd (cc)

-- whether a list keeps a term
abbrev pub keeps : List (List ℕ) → List ℕ → Bool
keeps stop term = is_term_size term && not (is_stop_term stop term)

-- a term of lawful size is kept just where it was not looked up
pub keeps-by_search : (stop : List (List ℕ)) (term : List ℕ) (size held : Bool) → size ≡ is_term_size term → size ≡ true → IsTrue held ↔ Contains stop term → not held ≡ keeps stop term
keeps-by_search stop term size held same lawful looked_up =
    let e : true ≡ is_term_size term = sym lawful ∙ same in
    ap₂ (λ a b. a && not b) e (same_decided held (is_stop_term stop term) (Contains stop term) looked_up (is_stop_term-Decides stop term))

-- a term is the entry just where it is kept
pub entry_of_term-keeps : (stop : List (List ℕ)) (term shown : List ℕ) (kept : Bool) → shown ≡ term → kept ≡ keeps stop shown → kept ≡ true → Some shown ≡ entry_of_term stop term
unfolding entry_of_term
entry_of_term-keeps stop term shown kept same tested is =
    let e : keeps stop term ≡ true = ap (keeps stop) (sym same) ∙ sym tested ∙ is in
    ap Some same ∙ sym (ap (λ b. cond b (Some term) None) e)

pub entry_of_term-drops : (stop : List (List ℕ)) (term shown : List ℕ) (kept : Bool) → shown ≡ term → kept ≡ keeps stop shown → kept ≡ false → None ≡ entry_of_term stop term
unfolding entry_of_term
entry_of_term-drops stop term shown kept same tested is =
    let e : keeps stop term ≡ false = ap (keeps stop) (sym same) ∙ sym tested ∙ is in
    sym (ap (λ b. cond b (Some term) None) e)

-- the entry is the term just where it is kept
pub entry_of_term-kept_or_dropped : (stop : List (List ℕ)) (term shown : List ℕ) (kept : Bool) → shown ≡ term → kept ≡ keeps stop shown → entry_of_term stop term ≡ cond kept (Some shown) None
unfolding entry_of_term
entry_of_term-kept_or_dropped stop term shown kept same tested =
    ap (λ b. cond b (Some term) None) (ap (keeps stop) (sym same) ∙ sym tested) ∙ ap (λ t. cond kept (Some t) None) (sym same)

-- one more place is done
pub taken_more : {A : Type 0} (shown : A → Entry) (old more : List A) (place : ℕ) (entry : Entry) (left : List Entry) (all : List Entry) → map shown (take (place + 1) more) ≡ map shown (take place old) ++ entry ∷ [] → map shown (take place old) ++ entry ∷ left ≡ all → map shown (take (place + 1) more) ++ left ≡ all
taken_more shown old more place entry left all here so_far = ap (λ l. l ++ left) here ∙ append_assoc (map shown (take place old)) (entry ∷ []) left ∙ so_far
