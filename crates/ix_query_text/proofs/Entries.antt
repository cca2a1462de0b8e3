-- The entries of a text's words, and the holes at their ends.
use Rattle.std.proofs.Common.{◌≡◌, ℕ, ◌+◌, ◌<◌, ◌≤◌, Bool, true, false, not, ◌||◌, cond, List, [], ◌∷◌, ◌++◌, map, length, get_or, take, Some, None, Result, Ok, Err, Contains, Bor, refl, sym, ap, ◌∙◌}
use Rattle.std.specs.Prelude.{bytes_eq, ◌↔◌, IsTrue}
use Rattle.std.specs.List.{list_any}
use Rattle.std.specs.Bool.{Decides}
use Rattle.std.specs.Cmp.Lexicographic.{bytes_decides}
use Rattle.std.proofs.lemmas.Bool.{le-leb, lt-ltb}
use Rattle.std.proofs.lemmas.Bool.Decides.{Decides-by_or, same_from_decides}
use Rattle.std.proofs.lemmas.List.Elements.{Decides-contains}
use Rattle.std.proofs.lemmas.List.Folds.{list_any_more, list_any_at}
use Rattle.std.proofs.lemmas.List.{take_all, map_more}
use Rattle.ix_text.specs.Terms.{term_of_word}
use Rattle.ix_text.specs.TokenLists.{Entry, entry_of_term, is_stop_term}
use Rattle.ix_query_text.specs.declared.error.QueryError.{QueryError}
use Rattle.ix_query_text.specs.declared.error.QueryError.TheVariants.{Memory, LongTerm}
use Rattle.ix_query_text.specs.Judgement.{is_long_word, entry_reading, entries_reading}
use Rattle.ix_query_text.specs.QueryErrors.{Fails}

stopped : (stop : List (List ℕ)) (term : List ℕ) → Decides (is_stop_term stop term) (Contains stop term)
stopped stop term =
    Decides-contains stop term (is_stop_term stop term)
    (Decides-by_or (λ stopped. bytes_eq stopped term) (λ stopped. stopped ≡ term) (λ stopped. is_stop_term stopped term) (λ stopped. bytes_decides stopped term) refl (λ _ _. refl) stop)

-- the entry of a term of a lawful size
pub entry_by : (stop : List (List ℕ)) (term : List ℕ) (held : Bool) → 0 < length term → length term ≤ 255 → IsTrue held ↔ Contains stop term → entry_of_term stop term ≡ cond (not held) (Some term) None
unfolding entry_of_term
entry_by stop term held some short is = rw (lt-ltb _ _ some, le-leb _ _ short, same_from_decides held (is_stop_term stop term) is (stopped stop term)) refl

guard_ok : {A : Type 0} (b : Bool) (d : QueryError) (x y : A) → cond b (Err d) (Ok x) ≡ Ok y → (b ≡ false) × (x ≡ y)
guard_ok true d x y is = absurd (cc)
guard_ok false d x y is = (refl, cc)

-- a word that has an entry
pub entry_read : (stop : List (List ℕ)) (word : List ℕ) (entry : Entry) → entry_reading stop word ≡ Ok entry → (is_long_word word ≡ false) × (entry_of_term stop (term_of_word word) ≡ entry)
unfolding entry_reading
entry_read stop word entry read = guard_ok (is_long_word word) LongTerm (entry_of_term stop (term_of_word word)) entry read

any_map : {X Y : Type 0} (p : Y → Bool) (f : X → Y) (xs : List X) → list_any p (map f xs) ≡ list_any (λ x. p (f x)) xs
any_map p f [] = refl
any_map p f (x ∷ xs) = ap (λ b. p (f x) || b) (any_map p f xs)

same_fault : (A B : Type 0) (e d : QueryError) → Fails {Y = A} e (Err d) → Fails {Y = B} e (Err d)
same_fault A B Memory d h = tt
same_fault A B e d h = cc

no_fault : {A B : Type 0} (e : QueryError) (x : A) (r : Result B QueryError) → Fails e (Ok x) → Fails e r
no_fault Memory x r h = tt
no_fault e x r h = absurd (cc)

fault_by : {A B : Type 0} (e d : QueryError) (long any : Bool) (x : A) (y : B) → (long ≡ true → any ≡ true) → Fails e (cond long (Err d) (Ok x)) → Fails e (cond any (Err d) (Ok y))
fault_by {A} {B} e d true true x y settles fault = same_fault A B e d fault
fault_by e d true false x y settles fault = absurd (let h = settles refl in cc)
fault_by e d false any x y settles fault = no_fault e x _ fault

-- the fault of a word is that of the list
pub fault_at : (stop : List (List ℕ)) (words : List (Bor (List ℕ))) (i : ℕ) (d : Bor (List ℕ)) (e : QueryError) → i < length words → Fails e (entry_reading stop (get_or words i d).now) → Fails e (entries_reading stop (map (λ word. word.now) words))
unfolding entry_reading entries_reading
fault_at stop words i d e within fault =
    fault_by e LongTerm (is_long_word (get_or words i d).now) _ _ _ (λ long. any_map is_long_word (λ (word : Bor (List ℕ)). word.now) words ∙ list_any_at (λ (word : Bor (List ℕ)). is_long_word word.now) words i d within long) fault

map_twice : {X Y Z : Type 0} (g : Y → Z) (f : X → Y) (xs : List X) → map g (map f xs) ≡ map (λ x. g (f x)) xs
map_twice g f [] = refl
map_twice g f (x ∷ xs) = ap (λ rest. g (f x) ∷ rest) (map_twice g f xs)

-- the entries of all words
pub entries_read : (stop : List (List ℕ)) (words : List (Bor (List ℕ))) (i : ℕ) (list : List Entry) → length words ≤ i → list ≡ map (λ word. entry_of_term stop (term_of_word word.now)) (take i words) → list_any (λ word. is_long_word word.now) (take i words) ≡ false → entries_reading stop (map (λ word. word.now) words) ≡ Ok list
unfolding entries_reading
entries_read stop words i list all is short =
    let whole : take i words ≡ words = take_all i words all in
    let none : list_any is_long_word (map (λ (word : Bor (List ℕ)). word.now) words) ≡ false = any_map is_long_word (λ (word : Bor (List ℕ)). word.now) words ∙ ap (list_any (λ (word : Bor (List ℕ)). is_long_word word.now)) (sym whole) ∙ short in
    rw none (ap Ok (map_twice (λ word. entry_of_term stop (term_of_word word)) (λ (word : Bor (List ℕ)). word.now) words ∙ ap (map (λ (word : Bor (List ℕ)). entry_of_term stop (term_of_word word.now))) (sym whole) ∙ sym is))

-- one word more
pub entries_more : (stop : List (List ℕ)) (words : List (Bor (List ℕ))) (i : ℕ) (d : Bor (List ℕ)) (list more : List Entry) (entry : Entry) → i < length words → list ≡ map (λ word. entry_of_term stop (term_of_word word.now)) (take i words) → more ≡ list ++ entry ∷ [] → entry_reading stop (get_or words i d).now ≡ Ok entry → more ≡ map (λ word. entry_of_term stop (term_of_word word.now)) (take (i + 1) words)
entries_more stop words i d list more entry within is pushed read =
    let kept = (entry_read stop (get_or words i d).now entry read).1 in
    pushed ∙ ap (λ l. l ++ entry ∷ []) is ∙ ap (λ e. map (λ (word : Bor (List ℕ)). entry_of_term stop (term_of_word word.now)) (take i words) ++ e ∷ []) (sym kept) ∙ sym (map_more (λ (word : Bor (List ℕ)). entry_of_term stop (term_of_word word.now)) words i d within)

pub short_more : (stop : List (List ℕ)) (words : List (Bor (List ℕ))) (i : ℕ) (d : Bor (List ℕ)) (entry : Entry) → i < length words → list_any (λ word. is_long_word word.now) (take i words) ≡ false → entry_reading stop (get_or words i d).now ≡ Ok entry → list_any (λ word. is_long_word word.now) (take (i + 1) words) ≡ false
short_more stop words i d entry within short read = list_any_more (λ (word : Bor (List ℕ)). is_long_word word.now) words i d within ∙ rw (short, (entry_read stop (get_or words i d).now entry read).0) refl
