-- How several words compare with ascending terms.
use Rattle.std.proofs.Common.{◌≡◌, ℕ, zero, suc, ◌+◌, ◌<◌, ◌≤◌, Bool, true, false, cond, map, List, [], ◌∷◌, ◌++◌, length, get_or, take, nat_eq, Ordering, Less, Equal, Greater, ◌-◌, Contains, ◌↔◌, Option, Bor, Vec, Global, slice_get, unwrap_or, refl, ⊎_elim, below_more, sym, ap, ap₂, ◌∙◌, subst, arith}
use Rattle.std.proofs.Math.ListN.{get_or-map}
use Rattle.std.proofs.lemmas.Bool.{cases_lt, eqb-true}
use Rattle.std.proofs.lemmas.Cmp.{nat_list_cmp_total}
use Rattle.std.proofs.lemmas.List.{length-map, get_or-map as get_or-map-within}
use Rattle.std.proofs.lemmas.List.Sorted.{Contains-permutation, IsPermutation-map, IsPermutation-sym}
use Rattle.std.specs.List.Sorted.{IsPermutation}
use Rattle.std.proofs.lemmas.Map.Lookups.{exact_bytes}
use Rattle.std.specs.Cmp.Lexicographic.{slice_cmp}
use Rattle.std.specs.Ordering.{is_lt, nat_cmp, ordering_reverse}
use Rattle.ix_lookup.specs.TermOrder.{IsBelow}
use Rattle.std.proofs.lemmas.Option.{slice_get-get_or, unwrap_or-slice_get}
use Rattle.ix_lookup.specs.Words.{AreAtTerm, AreSorted, HasPassed, IsAtTerm, IsNext, texts_of}
use Rattle.ix_lookup.specs.declared.word.Word.{Word}
use Rattle.ix_lookup.specs.declared.words.Words.{Words}
use Rattle.ix_lookup.proofs.FrontLemmas.{common, lt_less, order_past}

-- no text is below itself
pub not_below_itself : (text : List ℕ) → IsBelow text text → ⊥
not_below_itself text below =
    let back : Less ≡ ordering_reverse Less = sym below ∙ nat_list_cmp_total.antisymm text text ∙ ap ordering_reverse below in
    cc

pub below_trans : (one other third : List ℕ) → IsBelow one other → IsBelow other third → IsBelow one third
below_trans one other third first second = nat_list_cmp_total.trans one other third first second

-- what is below a term is below a later one
pub passed_on : (texts : List (List ℕ)) (place : ℕ) (term later : List ℕ) → HasPassed texts place term → IsBelow term later → HasPassed texts place later
passed_on texts place term later passed above k before = below_trans (get_or texts k []) term later (passed k before) above

-- one text more
pub passed_more : (texts : List (List ℕ)) (place : ℕ) (term : List ℕ) → HasPassed texts place term → IsBelow (get_or texts place []) term → HasPassed texts (place + 1) term
passed_more texts place term passed below = below_more _ _ passed below

-- a term that was passed is no text before the place
pub no_text_passed : (texts : List (List ℕ)) (place : ℕ) (term : List ℕ) → HasPassed texts place term → (k : ℕ) → k < place → get_or texts k [] ≡ term → ⊥
no_text_passed texts place term passed k before e = not_below_itself term (subst (λ (t : List ℕ). IsBelow t term) e (passed k before))

-- what is not above and not below is the same
at_or_above : (one other : List ℕ) → ¬ (IsBelow other one) → ¬ (IsBelow one other) → one ≡ other
at_or_above one other least most = decided (slice_cmp nat_cmp one other) refl
  where
    decided : (o : Ordering) → slice_cmp nat_cmp one other ≡ o → one ≡ other
    decided Less is = absurd (most is)
    decided Equal is = exact_bytes one other is
    decided Greater is = absurd (least (nat_list_cmp_total.antisymm other one ∙ ap ordering_reverse is))

not_below_trans : (one other third : List ℕ) → ¬ (IsBelow other one) → ¬ (IsBelow third other) → ¬ (IsBelow third one)
not_below_trans one other third first second below = decided (slice_cmp nat_cmp one other) refl
  where
    decided : (o : Ordering) → slice_cmp nat_cmp one other ≡ o → ⊥
    decided Less is = second (below_trans third one other below is)
    decided Equal is = second (subst (λ (t : List ℕ). IsBelow third t) (exact_bytes one other is) below)
    decided Greater is = first (nat_list_cmp_total.antisymm other one ∙ ap ordering_reverse is)

-- no later text is below an earlier one
sorted_apart : (texts : List (List ℕ)) (low distance high : ℕ) → AreSorted texts → high ≡ low + distance → high < length texts → ¬ (IsBelow (get_or texts high []) (get_or texts low []))
sorted_apart texts low zero high sorted is within =
    let same : low ≡ high = omega arith in subst (λ k. ¬ (IsBelow (get_or texts k []) (get_or texts low []))) same (not_below_itself (get_or texts low []))
sorted_apart texts low (suc n) high sorted is within =
    let next : high ≡ low + n + 1 = omega arith in
    subst (λ k. ¬ (IsBelow (get_or texts k []) (get_or texts low []))) (sym next)
    (not_below_trans (get_or texts low []) (get_or texts (low + n) []) (get_or texts (low + n + 1) []) (sorted_apart texts low n (low + n) sorted refl (omega arith)) (sorted (low + n) (omega arith)))

-- the text at a place, whatever the default
same_text : (texts : List (List ℕ)) (k : ℕ) (one other : List ℕ) → k < length texts → get_or texts k one ≡ get_or texts k other
same_text texts k one other within = let e = sym (slice_get-get_or texts k one within) ∙ slice_get-get_or texts k other within in cc

-- behind the last text none is looked for
pub none_left : (texts : List (List ℕ)) (place : ℕ) (term : List ℕ) → HasPassed texts place term → length texts ≤ place → Contains texts term → ⊥
none_left texts place term passed all among =
    no_text_passed texts place term passed among.0 (omega (arith, among.1)) (same_text texts among.0 [] term among.1 ∙ among.2)

-- the next text is the term, if some text is
pub next_is_term : (texts : List (List ℕ)) (place : ℕ) (text term : List ℕ) → AreSorted texts → HasPassed texts place term → text ≡ get_or texts place [] → is_lt (slice_cmp nat_cmp text term) ≡ false → Contains texts term → text ≡ term
next_is_term texts place text term sorted passed is reached among =
    let found : get_or texts among.0 [] ≡ term = same_text texts among.0 [] term among.1 ∙ among.2 in
    ⊎_elim (λ (before : among.0 < place). absurd (no_text_passed texts place term passed among.0 before found))
    (λ (from : place ≤ among.0). ⊎_elim (λ (behind : place < among.0). apart behind found) (λ (at : among.0 ≤ place). is ∙ (let same : place ≡ among.0 = omega arith in ap (λ k. get_or texts k []) same) ∙ found) (cases_lt place among.0))
    (cases_lt among.0 place)
  where
    apart : place < among.0 → get_or texts among.0 [] ≡ term → text ≡ term
    apart behind found =
        let least : ¬ (IsBelow term text) = subst (λ (t : List ℕ). ¬ (IsBelow t text)) found (subst (λ (t : List ℕ). ¬ (IsBelow (get_or texts among.0 []) t)) (sym is) (sorted_apart texts place (among.0 - place) among.0 sorted (omega arith) among.1)) in
        at_or_above text term least (λ below. let lt : true ≡ false = sym (ap is_lt below) ∙ reached in cc)

pub next_contained : (texts : List (List ℕ)) (place : ℕ) (text term : List ℕ) → place < length texts → text ≡ get_or texts place [] → term ≡ text → Contains texts term
next_contained texts place text term within is same = (place, within, same_text texts place term [] within ∙ sym is ∙ sym same)

-- ---- the words

-- how many words there are
pub texts_count : (words : Words) → length (texts_of words) ≡ length words.texts.items
texts_count words = length-map words.texts.items (λ (text : Bor (List ℕ)). text.now)

-- a text by its place
pub text_at : (texts : List (Bor (List ℕ))) (place : ℕ) (none : Bor (List ℕ)) (text : List ℕ) → none.now ≡ [] → text ≡ (get_or texts place none).now → text ≡ get_or (map (λ (t : Bor (List ℕ)). t.now) texts) place []
text_at texts place none text empty is =
    is ∙ sym (get_or-map (λ (t : Bor (List ℕ)). t.now) texts place none) ∙ ap (λ (other : List ℕ). get_or (map (λ (t : Bor (List ℕ)). t.now) texts) place other) empty

pub text_found : (texts : List (Bor (List ℕ))) (place : ℕ) (found : Bor (List ℕ)) → place < length texts → found ≡ get_or texts place found → found.now ≡ get_or (map (λ (t : Bor (List ℕ)). t.now) texts) place []
text_found texts place found within is = ap (λ (t : Bor (List ℕ)). t.now) is ∙ sym (get_or-map-within (λ (t : Bor (List ℕ)). t.now) texts place found [] within)

-- the first of them, or the empty text
pub first_text : (texts : List (Bor (List ℕ))) (found : Option (Bor (List ℕ))) (none first : Bor (List ℕ)) → none.now ≡ [] → found ≡ slice_get texts 0 → first ≡ unwrap_or found none → first.now ≡ get_or (map (λ (t : Bor (List ℕ)). t.now) texts) 0 []
first_text texts found none first empty is e =
    text_at texts 0 none first.now empty (ap (λ (t : Bor (List ℕ)). t.now) (e ∙ ap (λ (o : Option (Bor (List ℕ))). unwrap_or o none) is ∙ unwrap_or-slice_get texts 0 none))

-- behind the last word the scan stays
pub stays : (words : Words) (before term : List ℕ) → AreAtTerm words before → IsBelow before term → length words.texts.items ≤ words.place → AreAtTerm words term
stays words before term at above all = record {
  sorted = at.sorted;
  passed = passed_on (texts_of words) words.place before term at.passed above;
  within = at.within;
  next = λ left. absurd (omega (arith, texts_count words));
}

-- the next word is not below the term
pub reaches : (words new : Words) (before term : List ℕ) → AreAtTerm words before → words.place < length words.texts.items → new.texts.items ≡ words.texts.items → new.place ≡ words.place → new.word.text ≡ words.word.text → IsAtTerm new.word term → new.word.is_below ≡ false → IsBelow before term → AreAtTerm new term
reaches words new before term at left texts place text is reached above =
    let same : texts_of new ≡ texts_of words = ap (map (λ (t : Bor (List ℕ)). t.now)) texts in
    let next : IsNext (texts_of words) words.place words.word before = at.next (omega (arith, texts_count words)) in
    record {
      sorted = subst AreSorted (sym same) at.sorted;
      passed = subst (λ (ts : List (List ℕ)). HasPassed ts new.place term) (sym same) (subst (λ k. HasPassed (texts_of words) k term) (sym place) (passed_on (texts_of words) words.place before term at.passed above));
      within = omega (arith, at.within, ap length same);
      next = λ within. record {
        text = ap (λ (t : Bor (List ℕ)). t.now) text ∙ next.text ∙ ap₂ (λ (ts : List (List ℕ)) k. get_or ts k []) (sym same) (sym place);
        reached = reached;
        at = is;
      };
    }

-- the scan has come to the words from a place on
pub arrives : (words new : Words) (term : List ℕ) → new.texts ≡ words.texts → AreSorted (texts_of words) → HasPassed (texts_of words) new.place term → new.place ≤ length words.texts.items → (new.place < length words.texts.items → IsNext (texts_of words) new.place new.word term) → AreAtTerm new term
arrives words new term texts sorted passed within next =
    let same : texts_of new ≡ texts_of words = ap (λ (ts : Vec (Bor (List ℕ)) Global). map (λ (t : Bor (List ℕ)). t.now) ts.items) texts in
    record {
      sorted = subst AreSorted (sym same) sorted;
      passed = subst (λ (ts : List (List ℕ)). HasPassed ts new.place term) (sym same) passed;
      within = omega (arith, ap length same, texts_count words);
      next = λ left. subst (λ (ts : List (List ℕ)). IsNext ts new.place new.word term) (sym same) (next (omega (arith, ap length same, texts_count words)));
    }

-- and if it does, it was passed too
pub passes_next : (words : Words) (moved : Word) (before term : List ℕ) → AreAtTerm words before → words.place < length words.texts.items → moved.text ≡ words.word.text → IsAtTerm moved term → moved.is_below ≡ true → IsBelow before term → HasPassed (texts_of words) (words.place + 1) term
passes_next words moved before term at left text is below above =
    let next : IsNext (texts_of words) words.place words.word before = at.next (omega (arith, texts_count words)) in
    let less : slice_cmp nat_cmp moved.text.now term ≡ Less = lt_less (slice_cmp nat_cmp moved.text.now term) (sym is.below ∙ below) in
    passed_more (texts_of words) words.place term (passed_on (texts_of words) words.place before term at.passed above)
    (subst (λ (t : List ℕ). IsBelow t term) (ap (λ (t : Bor (List ℕ)). t.now) text ∙ next.text) less)

-- a front that is shared with a text
pub same_front : (before text : List ℕ) (shared : ℕ) → shared ≤ common before text → take shared before ≡ take shared text
same_front before text zero within = refl
same_front [] text (suc n) within = absurd (omega arith)
same_front (x ∷ xs) [] (suc n) within = absurd (omega arith)
same_front (x ∷ xs) (y ∷ ys) (suc n) within = at (nat_eq x y) refl (λ within. same_front xs ys n within) within
  where
    at : (b : Bool) → nat_eq x y ≡ b → (n ≤ common xs ys → take n xs ≡ take n ys) → suc n ≤ cond b (1 + common xs ys) 0 → x ∷ take n xs ≡ y ∷ take n ys
    at true same rest within = ap₂ (λ z zs. z ∷ zs) (eqb-true x y same) (rest (omega arith))
    at false other rest within = absurd (omega arith)

-- A word that was not below the term before, and is below the next one, shares with the term before the front
-- that both terms share.
pub shared_within : (before own text : List ℕ) (shared : ℕ) → shared ≤ length before → is_lt (slice_cmp nat_cmp text before) ≡ false → is_lt (slice_cmp nat_cmp text (take shared before ++ own)) ≡ true → shared ≤ common before text
shared_within before own text shared within reached below =
    ⊎_elim (λ (past : common before text < shared). absurd (apart past)) (λ (on : shared ≤ common before text). on) (cases_lt (common before text) shared)
  where
    apart : common before text < shared → ⊥
    apart past =
        let same : true ≡ false = sym below ∙ ap is_lt (order_past before own text shared within past) ∙ reached in
        cc

-- texts that were sorted
pub sorted_texts : (texts : List (Bor (List ℕ))) → ((k : ℕ) (d : Bor (List ℕ)) → 0 ≤ k → k + 1 < length texts → is_lt (slice_cmp nat_cmp (get_or texts (k + 1) d).now (get_or texts k d).now) ≡ false) → AreSorted (map (λ (t : Bor (List ℕ)). t.now) texts)
sorted_texts [] sorted k within below = absurd (omega arith)
sorted_texts (text ∷ texts) sorted k within below =
    let now = λ (t : Bor (List ℕ)). t.now in
    let all = text ∷ texts in
    let count = length-map all now in
    let second = get_or-map-within now all (k + 1) text [] (omega (arith, within, count)) in
    let first = get_or-map-within now all k text [] (omega (arith, within, count)) in
    let less : slice_cmp nat_cmp (get_or all (k + 1) text).now (get_or all k text).now ≡ Less = ap₂ (slice_cmp nat_cmp) (sym second) (sym first) ∙ below in
    let lt : true ≡ false = sym (ap is_lt less) ∙ sorted k text (omega arith) (omega (arith, within, count)) in
    cc

-- the same texts in another order
pub texts_kept : (texts sorted : List (Bor (List ℕ))) (term : List ℕ) → IsPermutation texts sorted → Contains (map (λ (t : Bor (List ℕ)). t.now) sorted) term ↔ Contains (map (λ (t : Bor (List ℕ)). t.now) texts) term
texts_kept texts sorted term moved =
    let now = λ (t : Bor (List ℕ)). t.now in
    let same = IsPermutation-map now texts sorted moved in (
      λ among. Contains-permutation (map now sorted) (map now texts) term (IsPermutation-sym (map now texts) (map now sorted) same) among,
      λ among. Contains-permutation (map now texts) (map now sorted) term same among,
    )
