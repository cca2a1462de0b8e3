-- How several matchers step on, one after another.
use Rattle.std.proofs.Common.{◌≡◌, ◌≢◌, ℕ, ◌+◌, ◌<◌, ◌≤◌, ◌↔◌, Bool, true, false, cond, List, [], ◌∷◌, ◌++◌, length, get_or, set, take, All, Any, IsTrue, Option, Some, None, refl, sym, ap, ◌∙◌, subst, ⊎_elim, arith, get_or-set_same, get_or-set_other, length-set}
use Rattle.std.proofs.lemmas.Bool.{cases_lt}
use Rattle.std.proofs.lemmas.Option.{slice_get-get_or}
use Rattle.ix_text.specs.Terms.{IsTerm}
use Rattle.ix_lookup.specs.Matchers.{KeepsWants, HasFoundPlace}
use Rattle.ix_lookup.specs.TermOrder.{IsBelow}

-- the element at a place, whatever the default
pub same_at : {M : Type 0} → (xs : List M) (place : ℕ) (one other : M) → place < length xs → get_or xs place one ≡ get_or xs place other
same_at xs place one other within = let e = sym (slice_get-get_or xs place one within) ∙ slice_get-get_or xs place other within in cc

-- one of the elements
pub any_at : {M : Type 0} (P : M → Type 0) (xs : List M) (place : ℕ) → place < length xs → ((none : M) → P (get_or xs place none)) → Any P xs
any_at P [] place within holds = absurd (omega arith)
any_at P (x ∷ xs) place within holds = (place, get_or (x ∷ xs) place x, within, same_at (x ∷ xs) place (get_or (x ∷ xs) place x) x within, holds x)

module _ {M : Type 0} (wants is_at : M → List ℕ → Type 0) where
  -- one matcher stepped on
  pub kept_set : (old now : List M) (place : ℕ) (x y : M) → KeepsWants wants old now → place < length now → x ≡ get_or now place x → ((term : List ℕ) → wants y term ↔ wants x term) → KeepsWants wants old (set now place y)
  kept_set old now place x y kept within is same = record {
    count = length-set now place y ∙ kept.count;
    each = λ k none term h.
        ⊎_elim (λ (low : k < place). let apart : k ≢ place = omega arith in other k none term h apart)
        (λ (from : place ≤ k). ⊎_elim (λ (high : place < k). let apart : k ≢ place = omega arith in other k none term h apart) (λ (at : k ≤ place). here k none term h (omega arith)) (cases_lt place k))
        (cases_lt k place);
  }
    where
      other : (k : ℕ) (none : M) (term : List ℕ) → k < length old → k ≢ place → wants (get_or (set now place y) k none) term ↔ wants (get_or old k none) term
      other k none term h apart = subst (λ (one : M). wants one term ↔ wants (get_or old k none) term) (sym (get_or-set_other now place k y none apart)) (kept.each k none term h)

      here : (k : ℕ) (none : M) (term : List ℕ) → k < length old → k ≡ place → wants (get_or (set now place y) k none) term ↔ wants (get_or old k none) term
      here k none term h at =
          let new : get_or (set now place y) k none ≡ y = ap (λ j. get_or (set now place y) j none) at ∙ get_or-set_same now place y none within in
          let was : x ≡ get_or now k none = is ∙ same_at now place x none within ∙ ap (λ j. get_or now j none) (sym at) in
          subst (λ (one : M). wants one term ↔ wants (get_or old k none) term) (sym new)
          (let still : wants x term ↔ wants (get_or old k none) term = subst (λ (one : M). wants one term ↔ wants (get_or old k none) term) (sym was) (kept.each k none term h) in
          (λ w. still.0 ((same term).0 w), λ w. (same term).1 (still.1 w)))

  module _ (shared : ℕ) (own : List ℕ) where
    -- the matchers before a place stepped on, and the others are as they were
    pub record HasStepped (old now : List M) (place : ℕ) (found : Option ℕ) : Type 0 where
      pub kept : KeepsWants wants old now
      pub rest : (k : ℕ) (none : M) → place ≤ k → get_or now k none ≡ get_or old k none
      pub moved : (before : List ℕ) → All (λ one. is_at one before) old → shared ≤ length before → IsBelow before (take shared before ++ own) → (k : ℕ) (none : M) → k < place → is_at (get_or now k none) (take shared before ++ own)
      pub answered : (before : List ℕ) → All (λ one. is_at one before) old → shared ≤ length before → IsBelow before (take shared before ++ own) → IsTerm (take shared before ++ own) → HasFoundPlace wants old (take shared before ++ own) place found

    pub none_stepped : (old : List M) → HasStepped old old 0 None
    none_stepped old = record {
      kept = record { count = refl; each = λ k none term h. (λ w. w, λ w. w) };
      rest = λ k none h. refl;
      moved = λ before at within above k none h. absurd (omega arith);
      answered = λ before at within above is_term k none h. absurd (omega arith);
    }

    module _ (old now : List M) (place : ℕ) (found : Option ℕ) (x y : M) (b : Bool) (stepped : HasStepped old now place found) (within : place < length now) (is : x ≡ get_or now place x)
        (same : (term : List ℕ) → wants y term ↔ wants x term)
        (moves : (before : List ℕ) → is_at x before → shared ≤ length before → IsBelow before (take shared before ++ own) → is_at y (take shared before ++ own))
        (answers : (before : List ℕ) → is_at x before → shared ≤ length before → IsBelow before (take shared before ++ own) → IsTerm (take shared before ++ own) → IsTrue b ↔ wants x (take shared before ++ own)) where
      was : (none : M) → x ≡ get_or old place none
      was none = is ∙ same_at now place x none within ∙ stepped.rest place none (omega arith)

      at_before : (before : List ℕ) → All (λ one. is_at one before) old → is_at x before
      at_before before at = subst (λ (one : M). is_at one before) (sym (was x)) (at place x (omega (arith, stepped.kept.count)))

      moved_at : (before : List ℕ) → All (λ one. is_at one before) old → shared ≤ length before → IsBelow before (take shared before ++ own) → (k : ℕ) (none : M) → k < place + 1 → is_at (get_or (set now place y) k none) (take shared before ++ own)
      moved_at before at few above k none h =
          ⊎_elim (λ (low : k < place).
          let apart : k ≢ place = omega arith in
          subst (λ (one : M). is_at one (take shared before ++ own)) (sym (get_or-set_other now place k y none apart)) (stepped.moved before at few above k none low))
          (λ (high : place ≤ k).
          let here : place ≡ k = omega arith in
          subst (λ j. is_at (get_or (set now place y) j none) (take shared before ++ own)) here
          (subst (λ (one : M). is_at one (take shared before ++ own)) (sym (get_or-set_same now place y none within)) (moves before (at_before before at) few above)))
          (cases_lt k place)

      found_at : (term : List ℕ) (c : Bool) (last : Option ℕ) → (IsTrue c ↔ wants x term) → HasFoundPlace wants old term place last → HasFoundPlace wants old term (place + 1) (cond c (Some place) last)
      found_at term true last answer before = (omega arith, λ none. subst (λ (one : M). wants one term) (was none) (answer.0 refl))
      found_at term false None answer before = λ k none h.
          ⊎_elim (λ (low : k < place). before k none low)
          (λ (high : place ≤ k). let here : place ≡ k = omega arith in λ (wanted : wants (get_or old k none) term).
          no (answer.1 (subst (λ (one : M). wants one term) (sym (was none)) (subst (λ j. wants (get_or old j none) term) (sym here) wanted))))
          (cases_lt k place)
        where
          no : IsTrue false → ⊥
          no holds = cc
      found_at term false (Some last) answer before = (let low : last < place = before.0 in omega arith, before.1)

      pub steps : HasStepped old (set now place y) (place + 1) (cond b (Some place) found)
      steps = record {
        kept = kept_set old now place x y stepped.kept within is same;
        rest = λ k none h. let apart : k ≢ place = omega arith in get_or-set_other now place k y none apart ∙ stepped.rest k none (omega arith);
        moved = moved_at;
        answered = λ before at few above is_term. found_at (take shared before ++ own) b found (answers before (at_before before at) few above is_term) (stepped.answered before at few above is_term);
      }
