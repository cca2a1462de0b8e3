-- Marks of stretches of places, made while the ends of the documents are gone through.
use Rattle.std.proofs.Common.{◌≡◌, refl, ℕ, ◌+◌, ◌-◌, ◌*◌, ◌<◌, ◌≤◌, List, ◌++◌, length, get_or, replicate, ◌⊎◌, inl, inr, ap, subst, sym, take, ◌∙◌, arith}
use Rattle.std.proofs.lemmas.Bool.{cases_lt}
use Rattle.std.proofs.lemmas.List.{get_or-append_right, get_or-replicate, get_or_append_left, get_or_past, length-append, length-replicate, take_all}
use Rattle.ix_run.specs.DocumentEnds.{AreMarks}

-- the marks once so many documents were gone through
pub record AreMarkedTo (ends marks : List ℕ) (documents : ℕ) : Type 0 where
  pub right : AreMarks 32 ends marks
  pub behind : (k : ℕ) → k < documents → get_or ends k 0 ≤ 32 * length marks

-- a document that ends within the stretches that are marked
pub kept_marks : (ends marks : List ℕ) (document : ℕ) → get_or ends document 0 ≤ 32 * length marks → AreMarkedTo ends marks document → AreMarkedTo ends marks (document + 1)
kept_marks ends marks document low are = record {
  right = are.right;
  behind = λ k less. by k (cases_lt k document) less;
}
  where
    by : (k : ℕ) → (k < document) ⊎ (document ≤ k) → k < document + 1 → get_or ends k 0 ≤ 32 * length marks
    by k (inl before) less = are.behind k before
    by k (inr here) less = let same : document ≡ k = omega (arith, here, less) in subst (λ j. get_or ends j 0 ≤ 32 * length marks) same low

-- one that ends behind them is the mark of so many further stretches
more_marks : (ends marks : List ℕ) (document count : ℕ) → document < length ends → get_or ends document 0 ≤ 32 * (length marks + count) → AreMarkedTo ends marks document → AreMarkedTo ends (marks ++ replicate count document) (document + 1)
more_marks ends marks document count inside low are = record {
  right = record {
    within = λ stretch. within_at stretch (place stretch);
    before = λ stretch k less. before_at stretch k less (place stretch);
  };
  behind = λ k less. behind_at k (cases_lt k document) less;
}
  where
    Is : ℕ → Type 0
    Is stretch = ((stretch < length marks) × (get_or (marks ++ replicate count document) stretch 0 ≡ get_or marks stretch 0)) ⊎ ((length marks ≤ stretch) × ((get_or (marks ++ replicate count document) stretch 0 ≡ document) ⊎ (get_or (marks ++ replicate count document) stretch 0 ≡ 0)))

    later : (stretch : ℕ) → length marks ≤ stretch → (stretch - length marks < count) ⊎ (count ≤ stretch - length marks) → (get_or (marks ++ replicate count document) stretch 0 ≡ document) ⊎ (get_or (marks ++ replicate count document) stretch 0 ≡ 0)
    later stretch from (inl within) = inl (get_or-append_right marks (replicate count document) (length marks) stretch 0 refl from ∙ get_or-replicate count (stretch - length marks) document 0 within)
    later stretch from (inr past) = inr (get_or-append_right marks (replicate count document) (length marks) stretch 0 refl from ∙ get_or_past (replicate count document) (stretch - length marks) 0 (omega (arith, past, length-replicate count document)))

    place_by : (stretch : ℕ) → (stretch < length marks) ⊎ (length marks ≤ stretch) → Is stretch
    place_by stretch (inl within) = inl (within, get_or_append_left marks (replicate count document) 0 stretch within)
    place_by stretch (inr from) = inr (from, later stretch from (cases_lt (stretch - length marks) count))

    place : (stretch : ℕ) → Is stretch
    place stretch = place_by stretch (cases_lt stretch (length marks))

    within_at : (stretch : ℕ) → Is stretch → get_or (marks ++ replicate count document) stretch 0 ≤ length ends
    within_at stretch (inl old) = let was = are.right.within stretch in let is = old.1 in omega (arith, was, is)
    within_at stretch (inr new) = elim (new.1) [ inl is ↦ omega (arith, is, inside) | inr is ↦ omega (arith, is) ]

    before_at : (stretch k : ℕ) → k < get_or (marks ++ replicate count document) stretch 0 → Is stretch → get_or ends k 0 ≤ 32 * stretch
    before_at stretch k less (inl old) = are.right.before stretch k (let is = old.1 in omega (arith, less, is))
    before_at stretch k less (inr new) = elim (new.1) [
      | inl is ↦ let was = are.behind k (omega (arith, less, is)) in let from = new.0 in omega (arith, was, from)
      | inr is ↦ absurd (omega (arith, less, is))
    ]

    size : length (marks ++ replicate count document) ≡ length marks + count
    size = length-append marks (replicate count document) ∙ ap (λ n. length marks + n) (length-replicate count document)

    behind_at : (k : ℕ) → (k < document) ⊎ (document ≤ k) → k < document + 1 → get_or ends k 0 ≤ 32 * length (marks ++ replicate count document)
    behind_at k (inl earlier) less = let was = are.behind k earlier in omega (arith, was, size)
    behind_at k (inr here) less =
        let is : document ≡ k = omega (arith, here, less) in
        subst (λ j. get_or ends j 0 ≤ 32 * length (marks ++ replicate count document)) is (omega (arith, low, size))

-- the same where the marks are brought to a length
pub marks_resized : (ends marks now : List ℕ) (document stretches size : ℕ) → size ≡ length marks → size < stretches → document < length ends → now ≡ take stretches marks ++ replicate (stretches - size) document
    → get_or ends document 0 ≤ 32 * stretches → AreMarkedTo ends marks document → AreMarkedTo ends now (document + 1)
marks_resized ends marks now document stretches size sized longer inside is low are =
    let here : now ≡ marks ++ replicate (stretches - size) document = is ∙ ap (λ front. front ++ replicate (stretches - size) document) (take_all stretches marks (omega (arith, sized, longer))) in
    subst (λ ms. AreMarkedTo ends ms (document + 1)) (sym here) (more_marks ends marks document (stretches - size) inside (omega (arith, sized, longer, low)) are)
