-- Sources that cover no number twice: one whose numbers end no later lies before the other.
use Rattle.std.proofs.Common.{◌≡◌, ◌≢◌, ℕ, zero, suc, ◌-◌, ◌<◌, ◌≤◌, Bool, true, List, [], ◌∷◌, length, get_or, map, count_by, inl, inr, ap, ◌∙◌, arith}
use Rattle.std.proofs.lemmas.Bool.{cases_lt}
use Rattle.std.proofs.lemmas.Bool.Decides.{nat_tests}
use Rattle.std.proofs.lemmas.List.Elements.{All-tail, All-head}
use Rattle.std.proofs.lemmas.List.Sums.{sum_by-cons}
use Rattle.std.specs.List.{All, sum_by}
use Rattle.ix_text.specs.Collections.{token_total}
use Rattle.ix_text.specs.Parts.{DictionaryEntry, DocumentRow, row_of}
use Rattle.ix_text.proofs.CollectionTold.{has_collection}
use Rattle.ix_text.proofs.PartsCounted.{positions_counted, weight_of}
use Rattle.ix_text.proofs.PartsLawful.{sum_by-map}
use Rattle.ix_file.specs.Told.{position_total}
use Rattle.ix_run.specs.Heads.{Heading, parts_with}
use Rattle.ix_run.specs.Sources.{AreWhole}
use Rattle.ix_merge.specs.Covers.{covers}
use Rattle.ix_merge.specs.Keys.{end_of}
use Rattle.ix_merge.specs.Merged.{Share}
use Rattle.ix_merge.specs.Merging.{AreApart}
use Rattle.ix_merge.specs.Rows.{tokens_in, tokens_under}

module _ {A : Type 0} (p : A → Bool) where
  some_pass : (xs : List A) (i : ℕ) (d : A) → i < length xs → p (get_or xs i d) ≡ true → 1 ≤ count_by p xs
  some_pass [] i d within passes = absurd (omega arith)
  some_pass (x ∷ xs) zero d within passes = omega (arith, sum_by-cons (λ y. weight_of (p y)) x xs, ap weight_of passes)
  some_pass (x ∷ xs) (suc i) d within passes =
      let more = some_pass xs i d (omega arith) passes in
      omega (arith, sum_by-cons (λ y. weight_of (p y)) x xs, more)

  two_pass : (xs : List A) (i j : ℕ) (d : A) → i < j → j < length xs → p (get_or xs i d) ≡ true → p (get_or xs j d) ≡ true → 2 ≤ count_by p xs
  two_pass [] i j d apart within one other = absurd (omega arith)
  two_pass (x ∷ xs) i zero d apart within one other = absurd (omega arith)
  two_pass (x ∷ xs) zero (suc j) d apart within one other =
      let more = some_pass xs j d (omega arith) other in
      omega (arith, sum_by-cons (λ y. weight_of (p y)) x xs, ap weight_of one, more)
  two_pass (x ∷ xs) (suc i) (suc j) d apart within one other =
      let more = two_pass xs i j d (omega arith) (omega arith) one other in
      omega (arith, sum_by-cons (λ y. weight_of (p y)) x xs, more)

  pub not_both : (xs : List A) (i j : ℕ) (d : A) → count_by p xs ≤ 1 → i ≢ j → i < length xs → j < length xs → p (get_or xs i d) ≡ true → p (get_or xs j d) ≡ true → ⊥
  not_both xs i j d most apart within within' one other = elim (cases_lt i j) [
    | inl less ↦ let two = two_pass xs i j d less within' one other in omega arith
    | inr more ↦ let two = two_pass xs j i d (omega arith) within other one in omega arith
  ]

covered : (number : ℕ) (heading : Heading) → heading.first ≤ number → number < end_of heading → covers number heading ≡ true
covered number heading low high = grind (arith, nat_tests)

-- The one has a document, and its numbers end no later than those of the other: they end before these.
pub lies_before : (headings : List Heading) (i j : ℕ) (d : Heading) → AreApart headings → i ≢ j → i < length headings → j < length headings
    → (get_or headings i d).first < end_of (get_or headings i d) → end_of (get_or headings i d) ≤ end_of (get_or headings j d) → end_of (get_or headings i d) ≤ (get_or headings j d).first
lies_before headings i j d apart other within within' some up = elim (cases_lt (get_or headings j d).first (end_of (get_or headings i d))) [
  | inl less ↦
      let last : ℕ = end_of (get_or headings i d) - 1 in
      let one : covers last (get_or headings i d) ≡ true = covered last (get_or headings i d) (omega arith) (omega arith) in
      let two : covers last (get_or headings j d) ≡ true = covered last (get_or headings j d) (omega arith) (omega arith) in
      absurd (not_both (covers last) headings i j d (apart last) other within within' one two)
  | inr more ↦ more
]

-- a lawful dictionary has no more positions than its heading has tokens
pub few_positions : (heading : Heading) (entries : List DictionaryEntry) → AreWhole heading entries → position_total entries ≤ tokens_in heading.rows
few_positions heading entries whole =
    let has = has_collection (parts_with heading entries) whole.lawful in
    let counted = positions_counted has.collection (parts_with heading entries) has.of_collection in
    let same : tokens_in heading.rows ≡ token_total has.collection =
    ap tokens_in has.of_collection.rows ∙ sum_by-map (λ (row : DocumentRow). row.tokens) row_of has.collection.documents in
    omega arith

-- and so all together
pub few_in_all : (shares : List Share) → All (λ share. AreWhole share.heading share.entries) shares → sum_by (λ share. position_total share.entries) shares ≤ tokens_under (map (λ share. share.heading) shares)
few_in_all [] all = omega arith
few_in_all (share ∷ shares) all =
    let Whole : Share → Type 0 = λ s. AreWhole s.heading s.entries in
    let first = few_positions share.heading share.entries (All-head Whole share shares all) in
    let rest = few_in_all shares (All-tail Whole share shares all) in
    omega (arith, sum_by-cons (λ (s : Share). position_total s.entries) share shares, sum_by-cons (λ (h : Heading). tokens_in h.rows) share.heading (map (λ (s : Share). s.heading) shares), first, rest)
