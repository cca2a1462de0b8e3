use Rattle.std.proofs.Common.{◌≡◌, ◌<◌, ◌≤◌, ◌++◌, List, ℕ, Bor, Contains, length, map, take, arith, sym, ap, ◌∙◌, subst, ⊎_elim}
use Rattle.std.proofs.lemmas.Bool.{cases_lt}
use Rattle.ix_lookup.specs.Words.{AreAtTerm, IsNext, texts_of}
use Rattle.ix_lookup.proofs.WordsLemmas.{none_left, next_is_term, next_contained, texts_count}
use Rattle.ix_lookup.proofs.words.WordsTermMatcher.step.Goals as goal

pub returns-then-is_behind-clause-answered : goal.returns-then-is_behind-clause-answered
returns-then-is_behind-clause-answered c = λ before at within above text.
    let words = c.follow.new.self in
    let term = take c.args.shared before ++ c.args.own.now in
    let same : texts_of words ≡ texts_of c.args.self.now = ap (map (λ (t : Bor (List ℕ)). t.now)) c.follow.ensures.texts in
    let is : AreAtTerm words term = c.follow.ensures.moved before at within above in (
      λ no. absurd (cc),
      λ among. absurd (none_left (texts_of words) words.place term is.passed (omega (arith, texts_count words, c.is_behind.ensures.0 c.if-is_behind.true)) (subst (λ (ts : List (List ℕ)). Contains ts term) (sym same) among)),
    )

pub returns-clause-answered : goal.returns-clause-answered
returns-clause-answered c = λ before at within above text.
    let words = c.follow.new.self in
    let term = take c.args.shared before ++ c.args.own.now in
    let same : texts_of words ≡ texts_of c.args.self.now = ap (map (λ (t : Bor (List ℕ)). t.now)) c.follow.ensures.texts in
    let is : AreAtTerm words term = c.follow.ensures.moved before at within above in
    let left : words.place < length (texts_of words) = ⊎_elim (λ (left : words.place < length (texts_of words)). left) (λ (all : length (texts_of words) ≤ words.place). absurd (let behind = c.is_behind.ensures.1 (omega (arith, texts_count words, all)) in cc)) (cases_lt words.place (length (texts_of words))) in
    let next : IsNext (texts_of words) words.place words.word term = is.next left in
    let whole = c.is_whole.ensures before within next.at in (
      λ found. subst (λ (ts : List (List ℕ)). Contains ts term) same (next_contained (texts_of words) words.place words.word.text.now term left next.text (whole.0 found)),
      λ among.
          whole.1 (sym (next_is_term (texts_of words) words.place words.word.text.now term is.sorted is.passed next.text (sym next.at.below ∙ next.reached) (subst (λ (ts : List (List ℕ)). Contains ts term) (sym same) among))),
    )
