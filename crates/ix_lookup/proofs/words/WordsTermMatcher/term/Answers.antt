use Rattle.std.proofs.Common.{◌<◌, ◌≤◌, length, sym, ◌∙◌, ⊎_elim}
use Rattle.std.proofs.lemmas.Bool.{cases_lt}
use Rattle.ix_lookup.specs.Words.{AreAtTerm, IsNext, texts_of}
use Rattle.ix_lookup.proofs.WordsLemmas.{none_left, next_is_term}
use Rattle.ix_lookup.proofs.words.WordsTermMatcher.term.Goals as goal

pub returns : goal.returns
returns c = λ term at is_term among.
    let words = c.args.self.now in
    let is : AreAtTerm words term = at in
    ⊎_elim (λ (left : words.place < length (texts_of words)).
    let next : IsNext (texts_of words) words.place words.word term = is.next left in
    next_is_term (texts_of words) words.place words.word.text.now term is.sorted is.passed next.text (sym next.at.below ∙ next.reached) among)
    (λ (all : length (texts_of words) ≤ words.place). absurd (none_left (texts_of words) words.place term is.passed all among))
    (cases_lt words.place (length (texts_of words)))
