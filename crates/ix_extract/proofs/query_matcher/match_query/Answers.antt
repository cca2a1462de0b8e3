use Rattle.std.proofs.Common.{Bor, List, ℕ, subst}
use Rattle.ix_text.proofs.AscendingLists.{contains_none}
use Rattle.ix_extract.specs.Parts.{IsText}
use Rattle.ix_extract.proofs.SoughtLemmas.{all_asked}
use Rattle.ix_extract.proofs.query_matcher.match_query.Goals as goal

pub returns-clause-wanted : goal.returns-clause-wanted
returns-clause-wanted c = λ term.
    all_asked (c.in_ok-push.ensures.wanted term) (c.new.ensures.wanted term) (c.in_ok-collect.ensures.wanted term)
    (λ has. let P : List (Bor (List ℕ)) → Type 0 = λ texts. IsText texts term in contains_none term (subst P c.new-words.ensures.items has)) (c.new-matcher.ensures.wanted term)
