use Rattle.std.proofs.Common.{ℕ, List, Some, ◌∷◌, [], sym, subst}
use Rattle.ix_query_text.specs.declared.tree.Tree.TheVariants as asks
use Rattle.ix_query.specs.Finding.{AreNumbersOf}
use Rattle.ix_query.proofs.FindLemmas.{word_nowhere}
use Rattle.ix_query.proofs.PartLemmas.{ok_more, word_listed, nothing_found}
use Rattle.ix_query.proofs.answers.find.word_numbers.Goals as goal

pub returns-in-Some : goal.returns-in-Some
returns-in-Some c = ok_more _ _ _ c.documents.ensures (λ numbers same.
    subst (λ (ns : List ℕ). AreNumbersOf c.args.index.now.parts (asks.Phrase (Some c.args.term.now ∷ [])) ns) (sym same)
    (word_listed c.args.index.now.parts c.args.term.now c.in-Some.postings c.in-Some.ensures))

pub returns-in-None : goal.returns-in-None
returns-in-None c = rw c.new.ensures.items (nothing_found _ _ (word_nowhere _ _ c.in-None.ensures))
