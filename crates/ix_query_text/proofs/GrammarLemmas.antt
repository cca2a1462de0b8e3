-- Texts and their queries.
use Rattle.std.proofs.Common.{◌≡◌, ℕ, List, Result, Ok, Err, IfOk, subst}
use Rattle.ix_query_text.specs.declared.tree.Tree.{Tree}
use Rattle.ix_query_text.specs.declared.error.QueryError.{QueryError}
use Rattle.ix_query_text.specs.QueryErrors.{Gives}
use Rattle.ix_query_text.specs.Lexemes.{lexemes_of}
use Rattle.ix_query_text.specs.Grammar.{Reads}
use Rattle.ix_query_text.specs.Machine.{tree_of, query_of}
use Rattle.ix_query_text.proofs.Cuts.{cut_sound, cut_complete}
use Rattle.ix_query_text.proofs.Results.{bind_ok}
use Rattle.ix_query_text.proofs.SoundLemmas.{sound}
use Rattle.ix_query_text.proofs.CompleteLemmas.{complete}

module _ (stop : List (List ℕ)) (text : List ℕ) where
  pub found : (query : Tree) → query_of stop text ≡ Ok query → Reads stop text query
  unfolding query_of
  found query e = let b = bind_ok (lexemes_of text) (tree_of stop) query e in record { lexemes = b.0; cut = cut_sound text b.0 b.1; derived = sound stop query b.0 b.2 }

  pub only : (query : Tree) → Reads stop text query → query_of stop text ≡ Ok query
  unfolding query_of
  only query r = let cut = cut_complete text r.lexemes r.cut in rw cut (complete stop r.lexemes query r.derived)

  pub unique : (one other : Tree) → Reads stop text one → Reads stop text other → one ≡ other
  unique one other r s = let p = only one r in let q = only other s in cc

  pub only_by : (result : Result Tree QueryError) → Gives (λ q. q) result (query_of stop text) → (query : Tree) → Reads stop text query → Gives (λ q. q) result (Ok query)
  only_by result h query r = subst (λ x. Gives (λ q. q) result x) (only query r) h
