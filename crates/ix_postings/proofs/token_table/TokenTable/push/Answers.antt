use Rattle.std.proofs.Common.{List, ℕ, ◌+◌, ◌++◌, ◌∷◌, [], if◌then◌else◌, is_ok, true, false, sym, arith, subst}
use Rattle.std.proofs.lemmas.List.Sorted.{IsNonDecreasingBy-push}
use Rattle.std.specs.List.Sorted.{IsNonDecreasing}
use Rattle.ix_postings.proofs.TokenStarts.{last_start, starts_more}
use Rattle.ix_postings.specs.TokenTables.{AreStarts, HasTokens}
use Rattle.ix_postings.proofs.token_table.TokenTable.push.Goals as goal

pub returns-clause-ok : goal.returns-clause-ok
unfolding HasTokens
returns-clause-ok c = λ rows row has same.
    subst (λ (items : List ℕ). AreStarts items (rows ++ row ∷ [])) (sym c.in_ok-push.ensures.items) (starts_more c.args.self.now.starts.items rows row _ has (omega (arith, c.total-before.ensures rows has, same)))

pub returns-in_err-push-clause-refused : goal.returns-in_err-push-clause-refused
unfolding HasTokens
returns-in_err-push-clause-refused c = λ rows has.
    grind (arith, subst (λ (items : List ℕ). AreStarts items rows) (sym c.in_err-push.ensures.items) has)

pub overflow_add-before : goal.overflow_add-before
overflow_add-before c = omega (arith, c.total-before.ensures c.requires.rows c.requires.has, c.requires.few)

pub invariant_of-self : goal.invariant_of-self
unfolding HasTokens
invariant_of-self c =
    let starts : List ℕ = c.args.self.now.starts.items in
    let before = c.total-before.result in
    let counted = c.total-before.ensures c.requires.rows c.requires.has in
    let more : IsNonDecreasing (starts ++ (before + c.args.tokens) ∷ []) =
    IsNonDecreasingBy-push (λ n. n) starts (before + c.args.tokens) c.args.self.now.rising (λ d some. omega (arith, counted, last_start starts c.requires.rows d c.requires.has)) in
    record {
      rising =
          subst IsNonDecreasing (sym c.push.ensures.items)
          (elim (is_ok c.push.result) as (λ ok. IsNonDecreasing (if ok then starts ++ (before + c.args.tokens) ∷ [] else starts)) [ true ↦ more | false ↦ c.args.self.now.rising ]);
    }
