-- The lowest refusal of askings behind one another.
use Rattle.std.proofs.Common.{◌≤◌, List, ◌++◌, sym, ◌∙◌, ⊎_elim, arith}
use Rattle.std.specs.Prelude.{Some}
use Rattle.std.proofs.lemmas.Option.{none-some}
use Rattle.std.proofs.lemmas.List.Elements.{Contains-append_cases, Contains-append_left, Contains-append_right}
use Rattle.ix_pool.specs.declared.worker.Refusal.{Refusal}
use Rattle.ix_pool.specs.declared.maker.Asked.{Asked}
use Rattle.ix_pool.specs.Askings.{NoneRefused, asking}
use Rattle.ix_pool.specs.Lowest.{IsLowest}

module _ (askings more : List Asked) where
  pub none_refused-append : NoneRefused askings → NoneRefused more → NoneRefused (askings ++ more)
  none_refused-append one other asked c = ⊎_elim (λ l. one asked l) (λ r. other asked r) (Contains-append_cases askings more asked c)

  pub lowest_before : (refusal : Refusal) → IsLowest askings (Some refusal) → NoneRefused more → IsLowest (askings ++ more) (Some refusal)
  lowest_before refusal one other = record {
    refused = Contains-append_left askings more (asking refusal.place (Some refusal.error)) one.refused;
    lowest = λ asked error c e.
        ⊎_elim
        (λ l. one.lowest asked error l e)
        (λ r. absurd (none-some error (sym (other asked r) ∙ e)))
        (Contains-append_cases askings more asked c);
  }

  pub lowest_behind : (refusal : Refusal) → NoneRefused askings → IsLowest more (Some refusal) → IsLowest (askings ++ more) (Some refusal)
  lowest_behind refusal one other = record {
    refused = Contains-append_right askings more (asking refusal.place (Some refusal.error)) other.refused;
    lowest = λ asked error c e.
        ⊎_elim
        (λ l. absurd (none-some error (sym (one asked l) ∙ e)))
        (λ r. other.lowest asked error r e)
        (Contains-append_cases askings more asked c);
  }

  pub first_lower : (one other : Refusal) → one.place ≤ other.place → IsLowest askings (Some one) → IsLowest more (Some other) → IsLowest (askings ++ more) (Some one)
  first_lower one other le a b = record {
    refused = Contains-append_left askings more (asking one.place (Some one.error)) a.refused;
    lowest = λ asked error c e.
        ⊎_elim
        (λ l. a.lowest asked error l e)
        (λ r. let h : other.place ≤ asked.place = b.lowest asked error r e in omega arith)
        (Contains-append_cases askings more asked c);
  }

  pub second_lower : (one other : Refusal) → other.place ≤ one.place → IsLowest askings (Some one) → IsLowest more (Some other) → IsLowest (askings ++ more) (Some other)
  second_lower one other le a b = record {
    refused = Contains-append_right askings more (asking other.place (Some other.error)) b.refused;
    lowest = λ asked error c e.
        ⊎_elim
        (λ l. let h : one.place ≤ asked.place = a.lowest asked error l e in omega arith)
        (λ r. b.lowest asked error r e)
        (Contains-append_cases askings more asked c);
  }
