-- What the index tells is of its collection.
use Rattle.std.proofs.Common.{rules, ◌≡◌, ◌∙◌, ap, sym, List, ℕ, subst}
use Rattle.ix_query.specs.Grammar.{Reads}
use Rattle.ix_ask.specs.NameLines.{name_lines}
use Rattle.ix_projection.specs.Alike.{ScansAlike}
use Rattle.ix_projection.specs.Asked.{KeepsAsked}
use Rattle.ix_projection.specs.Kept.{kept_collection}
use Rattle.ix_ask.proofs.NameLemmas.{names_told}
use Rattle.ix_ask.proofs.TrustLemmas.{found_kept, stop_kept}
use Rattle.ix_ask.proofs.search_index.find_names.Goals as goal

pub returns-clause-found : goal.returns-clause-found
returns-clause-found c = λ version collection index.
    let numbers = c.in_ok-numbers.numbers.items in
    let parts = c.args.index.now.parts in
    record {
      tree = c.in-Ok.query;
      numbers = numbers;
      parsed = subst (λ (stop : List (List ℕ)). Reads stop c.args.query.now c.in-Ok.query) (c.stop.ensures ∙ index.parts.stop) c.in-Ok.ensures.found;
      scanned = c.in_ok-numbers.ensures.scan version collection index;
      named = rw c.deref.ensures.value at c.in_ok-bytes.ensures ∙ ap (λ (names : List (List ℕ)). name_lines names numbers) (names_told collection parts index.parts);
      counted = search rules;
    }

pub returns-clause-fewer : goal.returns-clause-fewer
returns-clause-fewer c = λ version collection keeps tree index reads asked.
    let query = c.args.query.now in
    let numbers = c.in_ok-numbers.numbers.items in
    let kept = kept_collection keeps collection in
    let stops = c.stop.ensures ∙ index.parts.stop ∙ stop_kept keeps collection in
    let named = rw c.deref.ensures.value at c.in_ok-bytes.ensures ∙ ap (λ (names : List (List ℕ)). name_lines names numbers) (names_told kept c.args.index.now.parts index.parts) in
    let is = c.in-Ok.ensures.only tree (subst (λ (stop : List (List ℕ)). Reads stop query tree) (sym stops) reads) in
    let same : tree ≡ c.in-Ok.query = cc in
    found_kept keeps collection query c.in-Ok.query numbers _ _ (subst ScansAlike c.tree.ensures.same c.scans_alike.ensures) (subst (Reads collection.stop query) same reads) (subst (KeepsAsked keeps collection) same asked)
    (c.in_ok-numbers.ensures.scan version kept index) named (search rules)
