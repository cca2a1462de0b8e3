-- What the index tells is of its collection.
use Rattle.std.proofs.Common.{rules, ◌≡◌, ◌∙◌, sym, subst, refl, List, ℕ}
use Rattle.ix_file.specs.Opened.{names_of}
use Rattle.ix_query_text.specs.Grammar.{Reads}
use Rattle.ix_projection.specs.Alike.{ScansAlike}
use Rattle.ix_projection.specs.Asked.{KeepsAsked}
use Rattle.ix_projection.specs.Kept.{kept_collection}
use Rattle.ix_projection.proofs.KeptLemmas.{names_kept}
use Rattle.ix_ask.proofs.NameLemmas.{names_told}
use Rattle.ix_archive.proofs.FoundLemmas.{finds, one_tree, stop_kept}
use Rattle.ix_archive.proofs.finding.find_left.Goals as goal

pub returns-clause-found : goal.returns-clause-found
returns-clause-found c = λ version collection index.
    let parts = c.args.index.now.parts in
    finds collection c.args.removals.now c.args.first (names_of parts.rows) c.stop.result.now c.args.query.now c.in_ok-query.query c.in_ok-numbers.numbers.items c.in_ok-left.left.items _ _
    (c.stop.ensures ∙ index.parts.stop) (names_told collection parts index.parts) c.in_ok-query.ensures.found
    (one_tree c.stop.result.now c.args.query.now c.in_ok-query.query _ refl c.in_ok-query.ensures.only)
    (rw c.deref.ensures.value at c.in_ok-left.ensures.left) (rw c.deref-2.ensures.value at c.in_ok-bytes.ensures) (search rules)
    (c.in_ok-numbers.ensures.scan version collection index)

pub returns-clause-fewer : goal.returns-clause-fewer
returns-clause-fewer c = λ version collection keeps tree index reads asked.
    let parts = c.args.index.now.parts in
    let query = c.args.query.now in
    let own = c.in_ok-query.query in
    let kept = kept_collection keeps collection in
    let stops = c.stop.ensures ∙ index.parts.stop ∙ stop_kept keeps collection in
    let only = one_tree c.stop.result.now query own _ refl c.in_ok-query.ensures.only in
    let same : tree ≡ own = only tree (subst (λ (stop : List (List ℕ)). Reads stop query tree) (sym stops) reads) in
    let alike : ScansAlike own = subst ScansAlike c.tree.ensures.same c.scans_alike.ensures in
    finds collection c.args.removals.now c.args.first (names_of parts.rows) c.stop.result.now query own c.in_ok-numbers.numbers.items c.in_ok-left.left.items _ _
    stops (names_told kept parts index.parts ∙ names_kept keeps collection) c.in_ok-query.ensures.found only
    (rw c.deref.ensures.value at c.in_ok-left.ensures.left) (rw c.deref-2.ensures.value at c.in_ok-bytes.ensures) (search rules)
    ((alike.scans keeps collection c.in_ok-numbers.numbers.items (subst (KeepsAsked keeps collection) same asked)).0 (c.in_ok-numbers.ensures.scan version kept index))
