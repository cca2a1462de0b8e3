use Rattle.std.proofs.Common.{List, ℕ, slice_get, ap, ◌∙◌}
use Rattle.ix_file.proofs.OpenedLemmas.{terms_in}
use Rattle.ix_file.proofs.index.Index.term.Goals as goal

pub returns : goal.returns
returns c =
    let section = c.self.inside.sections.postings.now in
    let terms = c.tables.result.now.terms in
    rw (← c.self.view_is, ← c.tables.ensures)
    (ap (λ (texts : List (List ℕ)). slice_get texts c.args.number) (terms_in section terms) ∙ c.text.ensures)
