use Rattle.std.proofs.Common.{◌≡◌, [], List, None, sym, ap, subst, ◌∙◌}
use Rattle.ix_text.specs.Parts.{ArePartsOf}
use Rattle.ix_run_text.specs.Heads.{heading_of, parts_with}
use Rattle.ix_run.specs.Runs.{TermValue, head_value}
use Rattle.ix_run.specs.RunSources.{HasGiven, HasLeft, SourceValue, unread}
use Rattle.ix_run.proofs.RunSources.{run_unread, run_yields}
use Rattle.ix_run.proofs.run.Run.source.Goals as goal

pub new-requires : goal.new-requires
new-requires c =
    let P : List TermValue → Type 0 = λ terms. HasGiven (record { heading = heading_of c.self.inside.head; terms = terms; term = None; postings = [] }) [] None in
    subst P (sym c.walk.ensures) (run_unread (head_value c.self.inside.head c.self.inside.terms) c.self.invariant.first c.self.invariant.collection c.self.invariant.of_collection)

-- the source is that of the run
begun : (c : goal.After-new) → c.new.result ≡ unread c.args.self.now
begun c =
    c.new.ensures
    ∙ ap (λ (terms : List TermValue). record { heading = heading_of c.self.inside.head; terms = terms; term = None; postings = [] }) c.walk.ensures
    ∙ ap unread c.self.view_is

pub returns-clause-unread : goal.returns-clause-unread
returns-clause-unread c =
    let P : SourceValue → Type 0 = λ source. HasGiven source [] None in
    let Q : List TermValue → Type 0 = λ terms. HasGiven (record { heading = heading_of c.self.inside.head; terms = terms; term = None; postings = [] }) [] None in
    subst P (sym c.new.ensures)
    (subst Q (sym c.walk.ensures) (run_unread (head_value c.self.inside.head c.self.inside.terms) c.self.invariant.first c.self.invariant.collection c.self.invariant.of_collection))

pub returns-clause-yields : goal.returns-clause-yields
returns-clause-yields c = λ first collection is entries left.
    let P : SourceValue → Type 0 = λ source. HasLeft source [] entries → ArePartsOf collection (parts_with source.heading entries) in
    subst P (sym (begun c)) (run_yields c.args.self.now first collection is entries) left
