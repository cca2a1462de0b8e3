use Rattle.ix_files.proofs.Moments.{called, elsewhere, started}
use Rattle.ix_files.proofs.draft.discard.Goals as goal

pub returns-clause-any_moment : goal.returns-clause-any_moment
returns-clause-any_moment g c honest =
    let old = g.F.Files.view c.args.files.now in
    let begun = started old (λ place entry stop other. stop) (g.met.F.Files.only_now c.args.files.now) in
    (called begun (c.remove-removed.ensures.call.passes honest) (λ slots did. elsewhere old.slots slots begun.now did.elsewhere)).moments
