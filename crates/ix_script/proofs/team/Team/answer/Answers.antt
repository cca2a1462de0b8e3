use Rattle.std.proofs.Common.{◌≡◌, arith, drop, length}
use Rattle.std.proofs.lemmas.Result.{IfOk-weaker}
use Rattle.ix_live.specs.Histories.{operations_in}
use Rattle.ix_script.specs.Answers.{names_in}
use Rattle.ix_script.proofs.Answering.{all_answers}
use Rattle.ix_script.proofs.team.Team.answer.Goals as goal

pub returns : goal.returns
returns g c =
    let known = c.self.inside.news in
    let new = c.find_each.new.found in
    let old = c.in-Ok.found in
    let counted : length new ≡ length c.args.queries.now = omega (arith, c.find_each.auto.found, c.deref_mut.ensures.len, c.in-Ok.ensures, old.ok.0) in
    let whole : old.len ≡ length new = omega (arith, c.find_each.auto.found, c.deref_mut.ensures.len, old.ok.0) in
    rw (← c.self.view_is)
    (IfOk-weaker c.all_found.result _ _ (λ answers same.
    all_answers known.stop (operations_in known.history) (λ query. query.now) names_in c.args.queries.now new (drop (length new) old.items) old.len answers.items counted whole c.find_each.ensures same)
    c.all_found.ensures)
