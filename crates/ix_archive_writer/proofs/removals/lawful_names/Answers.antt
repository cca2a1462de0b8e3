use Rattle.std.proofs.Common.{List, Bor, subst}
use Rattle.std.proofs.lemmas.List.{take_all}
use Rattle.ix_archive_writer.proofs.LawfulNames.{AreLawful, lawful_more, lawful_other}
use Rattle.ix_archive_writer.proofs.removals.lawful_names.Goals as goal
use Rattle.ix_archive_writer.proofs.removals.lawful_names.Goals.{then-is_name+in_ok-push, else-is_name}

pub loop-name-preserved : goal.loop-name-preserved
loop-name-preserved c =
    elim c.if-is_name.branch [
      | then-is_name+in_ok-push w ↦
          rw (w.lawful-is, w.in_ok-push.ensures.items)
          (lawful_more c.args.names.now c.loop-name.lawful.items c.loop-name.name-index _ c.loop-name-test.true c.loop-name.invariant (c.is_name.ensures.0 w.if-is_name.true))
      | else-is_name w ↦
          rw w.lawful-is
          (lawful_other c.args.names.now c.loop-name.lawful.items c.loop-name.name-index _ c.loop-name-test.true c.loop-name.invariant (λ is. let yes = c.is_name.ensures.1 is in let no = w.if-is_name.false in absurd (cc)))
    ]

pub returns-clause-same : goal.returns-clause-same
returns-clause-same c =
    let are : AreLawful c.args.names.now c.loop-name.lawful.items = subst (λ (names : List (Bor (List _))). AreLawful names c.loop-name.lawful.items) (take_all c.loop-name.name-index c.args.names.now c.loop-name-test.false) c.loop-name.invariant in
    are.same
