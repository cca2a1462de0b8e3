use Rattle.ix_live.specs.Histories.{operations_in}
use Rattle.ix_script.proofs.FoundNames.{found_is_document}
use Rattle.ix_script.proofs.ask.find_names.Goals as goal

pub unreachable-requires : goal.unreachable-requires
unreachable-requires c =
    let refused = rw c.in-Err-Number.field-0-is at c.in-Err-Number.ensures.refused in
    found_is_document c.args.news.now.stop (operations_in c.args.news.now.history) c.args.query.now c.in_ok-numbers.numbers.items c.deref.result.now c.in-Err-Number.field-0-0 c.deref.ensures.value c.in_ok-numbers.ensures refused
