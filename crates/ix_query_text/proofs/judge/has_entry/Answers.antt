use Rattle.std.proofs.Common.{arith, false-eqb}
use Rattle.ix_query_text.proofs.Entries.{entry_by}
use Rattle.ix_query_text.proofs.judge.has_entry.Goals as goal

pub returns : goal.returns
returns c = entry_by c.args.stop.now c.args.term.now c.contains.result (omega (arith, false-eqb _ 0 c.if-is_empty.ensures)) c.if-term-gt-LONGEST.false c.contains.ensures
