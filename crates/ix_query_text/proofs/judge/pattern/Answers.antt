use Rattle.std.proofs.Common.{ap, Err}
use Rattle.ix_query_text.proofs.Stars.{starred, bare}
use Rattle.ix_query_text.proofs.judge.pattern.Goals as goal

pub unreachable-requires : goal.unreachable-requires
unreachable-requires c = c.in-Err-NoStar.ensures.no_star.0 (ap Err c.in-Err-NoStar.field-0-is) (starred c.args.run.now c.requires)

pub returns-in-Err-BareStar : goal.returns-in-Err-BareStar
returns-in-Err-BareStar c = bare c.args.run.now (c.in-Err-BareStar.ensures.bare_star.0 (ap Err c.in-Err-BareStar.field-0-is)).1
