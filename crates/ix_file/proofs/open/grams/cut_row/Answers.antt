use Rattle.std.proofs.Common.{arith}
use Rattle.ix_file.proofs.GramCutting.{text_there, count_there, enough_there, cuts_entry}
use Rattle.ix_file.proofs.open.grams.cut_row.Goals as goal

pub returns-in_default-clause-refused : goal.returns-in_default-clause-refused
returns-in_default-clause-refused c entry other listed e = text_there entry listed c.args.left.now other e c.in_default.ensures.refused

pub returns-in_default-read_number-clause-refused : goal.returns-in_default-read_number-clause-refused
returns-in_default-read_number-clause-refused c entry other listed e =
    count_there entry listed c.args.left.now other e c.in-Ok.gram.now c.in-Ok.behind.now c.in-Ok.ensures.found.1 c.in_default-read_number.ensures.refused

pub returns-then-size-count-clause-refused : goal.returns-then-size-count-clause-refused
returns-then-size-count-clause-refused c entry other listed e =
    let enough = enough_there entry listed c.args.left.now other e c.in-Ok.gram.now c.in-Ok.behind.now c.in-Ok.ensures.found.1 c.in-Ok-read_number.gaps.now c.in-Ok-read_number.count c.in-Ok-read_number.ensures.found.1 c.skip_codes-size.result c.skip_codes-size.ensures.codes in
    let short = c.if-size-count.true in
    omega (arith, enough, short)

pub returns-clause-cut : goal.returns-clause-cut
returns-clause-cut c =
    cuts_entry c.args.section.now c.args.left.now c.in-Ok.gram.now c.in-Ok.behind.now c.in-Ok-read_number.gaps.now c.in-Ok-read_number.count c.skip_codes-size.result c.requires.within c.in-Ok.ensures.found.1 c.in-Ok-read_number.ensures.found.1 c.skip_codes-size.ensures.within c.skip_codes-size.ensures.codes
