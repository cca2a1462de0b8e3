use Rattle.ix_file.proofs.GramWalking.{no_cursor, not_next, taken}
use Rattle.ix_file.proofs.open.gram_walk.take_key.Goals as goal

pub returns-in_default : goal.returns-in_default
returns-in_default c = λ side terms section rows seen gram term chars keyed on at among has walked.
    no_cursor side terms section rows c.args.number seen c.args.cursors.now walked gram c.args.key term chars keyed has c.in_default.ensures on at among

pub returns-in_default-take : goal.returns-in_default-take
returns-in_default-take c = λ side terms section rows seen gram term chars keyed on at among has walked.
    not_next side terms section rows c.args.number seen c.args.cursors.now walked gram c.args.key term chars keyed has c.in-Some.place _ c.in-Some.ensures c.in_default-take.ensures

pub returns : goal.returns
returns c = λ side terms section rows seen gram term chars keyed on at among has walked.
    taken side terms section rows c.args.number seen c.args.cursors.now walked gram c.args.key term chars keyed has c.in-Some.place _ c.in-Some-take.cursor c.in-Some.ensures c.in-Some-take.ensures
