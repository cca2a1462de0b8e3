use Rattle.ix_run.proofs.Numbering.{holds_one_more}
use Rattle.ix_run.proofs.dictionary.Dictionary.add_word.Goals as goal

pub returns-clause-held : goal.returns-clause-held
returns-clause-held c = λ entries holds. holds_one_more c.args.self.now.numbers c.number_of_word.new.numbers c.args.self.now.tokens.items c.push.new.self.items entries _ c.in_ok-number.number c.in_ok-push.ensures.items c.in_ok-number.ensures.number holds
