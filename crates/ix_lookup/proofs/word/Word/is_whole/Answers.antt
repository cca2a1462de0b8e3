use Rattle.std.proofs.Common.{◌++◌, take}
use Rattle.ix_lookup.proofs.FrontLemmas.{is_word, is_other}
use Rattle.ix_lookup.proofs.word.Word.is_whole.Goals as goal

pub returns-then-self : goal.returns-then-self
returns-then-self c = λ before within is. is_word before c.args.own.now c.args.self.now.text.now c.args.shared c.args.self.now.common within is.common c.if-self.true

pub returns-else-self : goal.returns-else-self
returns-else-self c = λ before within is. is_other (take c.args.shared before ++ c.args.own.now) c.args.self.now.text.now c.args.self.now.common is.common c.if-self.false
