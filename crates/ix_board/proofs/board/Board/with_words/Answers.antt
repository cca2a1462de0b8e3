use Rattle.ix_board.proofs.Openings.{kept_at_first}
use Rattle.ix_board.proofs.board.Board.with_words.Goals as goal

pub vacant-requires : goal.vacant-requires
vacant-requires g c = kept_at_first _ c.args.count c.args.workers c.args.words.now c.requires.words
