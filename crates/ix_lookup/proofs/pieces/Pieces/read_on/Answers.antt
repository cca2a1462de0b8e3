-- What is left of the section stays the same.
use Rattle.std.proofs.Common.{arith}
use Rattle.ix_lookup.proofs.PieceLemmas.{reads_on}
use Rattle.ix_lookup.proofs.pieces.Pieces.read_on.Goals as goal

pub returns-clause-same : goal.returns-clause-same
returns-clause-same g c = λ bytes told.
    reads_on c.args.self.now.piece.items c.copy_within.new.self.items c.truncate.new.self.items _ bytes c.args.self.now.place _ _ c.args.self.now.start c.args.self.now.unread c.min-size.result
    (omega arith) c.copy_within.ensures.items (omega arith) (omega arith) c.truncate.ensures.items (c.in_ok-append_at.ensures.told bytes told) (omega arith)
