use Rattle.std.proofs.Common.{◌∙◌, sym}
use Rattle.ix_query.proofs.PhraseLemmas.{phrase_told, answered, no_start, no_first_start}
use Rattle.ix_query.proofs.answers.phrase.stand_together.Goals as goal

pub returns-in_default : goal.returns-in_default
returns-in_default c = λ n first others. absurd (no_first_start c.args.first.now c.args.offset n c.in_default.ensures first)

pub returns-then-not-read_starts : goal.returns-then-not-read_starts
returns-then-not-read_starts c = λ n first others. absurd (no_start c.args.others.now n (c.read_starts.ensures.none c.if-not-read_starts.true) others)

pub returns : goal.returns
returns c = λ n first others.
    let found = answered _ _ c.common.result c.common.ensures.reached in
    let told = phrase_told c.args.first.now c.args.offset c.args.others.now c.args.offsets.now c.in-Some.start c.read_starts.new.starts c.requires.placed (c.read_starts.auto.starts ∙ c.requires.started)
    c.in-Some.ensures (c.read_starts.ensures.read c.if-not-read_starts.false) n first others in
    let is = rw (sym c.is_some.ensures) at found in
    (λ yes'. told.0 (is.0 yes'), λ phrase. is.1 (told.1 phrase))
