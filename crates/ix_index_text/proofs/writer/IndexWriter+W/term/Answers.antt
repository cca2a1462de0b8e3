use Rattle.std.proofs.Common.{refl}
use Rattle.ix_index_text.proofs.TellingLemmas.{grams_told, refusal_set, term_kept, term_spelled, short_at_hand}
use Rattle.ix_index_text.proofs.writer.IndexWriter+W.term.Goals as goal

pub close-requires-clause-term : goal.close-requires-clause-term
close-requires-clause-term g c = short_at_hand _ _ _ (c.requires.may c.in_ok-take_up.ensures.ready) c.take_up.ensures.set

pub open-requires-clause-few : goal.open-requires-clause-few
open-requires-clause-few g c = grams_told _ _ _ _ (c.requires.may c.in_ok-take_up.ensures.ready) c.take_up.ensures.set c.in_ok-close.ensures.closed

pub returns-clause-told : goal.returns-clause-told
returns-clause-told g c before told is may = record {
  ready = refl;
  kept = term_kept _ _ _ _ _ _ told c.args.term.now is.kept may c.requires.short c.take_up.ensures.set c.in_ok-close.ensures.closed c.in_ok-open.ensures.opened (refusal_set c.open.new.self _ _ refl);
  written = term_spelled before _ c.args.self.now.sections _ _ _ _ told c.args.term.now is.written c.take_up.ensures.set c.in_ok-close.ensures.closed c.in_ok-open.ensures.opened;
}
