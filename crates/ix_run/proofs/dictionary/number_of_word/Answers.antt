use Rattle.ix_text.specs.Terms.{term_of_word}
use Rattle.ix_text.specs.TokenLists.{entry_of_term}
use Rattle.ix_run.proofs.Numbering.{known_now, numbered_now}
use Rattle.ix_run.proofs.SeenLemmas.{seen_after, seen_kept, seen_noted}
use Rattle.ix_run.proofs.dictionary.number_of_word.Goals as goal

pub returns-in_default-clause-seen : goal.returns-in_default-clause-seen
returns-in_default-clause-seen c =
    seen_after c.args.stop.now c.args.numbers.now c.look_up.new.numbers c.args.words.now (entry_of_term c.args.stop.now (term_of_word c.args.word.now)) c.look_up.result c.look_up.ensures c.requires

pub returns-in-Some-seen_number-clause-number : goal.returns-in-Some-seen_number-clause-number
returns-in-Some-seen_number-clause-number c =
    known_now c.args.numbers.now (entry_of_term c.args.stop.now (term_of_word c.args.word.now)) c.in-Some-seen_number.number
    (c.requires.each _ c.args.word.now c.in-Some-seen_number.ensures c.in-Some.ensures)

pub returns-clause-seen : goal.returns-clause-seen
returns-clause-seen c =
    let entry = entry_of_term c.args.stop.now (term_of_word c.args.word.now) in
    let numbers = c.look_up-2.new.numbers in
    seen_noted c.args.stop.now numbers c.args.words.now c.note_number.new.words _ c.args.word.now c.note_number.ensures c.in-Some.ensures
    (numbered_now c.args.numbers.now numbers entry c.in_ok-number.number c.in_ok-number.ensures)
    (seen_kept c.args.stop.now c.args.numbers.now numbers c.args.words.now entry c.in_ok-number.number c.in_ok-number.ensures c.requires)
