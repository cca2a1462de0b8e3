use Rattle.std.proofs.Common.{◌^◌, inl, inr}
use Rattle.std.proofs.lemmas.Bool.{cases_lt}
use Rattle.ix_query.proofs.FindLemmas.{nowhere_beyond, too_far, no_position}
use Rattle.ix_query.proofs.answers.terms.place_term.Goals as goal

pub returns-in_default : goal.returns-in_default
returns-in_default c = nowhere_beyond _ _ c.args.place c.in_default.ensures

pub returns-in_default-try_from : goal.returns-in_default-try_from
returns-in_default-try_from c = too_far _ _ c.args.place c.in-Some.postings c.in-Some.ensures (elim (cases_lt c.args.place (2 ^ 32)) [ inl low ↦ absurd (c.in_default-try_from.ensures low) | inr far ↦ far ])

pub returns-in_default-at : goal.returns-in_default-at
returns-in_default-at c = no_position _ _ c.args.place _ c.in-Some.postings c.in-Some.ensures (rw c.new-list.ensures at c.in_default-at.ensures)
