use Rattle.std.proofs.Common.{inl, inr}
use Rattle.ix_query.proofs.FindLemmas.{near_found, near_nowhere}
use Rattle.ix_query.proofs.answers.terms.find_near.Goals as goal

pub returns-in_default : goal.returns-in_default
returns-in_default c = near_nowhere c.args.index.now.parts c.args.first.now c.args.second.now c.args.distance (inl c.in_default.ensures)

pub returns-in_default-postings_of : goal.returns-in_default-postings_of
returns-in_default-postings_of c = near_nowhere c.args.index.now.parts c.args.first.now c.args.second.now c.args.distance (inr c.in_default-postings_of.ensures)

pub returns : goal.returns
returns c = λ collection of n.
    let found = near_found c.args.index.now.parts c.args.first.now c.args.second.now c.args.distance c.in-Some.first c.in-Some-postings_of.second c.in-Some.ensures c.in-Some-postings_of.ensures collection of n in
    let ordered = rw (c.new.ensures, c.new-2.ensures) at (c.order_near.ensures n) in
    (λ has. found.0 (ordered.0 has), λ at. ordered.1 (found.1 at))
