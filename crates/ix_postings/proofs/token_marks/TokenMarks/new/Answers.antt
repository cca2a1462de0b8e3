use Rattle.std.proofs.Common.{ℕ, List, ◌≡◌, [], sym, subst, replicate, arith}
use Rattle.std.proofs.lemmas.Grind.{div_ceil_times}
use Rattle.ix_postings.proofs.Marked.{none_marked}
use Rattle.ix_postings.specs.TokenMarks.{AreMarked, HoldsNumbers, room}
use Rattle.ix_postings.proofs.token_marks.TokenMarks.new.Goals as goal

pub returns-clause-none : goal.returns-clause-none
unfolding HoldsNumbers
returns-clause-none c =
    let made : c.in_ok-vec.field-0.items ≡ replicate c.div_ceil.result 0 = c.in_ok-vec.ensures.items_if_clones_equal (λ y is. is) in
    subst (λ (words : List ℕ). AreMarked words []) (sym made) (none_marked c.div_ceil.result)

pub returns-clause-room : goal.returns-clause-room
unfolding room
returns-clause-room c =
    let long = div_ceil_times c.args.count 64 (omega arith) in
    omega (arith, c.in_ok-vec.ensures.len, c.div_ceil.ensures, long.0)

pub returns-clause-narrow : goal.returns-clause-narrow
unfolding room
returns-clause-narrow c =
    let long = div_ceil_times c.args.count 64 (omega arith) in
    omega (arith, c.in_ok-vec.ensures.len, c.div_ceil.ensures, long.1)
