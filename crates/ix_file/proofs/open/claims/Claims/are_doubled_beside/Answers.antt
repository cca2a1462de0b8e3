use Rattle.std.proofs.Common.{subst}
use Rattle.ix_file.specs.Claimed.{HasClaimed}
use Rattle.ix_file.specs.declared.open.claims.Claims.{Claims}
use Rattle.ix_file.proofs.ClaimLemmas.{marked_beside}
use Rattle.ix_file.proofs.open.claims.Claims.are_doubled_beside.Goals as goal

pub returns-in-Marked-Marked : goal.returns-in-Marked-Marked
returns-in-Marked-Marked c one others has has_too =
    marked_beside c.in-Marked-Marked.marks c.in-Marked-Marked.others c.in-Marked-Marked.doubled c.in-Marked-Marked.doubled_there c.meets.result one others
    (subst (λ (claims : Claims). HasClaimed claims one) c.in-Marked-Marked.is-0 has) (subst (λ (claims : Claims). HasClaimed claims others) c.in-Marked-Marked.is-1 has_too) (c.meets.ensures one others)
