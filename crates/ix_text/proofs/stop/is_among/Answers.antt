use Rattle.std.proofs.Common.{rules, string_bytes}
use Rattle.std.specs.Cmp.Lexicographic.{slice_cmp}
use Rattle.std.specs.Ordering.{nat_cmp}
use Rattle.std.proofs.lemmas.Fn.{always_returns_same}
use Rattle.ix_text.proofs.StopSetLemmas.{searched}
use Rattle.ix_text.proofs.stop.is_among.Goals as goal

pub returns : goal.returns
returns c =
    let facts = c.binary_search_by.ensures in
    let by_bytes = facts.position (λ held. slice_cmp nat_cmp (string_bytes held) c.args.term.now) (always_returns_same _ _ _ (λ a r g called. search rules)) in
    rw c.is_ok.ensures.value (searched string_bytes c.args.terms.now c.args.term.now c.requires _ facts.bound by_bytes)
