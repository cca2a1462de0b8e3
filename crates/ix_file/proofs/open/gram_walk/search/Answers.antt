use Rattle.std.proofs.Common.{rules}
use Rattle.std.proofs.lemmas.List.Sorted.{answers_always}
use Rattle.ix_file.proofs.GramWalking.{searched}
use Rattle.ix_file.proofs.open.gram_walk.search.Goals as goal

pub returns : goal.returns
returns c =
    let facts = c.binary_search_by_key.ensures in
    let by_key = facts.position (λ cursor. cursor.key) (answers_always _ _ _ (λ f a r g called. search rules)) in
    rw c.ok.ensures.value (searched c.args.cursors.now c.args.key c.binary_search_by_key.result facts.bound by_key)
