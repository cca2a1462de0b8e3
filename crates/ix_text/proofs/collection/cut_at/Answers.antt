use Rattle.std.proofs.Common.{◌≡◌, ◌<◌, ◌-◌, ℕ, List, Some, length, get_or, arith, subst}
use Rattle.std.proofs.lemmas.Bool.{eqb-true}
use Rattle.std.proofs.lemmas.Str.{IsCharBoundary-after_ascii}
use Rattle.memchr.specs.Find.{IsFirstByte, is_byte}
use Rattle.ix_text.proofs.CollectionLemmas.{cut_from_search}
use Rattle.ix_text.proofs.collection.cut_at.Goals as goal

pub range_from-requires : goal.range_from-requires
range_from-requires c _ =
    let found = subst (λ (t : List ℕ). IsFirstByte (is_byte c.args.byte) t (Some c.in_ok-at.at)) c.as_bytes.ensures.value c.in_ok-at.ensures in
    let below : c.in_ok-at.at < length c.args.text.now = found.0.high in
    let is : get_or c.args.text.now c.in_ok-at.at 0 ≡ c.args.byte = eqb-true _ _ found.1 in
    IsCharBoundary-after_ascii c.args.text.now c.in_ok-at.at c.utf8.text below (omega (arith, c.requires))

pub returns-clause-some : goal.returns-clause-some
returns-clause-some c =
    let found = subst (λ (t : List ℕ). IsFirstByte (is_byte c.args.byte) t (Some c.in_ok-at.at)) c.as_bytes.ensures.value c.in_ok-at.ensures in
    let whole : c.in_ok-at.at - 0 ≡ c.in_ok-at.at = omega arith in
    rw (c.range.ensures.value, c.range_from.ensures.value, whole) (cut_from_search c.args.text.now c.args.byte c.in_ok-at.at found)
