-- The segments before a place are lawful, and with the next one, if its file is none of theirs.
use Rattle.std.proofs.Common.{◌≡◌, false, true, refl, arith}
use Rattle.ix_manifest.proofs.LawfulLemmas.{file_taken, lawful_more}
use Rattle.ix_manifest.proofs.lawful.unlawful_segment.Goals as goal

pub returns-then-has_file-clause-unlawful : goal.returns-then-has_file-clause-unlawful
returns-then-has_file-clause-unlawful c =
    file_taken c.args.next c.args.segments.now c.loop-place.place _ _ (omega arith) (omega arith) (c.if-has_file.ensures.0 refl)

pub loop-place-preserved : goal.loop-place-preserved
loop-place-preserved c =
    lawful_more c.args.next c.args.segments.now c.loop-place.place _ _ (omega arith) (omega arith) c.loop-place.invariant (c.if-not-is_lawful_segment.ensures.0 refl) (λ any. let not : false ≡ true = c.if-has_file.ensures.1 any in cc)
