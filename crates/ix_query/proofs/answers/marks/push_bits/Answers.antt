use Rattle.std.proofs.Common.{ℕ, refl, subst, arith}
use Rattle.ix_query.proofs.BitLemmas.{BitsAdded, bits_more, bits_all, bits_fit, without_less}
use Rattle.ix_query.proofs.answers.marks.push_bits.Goals as goal

pub overflow_add-start : goal.overflow_add-start
overflow_add-start c = let low = bits_fit _ _ _ _ _ (let t = c.loop-rest-test.true in omega arith) c.loop-rest.auto.rest-fits.fits c.requires c.loop-rest.invariant in omega arith

pub loop-rest-smaller : goal.loop-rest-smaller
loop-rest-smaller c = without_less c.loop-rest.rest (let t = c.loop-rest-test.true in omega arith) c.loop-rest.auto.rest-fits.fits

pub loop-rest-preserved : goal.loop-rest-preserved
loop-rest-preserved c =
    rw c.in_ok-push.ensures.items
    (bits_more _ _ c.args.word c.loop-rest.rest c.args.start _ (let t = c.loop-rest-test.true in omega arith) c.loop-rest.auto.rest-fits.fits c.ranges.word.fits refl c.requires c.loop-rest.invariant)

pub returns : goal.returns
returns c = bits_all _ _ c.args.word c.args.start c.ranges.word.fits (subst (λ (n : ℕ). BitsAdded c.args.found.now.items c.loop-rest.found.items c.args.word n c.args.start) (let t = c.loop-rest-test.false in omega arith) c.loop-rest.invariant)
