use Rattle.std.proofs.Common.{get_or, subst, arith}
use Rattle.std.proofs.lemmas.List.{get_or_default}
use Rattle.std.proofs.lemmas.List.Elements.{All-set}
use Rattle.std.proofs.lemmas.Result.{err_from_is_err_and}
use Rattle.ix_merge.proofs.Faulting.{keep_more, refusal_at}
use Rattle.ix_merge.proofs.Rounds.{advanced, advanced_none}
use Rattle.ix_merge.proofs.Starts.{begun_more, begun_none}
use Rattle.ix_merge.proofs.terms.begin_all.Goals as goal

pub loop-place-init : goal.loop-place-init
loop-place-init g c = record {
  begun = begun_none g.S.Source.heading g.S.Source.current g.S.Source.yields g.S.Source.gives c.args.sources.now;
  played = advanced_none g.S.Source.heading g.S.Source.current g.S.Source.gives g.met.S.Source.given_of_term c.args.sources.now c.args.tree.now c.requires.sized c.requires.empty c.requires.unread;
  no_more_faults = λ place source error within may. may;
  sure = λ all. all;
}

pub update-requires : goal.update-requires
update-requires g c =
    let i = c.loop-place.invariant in
    advanced g.S.Source.heading g.S.Source.current c.loop-place.sources c.loop-place.tree c.loop-place.place c.begin_source.new.source c.in_ok-more.more (omega (arith, i.begun.as_many)) i.played c.in_ok-more.ensures.more

pub loop-place-preserved : goal.loop-place-preserved
loop-place-preserved g c =
    let b = c.loop-place.invariant.begun in
    let source = get_or c.loop-place.sources c.loop-place.place c.index-sources-place.result in
    let here = get_or_default c.loop-place.sources c.loop-place.place source c.index-sources-place.result (omega (arith, b.as_many)) in
    record {
      begun =
          begun_more g.S.Source.heading g.S.Source.current g.S.Source.yields g.S.Source.gives c.args.sources.now c.loop-place.sources c.loop-place.place source c.begin_source.new.source
          b (omega (arith, b.as_many)) here c.in_ok-more.ensures.started;
      played = c.update.ensures;
      no_more_faults =
          keep_more g.S.Source.faults c.args.sources.now c.loop-place.sources c.loop-place.place source b.as_many c.loop-place.invariant.no_more_faults
          (omega (arith, b.as_many)) here c.begin_source.new.source c.in_ok-more.ensures.no_more_faults;
      sure = λ all.
          let now = c.loop-place.invariant.sure all in
          All-set g.S.Source.sure c.loop-place.sources c.loop-place.place c.begin_source.new.source (c.in_ok-more.ensures.sure (subst g.S.Source.sure here (now c.loop-place.place source (omega (arith, b.as_many))))) now;
    }

pub returns-in_err-more-clause-refused : goal.returns-in_err-more-clause-refused
returns-in_err-more-clause-refused g c =
    let b = c.loop-place.invariant.begun in
    let p = err_from_is_err_and c.from_residual.result c.from_residual.ensures.1 in
    rw (p.1, p.2)
    (refusal_at g.S.Source.faults c.args.sources.now c.loop-place.sources c.loop-place.place (get_or c.loop-place.sources c.loop-place.place c.index-sources-place.result) b.as_many c.loop-place.invariant.no_more_faults
    (omega (arith, b.as_many)) (get_or_default c.loop-place.sources c.loop-place.place (get_or c.loop-place.sources c.loop-place.place c.index-sources-place.result) c.index-sources-place.result (omega (arith, b.as_many)))
    c.in_err-more.field-0.0 c.in_err-more.ensures.refused)
