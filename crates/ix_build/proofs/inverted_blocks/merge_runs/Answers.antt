-- From what is said of the sources to what is said of the runs.
use Rattle.std.proofs.Common.{◌≡◌, ◌∷◌, [], ◌++◌, List, map, take, get_or, All, ap, sym, subst, ◌∙◌, arith}
use Rattle.std.proofs.lemmas.List.{map_push, take_all, take_more}
use Rattle.std.proofs.lemmas.List.Elements.{All-push}
use Rattle.std.proofs.lemmas.Result.{on_ok_weaker, IfErr-weaker}
use Rattle.std.specs.declared.alloc.AllocError.{AllocError}
use Rattle.ix_run.specs.Heads.{Heading}
use Rattle.ix_run.specs.RunSources.{HasGiven, SourceValue, unread}
use Rattle.ix_run.specs.Runs.{RunValue}
use Rattle.ix_run.specs.Sources.{IsUnread}
use Rattle.ix_run.specs.RunSources.{HasLeft}
use Rattle.ix_merge.specs.Pieces.{LeavesYieldedPart, WritesConcatenation}
use Rattle.ix_merge.specs.Refusals.{AreMergeable, IsRefusal}
use Rattle.ix_merge.specs.declared.merge_error.MergeError.{MergeError}
use Rattle.ix_merge.specs.declared.merge_error.MergeError.TheVariants.{Write}
use Rattle.ix_build.specs.Built.{headings_of}
use Rattle.ix_build.specs.RunPieces.{LeavesRunsPart}
use Rattle.ix_build.proofs.RunMerging.{all_sure, heading_held, headings_held, runs_left, runs_written}
use Rattle.ix_build.proofs.inverted_blocks.merge_runs.Goals as goal

pub returns-clause-written : goal.returns-clause-written
returns-clause-written g c =
    let runs = c.args.runs.now in
    let are : c.loop-run.sources.items ≡ map unread runs = c.loop-run.invariant.made ∙ ap (map unread) (take_all c.loop-run.run-index runs (omega arith)) in
    let before = g.W.Write.contents c.args.out.now in
    let now = g.W.Write.contents c.merge.new.out in
    let P : List SourceValue → Type 0 = λ sources. WritesConcatenation HasLeft heading_held sources before now in
    on_ok_weaker c.merge.result
    (λ written. runs_written runs before now (subst (All (IsUnread HasGiven)) are c.loop-run.invariant.unread) (subst P are written))
    c.merge.ensures.written

pub returns-clause-mergeable : goal.returns-clause-mergeable
returns-clause-mergeable g c =
    let runs = c.args.runs.now in
    let are : map heading_held c.loop-run.sources.items ≡ headings_of runs = ap (map heading_held) (c.loop-run.invariant.made ∙ ap (map unread) (take_all c.loop-run.run-index runs (omega arith))) ∙ headings_held runs in
    on_ok_weaker c.merge.result (subst AreMergeable are) c.merge.ensures.mergeable

pub returns-clause-refused : goal.returns-clause-refused
returns-clause-refused g c =
    let runs = c.args.runs.now in
    let are : map heading_held c.loop-run.sources.items ≡ headings_of runs = ap (map heading_held) (c.loop-run.invariant.made ∙ ap (map unread) (take_all c.loop-run.run-index runs (omega arith))) ∙ headings_held runs in
    IfErr-weaker c.merge.result (IsRefusal (map heading_held c.loop-run.sources.items)) (IsRefusal (headings_of runs))
    (λ error. subst (λ (hs : List Heading). IsRefusal hs error) are) c.merge.ensures.refused

pub returns-clause-unfinished : goal.returns-clause-unfinished
returns-clause-unfinished g c =
    let runs = c.args.runs.now in
    let sources = c.loop-run.sources.items in
    let are : sources ≡ map unread runs = c.loop-run.invariant.made ∙ ap (map unread) (take_all c.loop-run.run-index runs (omega arith)) in
    let before = g.W.Write.contents c.args.out.now in
    let now = g.W.Write.contents c.merge.new.out in
    let Of : MergeError AllocError → List SourceValue → Type 0 = λ error sources. LeavesYieldedPart HasLeft heading_held sources before now (error ≡ Write) in
    IfErr-weaker c.merge.result (λ error. Of error sources) (λ error. LeavesRunsPart runs before now (error ≡ Write))
    (λ error left. runs_left runs before now (subst (All (IsUnread HasGiven)) are c.loop-run.invariant.unread) (error ≡ Write) (subst (Of error) are left))
    (c.merge.ensures.unfinished (all_sure sources))

pub loop-run-preserved : goal.loop-run-preserved
loop-run-preserved g c =
    let runs = c.args.runs.now in
    let i = c.loop-run.run-index in
    let one : c.push_reserved.new.self.items ≡ c.loop-run.sources.items ++ unread c.run-item.result ∷ [] =
    c.push_reserved.ensures.items ∙ ap (λ (source : SourceValue). c.loop-run.sources.items ++ source ∷ []) c.source.ensures.value in
    record {
      made =
          one ∙ ap (λ (sources : List SourceValue). sources ++ unread c.run-item.result ∷ []) c.loop-run.invariant.made
          ∙ ap (λ (run : RunValue). map unread (take i runs) ++ unread run ∷ []) c.run-item.is
          ∙ sym (ap (map unread) (take_more runs i c.run-item.result c.loop-run-test.true) ∙ map_push unread (take i runs) (get_or runs i c.run-item.result));
      unread = subst (All (IsUnread HasGiven)) (sym c.push_reserved.ensures.items) (All-push (IsUnread HasGiven) c.loop-run.sources.items c.source.result c.loop-run.invariant.unread c.source.ensures.unread);
      counted = omega (arith, c.push_reserved.ensures.len, c.loop-run.invariant.counted);
      room = omega (arith, c.push_reserved.ensures.capacity, c.loop-run.invariant.room);
    }
