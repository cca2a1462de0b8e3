use Rattle.std.proofs.Common.{map, ◌∙◌, arith}
use Rattle.std.proofs.lemmas.List.{length-map}
use Rattle.ix_files.specs.Locations.{place_of}
use Rattle.ix_text.specs.Docs.{named_text}
use Rattle.ix_build.proofs.FolderLemmas.{named_for_plan}
use Rattle.ix_build.proofs.WholeBuild.{bounds_found}
use Rattle.ix_build.proofs.run_names.names_of_runs.Goals as goal

pub returns-in-Ok-run_names-clause-runs : goal.returns-in-Ok-run_names-clause-runs
returns-in-Ok-run_names-clause-runs g c = λ honest.
    let names = c.in-Ok-run_names.names in
    let bounds = c.as_slice.result.now in
    let are = bounds_found c.cut.result c.args.plan.now.cut (map named_text c.docs.result.now) c.args.collection.now c.in-Ok.bounds.items bounds c.cut.ensures.cut c.docs.ensures.documents c.as_slice.ensures.value c.in-Ok.ensures.bounds in
    named_for_plan c.args.plan.now c.args.collection.now (g.F.Files.view c.args.files.now) c.args.folder.now c.as_str.result.now (map place_of names.items) bounds c.requires
    (c.as_str.ensures.value ∙ c.in-Ok-locate_folder.ensures.located honest) c.in-Ok-run_names.ensures.named are
    (omega (arith, length-map names.items place_of, names.ok.0, c.in-Ok-run_names.ensures.as_many, c.block_count-count.ensures))
