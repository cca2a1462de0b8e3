-- The first store is one in the files.
use Rattle.std.proofs.Common.{ℕ, List, arith}
use Rattle.std.proofs.lemmas.Result.{on_ok_weaker}
use Rattle.ix_build.specs.FolderStores.{faults_of}
use Rattle.ix_build.specs.KeptHeadings.{IsHeadingOfBlock}
use Rattle.ix_build.specs.Stores.{HasRefused}
use Rattle.ix_build.specs.declared.watched_files.WatchedFiles.{WatchedFiles}
use Rattle.ix_build.proofs.FolderLemmas.{first_gives, first_unread}
use Rattle.ix_build.proofs.in_folder.build_in_files.Goals as goal

pub returns-clause-exact : goal.returns-clause-exact
returns-clause-exact g c = λ tell gives.
    let stores = c.in-Ok.stores in
    let M = WatchedFiles g.row.S.Denot g.row.V.Denot in
    let watched : M = record { files = c.args.files; watch = c.args.watch } in
    let back : M → ℕ → List ℕ → Type 0 = λ w. g.S.SharedFiles.back w.files.now in
    let first = first_gives back watched stores.items c.in-Ok.ensures.each (omega (arith, stores.ok.0, c.in-Ok.ensures.as_many, c.workers.ensures.few.0))
    c.args.plan.now.cut c.args.collection.now c.args.stop.now gives in
    on_ok_weaker c.build_over-result.result.result (λ exact. exact first.0 first.1 tell first.2) c.build_over-result.ensures.exact

pub returns-clause-unfinished : goal.returns-clause-unfinished
returns-clause-unfinished g c = λ tell gives.
    let stores = c.in-Ok.stores in
    let M = WatchedFiles g.row.S.Denot g.row.V.Denot in
    let watched : M = record { files = c.args.files; watch = c.args.watch } in
    let back : M → ℕ → List ℕ → Type 0 = λ w. g.S.SharedFiles.back w.files.now in
    let first = first_gives back watched stores.items c.in-Ok.ensures.each (omega (arith, stores.ok.0, c.in-Ok.ensures.as_many, c.workers.ensures.few.0))
    c.args.plan.now.cut c.args.collection.now c.args.stop.now gives in
    c.build_over-result.ensures.unfinished first.0 first.1 tell first.2

pub returns-clause-unread : goal.returns-clause-unread
returns-clause-unread g c =
    let stores = c.in-Ok.stores in
    let M = WatchedFiles g.row.S.Denot g.row.V.Denot in
    let watched : M = record { files = c.args.files; watch = c.args.watch } in
    let back : M → ℕ → List ℕ → Type 0 = λ w. g.S.SharedFiles.back w.files.now in
    first_unread back watched stores.items c.in-Ok.ensures.each (omega (arith, stores.ok.0, c.in-Ok.ensures.as_many, c.workers.ensures.few.0))
    g.S.Reader.Read.remaining c.build_over-result.result.result (g.W.Write.contents c.args.out.now) (g.W.Write.contents c.build_over-result.new.out)
    (HasRefused faults_of stores.items c.build_over-result.result.stores.items) (IsHeadingOfBlock c.args.plan.now.cut c.args.collection.now c.args.stop.now) c.build_over-result.ensures.caused
