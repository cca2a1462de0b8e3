use Rattle.std.proofs.Common.{◌≡◌, ℕ, List, inr, map, sym, subst}
use Rattle.std.proofs.lemmas.Result.{IfErr-weaker}
use Rattle.ix_files.specs.Locations.{place_of}
use Rattle.ix_files.proofs.Drafting.{unchanged}
use Rattle.ix_text.specs.Collections.{collection_of}
use Rattle.ix_build.specs.ReadBack.{TellsUnread}
use Rattle.ix_build.specs.RunNames.{AreRunNamesOf, MayComeBack}
use Rattle.ix_build.specs.declared.build_error.BuildError.TheVariants.{Write}
use Rattle.ix_build.proofs.FolderLemmas.{none_left, on_err, on_ok, removed_changes}
use Rattle.ix_build.proofs.OwnPartLemmas.{own_front}
use Rattle.ix_build.proofs.UnreadLemmas.{tells_unread}
use Rattle.ix_build.proofs.in_folder.build.Goals as goal

pub returns-in_default-clause-changes : goal.returns-in_default-clause-changes
returns-in_default-clause-changes g c = unchanged _ _ (g.met.F.Files.only_now c.args.files.now)

pub returns-in_default-clause-front : goal.returns-in_default-clause-front
returns-in_default-clause-front g c =
    let collection = collection_of c.args.stop.now c.args.collection.now in
    own_front (g.W.Write.contents c.args.out.now) (g.W.Write.contents c.build_watched.new.out) collection c.build_watched.result (λ error. error ≡ Write) c.build_watched.ensures.unfinished

pub returns-clause-exact : goal.returns-clause-exact
returns-clause-exact g c = λ at in_folder tell gives.
    let named = c.in_ok-shared.ensures.named in
    c.build_in_files-result.ensures.exact tell
    (λ bounds place bytes are within came. gives bounds place bytes are within (record { files = c.in_ok-shared.shared; folder = named.0; named = named.1; came = came }))

pub returns-clause-unfinished_in_folder : goal.returns-clause-unfinished_in_folder
returns-clause-unfinished_in_folder g c = λ at in_folder tell gives.
    let named = c.in_ok-shared.ensures.named in
    c.build_in_files-result.ensures.unfinished tell
    (λ bounds place bytes are within came. gives bounds place bytes are within (record { files = c.in_ok-shared.shared; folder = named.0; named = named.1; came = came }))

pub returns-clause-unread : goal.returns-clause-unread
returns-clause-unread g c = λ at in_folder.
    let named = c.in_ok-shared.ensures.named in
    let remaining = g.F.Shared.Reader.Read.remaining in
    let back = g.F.Shared.SharedFiles.back in
    let Shared : ℕ → List ℕ → Type 0 = back c.in_ok-shared.shared in
    let Any = MayComeBack g.F.Shared.SharedFiles.shared back in
    let before = g.W.Write.contents c.args.out.now in
    let now = g.W.Write.contents c.build_in_files-result.new.out in
    IfErr-weaker c.build_in_files-result.result (TellsUnread remaining Shared before now) (TellsUnread remaining Any before now)
    (tells_unread remaining Shared Any (λ place bytes came. record { files = c.in_ok-shared.shared; folder = named.0; named = named.1; came = came }) before now)
    c.build_in_files-result.ensures.unread

pub returns-clause-changes : goal.returns-clause-changes
returns-clause-changes g c =
    let Of_plan = AreRunNamesOf c.args.plan.now c.args.collection.now (g.F.Files.view c.args.files.now) in
    removed_changes c.args.plan.now c.args.collection.now _ _ _ (map place_of c.names.result.now)
    (λ honest. subst Of_plan (sym c.names.ensures) (c.in_ok-shared.ensures.runs honest)) c.share_runs.ensures.goes_on c.remove_all.ensures.goes_on
    c.share_runs.ensures.changes c.remove_all.ensures.changes

pub returns-clause-gone : goal.returns-clause-gone
returns-clause-gone g c = λ honest.
    let Of_plan = AreRunNamesOf c.args.plan.now c.args.collection.now (g.F.Files.view c.args.files.now) in
    on_ok c.build_in_files-result.result
    (none_left c.args.plan.now c.args.collection.now _ _ _ (map place_of c.names.result.now)
    (λ honest. subst Of_plan (sym c.names.ensures) (c.in_ok-shared.ensures.runs honest)) c.share_runs.ensures.goes_on c.remove_all.ensures.goes_on
    c.remove_all.ensures.gone honest)

pub returns-clause-left : goal.returns-clause-left
returns-clause-left g c = λ honest.
    let Of_plan = AreRunNamesOf c.args.plan.now c.args.collection.now (g.F.Files.view c.args.files.now) in
    on_err c.build_in_files-result.result
    (inr (none_left c.args.plan.now c.args.collection.now _ _ _ (map place_of c.names.result.now)
    (λ honest. subst Of_plan (sym c.names.ensures) (c.in_ok-shared.ensures.runs honest)) c.share_runs.ensures.goes_on c.remove_all.ensures.goes_on
    c.remove_all.ensures.gone honest))
