use Rattle.std.proofs.Common.{◌≡◌, ◌∙◌, List, ap, arith, length, map}
use Rattle.std.specs.Prelude.{string_bytes}
use Rattle.std.proofs.Math.Nat.{max-eq_left}
use Rattle.std.proofs.lemmas.Bool.Decides.{nat_tests}
use Rattle.std.proofs.lemmas.List.{length-map, nil_from_length}
use Rattle.ix_folder.proofs.Laws.{narrowed}
use Rattle.ix_archive_writer.specs.Changes.{texts_in, with_removed}
use Rattle.ix_archive_writer.proofs.FolderChanges.{none_in}
use Rattle.ix_archive_writer.proofs.RemovingLemmas.{as_found, found_gone, found_itself, found_removes, found_without, leaves_itself, leaves_without, left_or_without, removals_kept, segments_kept}
use Rattle.ix_archive_writer.proofs.gone_documents.remove_from.Goals as goal

pub returns-in_err-removed-clause-any_moment : goal.returns-in_err-removed-clause-any_moment
returns-in_err-removed-clause-any_moment g c honest archive found = as_found _ _ (g.met.F.Files.only_now c.args.files.now) found

pub returns-in_err-taken-clause-any_moment : goal.returns-in_err-taken-clause-any_moment
returns-in_err-taken-clause-any_moment g c honest archive found = as_found _ _ (g.met.F.Files.only_now c.args.files.now) found

pub returns-then-is_empty-clause-any_moment : goal.returns-then-is_empty-clause-any_moment
returns-then-is_empty-clause-any_moment g c honest archive found = as_found _ _ (g.met.F.Files.only_now c.args.files.now) found

pub returns-in_err-taken_names-clause-any_moment : goal.returns-in_err-taken_names-clause-any_moment
returns-in_err-taken_names-clause-any_moment g c honest archive found = as_found _ _ (g.met.F.Files.only_now c.args.files.now) found

pub returns-in_err-removals-clause-any_moment : goal.returns-in_err-removals-clause-any_moment
returns-in_err-removals-clause-any_moment g c honest archive found = as_found _ _ (g.met.F.Files.only_now c.args.files.now) found

pub returns-then-is_empty-clause-done : goal.returns-then-is_empty-clause-done
returns-then-is_empty-clause-done g c honest archive found =
    let names = texts_in c.args.names.now in
    let items = c.in_ok-taken.taken.items in
    let same = c.in_ok-removed.ensures honest (length archive.documents) archive.removals found.removals_file found.laid.removals (removals_kept found) in
    let told = c.in_ok-taken.ensures.found honest archive.stop found.texts found.laid.lists (rw c.deref.ensures.value found.laid.segments) (rw c.deref.ensures.value (segments_kept found)) in
    let none : length items ≡ 0 = grind (arith, nat_tests, c.in_ok-taken.taken.ok.0, c.is_empty.ensures, c.if-is_empty.true) in (
      found_gone found names c.in_ok-removed.removed (map string_bytes items) c.in_ok-taken.total same c.in_ok-taken.ensures.small told 0 (length-map items _ ∙ none),
      leaves_itself found names (found_itself found names c.in_ok-removed.removed (map string_bytes items) c.in_ok-taken.total same c.in_ok-taken.ensures.small told (nil_from_length _ (length-map items _ ∙ none))),
    )

pub returns-in_err-put_removals-clause-any_moment : goal.returns-in_err-put_removals-clause-any_moment
returns-in_err-put_removals-clause-any_moment g c honest archive found =
    let read = c.put_removals.ensures.goes_on.honest honest in
    let names = texts_in c.args.names.now in
    let taken = map string_bytes c.in_ok-taken.taken.items in
    let same = c.in_ok-removed.ensures read (length archive.documents) archive.removals found.removals_file found.laid.removals (removals_kept found) in
    let told = c.in_ok-taken.ensures.found read archive.stop found.texts found.laid.lists (rw c.deref.ensures.value found.laid.segments) (rw c.deref.ensures.value (segments_kept found)) in
    let removes = found_removes found names c.in_ok-removed.removed taken c.in_ok-taken.total same c.in_ok-taken.ensures.small told c.max.result c.in_ok-removals.removals (texts_in c.deref-3.result.now)
    (rw c.deref-3.ensures.value (c.in_ok-taken_names.ensures ∙ ap (λ (l : List _). map string_bytes l) c.deref-2.ensures.value)) (λ some. c.max.ensures ∙ max-eq_left (omega (arith, some))) c.in_ok-removals.ensures in
    narrowed
    (left_or_without c.args.folder.now names archive (with_removed archive c.in_ok-removals.removals)
    (found_without found names c.in_ok-removed.removed taken c.in_ok-taken.total same c.in_ok-taken.ensures.small told c.in_ok-removals.removals removes))
    (c.put_removals.ensures.any_moment honest archive taken found removes)

pub returns-clause-any_moment : goal.returns-clause-any_moment
returns-clause-any_moment g c honest archive found =
    let read = c.put_removals.ensures.goes_on.honest honest in
    let names = texts_in c.args.names.now in
    let taken = map string_bytes c.in_ok-taken.taken.items in
    let same = c.in_ok-removed.ensures read (length archive.documents) archive.removals found.removals_file found.laid.removals (removals_kept found) in
    let told = c.in_ok-taken.ensures.found read archive.stop found.texts found.laid.lists (rw c.deref.ensures.value found.laid.segments) (rw c.deref.ensures.value (segments_kept found)) in
    let removes = found_removes found names c.in_ok-removed.removed taken c.in_ok-taken.total same c.in_ok-taken.ensures.small told c.max.result c.in_ok-removals.removals (texts_in c.deref-3.result.now)
    (rw c.deref-3.ensures.value (c.in_ok-taken_names.ensures ∙ ap (λ (l : List _). map string_bytes l) c.deref-2.ensures.value)) (λ some. c.max.ensures ∙ max-eq_left (omega (arith, some))) c.in_ok-removals.ensures in
    narrowed
    (left_or_without c.args.folder.now names archive (with_removed archive c.in_ok-removals.removals)
    (found_without found names c.in_ok-removed.removed taken c.in_ok-taken.total same c.in_ok-taken.ensures.small told c.in_ok-removals.removals removes))
    (c.put_removals.ensures.any_moment honest archive taken found removes)

pub returns-clause-done : goal.returns-clause-done
returns-clause-done g c honest archive found =
    let read = c.put_removals.ensures.goes_on.honest honest in
    let names = texts_in c.args.names.now in
    let items = c.in_ok-taken.taken.items in
    let taken = map string_bytes items in
    let counted : length items ≡ c.len.result = omega (arith, c.in_ok-taken.taken.ok.0, c.len.ensures) in
    let same = c.in_ok-removed.ensures read (length archive.documents) archive.removals found.removals_file found.laid.removals (removals_kept found) in
    let told = c.in_ok-taken.ensures.found read archive.stop found.texts found.laid.lists (rw c.deref.ensures.value found.laid.segments) (rw c.deref.ensures.value (segments_kept found)) in
    let removes = found_removes found names c.in_ok-removed.removed taken c.in_ok-taken.total same c.in_ok-taken.ensures.small told c.max.result c.in_ok-removals.removals (texts_in c.deref-3.result.now)
    (rw c.deref-3.ensures.value (c.in_ok-taken_names.ensures ∙ ap (λ (l : List _). map string_bytes l) c.deref-2.ensures.value)) (λ some. c.max.ensures ∙ max-eq_left (omega (arith, some))) c.in_ok-removals.ensures in (
      found_gone found names c.in_ok-removed.removed taken c.in_ok-taken.total same c.in_ok-taken.ensures.small told c.len.result (length-map items _ ∙ counted),
      leaves_without c.args.folder.now names archive (with_removed archive c.in_ok-removals.removals) _
          (found_without found names c.in_ok-removed.removed taken c.in_ok-taken.total same c.in_ok-taken.ensures.small told c.in_ok-removals.removals removes)
          (c.in_ok-put_removals.ensures.done honest archive taken found removes),
    )

pub returns-in_err-removed-clause-changes : goal.returns-in_err-removed-clause-changes
returns-in_err-removed-clause-changes g c = none_in c.args.folder.now _ (g.met.F.Files.only_now c.args.files.now)

pub returns-in_err-taken-clause-changes : goal.returns-in_err-taken-clause-changes
returns-in_err-taken-clause-changes g c = none_in c.args.folder.now _ (g.met.F.Files.only_now c.args.files.now)

pub returns-then-is_empty-clause-changes : goal.returns-then-is_empty-clause-changes
returns-then-is_empty-clause-changes g c = none_in c.args.folder.now _ (g.met.F.Files.only_now c.args.files.now)

pub returns-in_err-taken_names-clause-changes : goal.returns-in_err-taken_names-clause-changes
returns-in_err-taken_names-clause-changes g c = none_in c.args.folder.now _ (g.met.F.Files.only_now c.args.files.now)

pub returns-in_err-removals-clause-changes : goal.returns-in_err-removals-clause-changes
returns-in_err-removals-clause-changes g c = none_in c.args.folder.now _ (g.met.F.Files.only_now c.args.files.now)
