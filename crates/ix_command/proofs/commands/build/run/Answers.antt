-- What was read of the collection file makes the index of the whole file.
use Rattle.ix_command.specs.BuiltIndexes.{no_documents, no_file, no_output, no_stop_list, unbuilt}
use Rattle.std.proofs.Common.{inl, inr}
use Rattle.std.proofs.lemmas.Result.{on_err_weaker}
use Rattle.ix_command.proofs.BuildLemmas.{built_by_runs, built_in_memory, documents_of_files, refuses_documents_whole, same_or_unsaved, unbuilt_by}
use Rattle.ix_command.proofs.FileLemmas.{handed_up}
use Rattle.ix_command.proofs.Saving.{saved_alike}
use Rattle.ix_command.proofs.commands.build.run.Goals as goal

pub returns-in_err-stop_list-clause-refused : goal.returns-in_err-stop_list-clause-refused
returns-in_err-stop_list-clause-refused g c = handed_up _ c.from_residual.result c.in_err-stop_list.field-0.0 c.from_residual.ensures.1 (no_stop_list c.in_err-stop_list.ensures.refused)

pub returns-in_err-text-clause-refused : goal.returns-in_err-text-clause-refused
returns-in_err-text-clause-refused g c = handed_up _ c.from_residual-in_err-text.result c.in_err-text.field-0.0 c.from_residual-in_err-text.ensures.1 (no_file c.in_err-text.ensures.refused)

pub returns-in_err-keep_apart-clause-refused : goal.returns-in_err-keep_apart-clause-refused
returns-in_err-keep_apart-clause-refused g c = handed_up _ c.from_residual-in_err-keep_apart.result c.in_err-keep_apart.field-0.0 c.from_residual-in_err-keep_apart.ensures.1 (no_output c.in_err-keep_apart.ensures.refused)

pub returns-in_err-keep_apart-2-clause-refused : goal.returns-in_err-keep_apart-2-clause-refused
returns-in_err-keep_apart-2-clause-refused g c = handed_up _ c.from_residual-in_err-keep_apart-2.result c.in_err-keep_apart-2.field-0.0 c.from_residual-in_err-keep_apart-2.ensures.1 (no_output c.in_err-keep_apart-2.ensures.refused)

pub returns-in_err-check_output-clause-refused : goal.returns-in_err-check_output-clause-refused
returns-in_err-check_output-clause-refused g c = handed_up _ c.from_residual-in_err-check_output.result c.in_err-check_output.field-0.0 c.from_residual-in_err-check_output.ensures.1 (no_output (same_or_unsaved _ _ c.in_err-check_output.ensures.refused))

pub returns-in_err-documents-clause-refused : goal.returns-in_err-documents-clause-refused
returns-in_err-documents-clause-refused g c =
    let refused = rw c.deref.ensures.value at c.in_err-documents.ensures.refused in
    let front = c.in_ok-text.ensures.front in
    handed_up _ c.from_residual-in_err-documents.result c.in_err-documents.field-0.0 c.from_residual-in_err-documents.ensures.1
    (no_documents front.whole _ front.held c.in_ok-stop_list.ensures.held (refuses_documents_whole _ front.whole _ front.cut refused))

pub returns-in_err-keep_from_runs-clause-refused : goal.returns-in_err-keep_from_runs-clause-refused
returns-in_err-keep_from_runs-clause-refused g c =
    let read = rw c.deref.ensures.value at c.in_ok-documents.ensures.read in
    let of_files = documents_of_files _ _ _ _ _ _ c.in_ok-text.ensures.front c.in_ok-stop_list.ensures.held read in
    handed_up _ c.from_residual-in_err-keep_from_runs.result c.in_err-keep_from_runs.field-0.0 c.from_residual-in_err-keep_from_runs.ensures.1
    (c.in_err-keep_from_runs.ensures.refused _ of_files)

pub returns-then-is_some : goal.returns-then-is_some
returns-then-is_some g c =
    let read = rw c.deref.ensures.value at c.in_ok-documents.ensures.read in
    let of_files = documents_of_files _ _ _ _ _ _ c.in_ok-text.ensures.front c.in_ok-stop_list.ensures.held read in
    record {
      built = built_by_runs _ _ _ _ _ _ _ _ _ of_files c.save.result c.save.ensures.saved c.save.ensures.alike;
      refused = unbuilt_by _ _ _ _ _ _ _ of_files c.save.result c.save.ensures.refused;
      others = λ honest. elim (c.save.ensures.others honest) [
        | inl same ↦ inl same
        | inr removes ↦ inr (record { stop = _; documents = c.in_ok-documents.documents; of_files = of_files; removes = removes })
      ];
      undone = on_err_weaker c.save.result (λ undone honest. elim (undone honest) [
        | inl same ↦ inl same
        | inr (saved, alike) ↦ inr (record { stop = _; documents = c.in_ok-documents.documents; of_files = of_files; saved = saved; alike = alike })
      ]) c.save.ensures.undone;
    }

pub returns-in_err-blocks-clause-refused : goal.returns-in_err-blocks-clause-refused
returns-in_err-blocks-clause-refused g c =
    let read = rw c.deref.ensures.value at c.in_ok-documents.ensures.read in
    let of_files = documents_of_files _ _ _ _ _ _ c.in_ok-text.ensures.front c.in_ok-stop_list.ensures.held read in
    handed_up _ c.from_residual-in_err-blocks.result c.in_err-blocks.field-0.0 c.from_residual-in_err-blocks.ensures.1
    (unbuilt _ c.in_ok-documents.documents of_files (c.in_err-blocks.ensures.refused c.args.output.now))

pub returns : goal.returns
returns g c =
    let read = rw c.deref.ensures.value at c.in_ok-documents.ensures.read in
    let of_files = documents_of_files _ _ _ _ _ _ c.in_ok-text.ensures.front c.in_ok-stop_list.ensures.held read in
    record {
      built = built_in_memory _ _ _ _ _ _ _ _ _ of_files c.save_merged.result (c.save_merged.ensures.saved _ c.in_ok-documents.documents c.in_ok-blocks.ensures.inverted);
      refused = unbuilt_by _ _ _ _ _ _ _ of_files c.save_merged.result (c.save_merged.ensures.refused c.args.plan.now c.in_ok-documents.documents);
      others = λ honest. inl (c.save_merged.ensures.others honest);
      undone = on_err_weaker c.save_merged.result (λ undone honest. elim (undone honest) [
        | inl same ↦ inl same
        | inr saved ↦ inr (record { stop = _; documents = c.in_ok-documents.documents; of_files = of_files; saved = λ _. saved; alike = saved_alike _ _ _ saved })
      ])
          (c.save_merged.ensures.undone _ c.in_ok-documents.documents c.in_ok-blocks.ensures.inverted);
    }
