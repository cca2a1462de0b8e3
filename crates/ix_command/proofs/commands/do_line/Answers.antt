-- What each command says of its own line; a command that writes one file leaves the standard output, and another the files.
use Rattle.std.proofs.Common.{refl}
use Rattle.ix_command.proofs.Doing.{after_error, done_of, err_too, file_done, file_refused, file_undone, keeps_of, leaves_of, ok_too, refused_of, undone_of}
use Rattle.ix_command.proofs.commands.do_line.Goals as goal

pub returns-in-Ask : goal.returns-in-Ask
returns-in-Ask g c = record {
  done = done_of _ _ _ _ _ _ _ _ c.in-Ask.is c.run.result c.run.ensures.answered;
  refused = refused_of _ _ _ _ _ _ c.in-Ask.is c.run.result c.run.ensures.refused;
  files = leaves_of _ _ _ _ c.in-Ask.is (λ _ place. refl);
  kept = keeps_of _ _ _ _ c.in-Ask.is _ (λ _. tt);
  undone = undone_of _ _ _ _ c.in-Ask.is _ _ c.run.result (after_error _ c.run.result (λ _. tt));
}

pub returns-in-Search : goal.returns-in-Search
returns-in-Search g c = record {
  done = done_of _ _ _ _ _ _ _ _ c.in-Search.is c.run-in-Search.result c.run-in-Search.ensures.answered;
  refused = refused_of _ _ _ _ _ _ c.in-Search.is c.run-in-Search.result c.run-in-Search.ensures.refused;
  files = leaves_of _ _ _ _ c.in-Search.is (λ _ place. refl);
  kept = keeps_of _ _ _ _ c.in-Search.is _ (λ _. tt);
  undone = undone_of _ _ _ _ c.in-Search.is _ _ c.run-in-Search.result (after_error _ c.run-in-Search.result (λ _. tt));
}

pub returns-in-Terms : goal.returns-in-Terms
returns-in-Terms g c = record {
  done = done_of _ _ _ _ _ _ _ _ c.in-Terms.is c.run-in-Terms.result c.run-in-Terms.ensures.printed;
  refused = refused_of _ _ _ _ _ _ c.in-Terms.is c.run-in-Terms.result c.run-in-Terms.ensures.refused;
  files = leaves_of _ _ _ _ c.in-Terms.is (λ _ place. refl);
  kept = keeps_of _ _ _ _ c.in-Terms.is _ (λ _. tt);
  undone = undone_of _ _ _ _ c.in-Terms.is _ _ c.run-in-Terms.result (after_error _ c.run-in-Terms.result (λ _. tt));
}

pub returns-in-Live : goal.returns-in-Live
returns-in-Live g c = record {
  done = done_of _ _ _ _ _ _ _ _ c.in-Live.is c.run-in-Live.result c.run-in-Live.ensures.lived;
  refused = refused_of _ _ _ _ _ _ c.in-Live.is c.run-in-Live.result c.run-in-Live.ensures.refused;
  files = leaves_of _ _ _ _ c.in-Live.is (λ _ place. refl);
  kept = keeps_of _ _ _ _ c.in-Live.is _ (λ _. tt);
  undone = undone_of _ _ _ _ c.in-Live.is _ _ c.run-in-Live.result (after_error _ c.run-in-Live.result (λ _. tt));
}

pub returns-in-Build : goal.returns-in-Build
returns-in-Build g c = record {
  done = done_of _ _ _ _ _ _ _ _ c.in-Build.is c.one_file.result (file_done _ _ c.run-in-Build.result c.one_file.result c.one_file.ensures.done c.one_file.ensures.refused c.run-in-Build.ensures.built);
  refused = refused_of _ _ _ _ _ _ c.in-Build.is c.one_file.result (file_refused _ _ c.run-in-Build.result c.one_file.result c.one_file.ensures.done c.one_file.ensures.refused c.run-in-Build.ensures.refused);
  files = leaves_of _ _ _ _ c.in-Build.is c.run-in-Build.ensures.others;
  kept = keeps_of _ _ _ _ c.in-Build.is _ (λ _. tt);
  undone = undone_of _ _ _ _ c.in-Build.is _ _ c.one_file.result (file_undone _ c.run-in-Build.result c.one_file.result c.one_file.ensures.done c.run-in-Build.ensures.undone);
}

pub returns-in-Run : goal.returns-in-Run
returns-in-Run g c = record {
  done = done_of _ _ _ _ _ _ _ _ c.in-Run.is c.one_file-in-Run.result (file_done _ _ c.run-in-Run.result c.one_file-in-Run.result c.one_file-in-Run.ensures.done c.one_file-in-Run.ensures.refused c.run-in-Run.ensures.saved);
  refused = refused_of _ _ _ _ _ _ c.in-Run.is c.one_file-in-Run.result (file_refused _ _ c.run-in-Run.result c.one_file-in-Run.result c.one_file-in-Run.ensures.done c.one_file-in-Run.ensures.refused c.run-in-Run.ensures.refused);
  files = leaves_of _ _ _ _ c.in-Run.is c.run-in-Run.ensures.others;
  kept = keeps_of _ _ _ _ c.in-Run.is _ (λ _. tt);
  undone = undone_of _ _ _ _ c.in-Run.is _ _ c.one_file-in-Run.result (file_undone _ c.run-in-Run.result c.one_file-in-Run.result c.one_file-in-Run.ensures.done c.run-in-Run.ensures.undone);
}

pub returns-in-Merge : goal.returns-in-Merge
returns-in-Merge g c =
    let merged = rw c.deref.ensures.value at c.run-in-Merge.ensures.merged in
    let because = rw c.deref.ensures.value at c.run-in-Merge.ensures.refused in
    let undone = rw c.deref.ensures.value at c.run-in-Merge.ensures.undone in
    record {
      done = done_of _ _ _ _ _ _ _ _ c.in-Merge.is c.one_file-in-Merge.result (file_done _ _ c.run-in-Merge.result c.one_file-in-Merge.result c.one_file-in-Merge.ensures.done c.one_file-in-Merge.ensures.refused merged);
      refused = refused_of _ _ _ _ _ _ c.in-Merge.is c.one_file-in-Merge.result (file_refused _ _ c.run-in-Merge.result c.one_file-in-Merge.result c.one_file-in-Merge.ensures.done c.one_file-in-Merge.ensures.refused because);
      files = leaves_of _ _ _ _ c.in-Merge.is c.run-in-Merge.ensures.others;
      kept = keeps_of _ _ _ _ c.in-Merge.is _ (λ _. tt);
      undone = undone_of _ _ _ _ c.in-Merge.is _ _ c.one_file-in-Merge.result (file_undone _ c.run-in-Merge.result c.one_file-in-Merge.result c.one_file-in-Merge.ensures.done undone);
    }

pub returns-in-Upgrade : goal.returns-in-Upgrade
returns-in-Upgrade g c = record {
  done = done_of _ _ _ _ _ _ _ _ c.in-Upgrade.is c.one_file-in-Upgrade.result (file_done _ _ c.run-in-Upgrade.result c.one_file-in-Upgrade.result c.one_file-in-Upgrade.ensures.done c.one_file-in-Upgrade.ensures.refused c.run-in-Upgrade.ensures.upgraded);
  refused = refused_of _ _ _ _ _ _ c.in-Upgrade.is c.one_file-in-Upgrade.result (file_refused _ _ c.run-in-Upgrade.result c.one_file-in-Upgrade.result c.one_file-in-Upgrade.ensures.done c.one_file-in-Upgrade.ensures.refused c.run-in-Upgrade.ensures.refused);
  files = leaves_of _ _ _ _ c.in-Upgrade.is c.run-in-Upgrade.ensures.others;
  kept = keeps_of _ _ _ _ c.in-Upgrade.is _ (λ _. tt);
  undone = undone_of _ _ _ _ c.in-Upgrade.is _ _ c.one_file-in-Upgrade.result (file_undone _ c.run-in-Upgrade.result c.one_file-in-Upgrade.result c.one_file-in-Upgrade.ensures.done c.run-in-Upgrade.ensures.undone);
}

pub returns-in-Check : goal.returns-in-Check
returns-in-Check g c =
    let checked = rw c.deref-in-Check.ensures.value at c.run-in-Check.ensures.checked in
    let because = rw c.deref-in-Check.ensures.value at c.run-in-Check.ensures.refused in
    record {
      done = done_of _ _ _ _ _ _ _ _ c.in-Check.is c.run-in-Check.result checked;
      refused = refused_of _ _ _ _ _ _ c.in-Check.is c.run-in-Check.result because;
      files = leaves_of _ _ _ _ c.in-Check.is (λ _ place. refl);
      kept = keeps_of _ _ _ _ c.in-Check.is _ (λ _. tt);
      undone = undone_of _ _ _ _ c.in-Check.is _ _ c.run-in-Check.result (after_error _ c.run-in-Check.result (λ _. tt));
    }

pub returns-in-Add : goal.returns-in-Add
returns-in-Add g c = record {
  done = done_of _ _ _ _ _ _ _ _ c.in-Add.is c.one_file-in-Add.result (file_done _ _ c.run-in-Add.result c.one_file-in-Add.result c.one_file-in-Add.ensures.done c.one_file-in-Add.ensures.refused c.run-in-Add.ensures.added);
  refused = refused_of _ _ _ _ _ _ c.in-Add.is c.one_file-in-Add.result (file_refused _ _ c.run-in-Add.result c.one_file-in-Add.result c.one_file-in-Add.ensures.done c.one_file-in-Add.ensures.refused c.run-in-Add.ensures.refused);
  files = leaves_of _ _ _ _ c.in-Add.is (λ _. c.run-in-Add.ensures.changes);
  kept = keeps_of _ _ _ _ c.in-Add.is _ c.run-in-Add.ensures.kept;
  undone = undone_of _ _ _ _ c.in-Add.is _ _ c.one_file-in-Add.result (after_error _ c.one_file-in-Add.result (λ _. tt));
}

pub returns-in-Remove : goal.returns-in-Remove
returns-in-Remove g c = record {
  done = done_of _ _ _ _ _ _ _ _ c.in-Remove.is c.run-in-Remove.result (ok_too _ _ c.run-in-Remove.result c.run-in-Remove.ensures.removed);
  refused = refused_of _ _ _ _ _ _ c.in-Remove.is c.run-in-Remove.result (err_too _ _ c.run-in-Remove.result c.run-in-Remove.ensures.refused);
  files = leaves_of _ _ _ _ c.in-Remove.is (λ _. c.run-in-Remove.ensures.changes);
  kept = keeps_of _ _ _ _ c.in-Remove.is _ c.run-in-Remove.ensures.kept;
  undone = undone_of _ _ _ _ c.in-Remove.is _ _ c.run-in-Remove.result (after_error _ c.run-in-Remove.result (λ _. tt));
}
