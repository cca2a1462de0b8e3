-- What the sources may yield is what the files hold.
use Rattle.std.proofs.Common.{◌≡◌, ◌∙◌, All, List, inl, inr, rules, subst, sym}
use Rattle.std.proofs.lemmas.Result.{on_err_weaker, on_ok_weaker}
use Rattle.ix_files.specs.Outputs.{now_in, saved_in}
use Rattle.ix_file.specs.Opened.{Opened}
use Rattle.ix_command.specs.MergeInputs.{AreSourcesOf, StandsIn}
use Rattle.ix_command.specs.MergedRuns.{RefusesMerge, unmerged}
use Rattle.ix_command.proofs.FileLemmas.{err_weaker}
use Rattle.ix_command.proofs.MergedFileLemmas.{all_opened, all_stand, all_unread, headings_held, merged, sources_without_memory}
use Rattle.ix_command.proofs.commands.merge.run.Goals as goal

pub returns-in-Err-clause-refused : goal.returns-in-Err-clause-refused
returns-in-Err-clause-refused g c =
    sources_without_memory _ _ _ c.in_ok-opened.opened _ (all_opened _ _ c.args.inputs.now c.in_ok-opened.opened c.in_ok-opened.ensures.opened)

pub sources_of-requires : goal.sources_of-requires
sources_of-requires g c =
    let are : c.deref-2.result.now ≡ c.in_ok-opened.opened.volumes.items = c.deref-2.ensures.value ∙ c.in-Ok.ensures ∙ c.deref.ensures.value in
    subst (λ (volumes : List Opened). All (StandsIn {R = g.row.F-Reader.Denot} volumes) c.in_ok-opened.opened.parts.items) (sym are)
    (all_stand _ _ _ c.in_ok-opened.opened (all_opened _ _ c.args.inputs.now c.in_ok-opened.opened c.in_ok-opened.ensures.opened))

pub returns-in-Err-sources_of-clause-refused : goal.returns-in-Err-sources_of-clause-refused
returns-in-Err-sources_of-clause-refused g c =
    sources_without_memory _ _ _ c.in_ok-opened.opened _ (all_opened _ _ c.args.inputs.now c.in_ok-opened.opened c.in_ok-opened.ensures.opened)

pub save-requires : goal.save-requires
save-requires g c =
    let are : c.deref-2.result.now ≡ c.in_ok-opened.opened.volumes.items = c.deref-2.ensures.value ∙ c.in-Ok.ensures ∙ c.deref.ensures.value in
    let made = subst (λ (volumes : List Opened). AreSourcesOf volumes c.in_ok-opened.opened.parts.items c.in-Ok-sources_of.sources.items) are c.in-Ok-sources_of.ensures in
    let unread = all_unread _ _ _ c.in_ok-opened.opened (all_opened _ _ c.args.inputs.now c.in_ok-opened.opened c.in_ok-opened.ensures.opened) c.in-Ok-sources_of.sources.items made in
    search (rules, unread)

pub returns-clause-merged : goal.returns-clause-merged
returns-clause-merged g c =
    let are : c.deref-2.result.now ≡ c.in_ok-opened.opened.volumes.items = c.deref-2.ensures.value ∙ c.in-Ok.ensures ∙ c.deref.ensures.value in
    let made = subst (λ (volumes : List Opened). AreSourcesOf volumes c.in_ok-opened.opened.parts.items c.in-Ok-sources_of.sources.items) are c.in-Ok-sources_of.ensures in
    on_ok_weaker c.save.result
    (λ saved. merged _ _ _ c.in_ok-opened.opened (all_opened _ _ c.args.inputs.now c.in_ok-opened.opened c.in_ok-opened.ensures.opened) c.in-Ok-sources_of.sources.items made
    (saved_in (g.F.Files.sent c.save.new.files) (g.F.Files.view c.args.files.now) (g.F.Files.view c.save.new.files)) c.args.index.now saved)
    c.save.ensures.saved

pub returns-clause-refused : goal.returns-clause-refused
returns-clause-refused g c =
    let are : c.deref-2.result.now ≡ c.in_ok-opened.opened.volumes.items = c.deref-2.ensures.value ∙ c.in-Ok.ensures ∙ c.deref.ensures.value in
    let made = subst (λ (volumes : List Opened). AreSourcesOf volumes c.in_ok-opened.opened.parts.items c.in-Ok-sources_of.sources.items) are c.in-Ok-sources_of.ensures in
    err_weaker c.save.result (RefusesMerge _ c.args.index.now) _
    (λ told is. unmerged _ (headings_held _ _ _ c.in_ok-opened.opened (all_opened _ _ c.args.inputs.now c.in_ok-opened.opened c.in_ok-opened.ensures.opened) c.in-Ok-sources_of.sources.items made) is)
    c.save.ensures.refused

pub returns-clause-undone : goal.returns-clause-undone
returns-clause-undone g c =
    let are : c.deref-2.result.now ≡ c.in_ok-opened.opened.volumes.items = c.deref-2.ensures.value ∙ c.in-Ok.ensures ∙ c.deref.ensures.value in
    let made = subst (λ (volumes : List Opened). AreSourcesOf volumes c.in_ok-opened.opened.parts.items c.in-Ok-sources_of.sources.items) are c.in-Ok-sources_of.ensures in
    on_err_weaker c.save.result (λ undone honest. elim (undone honest) [
      | inl same ↦ inl same
      | inr saved ↦ inr (merged _ _ _ c.in_ok-opened.opened (all_opened _ _ c.args.inputs.now c.in_ok-opened.opened c.in_ok-opened.ensures.opened) c.in-Ok-sources_of.sources.items made
          (now_in (g.F.Files.view c.args.files.now) (g.F.Files.view c.save.new.files)) c.args.index.now saved)
    ])
    c.save.ensures.undone
