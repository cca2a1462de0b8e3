use Rattle.std.proofs.Common.{List, inl, inr, ⊎_elim, map, string_bytes, subst, sym, Global, String}
use Rattle.std.specs.Prelude.{Contains}
use Rattle.ix_files.specs.Locations.{place_of}
use Rattle.ix_files.specs.Slots.{IsAmong}
use Rattle.ix_files.specs.declared.location.Location.{Location}
use Rattle.ix_files.proofs.Drafting.{unchanged}
use Rattle.ix_folder.specs.FolderNames.{IsStray}
use Rattle.ix_folder.proofs.Laws.{widened}
use Rattle.ix_folder.proofs.Swept.{is_gone}
use Rattle.ix_folder.proofs.sweeping.sweep.Goals as goal

pub returns-in_err-names-clause-changes : goal.returns-in_err-names-clause-changes
returns-in_err-names-clause-changes g c = unchanged _ _ (g.met.F.Files.only_now c.args.files.now)

pub returns-in_err-strays-clause-changes : goal.returns-in_err-strays-clause-changes
returns-in_err-strays-clause-changes g c = unchanged _ _ (g.met.F.Files.only_now c.args.files.now)

pub returns-clause-changes : goal.returns-clause-changes
returns-clause-changes g c = widened (IsAmong (map place_of c.deref-2.result.now)) (IsStray c.args.folder.now (map string_bytes c.args.keep.now))
    (λ place among. c.in_ok-strays.ensures.only place (subst (λ (places : List Location). IsAmong (map place_of places) place) c.deref-2.ensures.value among)) c.remove_all.ensures.changes

pub returns-clause-swept : goal.returns-clause-swept
returns-clause-swept g c honest = ⊎_elim
    (λ gone. inl (λ place stray. is_gone (map place_of c.deref-2.result.now) place (g.F.Files.view c.args.files.now) (g.F.Files.view c.remove_all.new.files) c.remove_all.ensures.changes honest gone
    (λ there. subst (λ (places : List Location). IsAmong (map place_of places) place) (sym c.deref-2.ensures.value)
    (c.in_ok-strays.ensures.all place
    (subst (λ (names : List (String Global)). Contains (map string_bytes names) place.name) (sym c.deref.ensures.value)
    (c.in_ok-names.ensures.listed (c.remove_all.ensures.goes_on.honest honest) place stray.inside there))
    stray))))
    inr
    (c.remove_all.ensures.gone honest)
