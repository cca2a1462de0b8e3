use Rattle.std.proofs.Common.{ℕ, List, [], ◌∷◌, ◌+◌, ◌++◌, ◌∙◌, ap, map, string_bytes, subst, sym, Global, Vec}
use Rattle.std.specs.Prelude.{Contains}
use Rattle.ix_files.specs.Locations.{place_of}
use Rattle.ix_files.specs.Slots.{Place}
use Rattle.ix_files.specs.declared.location.Location.{Location}
use Rattle.ix_folder.specs.FolderNames.{IsLeftName}
use Rattle.ix_folder.proofs.Lists.{AreStrays, all_strays, no_more_strays, no_strays, one_more_stray}
use Rattle.ix_folder.proofs.sweeping.strays_of.Goals as goal
use Rattle.ix_folder.proofs.sweeping.strays_of.Goals.{else-is_stray, then-is_stray+in_ok-add}

pub loop-name-init : goal.loop-name-init
loop-name-init c = no_strays string_bytes c.args.folder.now (map string_bytes c.args.keep.now) c.args.names.now (map place_of c.new-strays.result.items) (ap (map place_of) c.new-strays.ensures.items)

pub loop-name-preserved : goal.loop-name-preserved
loop-name-preserved c =
    let kept : List (List ℕ) = map string_bytes c.args.keep.now in
    elim c.if-is_stray.branch [
      | then-is_stray+in_ok-add w ↦ one_more_stray string_bytes c.args.folder.now kept c.args.names.now c.loop-name.name-index c.name-item.result c.loop-name-test.true c.name-item.is
          (map place_of c.loop-name.strays.items) c.loop-name.invariant (map place_of c.if-is_stray.strays.items)
          (ap (λ (strays : Vec Location Global). map place_of strays.items) w.strays-is ∙ w.in_ok-add.ensures
          ∙ ap (λ (name : List ℕ). let new : Place = record { folder = c.args.folder.now; name = name } in map place_of c.loop-name.strays.items ++ new ∷ []) w.as_str-then-is_stray.ensures.value)
          (subst (λ (name : List ℕ). IsLeftName name × ¬ (Contains kept name)) c.as_str.ensures.value (c.is_stray.ensures.0 w.if-is_stray.true))
      | else-is_stray w ↦ subst (λ (strays : Vec Location Global). AreStrays string_bytes c.args.folder.now kept c.args.names.now (c.loop-name.name-index + 1) (map place_of strays.items)) (sym w.strays-is)
          (no_more_strays string_bytes c.args.folder.now kept c.args.names.now c.loop-name.name-index c.name-item.result c.loop-name-test.true c.name-item.is
          (map place_of c.loop-name.strays.items) c.loop-name.invariant
          (λ is. cc (c.is_stray.ensures.1 (subst (λ (name : List ℕ). IsLeftName name × ¬ (Contains kept name)) (sym c.as_str.ensures.value) is), w.if-is_stray.false)))
    ]

pub returns-clause-only : goal.returns-clause-only
returns-clause-only c = c.loop-name.invariant.only

pub returns-clause-all : goal.returns-clause-all
returns-clause-all c = all_strays string_bytes c.args.folder.now (map string_bytes c.args.keep.now) c.args.names.now c.loop-name.name-index (map place_of c.loop-name.strays.items) c.loop-name-test.false c.loop-name.invariant
