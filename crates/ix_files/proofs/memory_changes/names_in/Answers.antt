use Rattle.std.proofs.Common.{◌≡◌, ◌≢◌, ◌∙◌, ap, drop, map, string_bytes, subst, sym, Bor, MatchOption, Global, String, Vec}
use Rattle.std.specs.Prelude.{Contains}
use Rattle.ix_files.specs.Locations.{place_of}
use Rattle.ix_files.specs.MemoryChanges.{after_changes}
use Rattle.ix_files.specs.Slots.{Nothing, Place}
use Rattle.ix_files.specs.declared.location.Location.{Location}
use Rattle.ix_files.proofs.Listing.{AreGathered, all_gathered, is_filled, none_filled, none_gathered, one_more_gathered}
use Rattle.ix_files.proofs.memory_changes.names_in.Goals as goal
use Rattle.ix_files.proofs.memory_changes.names_in.Goals.{in-Some+in_ok-add_name, in_default}

pub loop-change-init : goal.loop-change-init
loop-change-init c = subst (λ names. AreGathered c.args.folder.now names c.args.changes.now (drop 0 c.args.changes.now)) (sym (ap (map string_bytes) c.new-names.ensures.items))
    (none_gathered c.args.folder.now c.args.changes.now)

pub loop-change-preserved : goal.loop-change-preserved
loop-change-preserved c =
    let more = one_more_gathered c.args.folder.now (map string_bytes c.loop-change.names.items) (map string_bytes c.match-filled_by.names.items) c.args.changes.now c.loop-change.change-index c.change-item.result
    (λ place. MatchOption c.filled_by.result ⊥ (λ at. place_of at.now ≡ place)) c.loop-change-test.true c.change-item.is c.filled_by.ensures in
    elim c.match-filled_by.branch [
      | in-Some+in_ok-add_name w ↦ more
          (λ name among. subst (λ (names : Vec (String Global) Global). Contains (map string_bytes names.items) name) (sym w.names-is) (w.in_ok-add_name.ensures.keeps name among))
          (λ place filled inside there.
          let same : place_of w.in-Some.at.now ≡ place = is_filled (λ (at : Bor Location). place_of at.now) place c.filled_by.result w.in-Some.at w.in-Some.is filled in
          subst (λ (p : Place). Contains (map string_bytes c.match-filled_by.names.items) p.name) same
          (subst (λ (names : Vec (String Global) Global). Contains (map string_bytes names.items) (place_of w.in-Some.at.now).name) (sym w.names-is)
          (w.in_ok-add_name.ensures.adds (ap (λ (p : Place). p.folder) same ∙ inside) (subst (λ (p : Place). (after_changes c.args.changes.now p).now ≢ Nothing) (sym same) there))))
          c.loop-change.invariant
      | in_default w ↦ more
          (λ name among. subst (λ (names : Vec (String Global) Global). Contains (map string_bytes names.items) name) (sym w.names-is) among)
          (λ place filled inside there. absurd (none_filled (λ (at : Bor Location). place_of at.now) place c.filled_by.result w.in_default.is filled))
          c.loop-change.invariant
    ]

pub returns : goal.returns
returns c = all_gathered c.args.folder.now (map string_bytes c.loop-change.names.items) c.args.changes.now c.loop-change.change-index c.loop-change-test.false c.loop-change.invariant
