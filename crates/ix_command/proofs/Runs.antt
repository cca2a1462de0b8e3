-- An output that was begun, and a build with runs in files behind that.
use Rattle.std.proofs.Common.{◌≡◌, ◌∙◌, ◌⊎◌, ℕ, List, Option, Some, None, Result, Ok, Err, OnOk, OnErr, inl, inr, sym, ap, subst, get_or, arith}
use Rattle.ix_text.specs.Collections.{NamedText}
use Rattle.ix_build.specs.Plans.{PlanValue}
use Rattle.ix_build.specs.RunNames.{HasNoRuns, IsRunOf, run_place}
use Rattle.ix_files.specs.Changes.{ChangesOnly}
use Rattle.ix_files.specs.Drafts.{ChangesDrafts, IsDraftPlace}
use Rattle.ix_files.specs.Locations.{place_of}
use Rattle.ix_files.specs.Outputs.{AreReady, IsBegunFor, LeavesOthers}
use Rattle.ix_files.specs.Slots.{IsSame, Nothing, Place, Slot}
use Rattle.ix_files.specs.Views.{GoesOn, View}
use Rattle.ix_files.specs.declared.output.DraftNames.{DraftNames}
use Rattle.ix_files.proofs.Drafting.{went_on_again}
use Rattle.ix_command.specs.BuiltRuns.{RemovesRuns}
use Rattle.ix_command.proofs.Saving.{kept_at, other_up}

-- no draft is called as a run is
pub run_is_no_draft : (plan : PlanValue) (documents : List NamedText) (view : View) (target place : Place) → IsRunOf plan documents view place → ¬ (IsDraftPlace target place)
run_is_no_draft plan documents view target place run draft =
    let first : 46 ≡ 114 = ap (λ (name : List ℕ). get_or name 0 0) (sym draft.name.spelled ∙ ap (λ (p : Place). p.name) run.named) in
    absurd (omega (arith, first))

-- a run of a plan is one as long as paths lead to the same folders
run_still : (plan : PlanValue) (documents : List NamedText) (old new : View) (place : Place) → ((path : List ℕ) → new.folder path ≡ old.folder path) → IsRunOf plan documents old place → IsRunOf plan documents new place
run_still plan documents old new place folders run = record {
  folder = run.folder;
  is_folder = run.is_folder;
  block = run.block;
  of_block = run.of_block;
  named = run.named ∙ ap (λ (f : List ℕ). run_place f run.block) (sym (folders run.folder));
}

-- v0 is before the output is begun, v1 behind that, v2 once the build has ended, and v3 once the output has
module _ (plan : PlanValue) (documents : List NamedText) (v0 v1 v2 : View) (path : List ℕ) (names : Option DraftNames) (apart : v0.honest → ¬ (IsRunOf plan documents v0 (v0.place path)))
    (changes : ChangesDrafts (v0.place path) v0 v1) (began : GoesOn v0 v1) (begun : v1.honest → IsBegunFor v1 path names)
    (built : ChangesOnly (IsRunOf plan documents v1) v1 v2) (went : GoesOn v1 v2) where
  earlier : (place : Place) → v1.honest → IsRunOf plan documents v1 place → IsRunOf plan documents v0 place
  earlier place honest = run_still plan documents v1 v0 place (λ path. sym (began.folders honest path))

  later : (place : Place) → v1.honest → IsRunOf plan documents v0 place → IsRunOf plan documents v1 place
  later place honest = run_still plan documents v0 v1 place (began.folders honest)

  target_apart : v1.honest → ¬ (IsRunOf plan documents v1 (v0.place path))
  target_apart honest run = apart (began.honest honest) (earlier (v0.place path) honest run)

  pub went_all : GoesOn v0 v2
  went_all = went_on_again began went

  pub kept_behind : v2.honest → v2.slots (v0.place path) ≡ v0.slots (v0.place path)
  kept_behind honest =
      let before = went.honest honest in
      built.others honest (v0.place path) (target_apart before) ∙ kept_at v0 v1 path changes before

  pub begun_behind : AreReady names → v2.honest → IsBegunFor v2 path names
  begun_behind ready honest = still names ready (begun (went.honest honest))
    where
      still : (n : Option DraftNames) → AreReady n → IsBegunFor v1 path n → IsBegunFor v2 path n
      still None ready is =
          let before = went.honest honest in
          let here : v1.place path ≡ v0.place path = began.places before path in
          let there : v2.place path ≡ v0.place path = went.places honest path ∙ here in
          let was : (v1.slots (v0.place path)).now ≡ Nothing = subst (λ (p : Place). (v1.slots p).now ≡ Nothing) here is in
          subst (λ (p : Place). (v2.slots p).now ≡ Nothing) (sym there) (ap (λ (s : Slot). s.now) (built.others honest (v0.place path) (target_apart before)) ∙ was)
      still (Some n) ready is = record {
        target = is.target ∙ sym (went.places honest path);
        growing = ap (λ (s : Slot). s.now) (built.others honest (place_of n.own) (λ run. run_is_no_draft plan documents v1 (place_of n.target) (place_of n.own) run ready)) ∙ is.growing;
      }

  pub others_built : (v3 : View) → GoesOn v2 v3 → AreReady names → (v2.honest → IsSame v1.slots v2.slots ⊎ HasNoRuns plan documents v1 v2)
      → (v3.honest → IsBegunFor v2 path names → LeavesOthers path v2 v3) → v3.honest → LeavesOthers path v0 v3 ⊎ RemovesRuns plan documents path v0 v3
  others_built v3 ended ready left others honest =
      let behind = ended.honest honest in
      let before = went.honest behind in
      let up = other_up v0 v2 v3 path kept_behind went_all ended honest (others honest (begun_behind ready behind)) in
      elim (left behind) [
        | inl same ↦ inl (λ place apart free. up place apart free ∙ ap (λ (s : Slot). s.now) (same place ∙ changes.others before place free))
        | inr none ↦ inr (record {
          others = λ place apart free no_run. up place apart free
              ∙ ap (λ (s : Slot). s.now) (built.others behind place (λ run. no_run (earlier place before run)) ∙ changes.others before place free);
          gone = elim none [
            | inl gone ↦ inl (λ place run. up place (λ is. apart (began.honest before) (subst (λ (p : Place). IsRunOf plan documents v0 p) is run))
                (run_is_no_draft plan documents v0 (v0.place path) place run) ∙ gone place (later place before run))
            | inr failed ↦ inr (omega (arith, failed, began.counted before, ended.counted honest))
          ];
        })
      ]

-- what a build left of its runs, whatever came of it
pub left_by : {T E : Type 0} (H P Q : Type 0) (result : Result T E) → (H → OnOk result Q) → (H → OnErr result (P ⊎ Q)) → H → P ⊎ Q
left_by H P Q (Ok x) gone left honest = inr (gone honest)
left_by H P Q (Err told) gone left honest = left honest
