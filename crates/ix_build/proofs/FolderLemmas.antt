-- Building with runs in a folder.
use Rattle.std.proofs.Common.{◌≡◌, ◌⊎◌, ℕ, ◌+◌, ◌<◌, List, Option, Result, Ok, Err, IfErr, OnErr, OnOk, length, All, sym, ap, subst, ◌∙◌, inl, inr, ⊎_elim, arith}
use Rattle.std.proofs.lemmas.Option.{same_Some, slice_get_within}
use Rattle.std.proofs.lemmas.Result.{IfErr-weaker}
use Rattle.std.specs.Prelude.{Some, slice_get}
use Rattle.ix_board.proofs.Closings.{got-All}
use Rattle.ix_board.proofs.SliceGets.{get-within}
use Rattle.ix_files.specs.Changes.{AreGone, ChangesOnly}
use Rattle.ix_files.specs.Slots.{IsAmong, Place, Slots, Stops}
use Rattle.ix_files.specs.Steps.{Shares}
use Rattle.ix_files.specs.Views.{Calls, GoesOn, View}
use Rattle.ix_files.proofs.Drafting.{changed_again, changed_if, unchanged}
use Rattle.ix_text.specs.Collections.{NamedText}
use Rattle.ix_run.specs.Heads.{Heading}
use Rattle.ix_build.specs.Blocks.{AreBounds}
use Rattle.ix_build.specs.FolderStores.{GivesBack, files_of}
use Rattle.ix_build.specs.GivenBack.{GivesBlocksBack}
use Rattle.ix_build.specs.Plans.{PlanValue}
use Rattle.ix_build.specs.ReadBack.{TellsCause, TellsUnread}
use Rattle.ix_build.specs.RunNames.{AreRunNames, AreRunNamesOf, HasNoRuns, IsRunOf, run_place}
use Rattle.ix_build.specs.declared.build_error.BuildError.{BuildError}
use Rattle.ix_build.specs.declared.folder_store.FolderStore.{FolderStore}
use Rattle.ix_build.specs.declared.plan.Cut.{Cut}
use Rattle.ix_build.proofs.BlockCounts.{block_place, place_within}
use Rattle.ix_build.proofs.UnreadLemmas.{tells_cause, told_unread}

-- ---- stores

module _ {F : Type 0} (back : F → ℕ → List ℕ → Type 0) (files : F) (stores : List (FolderStore F)) (each : All (λ store. files_of store ≡ files) stores) (some : 0 < length stores) where
  -- the first of some stores in the files gives back what these give back
  pub first_gives : (cut : Cut) (texts : List NamedText) (stop : List (List ℕ)) → GivesBlocksBack cut texts stop (back files)
      → (first : FolderStore F) × (slice_get stores 0 ≡ Some first) × GivesBlocksBack cut texts stop (GivesBack back first)
  first_gives cut texts stop gives =
      let first = get-within stores 0 some in
      let same = got-All (λ store. files_of store ≡ files) stores 0 first.0 each first.1 in
      (first.0, first.1, λ bounds place bytes are within came. gives bounds place bytes are within (subst (λ (f : F). back f place bytes) same came))

  -- and what of it may not be read came back of the files
  pub first_unread : {R T : Type 0} (remaining : R → Option (List ℕ)) (result : Result T BuildError) (before now : Option (List ℕ)) (refused : Type 0) (kept : ℕ → Heading → Type 0)
      → ((first : FolderStore F) → slice_get stores 0 ≡ Some first → IfErr result (TellsCause remaining refused kept (GivesBack back first) before now)) → IfErr result (TellsUnread remaining (back files) before now)
  first_unread remaining result before now refused kept caused =
      let first = get-within stores 0 some in
      let same = got-All (λ store. files_of store ≡ files) stores 0 first.0 each first.1 in
      IfErr-weaker result (TellsCause remaining refused kept (GivesBack back first.0) before now) (TellsUnread remaining (back files) before now)
      (λ error told.
      told_unread remaining refused kept (back files) before now error
      (tells_cause remaining refused refused kept kept (GivesBack back first.0) (back files) (λ by. by) (λ place heading is_kept. is_kept)
      (λ place bytes came. subst (λ (f : F). back f place bytes) same came)
      before now error told))
      (caused first.0 first.1)

pub on_ok : {T E P : Type 0} (result : Result T E) → P → OnOk result P
on_ok (Ok done) holds = holds
on_ok (Err error) holds = tt

pub on_err : {T E P : Type 0} (result : Result T E) → P → OnErr result P
on_err (Ok done) holds = tt
on_err (Err error) holds = holds

-- ---- names

-- of more names less is said
excepted_more : {Excepted More : Place → Type 0} {old new : View} → ChangesOnly Excepted old new → (new.honest → (place : Place) → Excepted place → More place) → ChangesOnly More old new
excepted_more changes more = record {
  others = λ honest place other. changes.others honest place (λ is. other (more honest place is));
  any_moment = λ honest.
      let moments = changes.any_moment honest in
      record {
        later = moments.later;
        each = λ left was place other. moments.each left was place (λ is. other (more honest place is));
        before = λ t left le was. ⊎_elim inl (λ is_old. inr (λ place other. is_old place (λ is. other (more honest place is)))) (moments.before t left le was);
      };
}

module _ (plan : PlanValue) (texts : List NamedText) where
  -- names for as many runs as there are blocks are those of the plan
  pub named_for_plan : (view : View) (path folder : List ℕ) (names : List Place) (bounds : List ℕ) → plan.folder ≡ Some path → folder ≡ view.folder path → AreRunNames folder names
      → AreBounds plan.cut texts bounds → length names + 1 ≡ length bounds → AreRunNamesOf plan texts view names
  named_for_plan view path folder names bounds is_folder located named are size place = (
    λ among. record {
      folder = path;
      is_folder = is_folder;
      block = among.0;
      of_block = block_place plan.cut texts bounds are (length names) size among.0 (slice_get_within names among.0 place among.1);
      named = named among.0 place among.1 ∙ ap (λ f. run_place f among.0) located;
    },
    λ is.
        let same = same_Some path is.folder (sym is_folder ∙ is.is_folder) in
        let at = get-within names is.block (place_within plan.cut texts bounds are (length names) size is.block is.of_block) in
        let here : at.0 ≡ place = named is.block at.0 at.1 ∙ ap (λ f. run_place f is.block) (located ∙ ap view.folder same) ∙ sym is.named in
        (is.block, at.1 ∙ ap (λ (p : Place). Some p) here),
  )

  -- names that are shared
  module _ (old new : View) (names : List Place) (runs : old.honest → AreRunNamesOf plan texts old names) (call : Calls (Shares names) old new)
      (only : (left : Slots) → old.left_since old.moment left → Stops old.slots left) where
    pub shared_changes : ChangesOnly (IsRunOf plan texts old) old new
    shared_changes = changed_if (unchanged (IsRunOf plan texts old) old only) call
        (λ honest slots did place other. did.elsewhere place (λ among. other ((runs (call.honest honest) place).0 among)))

  -- and removed
  module _ (old mid new : View) (names : List Place) (runs : mid.honest → AreRunNamesOf plan texts old names) (on : GoesOn old mid) (later : GoesOn mid new) where
    pub removed_changes : ChangesOnly (IsRunOf plan texts old) old mid → ChangesOnly (IsAmong names) mid new → ChangesOnly (IsRunOf plan texts old) old new
    removed_changes first next = changed_again first (excepted_more next (λ honest place. (runs (later.honest honest) place).0)) later.honest

    pub none_left : (new.honest → AreGone names new.slots ⊎ (mid.faults < new.faults)) → new.honest → HasNoRuns plan texts old new
    none_left gone honest = ⊎_elim
        (λ are_gone. inl (λ place is. are_gone place ((runs (later.honest honest) place).1 is)))
        (λ failed. inr (omega (arith, on.counted (later.honest honest), failed)))
        (gone honest)
