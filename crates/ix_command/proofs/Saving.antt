-- An output that was begun, written and ended is what was written, and no other file changed.
use Rattle.std.proofs.Common.{◌≡◌, ◌≢◌, ◌∙◌, ◌⊎◌, ℕ, List, [], Option, Some, None, Result, Ok, Err, inl, inr, refl, sym, ap, subst, ◌∷◌, IfErr, IsErrAnd}
use Rattle.std.specs.Prelude.{IsOk, OnOk, OnErr, ⊤}
use Rattle.std.specs.Io.KnownBytes.{Appends}
use Rattle.ix_text.specs.Collections.{Collection}
use Rattle.ix_file.specs.Endings.{WritesIndexText}
use Rattle.ix_build.specs.AlikeFronts.{WritesAlike}
use Rattle.ix_files.specs.Drafts.{ChangesDrafts, IsDraftPlace}
use Rattle.ix_files.specs.Outputs.{IsBegunFor, LeavesOthers, LeavesTarget, now_in, saved_in}
use Rattle.ix_files.specs.Reading.{Holding}
use Rattle.ix_files.specs.Slots.{Entry, Kept, Place, Slot, at_rest}
use Rattle.ix_files.specs.Views.{GoesOn, View}
use Rattle.ix_files.specs.declared.output.DraftNames.{DraftNames}
use Rattle.ix_command.specs.Refusals.{IsUnsaved}
use Rattle.ix_command.specs.SavedIndexes.{SavesAlike, SavesIndex}
use Rattle.ix_command.specs.declared.refusal.Refusal.{Refusal}

-- what a writer holds that was empty is what was written
pub written_whole : (begun ended : Option (List ℕ)) (text : List ℕ) → begun ≡ Some [] → Appends begun ended text → ended ≡ Some text
written_whole begun ended text is written = go ended refl (subst (λ (b : Option (List ℕ)). Appends b ended text) is written)
  where
    go : (e : Option (List ℕ)) → ended ≡ e → Appends (Some []) ended text → ended ≡ Some text
    go None same appends = absurd (subst (λ (e : Option (List ℕ)). Appends (Some []) e text) same appends)
    go (Some bytes) same appends = same ∙ ap (λ (l : List ℕ). Some l) (subst (λ (e : Option (List ℕ)). Appends (Some []) e text) same appends)

-- the target of a draft is no name of a draft of it
target_apart : (target : Place) → ¬ (IsDraftPlace target target)
target_apart target draft = draft.another refl

-- what is at a target stays if drafts of it come and go
pub kept_at : (v0 v1 : View) (path : List ℕ) → ChangesDrafts (v0.place path) v0 v1 → v1.honest → v1.slots (v0.place path) ≡ v0.slots (v0.place path)
kept_at v0 v1 path changes honest = changes.others honest (v0.place path) (target_apart (v0.place path))

-- v0 is before an output is begun, v1 behind that, v2 once it has ended
module _ (v0 v1 v2 : View) (path : List ℕ) (kept : v1.honest → v1.slots (v0.place path) ≡ v0.slots (v0.place path)) (began : GoesOn v0 v1) (ended : GoesOn v1 v2) where
  same_place : v2.honest → v1.place path ≡ v0.place path
  same_place honest = began.places (ended.honest honest) path

  pub saved_up : (sent : Holding) (text : List ℕ) → saved_in sent v1 v2 path text → saved_in sent v0 v2 path text
  saved_up sent text saved = λ honest. elim (saved honest) [
    | inl went ↦ inl went
    | inr there ↦ inr (subst (λ (p : Place). v2.slots p ≡ at_rest (Kept text)) (same_place honest) there)
  ]

  pub other_up : v2.honest → LeavesOthers path v1 v2 → (place : Place) → place ≢ v0.place path → ¬ (IsDraftPlace (v0.place path) place) → (v2.slots place).now ≡ (v1.slots place).now
  other_up honest others place apart free =
      let is = same_place honest in
      others place (λ same. apart (same ∙ is)) (λ draft. free (subst (λ (p : Place). IsDraftPlace p place) is draft))

  pub target_up : v2.honest → LeavesTarget path v1 v2 → LeavesTarget path v0 v2
  target_up honest stays =
      let here = subst (λ (p : Place). (v2.slots p).now ≡ (v1.slots p).now) (same_place honest) stays in
      here ∙ ap (λ (s : Slot). s.now) (kept (ended.honest honest))

  pub now_up : v2.honest → (text : List ℕ) → (v2.slots (v1.place path)).now ≡ Kept text → now_in v0 v2 path text
  now_up honest text there = subst (λ (p : Place). (v2.slots p).now ≡ Kept text) (same_place honest) there

-- an output that could not be begun leaves all
module _ (v0 v1 : View) (path : List ℕ) (changes : ChangesDrafts (v0.place path) v0 v1) where
  pub others_left : v1.honest → LeavesOthers path v0 v1
  others_left honest = λ place apart free. ap (λ (s : Slot). s.now) (changes.others honest place free)

  pub target_left : v1.honest → LeavesTarget path v0 v1
  target_left honest = ap (λ (s : Slot). s.now) (kept_at v0 v1 path changes honest)

-- the same view leaves all
pub others_same : (v : View) (path : List ℕ) → LeavesOthers path v v
others_same v path place apart free = refl

-- ---- what was written into an output, by what its end says

-- v0 is before the output is begun, v1 behind that, v2 once it has ended; its writer held `before`, which is nothing, and holds
-- `after`
module _ (v0 v1 v2 : View) (path : List ℕ) (names : Option DraftNames) (changes : ChangesDrafts (v0.place path) v0 v1) (began : GoesOn v0 v1)
    (begun : v1.honest → IsBegunFor v1 path names) (ended : GoesOn v1 v2) where
  pub others_through : (v2.honest → IsBegunFor v1 path names → LeavesOthers path v1 v2) → v2.honest → LeavesOthers path v0 v2
  others_through others honest = λ place apart free.
      other_up v0 v1 v2 path (kept_at v0 v1 path changes) began ended honest (others honest (begun (ended.honest honest))) place apart free
      ∙ ap (λ (s : Slot). s.now) (changes.others (ended.honest honest) place free)

module _ (v0 v1 v2 : View) (path : List ℕ) (names : Option DraftNames) (kept : v1.honest → v1.slots (v0.place path) ≡ v0.slots (v0.place path)) (began : GoesOn v0 v1)
    (begun : v1.honest → IsBegunFor v1 path names) (ended : GoesOn v1 v2) (before after : Option (List ℕ)) (empty : v1.honest → before ≡ Some []) where
  known : (text : List ℕ) → Appends before after text → v2.honest → after ≡ Some text
  known text written honest = written_whole before after text (empty (ended.honest honest)) written

  pub text_saved : (sent : Holding) (text : List ℕ) → Appends before after text
      → ((text : List ℕ) → (v2.honest → after ≡ Some text) → (v1.honest → IsBegunFor v1 path names) → saved_in sent v1 v2 path text) → saved_in sent v0 v2 path text
  text_saved sent text written saved = saved_up v0 v1 v2 path kept began ended sent text (saved text (known text written) begun)

  pub index_saved : (sent : Holding) (collection : Collection) → WritesIndexText before after collection
      → ((text : List ℕ) → (v2.honest → after ≡ Some text) → (v1.honest → IsBegunFor v1 path names) → saved_in sent v1 v2 path text) → SavesIndex (saved_in sent v0 v2) path collection
  index_saved sent collection writes saved = record { text = writes.text; of_collection = writes.of_collection; saved = text_saved sent writes.text writes.written saved }

  -- if the folder could not be synced, what was written is there
  abbrev pub Leaves : Type 0 → Type 0
  Leaves Saved = (text : List ℕ) × (after ≡ Some text) × (now_in v0 v2 path text → Saved)

  pub text_left : (text : List ℕ) → Appends before after text → v2.honest → Leaves (now_in v0 v2 path text)
  text_left text written honest = (text, known text written honest, λ there. there)

  pub index_left : (collection : Collection) → WritesIndexText before after collection → v2.honest → Leaves (SavesIndex (now_in v0 v2) path collection)
  index_left collection writes honest = (writes.text, known writes.text writes.written honest, λ there. record { text = writes.text; of_collection = writes.of_collection; saved = there })

  pub alike_saved : (sent : Holding) (collection : Collection) → WritesAlike collection before after
      → ((text : List ℕ) → (v2.honest → after ≡ Some text) → (v1.honest → IsBegunFor v1 path names) → saved_in sent v1 v2 path text) → SavesAlike (saved_in sent v0 v2) path collection
  alike_saved sent collection writes saved = record { whole = writes.whole; alike = writes.alike; saved = index_saved sent writes.whole writes.written saved }

  -- the index text that was written is that of the collection, if the runs came back
  pub both_left : (Come : Type 0) (collection : Collection) → (Come → WritesIndexText before after collection) → WritesAlike collection before after → v2.honest
      → Leaves ((Come → SavesIndex (now_in v0 v2) path collection) × SavesAlike (now_in v0 v2) path collection)
  both_left Come collection exact writes honest =
      let text = writes.written.text in
      let is : after ≡ Some text = known text writes.written.written honest in (
        text,
        is,
        λ there. (
          (λ come.
              let whole = exact come in
              let also : after ≡ Some whole.text = known whole.text whole.written honest in
              let same : text ≡ whole.text = cc in
              record { text = whole.text; of_collection = whole.of_collection; saved = subst (λ (t : List ℕ). now_in v0 v2 path t) same there }),
          record { whole = writes.whole; alike = writes.alike; saved = record { text = text; of_collection = writes.written.of_collection; saved = there } },
        ),
      )

  stays : v2.honest → LeavesTarget path v1 v2 → LeavesTarget path v0 v2
  stays honest same = target_up v0 v1 v2 path kept began ended honest same

  pub undone_through : {T U : Type 0} (Saved : Type 0) (result : Result T Refusal) (written : Result U Refusal) → OnOk written (v2.honest → Leaves Saved)
      → OnErr result (v2.honest → IsBegunFor v1 path names → (text : List ℕ) → OnOk written (after ≡ Some text) → LeavesTarget path v1 v2 ⊎ ((v2.slots (v1.place path)).now ≡ Kept text))
      → OnErr result (v2.honest → LeavesTarget path v0 v2 ⊎ Saved)
  undone_through Saved (Ok x) written leaves undone = tt
  undone_through Saved (Err told) (Ok y) leaves undone = λ honest.
      let left = leaves honest in
      elim (undone honest (begun (ended.honest honest)) left.0 left.1) [
        | inl same ↦ inl (stays honest same)
        | inr there ↦ inr (left.2 (now_up v0 v1 v2 path kept began ended honest left.0 there))
      ]
  undone_through Saved (Err told) (Err why) leaves undone = λ honest.
      let is = begun (ended.honest honest) in
      elim (undone honest is [] tt) [
        | inl same ↦ inl (stays honest same)
        | inr none ↦ elim (undone honest is (0 ∷ []) tt) [
          | inl same ↦ inl (stays honest same)
          | inr one ↦ absurd (subst IsNone (sym none ∙ one) tt)
        ]
      ]
    where
      IsNone : Entry → Type 0
      IsNone (Kept []) = ⊤
      IsNone _ = ⊥

-- ---- an end that is ok, or not, by what was written

pub saved_by : {T U : Type 0} (A P Saved : Type 0) (result : Result T Refusal) (written : Result U Refusal) → OnOk result (IsOk written) → OnOk written A → OnOk result P → (A → P → Saved) → OnOk result Saved
saved_by A P Saved (Ok x) (Ok y) ok wrote saved make = make wrote saved
saved_by A P Saved (Ok x) (Err why) ok wrote saved make = cc
saved_by A P Saved (Err told) written ok wrote saved make = tt

pub refused_by : {T U : Type 0} (P : Refusal → Type 0) (path : List ℕ) (result : Result T Refusal) (written : Result U Refusal) → IfErr result (λ told. IsUnsaved path told ⊎ IsErrAnd written (λ refusal. refusal ≡ told))
    → ((told : Refusal) → IsUnsaved path told → P told) → IfErr written P → IfErr result P
refused_by P path (Ok x) written refused unsaved failed = tt
refused_by P path (Err told) (Ok y) refused unsaved failed = elim refused [ inl is ↦ unsaved told is | inr other ↦ absurd other ]
refused_by P path (Err told) (Err why) refused unsaved failed = elim refused [ inl is ↦ unsaved told is | inr same ↦ subst P same failed ]

-- what was written, by the two ways in which it ended
pub on_written : {U : Type 0} {A : Type 0} (written : Result U Refusal) → A → OnOk written A
on_written (Ok y) holds = holds
on_written (Err why) holds = tt

pub on_unwritten : {U : Type 0} (A : Type 0) (written : Result U Refusal) (told : Refusal) → written ≡ Err told → OnOk written A
on_unwritten {U} A written told is = subst (λ (r : Result U Refusal). OnOk r A) (sym is) tt

pub if_written : {U : Type 0} (P : Refusal → Type 0) (written : Result U Refusal) (value : U) → written ≡ Ok value → IfErr written P
if_written {U} P written value is = subst (λ (r : Result U Refusal). IfErr r P) (sym is) tt

pub if_unwritten : {U : Type 0} (P : Refusal → Type 0) (written : Result U Refusal) (told : Refusal) → written ≡ Err told → P told → IfErr written P
if_unwritten {U} P written told is holds = subst (λ (r : Result U Refusal). IfErr r P) (sym is) holds

-- an output that could not be begun
pub on_err : {T : Type 0} {A : Type 0} (result : Result T Refusal) → A → OnErr result A
on_err (Ok x) holds = tt
on_err (Err told) holds = holds

-- an index of a collection is one of a collection like it
pub saved_alike : (saves : Holding) (path : List ℕ) (collection : Collection) → SavesIndex saves path collection → SavesAlike saves path collection
saved_alike saves path collection saved = record { whole = collection; alike = record { stop = refl; rows = refl }; saved = saved }
