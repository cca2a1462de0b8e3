-- What changes at other names leave of a manifest and its files, and what is known of stops after several calls.
use Rattle.std.proofs.Common.{◌≡◌, ◌⊎◌, ◌≤◌, inl, inr, ⊎_elim, ℕ, List, [], ◌∷◌, All, Option, None, Some, get_or, refl, sym, ap, subst, ◌∙◌, arith}
use Rattle.ix_files.specs.Changes.{ChangesOnly, IsOld, StopsAt}
use Rattle.ix_files.specs.Slots.{ComesBackAs, Entry, IsOneOf, Kept, MayLeave, Nothing, Place, Slot, Slots, Stops, at_rest}
use Rattle.ix_files.specs.Slots.ComesBackAs.{kept, nothing}
use Rattle.ix_files.specs.Slots.IsOneOf.{first, later}
use Rattle.ix_files.specs.Views.{LeavesOnly, View}
use Rattle.ix_folder.specs.FolderNames.{manifest_place}
use Rattle.ix_folder.specs.Standings.{AreStops, IsKeptIn, IsSettled, Leaves, RestsIn, Standing, Stands, files_of, manifest_of}

-- ---- stops

-- what is known of each stop may be less
pub narrowed : {P Q : Slots → Type 0} {old new : View} → ((left : Slots) → P left → Q left) → LeavesOnly P old new → LeavesOnly Q old new
narrowed less leaves = record {
  later = leaves.later;
  each = λ left was. less left (leaves.each left was);
  before = λ t left le was. ⊎_elim inl (λ is. inr (less left is)) (leaves.before t left le was);
}

-- calls, and calls after them
pub chained : {P Q : Slots → Type 0} {old mid new : View} → LeavesOnly P old mid → LeavesOnly Q mid new → LeavesOnly (λ left. P left ⊎ Q left) old new
chained {old = old} one next = record {
  later = omega (arith, one.later, next.later);
  each = λ left was. ⊎_elim (λ early. inl (one.each left early)) inr (next.before old.moment left one.later was);
  before = λ t left le was. ⊎_elim (λ early. ⊎_elim inl (λ is. inr (inl is)) (one.before t left le early)) (λ is. inr (inr is))
      (next.before t left (omega (arith, le, one.later)) was);
}

-- what a stop leaves after the last call
pub left_now : {P : Slots → Type 0} {old new : View} → ((t : ℕ) (left : Slots) → t ≤ new.moment → Stops new.slots left → new.left_since t left)
    → LeavesOnly P old new → (left : Slots) → Stops new.slots left → P left
left_now {old = old} counts leaves left stops = leaves.each left (counts old.moment left leaves.later stops)

-- a stop leaves something at each name
pub stops_at : (slots left : Slots) → Stops slots left → AreStops slots left
stops_at slots left (inl same) place = inl (ap (λ (slot : Slot). slot.now) (same place))
stops_at slots left (inr crashes) place =
    inr (subst (MayLeave (slots place)) (sym (ap (λ (slot : Slot). slot.now) (crashes place).2)) (crashes place).1)

-- ---- names that are on the disk

from_kept : (bytes : List ℕ) (entry : Entry) → ComesBackAs (Kept bytes) entry → entry ≡ Kept bytes
from_kept bytes entry kept = refl

from_nothing : (entry : Entry) → ComesBackAs Nothing entry → entry ≡ Nothing
from_nothing entry nothing = refl

none_left : (entry : Entry) → IsOneOf entry [] → ⊥
none_left entry one = elim one [ ]

only_one : (entry now : Entry) → IsOneOf entry (now ∷ []) → entry ≡ now
only_one entry now first = refl
only_one entry now (later more) = absurd (none_left entry more)

comes_back : (now entry : Entry) → MayLeave (at_rest now) entry → ComesBackAs now entry
comes_back now entry may = subst (λ (was : Entry). ComesBackAs was entry) (only_one may.entry now may.was) may.comes_back

pub kept_left : (bytes : List ℕ) (entry : Entry) → StopsAt (at_rest (Kept bytes)) entry → entry ≡ Kept bytes
kept_left bytes entry stops = ⊎_elim (λ same. same) (λ may. from_kept bytes entry (comes_back (Kept bytes) entry may)) stops

pub manifest_left : (now : Option Standing) (entry : Entry) → StopsAt (at_rest (manifest_of now)) entry → entry ≡ manifest_of now
manifest_left None entry stops = ⊎_elim (λ same. same) (λ may. from_nothing entry (comes_back Nothing entry may)) stops
manifest_left (Some standing) entry stops = kept_left standing.manifest entry stops

-- ---- what changes at other names leave

-- a fact of each element by two others
pub all_by : {X : Type 0} (P Q R : X → Type 0) → ((x : X) → P x → Q x → R x) → (xs : List X) → All P xs → All Q xs → All R xs
all_by P Q R both xs one other index default low = both (get_or xs index default) (one index default low) (other index default low)

-- fewer names may have changed
pub widened : (Fewer Excepted : Place → Type 0) {old new : View} → ((place : Place) → Fewer place → Excepted place) → ChangesOnly Fewer old new → ChangesOnly Excepted old new
widened Fewer Excepted more changes = record {
  others = λ honest place other. changes.others honest place (λ is. other (more place is));
  any_moment = λ honest. narrowed (λ left old place other. old place (λ is. other (more place is))) (changes.any_moment honest);
}

-- a name changed, or names in its folder
pub in_folder : (place : Place) {old new : View} → ChangesOnly (λ other. other ≡ place) old new → ChangesOnly (λ other. other.folder ≡ place.folder) old new
in_folder place changes = widened (λ other. other ≡ place) (λ other. other.folder ≡ place.folder) (λ other same. ap (λ (p : Place). p.folder) same) changes

-- a stop left what it could leave before, but at names of no file of the manifest
pub stands_left : (Excepted : Place → Type 0) (folder : List ℕ) (now : Option Standing) (slots left : Slots) → IsSettled folder now slots
    → ¬ (Excepted (manifest_place folder)) → All (λ file. ¬ (Excepted file.place)) (files_of now) → IsOld Excepted slots left → Stands folder now left
stands_left Excepted folder now slots left settled other others old = record {
  manifest = manifest_left now (left (manifest_place folder)).now
      (subst (λ (slot : Slot). StopsAt slot (left (manifest_place folder)).now) settled.manifest (old (manifest_place folder) other));
  files = all_by (RestsIn slots) (λ file. ¬ (Excepted file.place)) (IsKeptIn left)
      (λ file same off. kept_left file.bytes (left file.place).now (subst (λ (slot : Slot). StopsAt slot (left file.place).now) same (old file.place off)))
      (files_of now) settled.files others;
}

-- changes at other names leave a manifest and its files on the disk
pub stays_settled : (Excepted : Place → Type 0) (folder : List ℕ) (now : Option Standing) {old new : View} → ChangesOnly Excepted old new → new.honest
    → IsSettled folder now old.slots → ¬ (Excepted (manifest_place folder)) → All (λ file. ¬ (Excepted file.place)) (files_of now) → IsSettled folder now new.slots
stays_settled Excepted folder now {old} {new} changes honest settled other others = record {
  manifest = changes.others honest (manifest_place folder) other ∙ settled.manifest;
  files = all_by (RestsIn old.slots) (λ file. ¬ (Excepted file.place)) (RestsIn new.slots) (λ file same off. changes.others honest file.place off ∙ same) (files_of now) settled.files others;
}

-- a stop at any moment of them leaves the manifest and its files
pub leaves_standing : (Excepted : Place → Type 0) (folder : List ℕ) (now : Option Standing) {old new : View} → ChangesOnly Excepted old new → new.honest
    → IsSettled folder now old.slots → ¬ (Excepted (manifest_place folder)) → All (λ file. ¬ (Excepted file.place)) (files_of now)
    → LeavesOnly (Stands folder now) old new
leaves_standing Excepted folder now {old = old} changes honest settled other others =
    narrowed (λ left is_old. stands_left Excepted folder now old.slots left settled other others is_old) (changes.any_moment honest)

-- what is on the disk is what each stop leaves
pub settled_leaves : (folder : List ℕ) (now : Option Standing) (slots : Slots) → IsSettled folder now slots → Leaves folder (λ standing. standing ≡ now) slots
settled_leaves folder now slots settled left stops = (
  now,
  refl,
  stands_left (λ place. ⊥) folder now slots left settled (λ none. none) (λ index default low none. none) (λ place none. stops place),
)

-- what each stop left before is what it leaves during calls that change nothing
pub leaves_among : (folder : List ℕ) (Among : Option Standing → Type 0) {old new : View} → Leaves folder Among old.slots → LeavesOnly (AreStops old.slots) old new
    → LeavesOnly (λ left. (standing : Option Standing) × Among standing × Stands folder standing left) old new
leaves_among folder Among leaves only = narrowed leaves only
