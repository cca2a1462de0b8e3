-- What a stop leaves at each name goes on from call to call.
use Rattle.std.proofs.Common.{◌≡◌, ◌≢◌, ◌⊎◌, inl, inr, ⊎_elim, ℕ, List, [], ◌∷◌, bytes_eq, Bool, true, false, refl, sym, ap, subst, ◌∙◌, arith}
use Rattle.std.proofs.lemmas.Slice.Eq.{bytes_eq-Decides}
use Rattle.std.proofs.lemmas.Bool.Decides.{not_from_Decides}
use Rattle.ix_files.specs.Changes.{StopsAt}
use Rattle.ix_files.specs.Slots.{ComesBackAs, Entry, IsOneOf, Kept, MayLeave, Place, Slot, Slots, Stops, at_rest, entered}
use Rattle.ix_files.specs.Slots.ComesBackAs.{kept}
use Rattle.ix_files.specs.Slots.IsOneOf.{first, later}
use Rattle.ix_files.specs.Steps.{Settles}
use Rattle.ix_files.specs.Views.{LeavesOnly, Passes, View}

-- Each stop leaves at each name what Q allows there.
abbrev pub Allows : (Place → Entry → Type 0) → Slots → Type 0
Allows Q slots = (place : Place) (entry : Entry) → StopsAt (slots place) entry → Q place entry

-- the same of what stops since old have left, and of the stops to come
pub record Run (Q : Place → Entry → Type 0) (old new : View) : Type 0 where
  pub moments : LeavesOnly (λ left. (place : Place) → Q place (left place).now) old new
  pub now : Allows Q new.slots

module _ {Q : Place → Entry → Type 0} where
  stopped : (slots left : Slots) → Allows Q slots → Stops slots left → (place : Place) → Q place (left place).now
  stopped slots left allows stop place = ⊎_elim
      (λ same. allows place _ (inl (ap (λ slot. slot.now) (same place))))
      (λ crash. allows place _ (inr (subst (MayLeave (slots place)) (sym (ap (λ slot. slot.now) (crash place).2)) (crash place).1)))
      stop

  -- before the first call
  pub started : (old : View) → Allows Q old.slots → ((left : Slots) → old.left_since old.moment left → Stops old.slots left) → Run Q old old
  started old allows only = record {
    moments = record {
      later = omega arith;
      each = λ left was. stopped old.slots left allows (only left was);
      before = λ t left le was. inl was;
    };
    now = allows;
  }

  -- one call more
  pub called : {step : Slots → Slots → Type 0} {old mid new : View} → Run Q old mid → Passes step mid new
      → ((slots : Slots) → step mid.slots slots → Allows Q slots) → Run Q old new
  called {old = old} {mid} {new} run passes allows = record {
    moments = record {
      later = omega (arith, run.moments.later, passes.later);
      each = λ left was. ⊎_elim (run.moments.each left) (λ did. stopped did.0 left (allows did.0 did.1) did.2) (passes.nothing_else old.moment left run.moments.later was);
      before = λ t left le was. ⊎_elim (run.moments.before t left le) (λ did. inr (stopped did.0 left (allows did.0 did.1) did.2))
          (passes.nothing_else t left (omega (arith, le, run.moments.later)) was);
    };
    now = ⊎_elim (λ same place entry stop. run.now place entry (subst (λ slot. StopsAt slot entry) (same place) stop)) (allows new.slots) passes.within;
  }

-- what is at a name stays
pub stays : {step : Slots → Slots → Type 0} {old new : View} → Passes step old new → (place : Place)
    → (step old.slots new.slots → (new.slots place).now ≡ (old.slots place).now) → (new.slots place).now ≡ (old.slots place).now
stays passes place did = ⊎_elim (λ same. ap (λ slot. slot.now) (same place)) did passes.within

-- a step that leaves all names but these alone
pub elsewhere : {R : Place → Entry → Type 0} {Excepted : Place → Type 0} (old new : Slots)
    → Allows (λ place entry. ¬ (Excepted place) → R place entry) old
    → ((place : Place) → ¬ (Excepted place) → new place ≡ old place) → Allows (λ place entry. ¬ (Excepted place) → R place entry) new
elsewhere old new allows same place entry stop other = allows place entry (subst (λ slot. StopsAt slot entry) (same place other) stop) other

by_test : {P : Type 0} (b : Bool) → (b ≡ true → P) × (P → b ≡ true) → P ⊎ (P → ⊥)
by_test true decides = inl (decides.0 refl)
by_test false decides = inr (not_from_Decides false decides refl)

-- two texts are one or not
decided : (xs ys : List ℕ) → (xs ≡ ys) ⊎ (xs ≢ ys)
decided xs ys = by_test (bytes_eq xs ys) (bytes_eq-Decides xs ys)

pub place_decided : (a b : Place) → (a ≡ b) ⊎ (a ≢ b)
place_decided a b = ⊎_elim
    (λ folder. ⊎_elim (λ name. inl (ap (λ f. record { folder = f; name = a.name }) folder ∙ ap (λ n. record { folder = b.folder; name = n }) name))
    (λ other. inr (λ same. other (ap (λ place. place.name) same))) (decided a.name b.name))
    (λ other. inr (λ same. other (ap (λ place. place.folder) same)))
    (decided a.folder b.folder)

-- what is at each name stays if a folder is synced
pub settled_now : (folder : List ℕ) (old new : Slots) → Settles folder old new → (place : Place) → (new place).now ≡ (old place).now
settled_now folder old new settles place = ⊎_elim (λ inside. ap (λ slot. slot.now) (settles.inside place inside)) (λ outside. ap (λ slot. slot.now) (settles.outside place outside))
    (decided place.folder folder)

first_or_later : (entry now : Entry) (before : List Entry) → IsOneOf entry (now ∷ before) → (entry ≡ now) ⊎ IsOneOf entry before
first_or_later entry now before first = inl refl
first_or_later entry now before (later more) = inr more

none_left : (entry : Entry) → IsOneOf entry [] → ⊥
none_left entry one = elim one [ ]

from_kept : (text : List ℕ) (left : Entry) → ComesBackAs (Kept text) left → left ≡ Kept text
from_kept text left kept = refl

-- what is there now
is_now : (slot : Slot) (entry was : Entry) → was ≡ slot.now → ComesBackAs was entry → MayLeave slot entry
is_now slot entry was same back = record { entry = slot.now; was = first; comes_back = subst (λ was. ComesBackAs was entry) same back }

at_rest_stops : (slot : Slot) (entry : Entry) → StopsAt (at_rest slot.now) entry → StopsAt slot entry
at_rest_stops slot entry stop = ⊎_elim inl (λ may. ⊎_elim (λ same. inr (is_now slot entry may.entry same may.comes_back)) (λ more. absurd (none_left may.entry more))
    (first_or_later may.entry slot.now [] may.was)) stop

pub entered_stops : (slot : Slot) (text : List ℕ) (entry : Entry) → StopsAt (entered slot (Kept text)) entry → (entry ≡ Kept text) ⊎ StopsAt slot entry
entered_stops slot text entry stop = ⊎_elim inl (λ may. ⊎_elim
    (λ same. inl (from_kept text entry (subst (λ was. ComesBackAs was entry) same may.comes_back)))
    (λ more. inr (inr (record { entry = may.entry; was = more; comes_back = may.comes_back })))
    (first_or_later may.entry (Kept text) (slot.now ∷ slot.before) may.was)) stop

-- nothing more may be left if a folder is synced
pub settled : {Q : Place → Entry → Type 0} (folder : List ℕ) (old new : Slots) → Allows Q old → Settles folder old new → Allows Q new
settled folder old new allows settles place entry stop = ⊎_elim
    (λ inside. allows place entry (at_rest_stops (old place) entry (subst (λ slot. StopsAt slot entry) (settles.inside place inside) stop)))
    (λ outside. allows place entry (subst (λ slot. StopsAt slot entry) (settles.outside place outside) stop))
    (decided place.folder folder)
