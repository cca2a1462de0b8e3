-- What the slot of a text tells of it.
use Rattle.std.proofs.Common.{◌≡◌, ℕ, ◌+◌, ◌<◌, ◌≤◌, ◌↔◌, inl, inr, Bool, true, false, List, [], bytes_eq, map, length, get_or, set, Some, refl, sym, ap, ◌∙◌, subst, arith}
use Rattle.std.proofs.lemmas.Bool.{cases_eq, cases_lt, eqb-true}
use Rattle.std.proofs.lemmas.List.{length-map, get_or-set_other, get_or-set_same}
use Rattle.std.proofs.lemmas.Option.{get_or_from_slice_get, slice_get-get_or, slice_get-map, slice_get_read, slice_get_within}
use Rattle.std.specs.Cmp.Lexicographic.{bytes_decides}
use Rattle.std.specs.Prelude.{◌-◌, ◌*◌, ◌%◌, Contains, slice_get, slice_index, slice_index_or, option_map, IsTrue}
use Rattle.ix_text.specs.StopSlots.{AreSlotsOf, IsSlotted, admits, slot_number}
use Rattle.ix_text.specs.declared.stop_slots.Slot.{Slot}
use Rattle.ix_text.specs.declared.stop_slots.Slot.TheVariants.{Empty, One}
use Rattle.ix_text.proofs.StopSetLemmas.{is_stop_set-nil}

pub is_slotted-nil : (slots : List Slot) → IsSlotted [] slots
is_slotted-nil slots = record { stop_set = is_stop_set-nil; slotted = λ place term at. absurd (let within = slice_get_within [] place term at in omega arith) }

place_of : (terms : List (List ℕ)) (term : List ℕ) → Contains terms term → (place : ℕ) × (slice_get terms place ≡ Some term)
place_of terms term (place, low, is) = (place, slice_get-get_or terms place term low ∙ ap Some is)

-- no term has the slot, so none is the text
pub none_has : (terms : List (List ℕ)) (slots : List Slot) (term : List ℕ) → AreSlotsOf slots terms → slice_index_or slots (slot_number term) Empty ≡ Empty → ¬ (Contains terms term)
none_has terms slots term are empty has =
    let (place, at) = place_of terms term has in
    let admitted : false ≡ true = ap (λ slot. admits slot place) (sym empty) ∙ are place term at in cc

-- one term has it, so that decides
pub one_has : (terms : List (List ℕ)) (slots : List Slot) (term : List ℕ) (place : ℕ) (answer : Bool) → AreSlotsOf slots terms → slice_index_or slots (slot_number term) Empty ≡ One place → (IsTrue answer ↔ (slice_get terms place ≡ Some term)) → (IsTrue answer ↔ Contains terms term)
one_has terms slots term place answer are one told = (
  λ t.
      let at : slice_get terms place ≡ Some term = told.0 t in
      (place, slice_get_within terms place term at, get_or_from_slice_get terms place term term at),
  λ has.
      let (other, at) = place_of terms term has in
      let admitted : admits (One place) other ≡ true = ap (λ slot. admits slot other) (sym one) ∙ are other term at in
      let same : other ≡ place = sym (eqb-true place other admitted) in
      let P : ℕ → Type 0 = λ n. slice_get terms n ≡ Some term in told.1 (subst P same at),
)

-- the slot of a text from its bytes
pub slot_from : (text : List ℕ) (a b c d : ℕ) → a ≡ slice_index text 0 → b ≡ slice_index text 2 → c ≡ slice_index text (length text - 2) → d ≡ slice_index text (length text - 1) → (length text % 32 * 175 + a * 82 + b * 153 + c * 36 + d * 6) % 1024 ≡ slot_number text
unfolding slot_number
slot_from text a b c d p q r s = rw (p, q, r, s) refl

-- ---- the slots of the terms before a place

abbrev pub AreSlotsBefore : List Slot → List (List ℕ) → ℕ → Type 0
AreSlotsBefore slots terms end = (place : ℕ) (term : List ℕ) → place < end → slice_get terms place ≡ Some term → admits (slice_index_or slots (slot_number term) Empty) place ≡ true

-- the next term joins its slot, which goes on to admit what it did
pub slots_before-more : (slots : List Slot) (terms : List (List ℕ)) (end : ℕ) (term : List ℕ) (new : Slot) → slice_get terms end ≡ Some term → slot_number term < length slots → admits new end ≡ true → ((other : ℕ) → admits (slice_index_or slots (slot_number term) Empty) other ≡ true → admits new other ≡ true)
    → AreSlotsBefore slots terms end → AreSlotsBefore (set slots (slot_number term) new) terms (end + 1)
slots_before-more slots terms end term new at low here others before place other below there =
    elim (cases_eq (slot_number other) (slot_number term)) [
      | inl same ↦
          let now : slice_index_or (set slots (slot_number term) new) (slot_number other) Empty ≡ new = ap (λ n. slice_index_or (set slots (slot_number term) new) n Empty) same ∙ get_or-set_same slots (slot_number term) new Empty low in
          ap (λ slot. admits slot place) now
          ∙ elim (cases_lt place end) [
            | inl less ↦
                let held : slice_index_or slots (slot_number other) Empty ≡ slice_index_or slots (slot_number term) Empty = ap (λ n. slice_index_or slots n Empty) same in
                others place (ap (λ slot. admits slot place) (sym held) ∙ before place other less there)
            | inr more ↦ let last : end ≡ place = omega arith in let P : ℕ → Type 0 = λ n. admits new n ≡ true in subst P last here
          ]
      | inr apart ↦
          let kept : slice_index_or (set slots (slot_number term) new) (slot_number other) Empty ≡ slice_index_or slots (slot_number other) Empty = get_or-set_other slots (slot_number term) (slot_number other) new Empty apart in
          ap (λ slot. admits slot place) kept
          ∙ elim (cases_lt place end) [
            | inl less ↦ before place other less there
            | inr more ↦
                let last : place ≡ end = omega arith in
                let one : other ≡ term = sym (get_or_from_slice_get terms place other [] there) ∙ ap (λ n. get_or terms n []) last ∙ get_or_from_slice_get terms end term [] at in
                absurd (apart (ap slot_number one))
          ]
    ]

-- ---- the term at a place

pub held_at : {X : Type 0} (f : X → List ℕ) (terms : List X) (place : ℕ) (held : X) → place < length terms → held ≡ get_or terms place held → slice_get (map f terms) place ≡ Some (f held)
held_at f terms place held low is = slice_get-map f terms place ∙ ap (option_map f) (slice_get_read terms (length terms) place held refl low is)

pub is_there : {X : Type 0} (f : X → List ℕ) (terms : List X) (place : ℕ) (held : X) (text term : List ℕ) (answer : Bool) → place < length terms → held ≡ get_or terms place held → text ≡ f held → answer ≡ bytes_eq text term → (IsTrue answer ↔ (slice_get (map f terms) place ≡ Some term))
is_there f terms place held text term answer low is spelled told =
    let at = held_at f terms place held low is in (
      λ t. at ∙ ap Some (sym spelled ∙ (bytes_decides text term).0 (sym told ∙ t)),
      λ there. told ∙ (bytes_decides text term).1 (spelled ∙ (let both : Some (f held) ≡ Some term = sym at ∙ there in cc)),
    )

pub is_past : {X : Type 0} (f : X → List ℕ) (terms : List X) (place : ℕ) (term : List ℕ) → length terms ≤ place → (IsTrue false ↔ (slice_get (map f terms) place ≡ Some term))
is_past f terms place term past = (
  λ t. absurd cc,
  λ there. absurd (let within = slice_get_within (map f terms) place term there in omega (arith, within, length-map terms f)),
)
