-- A stop after a stop is one.
use Rattle.std.specs.Prelude.{◌≡◌, [], ◌∷◌}
use Rattle.std.proofs.Common.{◌∙◌, refl, subst, inl, inr}
use Rattle.ix_files.specs.Slots.{ComesBackAs, Entry, IsOneOf, MayLeave, Slot, Slots, Stops, at_rest, nothing, growing, whole, kept, first, later}

comes_back_again : {entry left after : Entry} → ComesBackAs entry left → ComesBackAs left after → ComesBackAs entry after
comes_back_again nothing nothing = nothing
comes_back_again (growing bytes) kept = growing bytes
comes_back_again (whole bytes) kept = whole bytes
comes_back_again kept kept = kept

only_one : {one entry : Entry} → IsOneOf entry (one ∷ []) → entry ≡ one
only_one first = refl
only_one (later none) = elim none [ ]

may_leave_again : {slot : Slot} {left after : Entry} → MayLeave slot left → MayLeave (at_rest left) after → MayLeave slot after
may_leave_again {after = after} once again = record {
  entry = once.entry;
  was = once.was;
  comes_back = comes_back_again once.comes_back
      (subst (λ entry. ComesBackAs entry after) (only_one again.was) again.comes_back);
}

pub stops_stops : {slots left after : Slots} → Stops slots left → Stops left after → Stops slots after
stops_stops (inl same) (inl as_well) = inl (λ place. as_well place ∙ same place)
stops_stops (inl same) (inr crashes) = inr (λ place. let crash = crashes place in
    (crash.0, subst (λ slot. MayLeave slot crash.0) (same place) crash.1, crash.2))
stops_stops (inr crashes) (inl same) = inr (λ place. let crash = crashes place in
    (crash.0, crash.1, same place ∙ crash.2))
stops_stops (inr crashes) (inr again) = inr (λ place. let crash = crashes place in let next = again place in
    (next.0, may_leave_again crash.1 (subst (λ slot. MayLeave slot next.0) crash.2 next.1), next.2))
