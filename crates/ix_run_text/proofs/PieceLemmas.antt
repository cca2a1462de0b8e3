-- Reading pieces one behind another, each of which may have to fit those before it.
use Rattle.std.proofs.Common.{◌≡◌, ℕ, ◌+◌, ◌<◌, List, [], ◌∷◌, ◌++◌, Option, Some, length, take, drop, get_or, refl, sym, ap, ap₂, ◌∙◌, subst, arith, append_assoc, append-nil, inl, inr}
use Rattle.std.proofs.KnownBytes.{Consumes-nil, Consumes-trans}
use Rattle.std.proofs.lemmas.Bool.{cases_lt}
use Rattle.std.proofs.lemmas.List.{take_more, drop_more, take_all, drop_all, take-append-le, take_at, get_or_at, get_or_append_left, length-append}
use Rattle.std.proofs.lemmas.List.Concat.{flat_map-append}
use Rattle.std.specs.Io.KnownBytes.{Consumes}
use Rattle.std.specs.List.{flat_map}
use Rattle.ix_run_text.specs.Pieces.{EachFits, ArePiecesRead}
use Rattle.ix_run_text.specs.RunTextErrors.{IsRefusal}
use Rattle.ix_run_text.specs.declared.run_text_error.RunTextError.{RunTextError}

module _ {X : Type 0} (spelled : X → List ℕ) (Fits : List X → X → Type 0) where
  pub pieces_none : (old : Option (List ℕ)) (count : ℕ) → ArePiecesRead spelled Fits old old [] count
  pieces_none old count = record {
    taken = Consumes-nil old;
    fits = λ n none lt. absurd (omega arith);
    accepted = λ pieces rest len each e. (refl, e);
  }

  -- the next piece of those that stand there
  next_piece : (pieces : List X) (rest : List ℕ) (n : ℕ) (none : X) → n < length pieces
      → flat_map spelled (drop n pieces) ++ rest ≡ spelled (get_or pieces n none) ++ (flat_map spelled (drop (n + 1) pieces) ++ rest)
  next_piece pieces rest n none lt =
      ap (λ (ps : List X). flat_map spelled ps ++ rest) (drop_more pieces n none lt)
      ∙ append_assoc (spelled (get_or pieces n none)) (flat_map spelled (drop (n + 1) pieces)) rest

  module _ (old middle : Option (List ℕ)) (read : List X) (count : ℕ) (so_far : ArePiecesRead spelled Fits old middle read count) (few : length read < count) where
    -- what stands next, where such pieces stand
    pub awaited : (pieces : List X) (rest : List ℕ) (none : X) → length pieces ≡ count → EachFits Fits pieces → old ≡ Some (flat_map spelled pieces ++ rest)
        → Fits read (get_or pieces (length read) none) × (middle ≡ Some (spelled (get_or pieces (length read) none) ++ (flat_map spelled (drop (length read + 1) pieces) ++ rest)))
    awaited pieces rest none len each e =
        let known = so_far.accepted pieces rest len each e in
        let lt : length read < length pieces = omega arith in (
          subst (λ (before : List X). Fits before (get_or pieces (length read) none)) (sym known.0) (each (length read) none lt),
          known.1 ∙ ap (λ (bytes : List ℕ). Some bytes) (next_piece pieces rest (length read) none lt),
        )

    -- a piece is refused only for want of a read or of memory
    pub pieces_refused : (error : RunTextError) → ((other : X) (rest : List ℕ) → Fits read other → middle ≡ Some (spelled other ++ rest) → IsRefusal error)
        → (pieces : List X) (rest : List ℕ) → length pieces ≡ count → EachFits Fits pieces → old ≡ Some (flat_map spelled pieces ++ rest) → IsRefusal error
    pieces_refused error only [] rest len each e = absurd (omega arith)
    pieces_refused error only (first ∷ others) rest len each e =
        let next = awaited (first ∷ others) rest first len each e in
        only (get_or (first ∷ others) (length read) first) (flat_map spelled (drop (length read + 1) (first ∷ others)) ++ rest) next.0 next.1

    fits_more : (n : ℕ) (none : X) (piece : X) → n < length (read ++ piece ∷ []) → Fits read piece → Fits (take n (read ++ piece ∷ [])) (get_or (read ++ piece ∷ []) n none)
    fits_more n none piece lt fits =
        elim (cases_lt n (length read)) [
          | inl below ↦
              subst (λ (x : X). Fits (take n (read ++ piece ∷ [])) x) (sym (get_or_append_left read (piece ∷ []) none n below))
              (subst (λ (before : List X). Fits before (get_or read n none)) (sym (take-append-le n read (piece ∷ []) (omega arith))) (so_far.fits n none below))
          | inr above ↦
              let len : length read ≡ n = omega (arith, length-append read (piece ∷ [])) in
              subst (λ (x : X). Fits (take n (read ++ piece ∷ [])) x) (sym (get_or_at read piece [] none n len))
              (subst (λ (before : List X). Fits before piece) (sym (take_at read (piece ∷ []) n len)) fits)
        ]

    pub pieces_more : (new : Option (List ℕ)) (piece : X) → Consumes middle new (spelled piece) → Fits read piece
        → ((other : X) (rest : List ℕ) → Fits read other → middle ≡ Some (spelled other ++ rest) → (piece ≡ other) × (new ≡ Some rest))
        → ArePiecesRead spelled Fits old new (read ++ piece ∷ []) count
    pieces_more new piece taken fits only = record {
      taken = subst (Consumes old new) (sym (flat_map-append spelled read (piece ∷ []) ∙ ap (λ (bytes : List ℕ). flat_map spelled read ++ bytes) (append-nil (spelled piece))))
          (Consumes-trans old middle new (flat_map spelled read) (spelled piece) so_far.taken taken);
      fits = λ n none lt. fits_more n none piece lt fits;
      accepted = λ pieces rest len each e.
          let next = awaited pieces rest piece len each e in
          let known = so_far.accepted pieces rest len each e in
          let found = only (get_or pieces (length read) piece) (flat_map spelled (drop (length read + 1) pieces) ++ rest) next.0 next.1 in
          let lt : length read < length pieces = omega arith in
          let long : length (read ++ piece ∷ []) ≡ length read + 1 = length-append read (piece ∷ []) in (
            ap₂ (λ (xs ys : List X). xs ++ ys) known.0 (ap (λ (x : X). x ∷ []) found.0) ∙ sym (ap (λ (n : ℕ). take n pieces) long ∙ take_more pieces (length read) piece lt),
            found.1 ∙ ap (λ (n : ℕ). Some (flat_map spelled (drop n pieces) ++ rest)) (sym long),
          );
    }

  -- all were read
  pub pieces_all : (old new : Option (List ℕ)) (read : List X) (count : ℕ) → ArePiecesRead spelled Fits old new read count → length read ≡ count
      → (pieces : List X) (rest : List ℕ) → length pieces ≡ count → EachFits Fits pieces → old ≡ Some (flat_map spelled pieces ++ rest) → (read ≡ pieces) × (new ≡ Some rest)
  pieces_all old new read count so_far full pieces rest len each e =
      let known = so_far.accepted pieces rest len each e in (
        known.0 ∙ take_all (length read) pieces (omega arith),
        known.1 ∙ ap (λ (ps : List X). Some (flat_map spelled ps ++ rest)) (drop_all (length read) pieces (omega arith)),
      )
