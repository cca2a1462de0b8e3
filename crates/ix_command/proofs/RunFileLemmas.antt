-- Run files that were opened: what their readers may yield is what they hold.
use Rattle.std.proofs.Common.{◌≡◌, ◌∙◌, ◌⊎◌, ℕ, List, [], ◌++◌, Option, Some, None, Result, Ok, Err, MatchResult, refl, ap, subst, inl, inr}
use Rattle.std.specs.Prelude.{IfSome}
use Rattle.std.specs.Io.KnownBytes.{Consumes}
use Rattle.ix_text.specs.Parts.{DictionaryEntry}
use Rattle.ix_run.specs.Heads.{Heading, IsLawfulHeading, parts_with}
use Rattle.ix_run.specs.Reading.{HasRead, MayYield}
use Rattle.ix_run.specs.RunReaders.{heading_read}
use Rattle.ix_run.specs.RunText.{heading_bytes, head_bytes, run_layout}
use Rattle.ix_run.specs.RunTextErrors.{IsRefusal}
use Rattle.ix_run.specs.Sources.{AreWhole, IsUnread}
use Rattle.ix_run.specs.RunReader.{RunReader}
use Rattle.ix_run.specs.RunTextError.{RunTextError}
use Rattle.ix_run.specs.RunTextError.TheVariants as run_text_error
use Rattle.ix_command.specs.MergeInputs.{IsOpened}
use Rattle.ix_command.specs.MergedRuns.{LacksHead, RefusesHead}

-- ---- one file

module _ {R : Type 0} (Holds : List ℕ → Type 0) (remaining : R → Option (List ℕ)) (file : R)
    (untold : (bytes : List ℕ) → remaining file ≡ None → Holds bytes) (known : IfSome (remaining file) Holds) where
  -- the bytes at the front of what is left are those of the file
  front_held : (left : Option (List ℕ)) (front : List ℕ) → Consumes (remaining file) left front → (rest : List ℕ) × Holds (front ++ rest)
  front_held left front taken = go (remaining file) refl known left taken
    where
      go : (a : Option (List ℕ)) → remaining file ≡ a → IfSome a Holds → (b : Option (List ℕ)) → Consumes a b front → (rest : List ℕ) × Holds (front ++ rest)
      go None is held b consumes = ([], untold (front ++ []) is)
      go (Some bytes) is held None consumes = absurd consumes
      go (Some bytes) is held (Some rest) consumes = (rest, subst Holds consumes held)

  whole_held : (text : List ℕ) → ((bytes : List ℕ) → remaining file ≡ Some bytes → bytes ≡ text) → Holds text
  whole_held text same = go (remaining file) refl known
    where
      go : (a : Option (List ℕ)) → remaining file ≡ a → IfSome a Holds → Holds text
      go None is held = untold text is
      go (Some bytes) is held = subst Holds (same bytes is) held

  pub opened : (reader : RunReader R) (left : Option (List ℕ)) → IsUnread HasRead reader → IsLawfulHeading (heading_read reader) → Consumes (remaining file) left (heading_bytes (heading_read reader))
      → ((bytes : List ℕ) (entries : List DictionaryEntry) → remaining file ≡ Some bytes → MayYield remaining reader [] entries
      → (bytes ≡ run_layout (heading_read reader).first (parts_with (heading_read reader) entries)) × AreWhole (heading_read reader) entries)
      → IsOpened Holds remaining reader
  opened reader left unread lawful taken yields =
      let front = front_held left (heading_bytes (heading_read reader)) taken in
      record {
        unread = unread;
        head = record { rest = front.0; held = front.1; lawful = lawful };
        yielded = λ entries may. whole_held _ (λ bytes is. (yields bytes entries is may).0);
      }

  -- a head that was refused is none, or a read or memory was refused
  pub refused : {T : Type 0} (P : T → Heading → List ℕ → Type 0) (result : Result T RunTextError) (error : RunTextError) → result ≡ Err error
      → ((heading : Heading) (rest : List ℕ) → IsLawfulHeading heading → remaining file ≡ Some (heading_bytes heading ++ rest) → MatchResult result (λ value. P value heading rest) IsRefusal)
      → (IsRefusal error ⊎ ¬ (IsRefusal error)) → RefusesHead Holds error
  unfolding head_bytes
  refused P result error is accepted (inl other) = inl other
  refused {T} P result error is accepted (inr fault) = inr (go (remaining file) refl known)
    where
      at : (heading : Heading) (rest : List ℕ) → (r : Result T RunTextError) → r ≡ Err error → MatchResult r (λ value. P value heading rest) IsRefusal → IsRefusal error
      at heading rest (Ok value) e matched = cc
      at heading rest (Err other) e matched = let same : other ≡ error = cc in subst IsRefusal same matched

      go : (a : Option (List ℕ)) → remaining file ≡ a → IfSome a Holds → LacksHead Holds
      go None none held = record { text = []; held = untold [] none; none = λ heading rest lawful. no_bytes heading rest }
        where
          no_bytes : (heading : Heading) (rest : List ℕ) → [] ≡ heading_bytes heading ++ rest → ⊥
          no_bytes heading rest e = cc
      go (Some bytes) some held = record {
        text = bytes;
        held = held;
        none = λ heading rest lawful e. fault (at heading rest result is (accepted heading rest lawful (some ∙ ap Some e)));
      }

-- an error of a head says that a read or memory was refused, or it does not
pub is_other_or_not : (error : RunTextError) → IsRefusal error ⊎ ¬ (IsRefusal error)
is_other_or_not run_text_error.Read = inl tt
is_other_or_not run_text_error.Memory = inl tt
is_other_or_not _ = inr (λ wrong. wrong)
