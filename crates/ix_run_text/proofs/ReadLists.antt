-- The list of a term, buffered, where a lawful one comes first.
use Rattle.std.proofs.Common.{Result, Ok, Err, false, is_ok, OnErr, ◌≡◌, ℕ, ◌+◌, ◌≤◌, List, [], ◌++◌, length, take, drop, sum_by, Option, Some, IfSome, sym, ap, subst, ◌∙◌, arith, append-nil, take-append-drop}
use Rattle.std.proofs.lemmas.List.{take-append-le}
use Rattle.ix_text.specs.Parts.{DocumentRow, Posting}
use Rattle.ix_postings.specs.TokenMarks.{HoldsNumbers}
use Rattle.ix_text.specs.TokenNumbers.{AreDistinct, numbers_of_postings}
use Rattle.ix_postings.specs.declared.token_marks.TokenMarks.{TokenMarks}
use Rattle.ix_vbyte.specs.Postings.{list_bytes}
use Rattle.ix_vbyte.proofs.Postings.{list_apart}
use Rattle.ix_run_text.specs.Inputs.{BeginsWith}
use Rattle.ix_postings.specs.CheckedLists.{ListStands, SeesList}
use Rattle.ix_postings.specs.NextPostings.{PostingsFit}
use Rattle.ix_postings.proofs.FitPostings.{fit_are}

-- what came of it is a front of it
pub came_front : (held more list rest : List ℕ) (came : ℕ) → list ++ rest ≡ held ++ more → came ≤ length held → came ≤ length list → take came held ++ drop came list ≡ list
came_front held more list rest came e within short =
    ap (λ (front : List ℕ). front ++ drop came list)
    (sym (take-append-le came held more within) ∙ ap (take came) (sym e) ∙ take-append-le came list rest short)
    ∙ take-append-drop came list

pub if_failed : {T E P : Type 0} (result : Result T E) → is_ok result ≡ false → OnErr result P → P
if_failed (Ok x) failed holds = absurd (cc)
if_failed (Err e) failed holds = holds

module _ (rows : List DocumentRow) (marks : TokenMarks) (numbers : List ℕ) (postings : List Posting) (rest held : List ℕ) (came documents : ℕ) where
  abbrev pub front_stands : HoldsNumbers marks numbers → PostingsFit rows 0 postings → AreDistinct (numbers ++ numbers_of_postings rows postings) → length postings ≡ documents → came ≤ length held → came ≤ length (list_bytes postings)
      → (known : Option (List ℕ)) → known ≡ Some (list_bytes postings ++ rest) → IfSome known (λ bytes. BeginsWith held bytes) → ListStands AreDistinct (HoldsNumbers marks) rows held came documents
  front_stands holds fit free counted within short known is begins =
      let front : BeginsWith held (list_bytes postings ++ rest) = subst (λ (k : Option (List ℕ)). IfSome k (λ bytes. BeginsWith held bytes)) is begins in
      record {
        numbers = numbers;
        held = holds;
        postings = postings;
        missing = drop came (list_bytes postings);
        fit = fit;
        free = free;
        counted = counted;
        spelled = came_front held front.rest (list_bytes postings) rest came front.is within short;
      }

  -- if it was found whole, all of it came
  pub whole_came : (stands : ListStands AreDistinct (HoldsNumbers marks) rows held came documents) (after : ℕ) (new : TokenMarks) → SeesList AreDistinct (HoldsNumbers marks) (HoldsNumbers new) rows held came documents after → came ≡ length (list_bytes stands.postings)
  whole_came stands after new list =
      let top : ℕ = length rows + sum_by (λ row. row.tokens) rows in
      let counted = list.counted in
      let also = stands.counted in
      let found = list_apart 0 top list.postings stands.postings stands.missing [] (fit_are rows top (omega arith) (omega arith) 0 list.postings list.fit) (fit_are rows top (omega arith) (omega arith) 0 stands.postings stands.fit)
      (omega (arith, counted, also)) (ap (λ (bytes : List ℕ). bytes ++ stands.missing) (sym list.coded) ∙ stands.spelled ∙ sym (append-nil (list_bytes stands.postings))) in
      list.sized ∙ ap (λ (ps : List Posting). length (list_bytes ps)) found.0
