-- A list that was checked, before any posting is taken, and when none is left.
use Rattle.std.proofs.Common.{◌≡◌, ◌≤◌, ◌↔◌, ℕ, List, [], ◌∷◌, ◌++◌, drop, refl, sym, ap, subst, ◌∙◌, arith, append-nil, take-append-drop}
use Rattle.ix_text.specs.Parts.{DocumentRow, Posting}
use Rattle.ix_postings.specs.TokenMarks.{HoldsNumbers}
use Rattle.ix_postings.specs.declared.token_marks.TokenMarks.{TokenMarks}
use Rattle.ix_text.specs.TokenNumbers.{AreDistinct, numbers_of_postings}
use Rattle.ix_postings.specs.CheckedLists.{SeesList}
use Rattle.ix_run_text.specs.CheckedLists.{IsChecked, ListLies}

-- marks with room for the same numbers
pub same_room : {old new : ℕ} → ((top : ℕ) → (top ≤ old) ↔ (top ≤ new)) → new ≡ old
same_room {old} {new} same = (let up = (same old).0 (omega arith) in let down = (same new).1 (omega arith) in omega (arith, up, down))

-- of a list of which nothing is left, exactly what was told before is marked
pub none_checked : (rows : List DocumentRow) (marks : TokenMarks) (next documents size : ℕ) (held numbers : List ℕ) → documents ≡ 0 → IsChecked rows marks next documents size held numbers → HoldsNumbers marks numbers × AreDistinct numbers
none_checked rows marks next documents size held numbers none checked = by checked.postings checked.lies checked.marked
  where
    by : (postings : List Posting) → ListLies rows next documents size held numbers postings checked.behind → HoldsNumbers marks (numbers ++ numbers_of_postings rows postings) → HoldsNumbers marks numbers × AreDistinct numbers
    by [] lies marked = (subst (HoldsNumbers marks) (append-nil numbers) marked, subst AreDistinct (append-nil numbers) lies.free)
    by (p ∷ ps) lies marked = absurd (let counted = lies.counted in omega (arith, counted, none))

-- whatever is buffered behind it
pub drained_on : (rows : List DocumentRow) (marks : TokenMarks) (next documents size : ℕ) (held later numbers : List ℕ) → documents ≡ 0 → IsChecked rows marks next documents size held numbers → IsChecked rows marks next documents size later numbers
drained_on rows marks next documents size held later numbers none checked = by checked.postings checked.lies checked.marked
  where
    by : (postings : List Posting) → ListLies rows next documents size held numbers postings checked.behind → HoldsNumbers marks (numbers ++ numbers_of_postings rows postings)
        → IsChecked rows marks next documents size later numbers
    by [] lies marked = record {
      postings = [];
      behind = later;
      lies = record { fit = tt; counted = lies.counted; sized = lies.sized; spelled = refl; free = lies.free };
      marked = marked;
    }
    by (p ∷ ps) lies marked = absurd (let counted = lies.counted in omega (arith, counted, none))

-- no list
pub checked_none : (rows : List DocumentRow) (marks : TokenMarks) (next : ℕ) (held numbers : List ℕ) → HoldsNumbers marks numbers → AreDistinct numbers → IsChecked rows marks next 0 0 held numbers
checked_none rows marks next held numbers holds distinct = record {
  postings = [];
  behind = held;
  lies = record { fit = tt; counted = refl; sized = refl; spelled = refl; free = subst AreDistinct (sym (append-nil numbers)) distinct };
  marked = subst (HoldsNumbers marks) (sym (append-nil numbers)) holds;
}

-- a list that was gone over
pub list_checked : (rows : List DocumentRow) (old marks : TokenMarks) (held : List ℕ) (size documents after : ℕ) (numbers : List ℕ) → SeesList AreDistinct (HoldsNumbers old) (HoldsNumbers marks) rows held size documents after → HoldsNumbers old numbers → AreDistinct numbers
    → IsChecked rows marks 0 documents size held numbers
list_checked rows old marks held size documents after numbers list holds distinct =
    let all = list.seen numbers holds distinct in
    record {
      postings = list.postings;
      behind = drop size held;
      lies = record {
        fit = list.fit;
        counted = list.counted;
        sized = sym list.sized;
        spelled = sym (take-append-drop size held) ∙ ap (λ (bytes : List ℕ). bytes ++ drop size held) list.coded;
        free = all.0;
      };
      marked = all.1;
    }
