-- What versions keep, and what is found and named by it.
use Rattle.std.proofs.Common.{◌≡◌, ℕ, List, [], Some, map, refl, sym, ap, ◌∙◌, subst, arith}
use Rattle.std.specs.Prelude.{Contains, Option}
use Rattle.ix_text.specs.Collections.{Document}
use Rattle.ix_text.specs.Parts.{DocumentRow, row_of}
use Rattle.ix_query.specs.Tree.{Tree}
use Rattle.ix_scan.proofs.Members.{none_in_nil}
use Rattle.ix_scan.proofs.ScanLemmas.{scan_of_same}
use Rattle.ix_live.specs.declared.entry.Entry.{Entry}
use Rattle.ix_live.specs.declared.segment.Segment.{Segment}
use Rattle.ix_live.specs.Findings.{AreFound, with_removed}
use Rattle.ix_live.specs.Names.{AreNamesOf, name_in_rows}
use Rattle.ix_live.specs.Operations.{Operation, documents_added, numbers_removed, state_after}
use Rattle.ix_live.specs.Segments.{rows_in}
use Rattle.ix_live.specs.StateScans.{IsStateScan}
use Rattle.ix_live.specs.Versions.{IsStored}
use Rattle.ix_live.proofs.FoundLemmas.{rows_of_all}
use Rattle.ix_live.proofs.NameLemmas.{map_some, names_same}

module _ (stop : List (List ℕ)) (segments : List (Option Segment)) (entries : List Entry) (removed : List ℕ) (count tokens : ℕ) (operations : List Operation)
    (stored : IsStored stop segments entries removed count tokens operations) where
  pub state_found : (query : Tree) (numbers : List ℕ) → AreFound segments removed query numbers → IsStateScan (state_after stop operations) query numbers
  state_found query numbers found =
      let scan = subst (λ (documents : List Document). IsStateScan (with_removed stop documents removed) query numbers) (sym stored.documents) (found stop stored.lists stored.indexed) in
      scan_of_same (state_after stop operations).collection (Contains removed) (Contains (numbers_removed operations)) query numbers stored.all_removed scan

  pub rows_are : rows_in segments ≡ map row_of (documents_added operations)
  rows_are = rows_of_all stop segments stored.lists stored.indexed ∙ ap (map row_of) (sym stored.documents)

  pub names_are : {X : Type 0} (f : X → List ℕ) (numbers : List ℕ) (names : List X) → map (λ name. Some (f name)) names ≡ map (name_in_rows (rows_in segments)) numbers → AreNamesOf (documents_added operations) numbers (map f names)
  names_are f numbers names are =
      map_some f names ∙ are ∙ ap (λ (rows : List DocumentRow). map (name_in_rows rows) numbers) rows_are ∙ names_same (documents_added operations) numbers

-- nothing was done yet
pub stored_first : (stop : List (List ℕ)) → IsStored stop [] [] [] 0 0 []
stored_first stop = record {
  lists = [];
  indexed = tt;
  documents = refl;
  cut = refl;
  ascending = λ k below. absurd (omega arith);
  all_removed = λ n. ((λ h. absurd (none_in_nil n h)), (λ h. absurd (none_in_nil n h)));
  counted = refl;
  few = omega arith;
  tokens_counted = refl;
  few_tokens = omega arith;
  falling = tt;
}
