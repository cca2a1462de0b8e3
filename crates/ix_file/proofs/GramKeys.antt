-- The entries of grams of terms are right ones, and right ones that list each gram of the terms are those of the terms.
use Rattle.std.proofs.Common.{ℕ, List, length, get_or, All, Contains, arith}
use Rattle.std.proofs.lemmas.List.Elements.{All-contains, Contains-get_or}
use Rattle.std.proofs.lemmas.Option.{slice_get_within}
use Rattle.ix_text.specs.ByteOrder.{IsAscending}
use Rattle.ix_text.specs.Parts.{GramEntry, HasNumber, IsGramEntry}
use Rattle.ix_vbyte.proofs.Gaps.{Ascends-rising, Ascends-from}
use Rattle.ix_index_text.specs.Grams.{AreGramsOfTerms, IsGramOfTerm}
use Rattle.ix_file.specs.OpenedGrams.{IsRightEntry}
use Rattle.ix_file.proofs.GramFinding.{texts_of}

module _ (terms : List (List ℕ)) where
  -- the entries of the terms are right
  right_entry : (grams : List GramEntry) → AreGramsOfTerms terms grams → (e : GramEntry) → Contains grams e → IsRightEntry terms e
  right_entry grams are e has =
      let is = All-contains IsGramEntry grams e are.each has in
      let right : (n : ℕ) → Contains e.numbers n → IsGramOfTerm terms e.gram n = λ n listed. (are.related e.gram n).0 (record { numbers = e.numbers; among = has; listed = listed }) in
      record {
        some = is.0;
        numbers = record {
          ascend = Ascends-from 0 (length terms) e.numbers is.1
              (λ k d low. let of = right (get_or e.numbers k d) (Contains-get_or e.numbers k d low) in (omega arith, slice_get_within terms (get_or e.numbers k d) of.term of.numbered));
          right = λ k d low. right (get_or e.numbers k d) (Contains-get_or e.numbers k d low);
        };
      }

  pub right_entries : (grams : List GramEntry) → AreGramsOfTerms terms grams → All (IsRightEntry terms) grams
  right_entries grams are k d low = right_entry grams are (get_or grams k d) (Contains-get_or grams k d low)

  right_number : (grams : List GramEntry) → All (IsRightEntry terms) grams → (g : List ℕ) (n : ℕ) → HasNumber grams g n → IsGramOfTerm terms g n
  right_number grams right g n has =
      let e = All-contains (IsRightEntry terms) grams (record { gram = g; numbers = has.numbers }) right has.among in
      All-contains (IsGramOfTerm terms g) has.numbers n e.numbers.right has.listed

  -- where each gram of the terms is listed, right ones are those of the terms
  pub all_listed : (grams : List GramEntry) → IsAscending (texts_of grams) → All (IsRightEntry terms) grams → ((g : List ℕ) (n : ℕ) → IsGramOfTerm terms g n → HasNumber grams g n) → AreGramsOfTerms terms grams
  all_listed grams up right all = record {
    ascending = up;
    each = λ k d low. let e = right k d low in (e.some, Ascends-rising 0 (length terms) (get_or grams k d).numbers e.numbers.ascend);
    related = λ g n. (right_number grams right g n, all g n);
  }
