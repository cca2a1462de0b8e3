-- A gram is found by halving what is left of ascending grams.
use Rattle.std.proofs.Common.{◌≡◌, ℕ, ◌<◌, ◌≤◌, List, [], map, length, get_or, Some, None, Ordering, Equal, sym, ap, ap₂, ◌∙◌, ⊎_elim, arith}
use Rattle.std.proofs.lemmas.Bool.{cases_lt}
use Rattle.std.proofs.lemmas.List.{get_or-map, length-map}
use Rattle.std.proofs.lemmas.Option.{slice_get-get_or}
use Rattle.ix_text.specs.Parts.{GramEntry}
use Rattle.ix_text.proofs.StopSetLemmas.{same_from_Equal}
use Rattle.ix_file.specs.OpenedGrams.{FindsGram, gram_in, grams_in}
use Rattle.ix_file.proofs.Halving.{IsBetween, apart_by_less, cmp}
use Rattle.ix_file.specs.declared.open.grams.GramRow.{GramRow}

-- the grams of entries
abbrev pub texts_of : List GramEntry → List (List ℕ)
texts_of grams = map (λ entry. entry.gram) grams

no_entry : GramEntry
no_entry = record { gram = []; numbers = [] }

text_at : (grams : List GramEntry) (k : ℕ) (d : GramEntry) → k < length grams → get_or (texts_of grams) k [] ≡ (get_or grams k d).gram
text_at grams k d low = get_or-map (λ entry. entry.gram) grams k d [] low

pub found-at : (grams : List GramEntry) (gram : List ℕ) (middle : ℕ) → middle < length grams → cmp (get_or (texts_of grams) middle []) gram ≡ Equal → FindsGram grams gram (Some middle)
found-at grams gram middle low tie = record {
  there = (get_or grams middle no_entry, slice_get-get_or grams middle no_entry low, sym (text_at grams middle no_entry low) ∙ same_from_Equal (get_or (texts_of grams) middle []) gram tie);
  nowhere = tt;
}

pub found-nowhere : (grams : List GramEntry) (gram : List ℕ) (low high : ℕ) → IsBetween (texts_of grams) gram low high → high ≤ low → FindsGram grams gram None
found-nowhere grams gram low high b none = record {
  there = tt;
  nowhere = λ k d short same.
      let is : get_or (texts_of grams) k [] ≡ gram = text_at grams k d short ∙ same in
      ⊎_elim (λ (before : k < low). apart_by_less (get_or (texts_of grams) k []) gram (b.below k before) is)
      (λ (not_before : low ≤ k). apart_by_less gram (get_or (texts_of grams) k []) (b.above k (omega arith) (omega (arith, short, length-map grams (λ entry. entry.gram)))) (sym is))
      (cases_lt k low);
}

-- what the row at a place was compared to is the gram there
pub compared : (section : List ℕ) (rows : List GramRow) (wanted : List ℕ) (k : ℕ) (d : GramRow) (bytes gram : List ℕ) (result o : Ordering)
    → k < length rows → bytes ≡ (gram_in section (get_or rows k d)).gram → gram ≡ wanted → result ≡ cmp bytes gram → result ≡ o
    → cmp (get_or (texts_of (grams_in section rows)) k []) wanted ≡ o
compared section rows wanted k d bytes gram result o low is same answer was =
    let at : get_or (texts_of (grams_in section rows)) k [] ≡ bytes =
    text_at (grams_in section rows) k (gram_in section d) (omega (arith, length-map rows (gram_in section)))
    ∙ ap (λ entry. entry.gram) (get_or-map (gram_in section) rows k d (gram_in section d) low) ∙ sym is in
    ap₂ cmp at (sym same) ∙ sym answer ∙ was
