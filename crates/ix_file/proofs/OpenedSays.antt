-- What an opened index says of its collection.
use Rattle.std.proofs.Common.{ℕ, ◌<◌, List, map, length, Contains, refl, ap, ◌∙◌, subst, arith}
use Rattle.std.proofs.lemmas.List.{get_or-map, length-map}
use Rattle.std.proofs.lemmas.List.Elements.{All-contains}
use Rattle.ix_text.specs.Parts.{GramEntry, HasNumber, IsEntryOf}
use Rattle.ix_file.specs.OpenedLaws.{EntriesHavePostings, GramsHaveNumbers, OthersAreNoGram, OthersHaveNoPosting}
use Rattle.ix_index_text.proofs.GramLists.{one_entry}

pub entries_have_postings : EntriesHavePostings
entries_have_postings opened version collection entry is has number position =
    (All-contains (IsEntryOf collection) opened.parts.entries entry is.parts.entries has).posted number position

pub others_have_no_posting : OthersHaveNoPosting
others_have_no_posting opened version collection term is none number position posting = none (is.parts.vocabulary.complete term number position posting)

contained_map : {X Y : Type 0} (f : X → Y) (xs : List X) (x : X) → Contains xs x → Contains (map f xs) (f x)
contained_map f xs x (k, low, at) =
    let below : k < length (map f xs) = omega (arith, low, length-map xs f) in
    (k, below, get_or-map f xs k x (f x) low ∙ ap f at)

pub grams_have_numbers : GramsHaveNumbers
grams_have_numbers opened version collection gram numbers is has number = (
  λ listed. (is.grams.related gram number).0 (record { numbers = numbers; among = has; listed = listed }),
  λ gram_is.
      let there : HasNumber opened.grams gram number = (is.grams.related gram number).1 gram_is in
      let other : GramEntry = record { gram = gram; numbers = there.numbers } in
      let one : GramEntry = record { gram = gram; numbers = numbers } in
      let same = one_entry opened.grams is.grams.ascending other one there.among has refl in
      subst (λ (ns : List ℕ). Contains ns number) (ap (λ (entry : GramEntry). entry.numbers) same) there.listed,
)

pub others_are_no_gram : OthersAreNoGram
others_are_no_gram opened version collection gram is none number gram_is =
    let there : HasNumber opened.grams gram number = (is.grams.related gram number).1 gram_is in
    none (contained_map (λ (entry : GramEntry). entry.gram) opened.grams (record { gram = gram; numbers = there.numbers }) there.among)
