-- A gram that was found in the rows of an opened index, and one that was not.
use Rattle.std.proofs.Common.{◌≡◌, ℕ, ◌<◌, List, [], length, get_or, Some, All, Contains, sym, ap, ◌∙◌, arith}
use Rattle.std.proofs.lemmas.List.{get_or-map, length-map}
use Rattle.std.proofs.lemmas.Option.{slice_get-get_or, slice_get-map, slice_get_within, get_or_from_slice_get}
use Rattle.std.specs.List.{slice_get}
use Rattle.std.specs.Option.{option_map}
use Rattle.ix_text.specs.Parts.{GramEntry}
use Rattle.ix_text.proofs.PartsLemmas.{injected}
use Rattle.ix_file.specs.Opened.{gram_texts}
use Rattle.ix_file.specs.OpenedGrams.{gram_in, grams_in}
use Rattle.ix_file.specs.declared.open.grams.GramRow.{GramRow}

-- the entry of the place has the gram
abbrev pub IsGramAt : List GramEntry → List ℕ → ℕ → Type 0
IsGramAt grams gram place = (entry : GramEntry) × (slice_get grams place ≡ Some entry) × (entry.gram ≡ gram)

pub gram_below : (section : List ℕ) (rows : List GramRow) (gram : List ℕ) (place : ℕ) → IsGramAt (grams_in section rows) gram place → place < length rows
gram_below section rows gram place (entry, stands, is) =
    omega (arith, slice_get_within (grams_in section rows) place entry stands, length-map rows (gram_in section))

pub contained : {X : Type 0} (xs : List X) (place : ℕ) (x : X) → slice_get xs place ≡ Some x → Contains xs x
contained xs place x stands = (place, slice_get_within xs place x stands, get_or_from_slice_get xs place x x stands)

same_gram_fields : (entry : GramEntry) (gram numbers : List ℕ) → entry.gram ≡ gram → entry.numbers ≡ numbers → entry ≡ record { gram = gram; numbers = numbers }
same_gram_fields entry gram numbers one other =
    let with_gram : List ℕ → GramEntry = λ g. record { gram = g; numbers = entry.numbers } in
    let with_numbers : List ℕ → GramEntry = λ n. record { gram = gram; numbers = n } in
    ap with_gram one ∙ ap with_numbers other

-- what stands there is the entry with the numbers that the row tells
pub gram_held : (section : List ℕ) (rows : List GramRow) (gram : List ℕ) (place : ℕ) (numbers : List ℕ) (d : GramRow) → IsGramAt (grams_in section rows) gram place → numbers ≡ (gram_in section (get_or rows place d)).numbers → Contains (grams_in section rows) (record { gram = gram; numbers = numbers })
gram_held section rows gram place numbers d at told =
    let row = get_or rows place d in
    let stands : slice_get (grams_in section rows) place ≡ Some (gram_in section row) =
    slice_get-map (gram_in section) rows place ∙ ap (option_map (gram_in section)) (slice_get-get_or rows place d (gram_below section rows gram place at)) in
    let same : gram_in section row ≡ at.0 = injected (sym stands ∙ at.1) in
    contained (grams_in section rows) place (record { gram = gram; numbers = numbers })
    (stands ∙ ap Some (same_gram_fields (gram_in section row) gram numbers (ap (λ (e : GramEntry). e.gram) same ∙ at.2) (sym told)))

pub no_gram : (grams : List GramEntry) (gram : List ℕ) → All (λ entry. entry.gram ≡ gram → ⊥) grams → Contains (gram_texts grams) gram → ⊥
no_gram grams gram none (k, low, is) =
    let bare : GramEntry = record { gram = gram; numbers = [] } in
    let gram_in : GramEntry → List ℕ = λ entry. entry.gram in
    let within : k < length grams = omega (arith, low, length-map grams gram_in) in
    none k bare within (sym (get_or-map gram_in grams k bare gram within) ∙ is)
