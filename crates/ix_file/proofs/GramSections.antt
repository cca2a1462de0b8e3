-- The grams of rows.
use Rattle.std.proofs.Common.{◌≡◌, ℕ, List, [], ◌∷◌, ◌++◌, map, refl, ap}
use Rattle.std.proofs.lemmas.List.{map-append}
use Rattle.ix_text.specs.Parts.{GramEntry}
use Rattle.ix_file.specs.declared.open.grams.GramRow.{GramRow}
use Rattle.ix_file.specs.OpenedGrams.{gram_in, grams_in}

-- the gram of a row
abbrev pub text_in : List ℕ → GramRow → List ℕ
text_in section row = (gram_in section row).gram

pub texts_in : (section : List ℕ) (table : List GramRow) → map (λ (e : GramEntry). e.gram) (grams_in section table) ≡ map (text_in section) table
texts_in section [] = refl
texts_in section (row ∷ table) = ap (λ texts. text_in section row ∷ texts) (texts_in section table)

pub grams_push : (section : List ℕ) (table : List GramRow) (row : GramRow) → grams_in section (table ++ row ∷ []) ≡ grams_in section table ++ gram_in section row ∷ []
grams_push section table row = map-append (gram_in section) table (row ∷ [])
