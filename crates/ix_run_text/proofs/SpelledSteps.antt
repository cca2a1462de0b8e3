-- The list that is left: none, and a whole one.
use Rattle.std.proofs.Common.{◌≡◌, ◌∙◌, ◌^◌, ◌≤◌, ◌-◌, ℕ, List, [], length, take, sum_by, refl, sym, ap, subst, arith}
use Rattle.ix_text.specs.Parts.{DocumentRow, Posting}
use Rattle.ix_vbyte.specs.Gaps.{next_after}
use Rattle.ix_vbyte.specs.Postings.{documents_of}
use Rattle.ix_vbyte.proofs.Walks.{postings_from}
use Rattle.ix_postings.specs.CheckedLists.{SeesList}
use Rattle.ix_run_text.specs.SpelledLists.{SpellsList}
use Rattle.ix_postings.proofs.FitPostings.{fit_are}

-- of no bytes, whatever is buffered
pub none_spelled : {next after documents bytes : ℕ} (held later : List ℕ) → SpellsList next after documents (take bytes held) → bytes ≡ 0 → SpellsList next after documents (take bytes later)
none_spelled {next} {after} {documents} {bytes} held later spells none =
    let same : take bytes held ≡ take bytes later = ap (λ (n : ℕ). take n held) none ∙ sym (ap (λ (n : ℕ). take n later) none) in
    subst (SpellsList next after documents) same spells

-- no list
pub nothing_spelled : (next : ℕ) (held : List ℕ) → SpellsList next next 0 (take 0 held)
nothing_spelled next held =
    let told = postings_from next 0 [] [] (record { documents = tt; each = λ k d h. absurd (omega arith) }) refl refl in
    record { are = told.are; last = sym (ap (λ (ps : List Posting). next_after next (documents_of ps)) told.told) }

-- a list that was checked
pub list_spelled : (rows : List DocumentRow) → length rows ≤ 2 ^ 28 → sum_by (λ row. row.tokens) rows ≤ 2 ^ 28 → {admits old new : List ℕ → Type 0} {held : List ℕ} {size documents after : ℕ}
    → SeesList admits old new rows held size documents after
    → SpellsList 0 after documents (take size held)
list_spelled rows few short {held = held} {size = size} {documents = documents} list =
    let told = postings_from 0 documents (take size held) list.postings (fit_are rows (2 ^ 32 - 1) (omega (arith, few)) (omega (arith, short)) 0 list.postings list.fit) list.coded list.counted in
    record { are = told.are; last = list.next_is ∙ sym (ap (λ (ps : List Posting). next_after 0 (documents_of ps)) told.told) }
