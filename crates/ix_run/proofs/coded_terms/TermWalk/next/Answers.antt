-- What is read is the first term, and the others are held behind it.
use Rattle.std.proofs.Common.{◌∷◌, ◌∙◌, ap₂, ℕ, List, IsUtf8, drop, take, length, ◌≤◌, sym, subst}
use Rattle.ix_vbyte.proofs.Walks.{empty, not_empty}
use Rattle.ix_run.specs.HeldTerms.{HoldTerms, terms_in}
use Rattle.ix_run.proofs.HeldTermLemmas.{begins_with_row, first_told, none_told}
use Rattle.ix_run.proofs.coded_terms.TermWalk.next.Goals as goal

pub returns-then-is_empty : goal.returns-then-is_empty
returns-then-is_empty c = let none = sym c.self.view_is ∙ none_told c.self.inside.bytes.now (empty _ c.if-is_empty.ensures) in (none, none)

pub first_row-requires : goal.first_row-requires
first_row-requires c = begins_with_row c.self.inside.bytes.now c.self.invariant (not_empty _ c.if-is_empty.ensures)

pub split_at-requires : goal.split_at-requires
split_at-requires c = (first_told c.self.inside.bytes.now c.first_row.result.0 c.first_row.result.1.now c.self.invariant (not_empty _ c.if-is_empty.ensures) c.first_row.ensures).text_within

pub split_at-requires-2 : goal.split_at-requires-2
split_at-requires-2 c =
    let told = first_told c.self.inside.bytes.now c.first_row.result.0 c.first_row.result.1.now c.self.invariant (not_empty _ c.if-is_empty.ensures) c.first_row.ensures in
    subst (λ (behind : List ℕ). c.first_row.result.0.list ≤ length behind) (sym c.split_at.ensures.back) told.list_within

pub from_utf8_unchecked-term-requires : goal.from_utf8_unchecked-term-requires
from_utf8_unchecked-term-requires c =
    let told = first_told c.self.inside.bytes.now c.first_row.result.0 c.first_row.result.1.now c.self.invariant (not_empty _ c.if-is_empty.ensures) c.first_row.ensures in
    subst IsUtf8 (sym c.split_at.ensures.front) told.utf8

pub invariant_of-self : goal.invariant_of-self
invariant_of-self c =
    let told = first_told c.self.inside.bytes.now c.first_row.result.0 c.first_row.result.1.now c.self.invariant (not_empty _ c.if-is_empty.ensures) c.first_row.ensures in
    let P : List ℕ → Type 0 = λ bytes. HoldTerms bytes (terms_in bytes) in
    subst P (sym c.split_at-2.ensures.back) (subst (λ behind. P (drop c.first_row.result.0.list behind)) (sym c.split_at.ensures.back) told.behind_it)

pub returns : goal.returns
returns c =
    let told = first_told c.self.inside.bytes.now c.first_row.result.0 c.first_row.result.1.now c.self.invariant (not_empty _ c.if-is_empty.ensures) c.first_row.ensures in
    let row = c.first_row.result.0 in
    sym c.self.view_is ∙ told.told
    ∙ ap₂ (λ (text behind : List ℕ). record { term = text; documents = row.documents; last = row.last; list = take row.list behind } ∷ terms_in (drop row.list behind)) (sym c.split_at.ensures.front ∙ sym c.from_utf8_unchecked-term.ensures) (sym c.split_at.ensures.back)
    ∙ ap₂ (λ (list rest : List ℕ). record { term = c.from_utf8_unchecked-term.result.now; documents = row.documents; last = row.last; list = list } ∷ terms_in rest) (sym c.split_at-2.ensures.front) (sym c.split_at-2.ensures.back)
