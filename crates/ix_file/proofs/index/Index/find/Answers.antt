use Rattle.std.proofs.Common.{◌≡◌, List, ℕ, map, Contains, subst, arith}
use Rattle.ix_text.specs.ByteOrder.{IsAscending}
use Rattle.ix_text.specs.Parts.{terms_of}
use Rattle.ix_text.specs.PartsLaws.{AreLawful}
use Rattle.ix_file.specs.Frames.{texts_in}
use Rattle.ix_file.specs.Tables.{entries_in, parts_in, term_in}
use Rattle.ix_file.proofs.OpenedLemmas.{entry_at, number_at, terms_in}
use Rattle.ix_file.proofs.index.Index.find.Goals as goal

pub place_of-requires : goal.place_of-requires
place_of-requires c =
    let section = c.self.inside.sections.postings.now in
    let terms = c.tables.result.now.terms in
    let same : terms_of (entries_in section terms) ≡ map term_in terms = terms_in section terms in
    let up : IsAscending (terms_of (entries_in section terms)) = rw c.tables.ensures c.self.invariant.lawful.ascending in
    subst IsAscending same up

pub returns-in_err-number : goal.returns-in_err-number
returns-in_err-number c =
    let section = c.self.inside.sections.postings.now in
    let terms = c.tables.result.now.terms in
    let same : terms_of (entries_in section terms) ≡ map term_in terms = terms_in section terms in
    rw (c.from_residual.ensures, ← c.self.view_is, ← c.tables.ensures)
    (λ has. c.in_err-number.ensures (subst (λ (ts : List (List ℕ)). Contains ts c.args.term.now) same has))

pub overflow_cast-number : goal.overflow_cast-number
overflow_cast-number c =
    let texts = texts_in c.self.inside.sections in
    let tables = c.tables.result.now in
    let same : terms_of (entries_in texts.postings tables.terms) ≡ map term_in tables.terms = terms_in texts.postings tables.terms in
    let lawful : AreLawful (parts_in texts tables) = rw c.tables.ensures c.self.invariant.lawful in
    let number = number_at (parts_in texts tables) c.in_ok-number.number c.args.term.now (map term_in tables.terms) lawful same c.in_ok-number.ensures in
    omega (arith, number.small)

pub list_by_places-requires : goal.list_by_places-requires
list_by_places-requires c =
    let texts = texts_in c.self.inside.sections in
    let tables = c.tables.result.now in
    let same : terms_of (entries_in texts.postings tables.terms) ≡ map term_in tables.terms = terms_in texts.postings tables.terms in
    let lawful : AreLawful (parts_in texts tables) = rw c.tables.ensures c.self.invariant.lawful in
    rw (← c.self.view_is, ← c.tables.ensures)
    (number_at (parts_in texts tables) c.in_ok-number.number c.args.term.now (map term_in tables.terms) lawful same c.in_ok-number.ensures).below

pub returns : goal.returns
returns c =
    let texts = texts_in c.self.inside.sections in
    let tables = c.tables.result.now in
    let same : terms_of (entries_in texts.postings tables.terms) ≡ map term_in tables.terms = terms_in texts.postings tables.terms in
    let lawful : AreLawful (parts_in texts tables) = rw c.tables.ensures c.self.invariant.lawful in
    let number = number_at (parts_in texts tables) c.in_ok-number.number c.args.term.now (map term_in tables.terms) lawful same c.in_ok-number.ensures in
    entry_at c.args.self.now.parts.entries c.in_ok-number.number c.args.term.now c.list_by_places.result (rw (← c.self.view_is, ← c.tables.ensures) number.numbered) c.list_by_places.ensures
