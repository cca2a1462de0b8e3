use Rattle.std.proofs.Common.{◌≡◌, ◌<◌, ◌-◌, ◌^◌, List, ℕ, length, Some, ap, ◌∙◌, arith}
use Rattle.ix_text.specs.Parts.{DictionaryEntry}
use Rattle.ix_vbyte.specs.Postings.{ArePostings, Posting, list_bytes}
use Rattle.ix_vbyte.specs.Walking.{IsCodedList}
use Rattle.ix_file.specs.Tables.{IsListRow, entry_in, entries_in}
use Rattle.ix_file.specs.declared.open.terms.ListPlace.{ListPlace}
use Rattle.ix_file.proofs.OpenedLemmas.{kept_at, told_of, walked}
use Rattle.ix_file.proofs.PlacedLemmas.{from_term, term_at, to_term}
use Rattle.ix_file.proofs.index.Index.list.Goals as goal

pub list_of-requires : goal.list_of-requires
list_of-requires c =
    let section = c.self.inside.sections.postings.now in
    let terms = c.tables.result.now.terms in
    let below : c.args.number < length (entries_in section terms) = rw c.tables.ensures (rw (← c.self.view_is) at c.requires) in
    let at = term_at terms c.args.number c.list-place.result c.list-place.ensures in
    let is = kept_at (IsListRow section) (entry_in section) terms c.args.number at.term (rw c.tables.ensures c.self.invariant.lists) below at.read in
    omega (arith, is.within, ap (λ (p : ListPlace). p.start) at.is, ap (λ (p : ListPlace). p.size) at.is)

pub new-requires : goal.new-requires
new-requires c =
    let section = c.self.inside.sections.postings.now in
    let terms = c.tables.result.now.terms in
    let below : c.args.number < length (entries_in section terms) = rw c.tables.ensures (rw (← c.self.view_is) at c.requires) in
    let at = term_at terms c.args.number c.list-place.result c.list-place.ensures in
    let is = kept_at (IsListRow section) (entry_in section) terms c.args.number at.term (rw c.tables.ensures c.self.invariant.lists) below at.read in
    from_term IsCodedList section at.term c.list-place.result c.list_of.result.now at.is c.list_of.ensures is.coded

pub returns : goal.returns
returns c =
    let section = c.self.inside.sections.postings.now in
    let terms = c.tables.result.now.terms in
    let below : c.args.number < length (entries_in section terms) = rw c.tables.ensures (rw (← c.self.view_is) at c.requires) in
    let at = term_at terms c.args.number c.list-place.result c.list-place.ensures in
    let is = kept_at (IsListRow section) (entry_in section) terms c.args.number at.term (rw c.tables.ensures c.self.invariant.lists) below at.read in
    let gives = to_term (λ (documents : ℕ) (bytes : List ℕ). (are : List Posting) → ArePostings 0 (2 ^ 32 - 1) are → length are ≡ documents → bytes ≡ list_bytes are → c.new.result ≡ are)
    section at.term c.list-place.result c.list_of.result.now at.is c.list_of.ensures c.new.ensures in
    rw (← c.self.view_is, ← c.tables.ensures)
    (told_of (λ (entry : DictionaryEntry). entry.postings) (entry_in section) terms c.args.number at.term below at.read ∙ ap Some (walked _ _ c.new.result is.coded gives))
