use Rattle.std.proofs.Common.{◌≡◌, ◌<◌, ◌-◌, ◌^◌, All, List, ℕ, length, Some, ap, ◌∙◌, arith}
use Rattle.ix_text.specs.Parts.{DictionaryEntry}
use Rattle.ix_vbyte.specs.Postings.{ArePostings, Posting, list_bytes}
use Rattle.ix_file.specs.LongLists.{IsLongIn}
use Rattle.ix_vbyte.specs.Walking.{IsCodedList}
use Rattle.ix_file.specs.Tables.{IsListRow, entry_in, entries_in}
use Rattle.ix_file.specs.declared.open.terms.ListPlace.{ListPlace}
use Rattle.ix_file.proofs.OpenedLemmas.{kept_at, told_of, walked, with_places}
use Rattle.ix_file.proofs.PlacedLemmas.{from_term, term_at, to_term}
use Rattle.ix_file.proofs.index.Index.list_by_places.Goals as goal

pub list_of-list-requires : goal.list_of-list-requires
list_of-list-requires c =
    let section = c.self.inside.sections.postings.now in
    let terms = c.tables-tables.result.now.terms in
    let below : c.args.number < length (entries_in section terms) = rw c.tables-tables.ensures (rw (← c.self.view_is) at c.requires) in
    let at = term_at terms c.args.number c.list-place.result c.list-place.ensures in
    let is = kept_at (IsListRow section) (entry_in section) terms c.args.number at.term (rw c.tables-tables.ensures c.self.invariant.lists) below at.read in
    omega (arith, is.within, ap (λ (p : ListPlace). p.start) at.is, ap (λ (p : ListPlace). p.size) at.is)

pub new-postings-requires : goal.new-postings-requires
new-postings-requires c =
    let section = c.self.inside.sections.postings.now in
    let terms = c.tables-tables.result.now.terms in
    let below : c.args.number < length (entries_in section terms) = rw c.tables-tables.ensures (rw (← c.self.view_is) at c.requires) in
    let at = term_at terms c.args.number c.list-place.result c.list-place.ensures in
    let is = kept_at (IsListRow section) (entry_in section) terms c.args.number at.term (rw c.tables-tables.ensures c.self.invariant.lists) below at.read in
    from_term IsCodedList section at.term c.list-place.result c.list_of-list.result.now at.is c.list_of-list.ensures is.coded

pub with_skips-requires : goal.with_skips-requires
with_skips-requires c =
    let section = c.self.inside.sections.postings.now in
    let terms = c.tables-tables.result.now.terms in
    let below : c.args.number < length (entries_in section terms) = rw c.tables-tables.ensures (rw (← c.self.view_is) at c.requires) in
    let at = term_at terms c.args.number c.list-place.result c.list-place.ensures in
    let is = kept_at (IsListRow section) (entry_in section) terms c.args.number at.term (rw c.tables-tables.ensures c.self.invariant.lists) below at.read in
    let gives = to_term (λ (documents : ℕ) (bytes : List ℕ). (are : List Posting) → ArePostings 0 (2 ^ 32 - 1) are → length are ≡ documents → bytes ≡ list_bytes are → c.new-postings.result ≡ are)
    section at.term c.list-place.result c.list_of-list.result.now at.is c.list_of-list.ensures c.new-postings.ensures in
    let longs : All (IsLongIn section terms) c.tables-tables.result.now.longs.items = rw c.tables-tables.ensures c.self.invariant.longs in
    let found = rw c.as_slice.ensures.value at c.skips_of.ensures in
    with_places section terms c.tables-tables.result.now.longs.items c.args.number at.term c.new-postings.result c.skips_of.result.now longs at.there is.coded gives found

pub returns : goal.returns
returns c =
    let section = c.self.inside.sections.postings.now in
    let terms = c.tables-tables.result.now.terms in
    let below : c.args.number < length (entries_in section terms) = rw c.tables-tables.ensures (rw (← c.self.view_is) at c.requires) in
    let at = term_at terms c.args.number c.list-place.result c.list-place.ensures in
    let is = kept_at (IsListRow section) (entry_in section) terms c.args.number at.term (rw c.tables-tables.ensures c.self.invariant.lists) below at.read in
    let gives = to_term (λ (documents : ℕ) (bytes : List ℕ). (are : List Posting) → ArePostings 0 (2 ^ 32 - 1) are → length are ≡ documents → bytes ≡ list_bytes are → c.new-postings.result ≡ are)
    section at.term c.list-place.result c.list_of-list.result.now at.is c.list_of-list.ensures c.new-postings.ensures in
    rw (c.with_skips.ensures, ← c.self.view_is, ← c.tables-tables.ensures)
    (told_of (λ (entry : DictionaryEntry). entry.postings) (entry_in section) terms c.args.number at.term below at.read ∙ ap Some (walked _ _ c.new-postings.result is.coded gives))
