-- A lawful collection has an index text of each version, and a collection only one.
use Rattle.std.proofs.Common.{refl, sym, ap₂, ◌∙◌}
use Rattle.ix_text.proofs.OneParts.{one_parts}
use Rattle.ix_text.proofs.PartsExist.{has_parts}
use Rattle.ix_text.specs.Parts.{terms_of}
use Rattle.ix_index_text.specs.IndexText.{layout}
use Rattle.ix_index_text.specs.Laws.{CollectionHasIndexText, CollectionHasOneIndexText}
use Rattle.ix_index_text.proofs.GramLists.{of_collection, one_gram_list}
use Rattle.ix_index_text.proofs.GramsExist.{has_grams}

pub one_index_text : CollectionHasOneIndexText
one_index_text version collection one other p q =
    let parts = one_parts collection p.parts q.parts p.of_collection q.of_collection in
    let grams = one_gram_list p.grams q.grams p.grams_of_collection.ascending q.grams_of_collection.ascending p.grams_of_collection.each q.grams_of_collection.each (λ g n. (
      λ has. (q.grams_of_collection.related g n).1 ((p.grams_of_collection.related g n).0 has),
      λ has. (p.grams_of_collection.related g n).1 ((q.grams_of_collection.related g n).0 has),
    )) in
    p.spelled ∙ ap₂ (layout version) parts grams ∙ sym q.spelled

pub has_index_text : CollectionHasIndexText
has_index_text version collection lawful =
    let is = has_parts collection in
    let some = has_grams (terms_of is.parts.entries) in (
      layout version is.parts some.grams,
      record {
        lawful = lawful;
        parts = is.parts;
        grams = some.grams;
        of_collection = is.of_collection;
        grams_of_collection = of_collection collection is.parts some.grams is.of_collection some.of_terms;
        spelled = refl;
      },
    )
