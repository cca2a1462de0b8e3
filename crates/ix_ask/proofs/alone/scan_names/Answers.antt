-- The numbers of a scan are numbers of documents.
use Rattle.std.proofs.Common.{ℕ, ◌<◌, List, map, length, All, sym, subst}
use Rattle.std.proofs.lemmas.List.{length-map}
use Rattle.ix_text.specs.Docs.{named_text}
use Rattle.ix_ask.proofs.AskLemmas.{numbers_below}
use Rattle.ix_ask.proofs.alone.scan_names.Goals as goal

pub name_lines_of-requires : goal.name_lines_of-requires
name_lines_of-requires c =
    let documents = c.args.documents.now in
    let texts = map named_text documents in
    let numbers = c.in_ok-numbers.numbers.items in
    let below = numbers_below c.args.stop.now texts c.args.query.now numbers c.in_ok-numbers.ensures in
    let here = subst (λ (n : ℕ). All (λ number. number < n) numbers) (length-map documents named_text) below in
    subst (λ (ns : List ℕ). All (λ number. number < length documents) ns) (sym c.deref.ensures.value) here
