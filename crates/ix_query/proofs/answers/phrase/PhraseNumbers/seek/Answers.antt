use Rattle.std.proofs.Common.{ℕ, List, sym, ◌∙◌, subst}
use Rattle.std.proofs.lemmas.List.{with_items_is}
use Rattle.ix_file.specs.Postings.{Posting}
use Rattle.ix_query.specs.Meetings.{HasPhraseIn}
use Rattle.ix_query.specs.Streams.{Reaches}
use Rattle.ix_query.proofs.answers.phrase.PhraseNumbers.seek.Goals as goal

pub returns : goal.returns
returns c =
    let self = c.args.self.now in
    let P : List (List Posting) → List (List Posting) → List ℕ → Type 0 = λ old new offsets.
    Reaches (λ n p. HasPhraseIn c.args.self.now.first c.args.self.now.offset old offsets n) (λ n p. HasPhraseIn c.first_phrase.new.first c.args.self.now.offset new offsets n) c.args.low c.first_phrase.result in
    let kept = with_items_is c.args.self.now.others c.first_phrase.new.others (c.first_phrase.auto.others ∙ c.as_mut_slice.ensures.len) in
    let one = subst (λ (old : List (List Posting)). P old c.first_phrase.new.others c.as_slice.result.now) c.as_mut_slice.ensures.value c.first_phrase.ensures in
    let two = subst (λ (offsets : List ℕ). P c.args.self.now.others.items c.first_phrase.new.others offsets) c.as_slice.ensures.value one in
    subst (λ (new : List (List Posting)). P c.args.self.now.others.items new c.args.self.now.offsets.items) (sym kept) two
