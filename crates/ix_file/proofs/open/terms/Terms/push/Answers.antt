use Rattle.std.proofs.Common.{◌∷◌, ◌++◌, [], List, string_bytes, ap, ◌∙◌, ℕ, arith}
use Rattle.ix_file.specs.HeldTerms.{HoldTerms, terms_told}
use Rattle.ix_file.specs.PlacedTerms.{PlacedTerm, placed_at}
use Rattle.ix_file.specs.declared.open.terms.ListPlace.{ListPlace}
use Rattle.ix_file.proofs.HeldTermLemmas.{held_told, one_more_held, terms_held}
use Rattle.ix_file.proofs.open.terms.Terms.push.Goals as goal

-- what stands now holds the term behind the others
held : (c : goal.After-push_reserved-2) → HoldTerms (string_bytes c.push_str.new.self) c.push_reserved.new.self.items c.push_reserved-2.new.self.items
    (terms_told (string_bytes c.self.inside.texts) c.self.inside.starts.items c.self.inside.places.items ++ placed_at c.args.term.now c.args.place ∷ [])
held c =
    one_more_held (string_bytes c.self.inside.texts) c.self.inside.starts.items c.self.inside.places.items (terms_told (string_bytes c.self.inside.texts) c.self.inside.starts.items c.self.inside.places.items) c.args.term.now c.args.place
    (string_bytes c.push_str.new.self) c.push_reserved.new.self.items c.push_reserved-2.new.self.items c.len.result c.self.invariant c.utf8.term c.in_ok-push_str.ensures.bytes (omega (arith, c.len.ensures, c.push_str.new.self.bytes.ok))
    (c.push_reserved.ensures.items ∙ ap (λ (starts : List ℕ). starts ++ c.len.result ∷ []) c.in_ok-reserve.ensures.items)
    (c.push_reserved-2.ensures.items ∙ ap (λ (places : List ListPlace). places ++ c.args.place ∷ []) c.in_ok-reserve-2.ensures.items)

pub invariant_of-self-2 : goal.invariant_of-self-2
invariant_of-self-2 c = held_told _ _ _ _ (held c)

pub returns : goal.returns
returns c = terms_held _ _ _ _ (held c) ∙ ap (λ (terms : List PlacedTerm). terms ++ placed_at c.args.term.now c.args.place ∷ []) c.self.view_is
