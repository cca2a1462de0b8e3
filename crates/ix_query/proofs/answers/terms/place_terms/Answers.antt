use Rattle.std.proofs.Common.{ℕ, ◌+◌, ◌∷◌, [], ◌++◌, List, Option, Some, refl, ap, ◌∙◌, sym, subst, arith, length, length-append}
use Rattle.std.proofs.lemmas.Option.{slice_get_read}
use Rattle.ix_query.specs.Finding.{ArePlaced}
use Rattle.ix_query.proofs.FindLemmas.{placed_term, phrase_nowhere}
use Rattle.ix_query.proofs.answers.terms.place_terms.Goals as goal

pub returns-in_default-place_term : goal.returns-in_default-place_term
returns-in_default-place_term c =
    phrase_nowhere c.args.index.now.parts c.args.parts.now c.loop-place.place c.in-Some.term
    (slice_get_read c.args.parts.now _ c.loop-place.place c.index-parts-place.result refl (omega arith) c.index-parts-place.is ∙ ap (λ (e : Option (List ℕ)). Some e) c.in-Some.is) c.in_default-place_term.ensures

pub loop-place-preserved : goal.loop-place-preserved
loop-place-preserved c =
    let lists_is = c.in_ok-push.ensures.items in
    let places_is = c.in_ok-push-2.ensures.items in
    let starts_is = c.in_ok-push-3.ensures.items in
    let before = c.loop-place.invariant in
    let here = slice_get_read c.args.parts.now _ c.loop-place.place c.index-parts-place.result refl (omega arith) c.index-parts-place.is ∙ ap (λ (e : Option (List ℕ)). Some e) c.in-Some.is in
    let found = c.in-Some-place_term.ensures in
    let a = ap length lists_is ∙ length-append c.loop-place.lists.items _ in
    let b = ap length places_is ∙ length-append c.loop-place.places.items _ in
    let d = ap length starts_is ∙ length-append c.loop-place.starts.items _ in
    record {
      each_placed = omega arith;
      each_started = omega arith;
      placed = rw (lists_is, places_is)
          (subst (λ (m : ℕ). ArePlaced c.args.index.now.parts c.args.parts.now (c.loop-place.place + 1) (c.loop-place.lists.items ++ c.in-Some-place_term.list ∷ []) (c.loop-place.places.items ++ m ∷ []))
          (sym found.1) (placed_term _ _ c.loop-place.place _ _ c.in-Some.term c.in-Some-place_term.list before.each_placed here found.0 before.placed));
    }
