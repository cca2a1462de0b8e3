use Rattle.std.proofs.Common.{◌≡◌, ◌∙◌, ℕ, ◌<◌, ◌≤◌, Bool, true, false, List, length, map, get_or, refl, sym, ap, arith, rules, tests}
use Rattle.std.specs.Prelude.{All, IsTrue, MatchBool, ◌↔◌}
use Rattle.std.specs.List.{AllWithin, HoldsAt}
use Rattle.std.proofs.lemmas.Bool.{false≢true}
use Rattle.std.proofs.lemmas.Iterator.{cases_from_all}
use Rattle.std.proofs.lemmas.Iterator.Consumers.{YieldsList-from_rest}
use Rattle.std.proofs.lemmas.List.{get_or-map, length-map}
use Rattle.std.proofs.lemmas.List.Elements.{All-map}
use Rattle.std.proofs.lemmas.Simd.{map-map}
use Rattle.ix_removals.specs.RemovalsText.{Removal}
use Rattle.ix_removals.proofs.removals.Removals.are_within.Goals as goal

abbrev bounds_of : List Removal → List ℕ
bounds_of removals = map (λ removal. removal.below) removals

-- what the bounds tell is so of the removals
told : (number : ℕ) (removals : List Removal) (r : Bool) → MatchBool r (AllWithin (λ bound. bound ≤ number) (bounds_of removals) 0 (length (bounds_of removals))) ((k : ℕ) × (k < length (bounds_of removals)) × HoldsAt (λ bound. number < bound) (bounds_of removals) k)
    → IsTrue r ↔ All (λ removal. removal.below ≤ number) removals
told number removals true all = (
  λ _. λ k d within. let same = get_or-map (λ (removal : Removal). removal.below) removals k d 0 within in let low = all k 0 in let size = length-map removals (λ (removal : Removal). removal.below) in omega arith,
  λ _. refl,
)
told number removals false (k, within, above) =
    (λ is. absurd (false≢true is), λ all. absurd (let low = All-map (λ (bound : ℕ). bound ≤ number) (λ (removal : Removal). removal.below) removals all k 0 within in let high = above in omega arith))

pub returns : goal.returns
returns c =
    let entries = c.self.inside.bounds.entries in
    let number = c.args.number in
    let bounds : map (λ e. e.1) entries ≡ bounds_of c.args.self.now = sym (map-map _ _ entries) ∙ ap bounds_of c.self.view_is in
    told number c.args.self.now c.all.result
    (cases_from_all _ _ c.all.result (λ bound. bound ≤ number) (λ bound. number < bound) c.all.ensures.ran (YieldsList-from_rest (bounds_of c.args.self.now) (c.values.ensures.rest ∙ bounds)) (λ x q k. search (rules, tests)) (λ x q k. search (rules, tests)))
