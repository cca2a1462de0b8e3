use Rattle.std.proofs.Common.{[], ◌∷◌, ◌++◌, ◌∙◌, ◌≡◌, ap, get_or, length, refl, arith}
use Rattle.std.proofs.lemmas.Bool.Decides.{nat_tests}
use Rattle.ix_query.proofs.PartLemmas.{meet_some, meet_none}
use Rattle.ix_query.proofs.Swapping.{removed_of, meet_swapped}
use Rattle.ix_query.proofs.answers.find.intersect.Goals as goal

pub returns-then-is_empty : goal.returns-then-is_empty
returns-then-is_empty c =
    let none : length c.args.present.items ≡ 0 = grind (arith, nat_tests, c.if-is_empty.ensures, c.if-is_empty.true, c.args.present.ok.0) in
    meet_none c.args.index.now.parts c.args.present.items c.args.present.items c.args.absent.items c.every_document.result none none c.every_document.ensures

pub returns : goal.returns
returns c =
    let present = c.args.present.items in
    let old = c.args.present.ok.0 in
    let new = c.swap_remove-first.new.self.ok.0 in
    let lead = rw c.as_slice.ensures.value at c.fewest-lead.ensures in
    let out = c.swap_remove-first.ensures in
    let rest = c.swap_remove-first.new.self.items in
    let first = c.swap_remove-first.result in
    let taken = removed_of present rest c.fewest-lead.result (length rest) first lead (omega (arith, out.len, old, new)) refl out.value
    (λ d low. out.by_index.0 d (omega (arith, low, out.len, old, new)) ∙ ap (λ k. get_or present k d) (omega (arith, out.len, old, new)))
    (λ k d other low. out.by_index.1 k d other (omega (arith, low, out.len, old, new))) in
    meet_swapped c.args.index.now.parts present (rest ++ first ∷ []) c.args.absent.items _ _ _ taken
    (meet_some c.args.index.now.parts (rest ++ first ∷ []) rest c.args.absent.items first refl)
