use Rattle.std.proofs.Common.{inl, inr, ⊎_elim, subst, sym}
use Rattle.std.proofs.lemmas.Result.{err_from_is_err_and}
use Rattle.ix_file.specs.GramWalks.{AreRowsOn}
use Rattle.ix_file.specs.OpenedGrams.{LiesIn}
use Rattle.ix_file.specs.PlacedTerms.{terms_in}
use Rattle.ix_file.specs.declared.open.sides.Side.TheVariants.{From}
use Rattle.ix_file.proofs.GramParting.{all_parted, below_side, both_sides, from_side, parted_rows}
use Rattle.ix_file.proofs.open.gram_walk.walk_terms_beside.Goals as goal

pub join-below-requires-after_bounds : goal.join-below-requires-after_bounds
join-below-requires-after_bounds g c κs within =
    let section = c.args.section.now in
    let parts = parted_rows section c.in-Some.pivot c.middle_of-middle.result c.args.rows.now c.split_at.result.0.now c.split_at.result.1.now c.requires.cut.ascending c.split_at.ensures.by_index.0 c.split_at.ensures.front_len c.in-Some.ensures in
    let (front, back) = all_parted section (LiesIn section) c.args.rows.now c.split_at.result.0.now c.split_at.result.1.now c.split_at.ensures.by_index.0 c.requires.cut.lie in
    ((c.requires.few, (front, (parts.front_up, parts.under))), (c.requires.few, (back, (parts.back_up, parts.over))))

pub returns-in_err-below-clause-refused : goal.returns-in_err-below-clause-refused
returns-in_err-below-clause-refused g c =
    let terms = terms_in c.args.terms.now in
    let section = c.args.section.now in
    let parts = parted_rows section c.in-Some.pivot c.middle_of-middle.result c.args.rows.now c.split_at.result.0.now c.split_at.result.1.now c.requires.cut.ascending c.split_at.ensures.by_index.0 c.split_at.ensures.front_len c.in-Some.ensures in
    let no = rw c.in_err-below.was at c.join-below.ensures.first.1 in
    let p = err_from_is_err_and c.from_residual.result c.from_residual.ensures.1 in
    rw (p.1, p.2)
    (⊎_elim inl (λ refused. inr (λ on. refused (below_side section terms c.split_at.result.0.now c.split_at.result.1.now c.in-Some.pivot c.requires.texts (subst (AreRowsOn (From 0) terms section) c.split_at.ensures.by_index.0 on) parts.over))) no)

pub returns-in_err-from-clause-refused : goal.returns-in_err-from-clause-refused
returns-in_err-from-clause-refused g c =
    let terms = terms_in c.args.terms.now in
    let section = c.args.section.now in
    let parts = parted_rows section c.in-Some.pivot c.middle_of-middle.result c.args.rows.now c.split_at.result.0.now c.split_at.result.1.now c.requires.cut.ascending c.split_at.ensures.by_index.0 c.split_at.ensures.front_len c.in-Some.ensures in
    let no = rw c.in_err-from.was at c.join-below.ensures.second.1 in
    let p = err_from_is_err_and c.from_residual-in_err-from.result c.from_residual-in_err-from.ensures.1 in
    rw (p.1, p.2)
    (⊎_elim inl (λ refused. inr (λ on. refused (from_side section terms c.split_at.result.0.now c.split_at.result.1.now c.in-Some.pivot c.requires.texts (subst (AreRowsOn (From 0) terms section) c.split_at.ensures.by_index.0 on) parts.under))) no)

pub returns-clause-found : goal.returns-clause-found
returns-clause-found g c =
    let terms = terms_in c.args.terms.now in
    let below = rw c.in_ok-below.was at c.join-below.ensures.first.0 in
    let from = rw c.in_ok-from.was at c.join-below.ensures.second.0 in
    subst (AreRowsOn (From 0) terms c.args.section.now) (sym c.split_at.ensures.by_index.0) (both_sides c.args.section.now terms c.split_at.result.0.now c.split_at.result.1.now c.in-Some.pivot below from)
