use Rattle.std.proofs.Common.{◌<◌, ◌^◌, length, ⊎_elim, inl, inr, arith}
use Rattle.std.proofs.lemmas.List.{length-map}
use Rattle.std.proofs.lemmas.Result.{err_from_is_err_and}
use Rattle.ix_file.specs.PlacedTerms.{terms_in}
use Rattle.ix_file.proofs.GramRows.{grams_there, listed_grams, rows_there}
use Rattle.ix_file.proofs.PlacedLemmas.{text_of}
use Rattle.ix_file.proofs.open.grams.read_grams_beside.Goals as goal

pub returns-in_err-rows-clause-refused : goal.returns-in_err-rows-clause-refused
returns-in_err-rows-clause-refused g c =
    let p = err_from_is_err_and c.from_residual.result c.from_residual.ensures.1 in
    let few : length (terms_in c.args.terms.now) < 2 ^ 32 = omega (arith, c.requires.few, length-map c.args.terms.now text_of) in
    rw (p.1, p.2)
    (⊎_elim inl (λ refused. inr (λ grams are same. refused grams (listed_grams (terms_in c.args.terms.now) few c.requires.texts grams are) are.ascending same)) c.in_err-rows.ensures.refused)

pub returns-in_err-walk_terms_beside-clause-refused : goal.returns-in_err-walk_terms_beside-clause-refused
returns-in_err-walk_terms_beside-clause-refused g c =
    let p = err_from_is_err_and c.from_residual-in_err-walk_terms_beside.result c.from_residual-in_err-walk_terms_beside.ensures.1 in
    let few : length (terms_in c.args.terms.now) < 2 ^ 32 = omega (arith, c.requires.few, length-map c.args.terms.now text_of) in
    let told = rw c.deref.ensures.value at c.in_err-walk_terms_beside.ensures.refused in
    rw (p.1, p.2)
    (⊎_elim inl (λ no. inr (λ grams are same. no (rows_there (terms_in c.args.terms.now) c.args.section.now c.in_ok-rows.rows.items few c.requires.texts c.in_ok-rows.ensures.cut grams are same))) told)

pub returns-clause-grams : goal.returns-clause-grams
returns-clause-grams g c =
    let told = rw c.deref.ensures.value at c.in_ok-walk_terms_beside.ensures.found in
    let (are, spelled, _) = grams_there (terms_in c.args.terms.now) c.args.section.now c.in_ok-rows.rows.items c.requires.texts c.in_ok-rows.ensures.cut told in (are, spelled)

pub returns-clause-rows : goal.returns-clause-rows
returns-clause-rows g c =
    let told = rw c.deref.ensures.value at c.in_ok-walk_terms_beside.ensures.found in
    let (_, _, rows) = grams_there (terms_in c.args.terms.now) c.args.section.now c.in_ok-rows.rows.items c.requires.texts c.in_ok-rows.ensures.cut told in rows
