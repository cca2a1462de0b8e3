use Rattle.std.proofs.Common.{◌≤◌, ◌++◌, length, sym, ap, ◌∙◌, arith}
use Rattle.std.proofs.lemmas.Result.{err_from_is_err_and}
use Rattle.ix_index_text.specs.Sections.{front_coded}
use Rattle.ix_file.proofs.FrontCodedReading.{front_split, behind_shared, front_of, shared_small, others_small, longest_of, whole_size, enough_bytes, front_found}
use Rattle.ix_file.proofs.open.dictionary.cut_front_coded.Goals as goal

pub returns-in_err-shared-clause-refused : goal.returns-in_err-shared-clause-refused
returns-in_err-shared-clause-refused c =
    let p = err_from_is_err_and c.from_residual.result c.from_residual.ensures.1 in
    rw p.1
    (λ term rest has above e. c.in_err-shared.ensures.refused _ _ (shared_small c.args.before.now term c.requires) (front_split c.args.before.now term rest c.args.left.now e))

pub returns-in_err-size-clause-refused : goal.returns-in_err-size-clause-refused
returns-in_err-size-clause-refused c =
    let p = err_from_is_err_and c.from_residual-in_err-size.result c.from_residual-in_err-size.ensures.1 in
    rw p.1
    (λ term rest has above e.
    c.in_err-size.ensures.refused _ _ (others_small c.args.before.now term has)
    (behind_shared c.args.before.now term rest c.args.left.now c.in_ok-shared.behind.now c.in_ok-shared.shared c.in_ok-shared.ensures.found.1 e).1)

pub returns-in_err-front-clause-refused : goal.returns-in_err-front-clause-refused
returns-in_err-front-clause-refused c =
    let p = err_from_is_err_and c.from_residual-in_err-front.result c.from_residual-in_err-front.ensures.1 in
    rw p.1
    (λ term rest has above e.
    let of = front_of c.args.before.now term rest _ _ _ _ _ c.in_ok-shared.ensures.found.1 c.in_ok-size.ensures.found.1 e in
    c.in_err-front.ensures.refused (longest_of c.args.before.now term rest _ _ _ of above))

pub returns-then-size-shared-clause-refused : goal.returns-then-size-shared-clause-refused
returns-then-size-shared-clause-refused c term rest has above e =
    let of = front_of c.args.before.now term rest _ _ _ _ _ c.in_ok-shared.ensures.found.1 c.in_ok-size.ensures.found.1 e in
    let whole = whole_size c.args.before.now term rest _ _ _ of in
    let short : length term ≤ 255 = has.short in
    let long = c.if-size-shared.true in
    omega (arith, whole, long)

pub returns-in_err-own-clause-refused : goal.returns-in_err-own-clause-refused
returns-in_err-own-clause-refused c =
    let p = err_from_is_err_and c.from_residual-in_err-own.result c.from_residual-in_err-own.ensures.1 in
    rw p.1
    (λ term rest has above e.
    let of = front_of c.args.before.now term rest _ _ _ _ _ c.in_ok-shared.ensures.found.1 c.in_ok-size.ensures.found.1 e in
    enough_bytes c.args.before.now term rest _ _ _ of c.in_err-own.ensures.fault.1)

pub returns-clause-found : goal.returns-clause-found
returns-clause-found c =
    front_found c.args.before.now _ _ _ c.in_ok-own.own.now c.in_ok-own.rest.now _ _ c.in_ok-shared.ensures.found.1 c.in_ok-size.ensures.found.1 c.in_ok-front.ensures.longest c.in_ok-own.ensures.found.0 c.in_ok-own.ensures.found.1
    ∙ ap (λ front. front_coded c.args.before.now (front ++ c.in_ok-own.own.now) ++ c.in_ok-own.rest.now) (sym c.in_ok-front.ensures.front)
