-- The names before a place are lawful, and with the next one, if it is.
use Rattle.std.proofs.Common.{List, ℕ, All, Bor, refl, subst}
use Rattle.std.proofs.lemmas.Bool.{false≢true}
use Rattle.std.proofs.lemmas.List.{take_all}
use Rattle.std.proofs.lemmas.List.Elements.{All-more}
use Rattle.ix_text.specs.Collections.{IsName}
use Rattle.ix_removals.proofs.reading.are_names.Goals as goal

pub returns-then-not-is_name : goal.returns-then-not-is_name
returns-then-not-is_name c = (λ clash. absurd (false≢true clash), λ all. c.if-not-is_name.ensures.1 (all c.loop-name.name-index _ c.loop-name-test.true))

pub loop-name-preserved : goal.loop-name-preserved
loop-name-preserved c =
    let P : Bor (List ℕ) → Type 0 = λ name. IsName name.now in
    All-more P c.args.names.now c.loop-name.name-index _ c.loop-name-test.true c.loop-name.invariant (c.if-not-is_name.ensures.0 refl)

pub returns : goal.returns
returns c =
    let P : List (Bor (List ℕ)) → Type 0 = All (λ (name : Bor (List ℕ)). IsName name.now) in
    (λ yes. subst P (take_all c.loop-name.name-index c.args.names.now c.loop-name-test.false) c.loop-name.invariant, λ all. refl)
