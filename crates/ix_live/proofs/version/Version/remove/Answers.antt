use Rattle.std.proofs.Common.{rules, ◌≡◌, ◌⊎◌, ◌∙◌, List, ℕ, [], ◌∷◌, ◌++◌, ap, arith, length, refl, subst}
use Rattle.std.specs.Arc.{arc_value}
use Rattle.std.specs.Prelude.{◌↔◌, Contains}
use Rattle.ix_live.specs.declared.entry.Entry.{Entry}
use Rattle.ix_live.specs.declared.entry.Entry.TheVariants.{Removed}
use Rattle.ix_live.specs.Histories.{operations_of}
use Rattle.ix_live.specs.LiveErrors.{RefusesRemoval}
use Rattle.ix_live.specs.declared.live_error.LiveError.TheVariants.{Memory}
use Rattle.ix_live.specs.Operations.{Remove, documents_added}
use Rattle.ix_live.proofs.Pasts.{operations_waiting}
use Rattle.ix_live.proofs.StoredLemmas.{count_stored, passed_on, stored_is, stored_removed}
use Rattle.ix_live.proofs.version.Version.remove.Goals as goal

pub returns-then-number-self-clause-error : goal.returns-then-number-self-clause-error
returns-then-number-self-clause-error c =
    let v = c.self.inside in
    let count = count_stored (arc_value v.stop) v.segments.items v.entries.items v.removed.items v.count v.tokens (operations_of v.past) c.self.invariant in
    rw (← c.self.view_is) (refl, omega (arith, count, c.if-number-self.true))

pub invariant_of-self-2 : goal.invariant_of-self-2
invariant_of-self-2 c =
    let v = c.self.inside in
    let stop = arc_value v.stop in
    let number = c.args.number in
    let kept : c.reserve.new.self.items ≡ v.entries.items = search rules in
    let gone : c.reserve-2.new.self.items ≡ v.removed.items = search rules in
    let entries : c.push_reserved.new.self.items ≡ v.entries.items ++ Removed number ∷ [] = c.push_reserved.ensures.items ∙ ap (λ (l : List Entry). l ++ Removed number ∷ []) kept in
    let operations : operations_of c.with_removal.result ≡ operations_of v.past ++ Remove number ∷ [] = ap operations_of c.with_removal.ensures ∙ operations_waiting v.past (Remove number ∷ []) in
    let now = c.insert_number.new.numbers.items in
    let has = subst (λ (l : List ℕ). (m : ℕ) → Contains now m ↔ (Contains l m ⊎ (number ≡ m))) gone c.insert_number.ensures.has in
    stored_is stop v.segments.items v.segments.items (v.entries.items ++ Removed number ∷ []) c.push_reserved.new.self.items now v.count v.tokens ((operations_of v.past) ++ Remove number ∷ []) (operations_of c.with_removal.result) refl entries operations
    (stored_removed stop v.segments.items v.entries.items v.removed.items v.count v.tokens (operations_of v.past) c.self.invariant number now c.insert_number.ensures.ascending has)

pub returns-clause-there : goal.returns-clause-there
returns-clause-there c =
    let v = c.self.inside in
    let count = count_stored (arc_value v.stop) v.segments.items v.entries.items v.removed.items v.count v.tokens (operations_of v.past) c.self.invariant in
    rw (← c.self.view_is) (omega (arith, count, c.if-number-self.false))

pub returns-in_err-reserve-clause-error : goal.returns-in_err-reserve-clause-error
returns-in_err-reserve-clause-error c =
    let v = c.self.inside in
    let count = count_stored (arc_value v.stop) v.segments.items v.entries.items v.removed.items v.count v.tokens (operations_of v.past) c.self.invariant in
    rw (← c.self.view_is)
    (passed_on (RefusesRemoval (length (documents_added (operations_of v.past))) c.args.number) c.from_residual.result Memory c.from_residual.ensures.1 (omega (arith, count, c.if-number-self.false)))

pub returns-in_err-reserve-2-clause-error : goal.returns-in_err-reserve-2-clause-error
returns-in_err-reserve-2-clause-error c =
    let v = c.self.inside in
    let count = count_stored (arc_value v.stop) v.segments.items v.entries.items v.removed.items v.count v.tokens (operations_of v.past) c.self.invariant in
    rw (← c.self.view_is)
    (passed_on (RefusesRemoval (length (documents_added (operations_of v.past))) c.args.number) c.from_residual-in_err-reserve-2.result Memory c.from_residual-in_err-reserve-2.ensures.1
    (omega (arith, count, c.if-number-self.false)))
