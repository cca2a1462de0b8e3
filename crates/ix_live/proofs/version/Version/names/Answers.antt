use Rattle.std.proofs.Common.{ℕ, ◌<◌, length, subst}
use Rattle.std.specs.Arc.{arc_value}
use Rattle.std.specs.Prelude.{All}
use Rattle.std.specs.String.{string_bytes}
use Rattle.ix_live.specs.Histories.{operations_of}
use Rattle.ix_live.specs.NameErrors.{RefusesNames}
use Rattle.ix_live.specs.Operations.{documents_added}
use Rattle.ix_live.specs.declared.name_error.NameError.TheVariants.{Memory, Number}
use Rattle.ix_live.proofs.StoredLemmas.{count_stored, passed_on}
use Rattle.ix_live.proofs.VersionLemmas.{names_are}
use Rattle.ix_live.proofs.version.Version.names.Goals as goal

pub find_names-requires : goal.find_names-requires
find_names-requires c =
    rw c.as_slice.ensures.value
    (subst (λ (count : ℕ). All (λ (number : ℕ). number < count) c.args.numbers.now) c.self.invariant.counted c.in_default.ensures)

pub returns-in-Some-clause-refused : goal.returns-in-Some-clause-refused
returns-in-Some-clause-refused c =
    let v = c.self.inside in
    rw (← c.self.view_is)
    (subst (λ (count : ℕ). RefusesNames count c.args.numbers.now (Number c.in-Some.place))
    (count_stored (arc_value v.stop) v.segments.items v.entries.items v.removed.items v.count v.tokens (operations_of v.past) c.self.invariant) c.in-Some.ensures)

pub returns-in_err-find_names-clause-refused : goal.returns-in_err-find_names-clause-refused
returns-in_err-find_names-clause-refused c =
    let v = c.self.inside in
    rw (← c.self.view_is)
    (passed_on (RefusesNames (length (documents_added (operations_of v.past))) c.args.numbers.now) c.from_residual.result Memory c.from_residual.ensures.1
    (subst (λ (count : ℕ). RefusesNames count c.args.numbers.now Memory)
    (count_stored (arc_value v.stop) v.segments.items v.entries.items v.removed.items v.count v.tokens (operations_of v.past) c.self.invariant) c.in_default.ensures))

pub returns-clause-names : goal.returns-clause-names
returns-clause-names c =
    let v = c.self.inside in
    rw (← c.self.view_is)
    (names_are (arc_value v.stop) v.segments.items v.entries.items v.removed.items v.count v.tokens (operations_of v.past) c.self.invariant string_bytes c.args.numbers.now c.in_ok-find_names.field-0.items
    (rw c.as_slice.ensures.value at c.in_ok-find_names.ensures))
