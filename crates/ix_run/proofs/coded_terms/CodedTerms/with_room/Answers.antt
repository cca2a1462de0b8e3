use Rattle.std.proofs.Common.{List, ℕ, sym, subst, ap, length, arith}
use Rattle.ix_run.specs.HeldTerms.{HoldTerms, terms_in}
use Rattle.ix_run.proofs.HeldTermLemmas.{none_held, none_told}
use Rattle.ix_run.proofs.coded_terms.CodedTerms.with_room.Goals as goal

pub invariant_of-result : goal.invariant_of-result
invariant_of-result c = subst (λ (bytes : List ℕ). HoldTerms bytes (terms_in bytes)) (sym c.in_ok-with_capacity.ensures.items) none_held

pub returns : goal.returns
returns c = none_told c.in_ok-with_capacity.field-0.items (omega (arith, ap length c.in_ok-with_capacity.ensures.items))
