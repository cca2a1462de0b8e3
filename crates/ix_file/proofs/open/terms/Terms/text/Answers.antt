use Rattle.std.proofs.Common.{◌∙◌, length, Some, ap, sym, arith}
use Rattle.ix_file.proofs.HeldTermLemmas.{held_text, length-held_starts}
use Rattle.ix_file.proofs.open.terms.Terms.text.Goals as goal

pub index-requires : goal.index-requires
index-requires c =
    let starts = length-held_starts _ _ _ _ c.self.invariant in omega (arith, starts, ap length c.self.view_is, c.requires, c.self.inside.starts.ok)

pub index-requires-2 : goal.index-requires-2
index-requires-2 c =
    let starts = length-held_starts _ _ _ _ c.self.invariant in omega (arith, starts, ap length c.self.view_is, c.requires, c.self.inside.starts.ok)

pub range-requires-clause-start_le_end : goal.range-requires-clause-start_le_end
range-requires-clause-start_le_end c = (held_text _ _ _ _ c.args.self.now c.deref.result.now c.args.number _ _ c.self.invariant c.self.view_is c.deref.ensures c.requires c.index.ensures c.index-2.ensures).ordered

pub range-requires-clause-start_boundary : goal.range-requires-clause-start_boundary
range-requires-clause-start_boundary c =
    λ above. (held_text _ _ _ _ c.args.self.now c.deref.result.now c.args.number _ _ c.self.invariant c.self.view_is c.deref.ensures c.requires c.index.ensures c.index-2.ensures).start

pub range-requires-clause-end_boundary : goal.range-requires-clause-end_boundary
range-requires-clause-end_boundary c = (held_text _ _ _ _ c.args.self.now c.deref.result.now c.args.number _ _ c.self.invariant c.self.view_is c.deref.ensures c.requires c.index.ensures c.index-2.ensures).end

pub returns : goal.returns
returns c =
    (held_text _ _ _ _ c.args.self.now c.deref.result.now c.args.number _ _ c.self.invariant c.self.view_is c.deref.ensures c.requires c.index.ensures c.index-2.ensures).is
    ∙ ap Some (sym c.range.ensures.value)
