use Rattle.std.proofs.Common.{ℕ, List, sym, subst, arith}
use Rattle.ix_output.specs.Sinks.{AppendsFront}
use Rattle.ix_file.specs.Telling.{MayList}
use Rattle.ix_file.specs.Told.{Told, settled_front}
use Rattle.ix_file.specs.Writers.{WasTold, sink}
use Rattle.ix_file.proofs.EndingLemmas.{front_of_spelled}
use Rattle.ix_merge.proofs.pending_entry.PendingEntry.send.Goals as goal

pub returns-clause-told : goal.returns-clause-told
returns-clause-told g c before told has =
    let list = has.some (omega arith) in
    let may = subst (λ (bytes : List ℕ). MayList has.base list.postings c.args.self.now.documents c.args.self.now.end bytes) (sym c.deref.ensures.value) list.may in
    subst (λ (t : Told). WasTold g.W.Write.contents before c.list.new.self t) (sym list.told_with) (c.in_ok-list.ensures.told before has.base list.postings has.was may)

pub returns-clause-front : goal.returns-clause-front
returns-clause-front g c before told has =
    let list = has.some (omega arith) in
    let may = subst (λ (bytes : List ℕ). MayList has.base list.postings c.args.self.now.documents c.args.self.now.end bytes) (sym c.deref.ensures.value) list.may in
    let was = c.in_ok-list.ensures.told before has.base list.postings has.was may in
    subst (λ (t : Told). AppendsFront before (g.W.Write.contents (sink c.list.new.self)) (settled_front t)) (sym list.told_with)
    (front_of_spelled before (g.W.Write.contents (sink c.list.new.self)) c.list.new.self.sections.pending.items _ was.written)
