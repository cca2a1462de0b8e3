-- A turn tells what the source gives: as the clauses of the calls say it, one after the other.
use Rattle.std.proofs.Common.{◌≡◌, ◌+◌, ◌^◌, ◌<◌, List, ℕ, Some, None, true, false, Bool, MatchBool, string_bytes, inr, refl, sym, ap, ◌∙◌, arith}
use Rattle.ix_run.specs.Sources.{BeginsTerm, EndsTerms, entry_with}
use Rattle.ix_merge.specs.Turns.{GoesOn}
use Rattle.ix_merge.specs.declared.pending_entry.PendingEntry.{PendingEntry}
use Rattle.ix_merge.proofs.Turning.{HasTaken, from_low, has_taken, on_err_if, on_ok_if, taken_fits}
use Rattle.ix_merge.proofs.turn.take_turn.Goals as goal

pub take_list-requires-clause-low : goal.take_list-requires-clause-low
take_list-requires-clause-low g c =
    let m = c.requires.may in
    let begun = c.in_default.ensures.told m.before m.told m.was m.may.closable in
    from_low g.S.Source.heading g.S.Source.current g.S.Source.yields g.S.Source.gives g.S.Source.is_drained g.met.S.Source.given_lawfully c.args.source.now m.given m.told (string_bytes c.args.entry.now.term) c.args.entry.now.end m.may
    c.term.result.now c.term.ensures begun.begun c.begin.new.self.end begun.begins

pub overflow_add-entry : goal.overflow_add-entry
overflow_add-entry g c =
    let m = c.requires.may in
    let fits : c.begin.new.self.documents + c.in-Ok.listed.documents < 2 ^ 32 =
    taken_fits g.S.Source.heading g.S.Source.current g.S.Source.yields g.S.Source.gives g.S.Source.is_drained g.met.S.Source.given_lawfully c.args.source.now m.given m.told (string_bytes c.args.entry.now.term) c.args.entry.now.end m.may
    c.term.result.now c.term.ensures g.W.Write.contents m.before c.begin.new.writer c.begin.new.self (c.in_default.ensures.told m.before m.told m.was m.may.closable) c.take_list.new.self c.take_list.ensures.heading
    c.in-Ok.listed.documents c.in-Ok.listed.next c.take_list.new.out.items c.in-Ok.ensures.given in
    omega arith

pub send_if_full-requires : goal.send_if_full-requires
send_if_full-requires g c =
    let m = c.requires.may in
    let taken =
    has_taken g.S.Source.heading g.S.Source.current g.S.Source.yields g.S.Source.gives g.S.Source.is_drained g.met.S.Source.given_lawfully c.args.source.now m.given m.told (string_bytes c.args.entry.now.term) c.args.entry.now.end m.may
    c.term.result.now c.term.ensures g.W.Write.contents m.before c.begin.new.writer c.begin.new.self (c.in_default.ensures.told m.before m.told m.was m.may.closable) c.take_list.new.self c.take_list.ensures.heading
    c.in-Ok.listed.documents c.in-Ok.listed.next c.take_list.new.out.items c.in-Ok.ensures.given
    (record { term = c.begin.new.self.term; end = c.in-Ok.listed.next; list = c.take_list.new.out; documents = c.begin.new.self.documents + c.in-Ok.listed.documents }) refl refl refl in
    record { gathered = record { before = m.before; told = _; has = taken.was } }

pub returns-in-Err-send_if_full-clause-some : goal.returns-in-Err-send_if_full-clause-some
returns-in-Err-send_if_full-clause-some g c before told given was may =
    let taken =
    has_taken g.S.Source.heading g.S.Source.current g.S.Source.yields g.S.Source.gives g.S.Source.is_drained g.met.S.Source.given_lawfully c.args.source.now given told (string_bytes c.args.entry.now.term) c.args.entry.now.end may
    c.term.result.now c.term.ensures g.W.Write.contents before c.begin.new.writer c.begin.new.self (c.in_default.ensures.told before told was may.closable) c.take_list.new.self c.take_list.ensures.heading
    c.in-Ok.listed.documents c.in-Ok.listed.next c.take_list.new.out.items c.in-Ok.ensures.given
    (record { term = c.begin.new.self.term; end = c.in-Ok.listed.next; list = c.take_list.new.out; documents = c.begin.new.self.documents + c.in-Ok.listed.documents }) refl refl refl in
    inr (taken.gave, λ sure. taken.goes (λ has. g.met.S.Source.sure_yields c.take_list.new.self given (Some (entry_with taken.gave.term taken.gave.postings)) has (c.in-Ok.ensures.sure sure)), c.send_if_full.ensures.front before _ taken.was)

pub returns-clause-turned : goal.returns-clause-turned
returns-clause-turned g c before told given was may =
    let taken =
    has_taken g.S.Source.heading g.S.Source.current g.S.Source.yields g.S.Source.gives g.S.Source.is_drained g.met.S.Source.given_lawfully c.args.source.now given told (string_bytes c.args.entry.now.term) c.args.entry.now.end may
    c.term.result.now c.term.ensures g.W.Write.contents before c.begin.new.writer c.begin.new.self (c.in_default.ensures.told before told was may.closable) c.take_list.new.self c.take_list.ensures.heading
    c.in-Ok.listed.documents c.in-Ok.listed.next c.take_list.new.out.items c.in-Ok.ensures.given
    (record { term = c.begin.new.self.term; end = c.in-Ok.listed.next; list = c.take_list.new.out; documents = c.begin.new.self.documents + c.in-Ok.listed.documents }) refl refl refl in
    on_ok_if c.next_term.result c.map_err.result _ _ c.map_err.ensures.cases
    (λ more is. record {
      gave = taken.gave;
      goes = on _ taken more (rw is at c.next_term.ensures.begun);
      was = c.in_default-send_if_full.ensures.told before _ taken.was;
      told_of = ap string_bytes c.in_default-send_if_full.ensures.same_term ∙ c.in_default.ensures.term ∙ sym taken.of_term;
      told_to = c.in_default-send_if_full.ensures.same_end ∙ taken.told_to;
    })
  where
    on : (then : PendingEntry) (taken : HasTaken g.S.Source.heading g.S.Source.current g.S.Source.yields g.S.Source.gives g.S.Source.is_drained g.met.S.Source.given_lawfully c.args.source.now given told (string_bytes c.args.entry.now.term) c.args.entry.now.end may
        c.term.result.now c.term.ensures g.W.Write.contents before c.begin.new.writer c.take_list.new.self then)
        → (more : Bool) → MatchBool more ((term : List ℕ) × (g.S.Source.current c.next_term.new.self ≡ Some term) × BeginsTerm g.S.Source.yields g.S.Source.gives g.S.Source.is_drained c.take_list.new.self c.next_term.new.self term)
        ((g.S.Source.current c.next_term.new.self ≡ None) × g.S.Source.is_ended c.next_term.new.self × EndsTerms g.S.Source.yields g.S.Source.gives g.S.Source.is_drained c.take_list.new.self c.next_term.new.self)
        → GoesOn g.S.Source.current g.S.Source.yields g.S.Source.gives c.args.source.now c.next_term.new.self given (entry_with taken.gave.term taken.gave.postings)
    on then taken true has = taken.on_more c.next_term.new.self has.0 c.in-Ok.ensures.drained has.1 has.2
    on then taken false has = taken.on_end c.next_term.new.self c.in-Ok.ensures.drained has.0 has.2

pub returns-clause-some : goal.returns-clause-some
returns-clause-some g c before told given was may =
    let taken =
    has_taken g.S.Source.heading g.S.Source.current g.S.Source.yields g.S.Source.gives g.S.Source.is_drained g.met.S.Source.given_lawfully c.args.source.now given told (string_bytes c.args.entry.now.term) c.args.entry.now.end may
    c.term.result.now c.term.ensures g.W.Write.contents before c.begin.new.writer c.begin.new.self (c.in_default.ensures.told before told was may.closable) c.take_list.new.self c.take_list.ensures.heading
    c.in-Ok.listed.documents c.in-Ok.listed.next c.take_list.new.out.items c.in-Ok.ensures.given
    (record { term = c.begin.new.self.term; end = c.in-Ok.listed.next; list = c.take_list.new.out; documents = c.begin.new.self.documents + c.in-Ok.listed.documents }) refl refl refl in
    on_err_if c.map_err.result _ (inr (taken.gave, λ sure. taken.goes (λ has. g.met.S.Source.sure_yields c.take_list.new.self given (Some (entry_with taken.gave.term taken.gave.postings)) has (c.in-Ok.ensures.sure sure)), c.send_if_full.ensures.front before _ taken.was))

pub returns-clause-sure : goal.returns-clause-sure
returns-clause-sure g c =
    on_ok_if c.next_term.result c.map_err.result _ _ c.map_err.ensures.cases (λ more is. λ sure. let then = rw is at c.next_term.ensures.sure in then (c.in-Ok.ensures.sure sure))
