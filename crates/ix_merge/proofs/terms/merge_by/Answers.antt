-- From turn to turn: the sources gave what was told, and the tree holds the least of their current terms.
use Rattle.std.proofs.Common.{◌≡◌, ◌+◌, ◌*◌, ◌-◌, ◌^◌, ◌<◌, List, length, length-set, get_or, string_bytes, refl, sym, subst, ◌∙◌, arith, inl, inr}
use Rattle.std.proofs.Math.Seq.{map-set_same}
use Rattle.std.proofs.lemmas.List.{get_or_default, length-map}
use Rattle.std.proofs.lemmas.List.Elements.{All-set}
use Rattle.std.proofs.lemmas.Result.{err_from_is_err_and}
use Rattle.ix_file.specs.Writers.{sink}
use Rattle.ix_run.specs.Heads.{Heading}
use Rattle.ix_merge.specs.Keys.{HoldsFirst, key_of, keys_of}
use Rattle.ix_merge.specs.Merging.{AreApart}
use Rattle.ix_merge.proofs.Faulting.{keep_more, refusal_at}
use Rattle.ix_merge.proofs.MergingSteps.{behind_then, ended_front, longer, may_take, merged_nothing, merged_some, merged_some_then, merging_first, merging_more, share_here, tells_all}
use Rattle.ix_merge.proofs.Rounds.{advanced, behind_first, has_term, none_left}
use Rattle.ix_merge.proofs.Starts.{started_headed}
use Rattle.ix_merge.proofs.Turning.{on_err_if}
use Rattle.ix_merge.proofs.Unfinished.{unfinished}
use Rattle.ix_merge.proofs.WinnerNodes.{holds_first}
use Rattle.ix_merge.proofs.terms.merge_by.Goals as goal

pub returns-in_err-begin_all-clause-some : goal.returns-in_err-begin_all-clause-some
returns-in_err-begin_all-clause-some g c before told was none =
    on_err_if c.from_residual.result _
    (merged_nothing g.S.Source.heading g.S.Source.current g.S.Source.yields g.S.Source.gives g.W.Write.contents g.met.S.Source.given_lawfully c.args.sources.now c.args.writer.now before told c.requires.unread was none)

pub loop-place-init : goal.loop-place-init
loop-place-init g c =
    let started = c.in_ok-begin_all.ensures.started in
    record {
      as_many = started.as_many;
      headed = started_headed g.S.Source.heading g.S.Source.current g.S.Source.yields g.S.Source.gives c.args.sources.now c.begin_all.new.sources started;
      no_more_faults = c.in_ok-begin_all.ensures.no_more_faults;
      sure = c.in_ok-begin_all.ensures.sure;
      same_writer = refl;
      played = c.in_ok-begin_all.ensures.tree;
      behind = behind_first g.S.Source.heading g.S.Source.current g.S.Source.yields g.S.Source.gives g.met.S.Source.given_lawfully c.args.sources.now c.begin_all.new.sources (string_bytes c.args.entry.now.term) c.args.entry.now.end started c.requires.none.term;
      merging = λ before told was none.
          merging_first g.S.Source.heading g.S.Source.current g.S.Source.yields g.S.Source.gives g.W.Write.contents g.met.S.Source.given_lawfully c.args.sources.now c.begin_all.new.sources before told c.args.writer.now
          c.args.entry.now started was none c.requires.none;
    }

pub take_turn-requires-clause-may : goal.take_turn-requires-clause-may
take_turn-requires-clause-may g c =
    let i = c.loop-place.invariant in
    let r = c.requires.told in
    let merging = i.merging r.before r.told r.was r.no_term in
    let first : HoldsFirst (keys_of g.S.Source.heading g.S.Source.current c.loop-place.sources) c.in-Some.place =
    holds_first (keys_of g.S.Source.heading g.S.Source.current c.loop-place.sources) c.loop-place.tree c.in-Some.place i.played (sym c.root.ensures ∙ c.in-Some.is) in
    let within : c.in-Some.place < length c.loop-place.sources = omega (arith, first.within, length-map c.loop-place.sources (key_of g.S.Source.heading g.S.Source.current)) in
    let source = get_or c.loop-place.sources c.in-Some.place c.index-sources-place.result in
    let here : get_or c.loop-place.sources c.in-Some.place source ≡ source = get_or_default c.loop-place.sources c.in-Some.place source c.index-sources-place.result within in
    record {
      before = r.before;
      told = merging.told;
      was = merging.was;
      given = (share_here g.S.Source.heading g.S.Source.current g.S.Source.yields g.S.Source.gives g.W.Write.contents g.met.S.Source.given_lawfully c.args.sources.now c.loop-place.sources r.before r.told c.loop-place.writer
          c.loop-place.entry merging i.behind c.requires.few c.in-Some.place source within here).entries;
      may =
          may_take g.S.Source.heading g.S.Source.current g.S.Source.yields g.S.Source.gives g.W.Write.contents g.met.S.Source.given_lawfully c.args.sources.now c.loop-place.sources r.before r.told c.loop-place.writer
          c.loop-place.entry merging i.behind c.requires.few c.in-Some.place source within here;
    }

pub returns-in_err-more-clause-some : goal.returns-in_err-more-clause-some
returns-in_err-more-clause-some g c before told was none =
    let i = c.loop-place.invariant in
    let merging = i.merging before told was none in
    let first : HoldsFirst (keys_of g.S.Source.heading g.S.Source.current c.loop-place.sources) c.in-Some.place =
    holds_first (keys_of g.S.Source.heading g.S.Source.current c.loop-place.sources) c.loop-place.tree c.in-Some.place i.played (sym c.root.ensures ∙ c.in-Some.is) in
    let within : c.in-Some.place < length c.loop-place.sources = omega (arith, first.within, length-map c.loop-place.sources (key_of g.S.Source.heading g.S.Source.current)) in
    let source = get_or c.loop-place.sources c.in-Some.place c.index-sources-place.result in
    let here : get_or c.loop-place.sources c.in-Some.place source ≡ source = get_or_default c.loop-place.sources c.in-Some.place source c.index-sources-place.result within in
    let may =
    may_take g.S.Source.heading g.S.Source.current g.S.Source.yields g.S.Source.gives g.W.Write.contents g.met.S.Source.given_lawfully c.args.sources.now c.loop-place.sources before told c.loop-place.writer
    c.loop-place.entry merging i.behind c.requires.few c.in-Some.place source within here in
    on_err_if c.from_residual-in_err-more.result _
    (merged_some_then g.S.Source.heading g.S.Source.current g.S.Source.yields g.S.Source.gives g.W.Write.contents g.met.S.Source.given_lawfully c.args.sources.now c.loop-place.sources before told c.loop-place.writer
    c.loop-place.entry merging i.behind c.requires.few c.in-Some.place source within here g.S.Source.sure c.take_turn.new.writer (c.in_err-more.ensures.some before merging.told _ merging.was may))

pub returns-in_err-more-clause-refused : goal.returns-in_err-more-clause-refused
returns-in_err-more-clause-refused g c =
    let i = c.loop-place.invariant in
    let first : HoldsFirst (keys_of g.S.Source.heading g.S.Source.current c.loop-place.sources) c.in-Some.place =
    holds_first (keys_of g.S.Source.heading g.S.Source.current c.loop-place.sources) c.loop-place.tree c.in-Some.place i.played (sym c.root.ensures ∙ c.in-Some.is) in
    let within : c.in-Some.place < length c.loop-place.sources = omega (arith, first.within, length-map c.loop-place.sources (key_of g.S.Source.heading g.S.Source.current)) in
    let source = get_or c.loop-place.sources c.in-Some.place c.index-sources-place.result in
    let here : get_or c.loop-place.sources c.in-Some.place source ≡ source = get_or_default c.loop-place.sources c.in-Some.place source c.index-sources-place.result within in
    let p = err_from_is_err_and c.from_residual-in_err-more.result c.from_residual-in_err-more.ensures.1 in
    rw (p.1, p.2)
    (refusal_at g.S.Source.faults c.args.sources.now c.loop-place.sources c.in-Some.place source i.as_many i.no_more_faults within here c.in_err-more.field-0.0 c.in_err-more.ensures.refused)

pub update-requires : goal.update-requires
update-requires g c =
    let i = c.loop-place.invariant in
    let first : HoldsFirst (keys_of g.S.Source.heading g.S.Source.current c.loop-place.sources) c.in-Some.place =
    holds_first (keys_of g.S.Source.heading g.S.Source.current c.loop-place.sources) c.loop-place.tree c.in-Some.place i.played (sym c.root.ensures ∙ c.in-Some.is) in
    let within : c.in-Some.place < length c.loop-place.sources = omega (arith, first.within, length-map c.loop-place.sources (key_of g.S.Source.heading g.S.Source.current)) in
    advanced g.S.Source.heading g.S.Source.current c.loop-place.sources c.loop-place.tree c.in-Some.place c.take_turn.new.source c.in_ok-more.more within i.played c.in_ok-more.ensures.more

pub loop-place-smaller : goal.loop-place-smaller
loop-place-smaller g c =
    let i = c.loop-place.invariant in
    let r = c.requires.told in
    let merging = i.merging r.before r.told r.was r.no_term in
    let first : HoldsFirst (keys_of g.S.Source.heading g.S.Source.current c.loop-place.sources) c.in-Some.place =
    holds_first (keys_of g.S.Source.heading g.S.Source.current c.loop-place.sources) c.loop-place.tree c.in-Some.place i.played (sym c.root.ensures ∙ c.in-Some.is) in
    let within : c.in-Some.place < length c.loop-place.sources = omega (arith, first.within, length-map c.loop-place.sources (key_of g.S.Source.heading g.S.Source.current)) in
    let source = get_or c.loop-place.sources c.in-Some.place c.index-sources-place.result in
    let here : get_or c.loop-place.sources c.in-Some.place source ≡ source = get_or_default c.loop-place.sources c.in-Some.place source c.index-sources-place.result within in
    let may =
    may_take g.S.Source.heading g.S.Source.current g.S.Source.yields g.S.Source.gives g.W.Write.contents g.met.S.Source.given_lawfully c.args.sources.now c.loop-place.sources r.before r.told c.loop-place.writer
    c.loop-place.entry merging i.behind c.requires.few c.in-Some.place source within here in
    let more =
    longer g.S.Source.heading g.S.Source.current g.S.Source.yields g.S.Source.gives g.W.Write.contents g.met.S.Source.given_lawfully c.args.sources.now c.loop-place.sources r.before r.told c.loop-place.writer
    c.loop-place.entry merging i.behind c.requires.few c.in-Some.place source within here c.take_turn.new.source c.take_turn.new.writer c.take_turn.new.entry
    c.take_turn.ensures.heading (c.in_ok-more.ensures.turned r.before merging.told _ merging.was may) in
    let less : 15 * 2 ^ 28 - (c.take_turn.new.writer.sections.postings + length c.take_turn.new.entry.list.items) < 15 * 2 ^ 28 - (c.loop-place.writer.sections.postings + length c.loop-place.entry.list.items) = omega (arith, more.0, more.1) in
    less

pub loop-place-preserved : goal.loop-place-preserved
loop-place-preserved g c =
    let i = c.loop-place.invariant in
    let first : HoldsFirst (keys_of g.S.Source.heading g.S.Source.current c.loop-place.sources) c.in-Some.place =
    holds_first (keys_of g.S.Source.heading g.S.Source.current c.loop-place.sources) c.loop-place.tree c.in-Some.place i.played (sym c.root.ensures ∙ c.in-Some.is) in
    let within : c.in-Some.place < length c.loop-place.sources = omega (arith, first.within, length-map c.loop-place.sources (key_of g.S.Source.heading g.S.Source.current)) in
    let source = get_or c.loop-place.sources c.in-Some.place c.index-sources-place.result in
    let here : get_or c.loop-place.sources c.in-Some.place source ≡ source = get_or_default c.loop-place.sources c.in-Some.place source c.index-sources-place.result within in
    let r = c.requires.told in
    let merging = i.merging r.before r.told r.was r.no_term in
    let may =
    may_take g.S.Source.heading g.S.Source.current g.S.Source.yields g.S.Source.gives g.W.Write.contents g.met.S.Source.given_lawfully c.args.sources.now c.loop-place.sources r.before r.told c.loop-place.writer
    c.loop-place.entry merging i.behind c.requires.few c.in-Some.place source within here in
    record {
      as_many = length-set c.loop-place.sources c.in-Some.place c.take_turn.new.source ∙ i.as_many;
      headed = map-set_same g.S.Source.heading c.loop-place.sources c.in-Some.place c.take_turn.new.source c.index-sources-place.result c.take_turn.ensures.heading ∙ i.headed;
      no_more_faults =
          keep_more g.S.Source.faults c.args.sources.now c.loop-place.sources c.in-Some.place source i.as_many i.no_more_faults within here
          c.take_turn.new.source c.in_ok-more.ensures.no_more_faults;
      sure = λ all.
          let now = i.sure all in
          All-set g.S.Source.sure c.loop-place.sources c.in-Some.place c.take_turn.new.source (c.in_ok-more.ensures.sure (subst g.S.Source.sure here (now c.in-Some.place source within))) now;
      same_writer = c.take_turn.ensures.same_writer ∙ i.same_writer;
      played = c.update.ensures;
      behind =
          behind_then g.S.Source.heading g.S.Source.current g.S.Source.yields g.S.Source.gives g.W.Write.contents g.met.S.Source.given_lawfully c.args.sources.now c.loop-place.sources r.before r.told c.loop-place.writer
          c.loop-place.entry merging i.behind c.requires.few c.in-Some.place source within here c.take_turn.new.source c.take_turn.new.writer c.take_turn.new.entry
          c.take_turn.ensures.heading (c.in_ok-more.ensures.turned r.before merging.told _ merging.was may) first (subst (λ (hs : List Heading). AreApart hs) (sym i.headed) c.requires.apart);
      merging = λ before told was none.
          let merging = i.merging before told was none in
          let may =
          may_take g.S.Source.heading g.S.Source.current g.S.Source.yields g.S.Source.gives g.W.Write.contents g.met.S.Source.given_lawfully c.args.sources.now c.loop-place.sources before told c.loop-place.writer
          c.loop-place.entry merging i.behind c.requires.few c.in-Some.place source within here in
          merging_more g.S.Source.heading g.S.Source.current g.S.Source.yields g.S.Source.gives g.W.Write.contents g.met.S.Source.given_lawfully c.args.sources.now c.loop-place.sources before told c.loop-place.writer
          c.loop-place.entry merging i.behind c.requires.few c.in-Some.place source within here c.take_turn.new.source c.take_turn.new.writer c.take_turn.new.entry
          c.take_turn.ensures.heading (c.in_ok-more.ensures.turned before merging.told _ merging.was may);
    }

pub send-requires : goal.send-requires
send-requires g c =
    let r = c.requires.told in
    let merging = c.loop-place.invariant.merging r.before r.told r.was r.no_term in
    record { gathered = record { before = r.before; told = merging.told; has = merging.was } }

pub returns-in-Ok-clause-merged : goal.returns-in-Ok-clause-merged
returns-in-Ok-clause-merged g c before told was none =
    let i = c.loop-place.invariant in
    let merging = i.merging before told was none in
    tells_all g.S.Source.heading g.S.Source.current g.S.Source.yields g.S.Source.gives g.W.Write.contents g.met.S.Source.given_lawfully c.args.sources.now c.loop-place.sources before told c.loop-place.writer
    c.loop-place.entry merging (none_left g.S.Source.heading g.S.Source.current c.loop-place.sources c.loop-place.tree i.played (sym c.root.ensures ∙ c.in_default.is))
    c.send.new.writer (c.in-Ok.ensures.told before merging.told merging.was)

pub returns-in-Err-clause-some : goal.returns-in-Err-clause-some
returns-in-Err-clause-some g c before told was none =
    let i = c.loop-place.invariant in
    let merging = i.merging before told was none in
    merged_some g.S.Source.heading g.S.Source.current g.S.Source.yields g.S.Source.gives g.W.Write.contents g.met.S.Source.given_lawfully c.args.sources.now c.loop-place.sources before told c.loop-place.writer
    c.loop-place.entry (g.W.Write.contents (sink c.send.new.writer)) merging (c.send.ensures.front before merging.told merging.was)

pub take_turn-requires-clause-at_hand : goal.take_turn-requires-clause-at_hand
take_turn-requires-clause-at_hand g c =
    let i = c.loop-place.invariant in
    let first : HoldsFirst (keys_of g.S.Source.heading g.S.Source.current c.loop-place.sources) c.in-Some.place =
    holds_first (keys_of g.S.Source.heading g.S.Source.current c.loop-place.sources) c.loop-place.tree c.in-Some.place i.played (sym c.root.ensures ∙ c.in-Some.is) in
    let within : c.in-Some.place < length c.loop-place.sources = omega (arith, first.within, length-map c.loop-place.sources (key_of g.S.Source.heading g.S.Source.current)) in
    let source = get_or c.loop-place.sources c.in-Some.place c.index-sources-place.result in
    let here : get_or c.loop-place.sources c.in-Some.place source ≡ source = get_or_default c.loop-place.sources c.in-Some.place source c.index-sources-place.result within in
    has_term g.S.Source.heading g.S.Source.current c.loop-place.sources c.in-Some.place source within here first.there

pub returns-in_err-begin_all-clause-unfinished : goal.returns-in_err-begin_all-clause-unfinished
returns-in_err-begin_all-clause-unfinished g c sure before told was none = on_err_if c.from_residual.result _ (inl refl)

pub returns-in_err-more-clause-unfinished : goal.returns-in_err-more-clause-unfinished
returns-in_err-more-clause-unfinished g c sure before told was none =
    let i = c.loop-place.invariant in
    let merging = i.merging before told was none in
    let first : HoldsFirst (keys_of g.S.Source.heading g.S.Source.current c.loop-place.sources) c.in-Some.place =
    holds_first (keys_of g.S.Source.heading g.S.Source.current c.loop-place.sources) c.loop-place.tree c.in-Some.place i.played (sym c.root.ensures ∙ c.in-Some.is) in
    let within : c.in-Some.place < length c.loop-place.sources = omega (arith, first.within, length-map c.loop-place.sources (key_of g.S.Source.heading g.S.Source.current)) in
    let source = get_or c.loop-place.sources c.in-Some.place c.index-sources-place.result in
    let here : get_or c.loop-place.sources c.in-Some.place source ≡ source = get_or_default c.loop-place.sources c.in-Some.place source c.index-sources-place.result within in
    let may =
    may_take g.S.Source.heading g.S.Source.current g.S.Source.yields g.S.Source.gives g.W.Write.contents g.met.S.Source.given_lawfully c.args.sources.now c.loop-place.sources before told c.loop-place.writer
    c.loop-place.entry merging i.behind c.requires.few c.in-Some.place source within here in
    on_err_if c.from_residual-in_err-more.result _
    (inr
    (unfinished g.S.Source.heading g.S.Source.current g.S.Source.yields g.S.Source.gives g.met.S.Source.yielded_lawfully g.S.Source.sure g.met.S.Source.sure_yields g.W.Write.contents c.args.sources.now c.loop-place.sources before told c.loop-place.writer
    c.loop-place.entry merging i.behind c.requires.unread c.requires.apart (i.sure sure) c.in-Some.place source within here first c.take_turn.new.writer (c.in_err-more.ensures.some before merging.told _ merging.was may)))

pub returns-in-Err-clause-unfinished : goal.returns-in-Err-clause-unfinished
returns-in-Err-clause-unfinished g c sure before told was none =
    let i = c.loop-place.invariant in
    let merging = i.merging before told was none in
    inr
    (ended_front g.S.Source.heading g.S.Source.current g.S.Source.yields g.S.Source.gives g.W.Write.contents g.met.S.Source.given_lawfully c.args.sources.now c.loop-place.sources before told c.loop-place.writer
    c.loop-place.entry merging (none_left g.S.Source.heading g.S.Source.current c.loop-place.sources c.loop-place.tree i.played (sym c.root.ensures ∙ c.in_default.is))
    (g.W.Write.contents (sink c.send.new.writer)) (c.send.ensures.front before merging.told merging.was))
