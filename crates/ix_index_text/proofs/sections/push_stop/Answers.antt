use Rattle.std.proofs.Common.{◌++◌, length, map, take, sym, ap, ◌∙◌, arith, append-nil, append_assoc, string_bytes}
use Rattle.ix_vbyte.specs.Texts.{counted}
use Rattle.ix_index_text.specs.Sections.{stop_section}
use Rattle.ix_index_text.proofs.Beginnings.{stop_section-none, stop_section-more, short_term}
use Rattle.ix_index_text.proofs.sections.push_stop.Goals as goal

pub loop-term-init : goal.loop-term-init
loop-term-init c = sym (ap (λ bytes. c.args.out.now.items ++ bytes) stop_section-none ∙ append-nil c.args.out.now.items)

pub push_counted-requires : goal.push_counted-requires
push_counted-requires c =
    let short = short_term string_bytes c.args.terms.now c.loop-term.term-index c.term-item.result c.loop-term-test.true c.requires in
    let same = c.as_bytes.ensures.value ∙ ap string_bytes c.term-item.is in
    omega (arith, short, ap length same)

pub loop-term-preserved : goal.loop-term-preserved
loop-term-preserved c =
    let more = stop_section-more string_bytes c.args.terms.now c.loop-term.term-index c.term-item.result c.loop-term-test.true in
    let same = c.as_bytes.ensures.value ∙ ap string_bytes c.term-item.is in
    c.in_ok-push_counted.ensures.ok ∙ ap (λ bytes. bytes ++ counted c.as_bytes.result.now) c.loop-term.invariant
    ∙ append_assoc c.args.out.now.items (stop_section (map string_bytes (take c.loop-term.term-index c.args.terms.now))) (counted c.as_bytes.result.now)
    ∙ ap (λ text. c.args.out.now.items ++ (stop_section (map string_bytes (take c.loop-term.term-index c.args.terms.now)) ++ counted text)) same
    ∙ ap (λ bytes. c.args.out.now.items ++ bytes) (sym more)
