-- Where a lawful list comes first, only its end can be missing.
use Rattle.std.proofs.Common.{◌≡◌, length, ap, sym, arith, length-take, ⊎_elim}
use Rattle.ix_vbyte.specs.Postings.{list_bytes}
use Rattle.ix_vbyte.specs.declared.errors.VbError.TheVariants.{Cut}
use Rattle.ix_run_text.specs.Inputs.{known_left}
use Rattle.ix_run_text.proofs.ReadLists.{front_stands, if_failed, whole_came}
use Rattle.ix_run_text.proofs.list.read_list.Goals as goal

pub returns-in-Ok-2-clause-accepted : goal.returns-in-Ok-2-clause-accepted
returns-in-Ok-2-clause-accepted g c rows numbers postings rest has holds fit free counted sized known =
    let held = c.held-bytes.result.now in
    let came = c.min.result in
    let stands = front_stands rows c.args.marks.now numbers postings rest held came c.args.counts.documents holds fit free counted (omega arith) (omega (arith, sized))
    (known_left g.R.Read.remaining c.args.input.now) known (rw c.held-bytes.ensures c.fill-filled.ensures.came) in
    let whole : came ≡ length (list_bytes postings) = whole_came rows c.args.marks.now numbers postings rest held came c.args.counts.documents stands _ _ (c.in-Ok-2.ensures.read rows has) in
    let less = if_failed c.fill-filled.result (sym c.if-is_ok.ensures.value) c.fill-filled.ensures.short in
    absurd (omega (arith, whole, less, ap length c.held-bytes.ensures, sized))

pub returns-in_ok-filled-in-Cut-clause-accepted : goal.returns-in_ok-filled-in-Cut-clause-accepted
returns-in_ok-filled-in-Cut-clause-accepted g c rows numbers postings rest has holds fit free counted sized known =
    let held = c.held-bytes.result.now in
    let came = c.min.result in
    let stands = front_stands rows c.args.marks.now numbers postings rest held came c.args.counts.documents holds fit free counted (omega arith) (omega (arith, sized))
    (known_left g.R.Read.remaining c.args.input.now) known (rw c.held-bytes.ensures c.fill-filled.ensures.came) in
    let may = c.in-Err.ensures.accepted rows has stands in
    ⊎_elim (λ memory. let is = c.in-Number.is in absurd (cc))
    (λ cut. let less = cut.1 in absurd (omega (arith, less, length-take came held, ap length c.held-bytes.ensures, sized, c.in_ok-filled-in-Cut.ensures.held)))
    may

pub returns-in_default-clause-accepted : goal.returns-in_default-clause-accepted
returns-in_default-clause-accepted g c rows numbers postings rest has holds fit free counted sized known =
    let held = c.held-bytes.result.now in
    let came = c.min.result in
    let stands = front_stands rows c.args.marks.now numbers postings rest held came c.args.counts.documents holds fit free counted (omega arith) (omega (arith, sized))
    (known_left g.R.Read.remaining c.args.input.now) known (rw c.held-bytes.ensures c.fill-filled.ensures.came) in
    let may = c.in-Err.ensures.accepted rows has stands in
    ⊎_elim (λ memory. rw (c.from.ensures memory) tt) (λ cut. absurd (c.in_default.not-Number Cut cut.0)) may

pub returns-in_default-number-clause-accepted : goal.returns-in_default-number-clause-accepted
returns-in_default-number-clause-accepted g c rows numbers postings rest has holds fit free counted sized known =
    let held = c.held-bytes.result.now in
    let came = c.min.result in
    let stands = front_stands rows c.args.marks.now numbers postings rest held came c.args.counts.documents holds fit free counted (omega arith) (omega (arith, sized))
    (known_left g.R.Read.remaining c.args.input.now) known (rw c.held-bytes.ensures c.fill-filled.ensures.came) in
    let may = c.in-Err.ensures.accepted rows has stands in
    let is = c.in-Number.is in
    ⊎_elim (λ memory. absurd (cc)) (λ cut. let also = cut.0 in absurd (c.in_default-number.not-Cut (cc))) may
