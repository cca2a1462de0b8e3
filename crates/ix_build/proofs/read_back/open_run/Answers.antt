use Rattle.std.proofs.Common.{rules, ◌≡◌, ℕ, refl, ◌∙◌}
use Rattle.ix_run.specs.Heads.{Heading, heading_of}
use Rattle.ix_build.specs.Stores.{CountsMore}
use Rattle.ix_build.proofs.UnreadLemmas.{of_bytes, other_run}
use Rattle.ix_build.proofs.read_back.open_run.Goals as goal

pub returns-then-are_same-clause-read : goal.returns-then-are_same-clause-read
returns-then-are_same-clause-read g c =
    let opened = c.in-Ok-open.ensures in
    record {
      headed = search rules;
      unread = opened.unread;
      told =
          of_bytes g.T.Reader.Read.remaining (g.T.RunStore.back c.args.store.now c.args.place) c.in-Ok.reader c.in-Ok-open.run' c.in-Ok.ensures.given
          (λ bytes entries is yielded. (opened.yields bytes entries is yielded).0) opened.sure;
    }

-- the head that was read is another
pub returns-else-are_same-clause-caused : goal.returns-else-are_same-clause-caused
returns-else-are_same-clause-caused g c =
    let remaining = g.T.Reader.Read.remaining in
    let store = c.args.store.now in
    let back = g.T.RunStore.back store in
    let place = c.args.place in
    let heading = heading_of c.args.kept.now in
    let kept : ℕ → Heading → Type 0 = λ at other. (at ≡ place) × (other ≡ heading) in
    let run = c.in-Ok-open.run' in
    let opened = c.in-Ok-open.ensures in
    other_run remaining (CountsMore (g.T.RunStore.refusals store) (g.T.RunStore.refusals c.load.new.self)) kept back place run heading opened.unread
    (of_bytes remaining (back place) c.in-Ok.reader run c.in-Ok.ensures.given (λ bytes entries is yielded. (opened.yields bytes entries is yielded).0) opened.sure)
    (refl, refl) (λ same. c.if-are_same.ensures.other refl (c.head.ensures ∙ same))
