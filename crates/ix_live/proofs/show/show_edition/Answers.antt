use Rattle.std.proofs.Common.{◌≡◌, ◌∙◌, ap, drop, refl}
use Rattle.std.specs.Arc.{arc_value}
use Rattle.std.proofs.lemmas.Result.{MatchResult-weaker}
use Rattle.ix_live.specs.Identities.{shown_in}
use Rattle.ix_live.proofs.Agreeing.{goes_on_of, last_shown, turns}
use Rattle.ix_live.proofs.show.show_edition.Goals as goal

pub publish_as-requires : goal.publish_as-requires
publish_as-requires g c next is =
    let writer = c.append.new.self in
    let from : shown_in writer.desk.shown.value ≡ shown_in c.args.writer.desk.shown.value = rw c.append.ensures.desk refl in
    let pushed = rw c.in-Ok.ensures.pending at is in
    let same : shown_in next ≡ arc_value c.args.next.1 = pushed ∙ last_shown arc_value (shown_in writer.desk.shown.value) (drop c.args.writer.behind c.args.writer.log.items) c.args.next.1 in
    turns _ _ writer.desk.shown.value next (goes_on_of (shown_in c.args.writer.desk.shown.value) (arc_value c.args.next.1) (shown_in writer.desk.shown.value) (shown_in next) from same c.requires)

pub returns-in-Ok : goal.returns-in-Ok
returns-in-Ok g c =
    let writer = c.append.new.self in
    let from : shown_in writer.desk.shown.value ≡ shown_in c.args.writer.desk.shown.value = rw c.append.ensures.desk refl in
    MatchResult-weaker c.publish_as.result.1 c.publish_as.ensures.values
    (λ done h. (rw c.in-Ok.ensures.pending at h.0) ∙ last_shown arc_value (shown_in writer.desk.shown.value) (drop c.args.writer.behind c.args.writer.log.items) c.args.next.1)
    (λ error h. ap shown_in h.0 ∙ from)
