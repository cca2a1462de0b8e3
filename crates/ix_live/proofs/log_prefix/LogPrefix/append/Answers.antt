use Rattle.std.proofs.Common.{sym, ◌∙◌, ap}
use Rattle.ix_live.specs.Logs.{head_of}
use Rattle.ix_live.proofs.Appending.{appends_moves}
use Rattle.ix_live.proofs.log_prefix.LogPrefix.append.Goals as goal

pub compare_exchange-found-requires : goal.compare_exchange-found-requires
compare_exchange-found-requires c =
    let h = c.requires.head ∙ ap (λ w. head_of w.book) (sym c.self.view_is) in
    let offer = c.plain-offer.ensures in
    let pen = c.no_pen-pen.ensures in (
      ap (λ w. w.tracked) h,
      sym (ap (λ w. w.book) h),
      pen.0 ∙ sym (ap (λ w. w.book) h),
      offer.0,
      rw (ap (λ w. w.key) h, pen.1, offer.1, offer.3) (appends_moves c.self.inside.seen.log _ _ c.self.inside.steps (sym c.self.invariant)),
    )
